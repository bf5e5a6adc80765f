-- Broken logs, each refused by the field `formed`.
-- A log is its events: those before one of another log, since one, or between two, and its own.
use Rattle.std.proofs.Common.{pos, negsuc, true, false, List, [], ◌∷◌, ◌++◌, codes, Some, None}
use Rattle.std.proofs.lemmas.Bool.{false≢true}
use Rattle.url.proofs.OnLiterals.{url_on_literals}
use Rattle.address.specs.Addresses.{is_web, is_blank_url, judged, judged_parse, read_against, address_of, url_of, resolved, with_fragment, base_of, fragment_of, origin_text, origin_of, has_same_base, is_rewritable}
use Rattle.log_model.specs.declared.action.Action.TheVariants as actions
use Rattle.log_model.specs.declared.change.Change.TheVariants as changes
use Rattle.log_model.specs.declared.handler.LeaveCause.TheVariants as leavings
use Rattle.log_model.specs.declared.handler.Verdict.TheVariants as verdicts
use Rattle.log_model.specs.declared.job.Task.TheVariants as tasks
use Rattle.log_model.specs.declared.job.Why.TheVariants as whys
use Rattle.log_model.specs.declared.made.What.TheVariants as whats
use Rattle.log_model.specs.declared.outcome.Cause.TheVariants as drops
use Rattle.log_model.specs.declared.outcome.Denial.TheVariants as denials
use Rattle.log_model.specs.declared.outcome.Outcome.TheVariants as outcomes
use Rattle.log_model.specs.declared.request.Mode.TheVariants as modes
use Rattle.log_model.specs.declared.request.Request.TheVariants as requests
use Rattle.log_model.specs.declared.row_kind.RowKind.TheVariants as rows
use Rattle.log_model.specs.Events.{events_of, each_event, after_opening, AtEachEvent}
use Rattle.log_model.specs.Formed.{is_numbered}
use Rattle.log_model.specs.Legal.{IsLegal, opens, is_formed, is_once, is_caused, is_queued, is_ordered, is_checked, ends_settled}
use Rattle.log_model.specs.LoadsEndInTime.{loads_end}
use Rattle.log_model.specs.ActsAtOnce.{ends_told, ends_stepped, goes_in_time}
use Rattle.log_examples.specs.Rows.{n, s, r, p, t, x, d, j, e, sent, made}
use Rattle.log_examples.specs.Logs.{Event, by_start, by_ui, by_coord, by_proc, log_of, before, since}
use Rattle.log_examples.proofs.Pushes.{one_push, push_beside_a_frame, push_in_an_initial_document}
use Rattle.log_examples.proofs.Traversals.{document_goes_back}
use Rattle.log_examples.proofs.Loads.{evicted_documents, fragment_load}
use Rattle.log_examples.proofs.Prompts.{stay, leave, one_prompt_for_two, load_behind_a_prompt, load_behind_an_answer, load_dropped_before_its_answer}
use Rattle.log_examples.proofs.Deaths.{void_order}
use Rattle.log_examples.proofs.Pending.{two_pushes_on_their_way}

-- An order is taken before the first one of the mail.
abbrev pub taken_out_of_order : List Event
taken_out_of_order =
    before 38 one_prompt_for_two
    ++ by_proc 1 (rows.Taken (p 1) (j 12) true false) []
    ∷ since 39 one_prompt_for_two

pub taken_out_of_order_is_refused : IsLegal (log_of taken_out_of_order) → ⊥
unfolding url_on_literals is_web is_blank_url judged judged_parse read_against address_of url_of resolved with_fragment base_of fragment_of origin_text origin_of has_same_base is_rewritable events_of each_event after_opening AtEachEvent is_numbered opens is_formed is_once is_caused is_queued is_ordered is_checked ends_settled loads_end ends_told ends_stepped goes_in_time
taken_out_of_order_is_refused holds = false≢true holds.formed

-- An update ends as an activation.
abbrev pub another_outcome : List Event
another_outcome =
    before 5 one_push
    ++ by_proc 1 (rows.Finished (p 1) (j 1) outcomes.Activated) []
    ∷ by_coord (rows.Delivered (p 1)) []
    ∷ []

pub another_outcome_is_refused : IsLegal (log_of another_outcome) → ⊥
unfolding url_on_literals is_web is_blank_url judged judged_parse read_against address_of url_of resolved with_fragment base_of fragment_of origin_text origin_of has_same_base is_rewritable events_of each_event after_opening AtEachEvent is_numbered opens is_formed is_once is_caused is_queued is_ordered is_checked ends_settled loads_end ends_told ends_stepped goes_in_time
another_outcome_is_refused holds = false≢true holds.formed

-- An order to a dead incarnation is taken live.
abbrev pub void_order_taken_live : List Event
void_order_taken_live =
    before 5 void_order
    ++ by_proc 1 (rows.Taken (p 1) (j 1) true false) []
    ∷ by_coord (rows.Delivered (p 1)) []
    ∷ []

pub void_order_taken_live_is_refused : IsLegal (log_of void_order_taken_live) → ⊥
unfolding url_on_literals is_web is_blank_url judged judged_parse read_against address_of url_of resolved with_fragment base_of fragment_of origin_text origin_of has_same_base is_rewritable events_of each_event after_opening AtEachEvent is_numbered opens is_formed is_once is_caused is_queued is_ordered is_checked ends_settled loads_end ends_told ends_stepped goes_in_time
void_order_taken_live_is_refused holds = false≢true holds.formed

-- A document with unsaved edits is noted as clean.
abbrev pub dirty_document_taken_clean : List Event
dirty_document_taken_clean =
    before 14 leave
    ++ by_proc 1 (rows.Taken (p 1) (j 4) true false) []
    ∷ since 15 leave

pub dirty_document_taken_clean_is_refused : IsLegal (log_of dirty_document_taken_clean) → ⊥
unfolding url_on_literals is_web is_blank_url judged judged_parse read_against address_of url_of resolved with_fragment base_of fragment_of origin_text origin_of has_same_base is_rewritable events_of each_event after_opening AtEachEvent is_numbered opens is_formed is_once is_caused is_queued is_ordered is_checked ends_settled loads_end ends_told ends_stepped goes_in_time
dirty_document_taken_clean_is_refused holds = false≢true holds.formed

-- A report is delivered that no process made.
abbrev pub delivered_without_report : List Event
delivered_without_report =
    one_push
    ++ by_coord (rows.Delivered (p 1)) []
    ∷ []

pub delivered_without_report_is_refused : IsLegal (log_of delivered_without_report) → ⊥
unfolding url_on_literals is_web is_blank_url judged judged_parse read_against address_of url_of resolved with_fragment base_of fragment_of origin_text origin_of has_same_base is_rewritable events_of each_event after_opening AtEachEvent is_numbered opens is_formed is_once is_caused is_queued is_ordered is_checked ends_settled loads_end ends_told ends_stepped goes_in_time
delivered_without_report_is_refused holds = false≢true holds.formed

-- Another document than the longest kept one is evicted.
abbrev pub another_document_evicted : List Event
another_document_evicted =
    before 37 evicted_documents
    ++ by_ui (rows.Evicted (s 2)) (sent 12 1 0 3 whys.Evict tasks.Discard ∷ [])
    ∷ since 38 evicted_documents

pub another_document_evicted_is_refused : IsLegal (log_of another_document_evicted) → ⊥
unfolding url_on_literals is_web is_blank_url judged judged_parse read_against address_of url_of resolved with_fragment base_of fragment_of origin_text origin_of has_same_base is_rewritable events_of each_event after_opening AtEachEvent is_numbered opens is_formed is_once is_caused is_queued is_ordered is_checked ends_settled loads_end ends_told ends_stepped goes_in_time
another_document_evicted_is_refused holds = false≢true holds.formed

-- An edit is made, and not applied in its event.
abbrev pub edit_made_and_not_applied : List Event
edit_made_and_not_applied =
    before 12 leave
    ++ by_proc 1 (made 1 2 2 2 whats.Edit) []
    ∷ since 13 leave

pub edit_made_and_not_applied_is_refused : IsLegal (log_of edit_made_and_not_applied) → ⊥
unfolding url_on_literals is_web is_blank_url judged judged_parse read_against address_of url_of resolved with_fragment base_of fragment_of origin_text origin_of has_same_base is_rewritable events_of each_event after_opening AtEachEvent is_numbered opens is_formed is_once is_caused is_queued is_ordered is_checked ends_settled loads_end ends_told ends_stepped goes_in_time
edit_made_and_not_applied_is_refused holds = false≢true holds.formed

-- A prompt is answered twice.
abbrev pub answered_twice : List Event
answered_twice =
    leave
    ++ by_ui (rows.Answered (r 3) false) []
    ∷ []

pub answered_twice_is_refused : IsLegal (log_of answered_twice) → ⊥
unfolding url_on_literals is_web is_blank_url judged judged_parse read_against address_of url_of resolved with_fragment base_of fragment_of origin_text origin_of has_same_base is_rewritable events_of each_event after_opening AtEachEvent is_numbered opens is_formed is_once is_caused is_queued is_ordered is_checked ends_settled loads_end ends_told ends_stepped goes_in_time
answered_twice_is_refused holds = false≢true holds.formed

-- A poke names another document than the one that runs.
abbrev pub poke_of_another_document : List Event
poke_of_another_document =
    before 10 push_beside_a_frame
    ++ by_ui (rows.Accepted (r 2) (Some (d 2)) (requests.Poke (n 0) (actions.Push (Some (codes "s")) (Some (codes "/1"))))) []
    ∷ since 11 push_beside_a_frame

pub poke_of_another_document_is_refused : IsLegal (log_of poke_of_another_document) → ⊥
unfolding url_on_literals is_web is_blank_url judged judged_parse read_against address_of url_of resolved with_fragment base_of fragment_of origin_text origin_of has_same_base is_rewritable events_of each_event after_opening AtEachEvent is_numbered opens is_formed is_once is_caused is_queued is_ordered is_checked ends_settled loads_end ends_told ends_stepped goes_in_time
poke_of_another_document_is_refused holds = false≢true holds.formed

-- A report is delivered by the user.
abbrev pub delivered_by_the_user : List Event
delivered_by_the_user =
    before 6 one_push
    ++ by_ui (rows.Delivered (p 1)) []
    ∷ []

pub delivered_by_the_user_is_refused : IsLegal (log_of delivered_by_the_user) → ⊥
unfolding url_on_literals is_web is_blank_url judged judged_parse read_against address_of url_of resolved with_fragment base_of fragment_of origin_text origin_of has_same_base is_rewritable events_of each_event after_opening AtEachEvent is_numbered opens is_formed is_once is_caused is_queued is_ordered is_checked ends_settled loads_end ends_told ends_stepped goes_in_time
delivered_by_the_user_is_refused holds = false≢true holds.formed

-- A death leaves a poke in the input.
abbrev pub poke_kept_by_the_dead : List Event
poke_kept_by_the_dead =
    by_start (rows.Opened (e 0 1) (s 1) (d 1) (p 1) None (codes "http://a.test/")) []
    ∷ by_ui (rows.Accepted (r 1) (Some (d 1)) (requests.Poke (n 0) (actions.Push (Some (codes "s")) (Some (codes "/1"))))) []
    ∷ by_ui (rows.Killed (p 1) (x 1)) []
    ∷ by_coord (rows.Delivered (p 1)) []
    ∷ []

pub poke_kept_by_the_dead_is_refused : IsLegal (log_of poke_kept_by_the_dead) → ⊥
unfolding url_on_literals is_web is_blank_url judged judged_parse read_against address_of url_of resolved with_fragment base_of fragment_of origin_text origin_of has_same_base is_rewritable events_of each_event after_opening AtEachEvent is_numbered opens is_formed is_once is_caused is_queued is_ordered is_checked ends_settled loads_end ends_told ends_stepped goes_in_time
poke_kept_by_the_dead_is_refused holds = false≢true holds.formed

-- A fragment order of a running document makes nothing.
abbrev pub fragment_that_makes_nothing : List Event
fragment_that_makes_nothing =
    before 3 fragment_load
    ++ by_proc 1 (rows.Finished (p 1) (j 1) outcomes.Fragmented) []
    ∷ since 4 fragment_load

pub fragment_that_makes_nothing_is_refused : IsLegal (log_of fragment_that_makes_nothing) → ⊥
unfolding url_on_literals is_web is_blank_url judged judged_parse read_against address_of url_of resolved with_fragment base_of fragment_of origin_text origin_of has_same_base is_rewritable events_of each_event after_opening AtEachEvent is_numbered opens is_formed is_once is_caused is_queued is_ordered is_checked ends_settled loads_end ends_told ends_stepped goes_in_time
fragment_that_makes_nothing_is_refused holds = false≢true holds.formed

-- A death has another number than the next.
abbrev pub another_death_number : List Event
another_death_number =
    before 3 void_order
    ++ by_ui (rows.Killed (p 1) (x 2)) []
    ∷ since 4 void_order

pub another_death_number_is_refused : IsLegal (log_of another_death_number) → ⊥
unfolding url_on_literals is_web is_blank_url judged judged_parse read_against address_of url_of resolved with_fragment base_of fragment_of origin_text origin_of has_same_base is_rewritable events_of each_event after_opening AtEachEvent is_numbered opens is_formed is_once is_caused is_queued is_ordered is_checked ends_settled loads_end ends_told ends_stepped goes_in_time
another_death_number_is_refused holds = false≢true holds.formed

-- same_req: were equation 1 true, `formed` would hold.
abbrev pub same_req_1 : List Event
same_req_1 =
    by_start (rows.Opened (e 0 1) (s 1) (d 1) (p 1) None (codes "http://a.test/")) []
    ∷ by_ui (rows.Accepted (r 1) None (requests.Go (pos 1))) (rows.Refused (r 1) denials.NoStep ∷ [])
    ∷ by_ui (rows.Accepted (r 2) (Some (d 1)) (requests.Poke (n 0) (actions.Replace (Some (codes "t")) None))) []
    ∷ by_ui (rows.Killed (p 1) (x 1)) (rows.Dropped (r 1) (drops.Gone (x 1)) ∷ [])
    ∷ []

pub same_req_1_is_refused : IsLegal (log_of same_req_1) → ⊥
unfolding url_on_literals is_web is_blank_url judged judged_parse read_against address_of url_of resolved with_fragment base_of fragment_of origin_text origin_of has_same_base is_rewritable events_of each_event after_opening AtEachEvent is_numbered opens is_formed is_once is_caused is_queued is_ordered is_checked ends_settled loads_end ends_told ends_stepped goes_in_time
same_req_1_is_refused holds = false≢true holds.formed

-- awaits_answer: without conjunct `is_none q.answered`, `formed` would hold.
abbrev pub awaits_answer_1 : List Event
awaits_answer_1 =
    before 38 one_prompt_for_two
    ++ by_ui (rows.Answered (r 4) false) []
    ∷ []

pub awaits_answer_1_is_refused : IsLegal (log_of awaits_answer_1) → ⊥
unfolding url_on_literals is_web is_blank_url judged judged_parse read_against address_of url_of resolved with_fragment base_of fragment_of origin_text origin_of has_same_base is_rewritable events_of each_event after_opening AtEachEvent is_numbered opens is_formed is_once is_caused is_queued is_ordered is_checked ends_settled loads_end ends_told ends_stepped goes_in_time
awaits_answer_1_is_refused holds = false≢true holds.formed

-- awaits_answer: without conjunct `is_some q.prompted`, `formed` would hold.
abbrev pub awaits_answer_2 : List Event
awaits_answer_2 =
    by_start (rows.Opened (e 0 1) (s 1) (d 1) (p 1) None (codes "http://a.test/")) []
    ∷ by_ui (rows.Accepted (r 1) (Some (d 1)) (requests.Poke (n 0) (actions.Push (Some (codes "s")) (Some (codes "/1"))))) []
    ∷ by_ui (rows.Answered (r 1) true) []
    ∷ []

pub awaits_answer_2_is_refused : IsLegal (log_of awaits_answer_2) → ⊥
unfolding url_on_literals is_web is_blank_url judged judged_parse read_against address_of url_of resolved with_fragment base_of fragment_of origin_text origin_of has_same_base is_rewritable events_of each_event after_opening AtEachEvent is_numbered opens is_formed is_once is_caused is_queued is_ordered is_checked ends_settled loads_end ends_told ends_stepped goes_in_time
awaits_answer_2_is_refused holds = false≢true holds.formed

-- is_applied_duly: by_kind: were equation 1 true, `formed` would hold.
abbrev pub is_applied_duly_1 : List Event
is_applied_duly_1 =
    before 12 load_behind_an_answer
    ++ by_proc 1 (made 1 2 2 2 whats.Edit) (rows.Applied (r 1) changes.Edit ∷ [])
    ∷ []

pub is_applied_duly_1_is_refused : IsLegal (log_of is_applied_duly_1) → ⊥
unfolding url_on_literals is_web is_blank_url judged judged_parse read_against address_of url_of resolved with_fragment base_of fragment_of origin_text origin_of has_same_base is_rewritable events_of each_event after_opening AtEachEvent is_numbered opens is_formed is_once is_caused is_queued is_ordered is_checked ends_settled loads_end ends_told ends_stepped goes_in_time
is_applied_duly_1_is_refused holds = false≢true holds.formed

-- is_applied_duly: were equation 3 true, `formed` would hold.
abbrev pub is_applied_duly_2 : List Event
is_applied_duly_2 =
    by_start (rows.Opened (e 0 1) (s 1) (d 1) (p 1) None (codes "about:blank")) []
    ∷ by_ui (rows.Accepted (r 1) (Some (d 1)) (requests.Poke (n 0) (actions.Push (Some (codes "s")) None))) []
    ∷ by_proc 1 (made 1 1 1 1 (whats.Replace (e 0 1) (e 1 1) None (codes "about:blank#x"))) (rows.Applied (r 1) changes.Edit ∷ [])
    ∷ []

pub is_applied_duly_2_is_refused : IsLegal (log_of is_applied_duly_2) → ⊥
unfolding url_on_literals is_web is_blank_url judged judged_parse read_against address_of url_of resolved with_fragment base_of fragment_of origin_text origin_of has_same_base is_rewritable events_of each_event after_opening AtEachEvent is_numbered opens is_formed is_once is_caused is_queued is_ordered is_checked ends_settled loads_end ends_told ends_stepped goes_in_time
is_applied_duly_2_is_refused holds = false≢true holds.formed

-- is_dropped: were equation 2 true, `formed` would hold.
abbrev pub is_dropped_1 : List Event
is_dropped_1 =
    by_start (rows.Opened (e 0 1) (s 1) (d 1) (p 1) None (codes "http://a.test/")) []
    ∷ by_ui (rows.Accepted (r 1) (Some (d 1)) (requests.Poke (n 0) (actions.Push (Some (codes "s")) (Some (codes "/1"))))) []
    ∷ by_ui (rows.Killed (p 2) (x 1)) (sent 1 1 1 1 (whys.Req (r 1)) tasks.Discard ∷ [])
    ∷ []

pub is_dropped_1_is_refused : IsLegal (log_of is_dropped_1) → ⊥
unfolding url_on_literals is_web is_blank_url judged judged_parse read_against address_of url_of resolved with_fragment base_of fragment_of origin_text origin_of has_same_base is_rewritable events_of each_event after_opening AtEachEvent is_numbered opens is_formed is_once is_caused is_queued is_ordered is_checked ends_settled loads_end ends_told ends_stepped goes_in_time
is_dropped_1_is_refused holds = false≢true holds.formed

-- is_finished_duly: without conjunct `order.job.nr.0 == job.0`, `formed` would hold.
abbrev pub is_finished_duly_1 : List Event
is_finished_duly_1 =
    before 6 leave
    ++ by_proc 1 (rows.Finished (p 1) (j 3) outcomes.Frozen) []
    ∷ []

pub is_finished_duly_1_is_refused : IsLegal (log_of is_finished_duly_1) → ⊥
unfolding url_on_literals is_web is_blank_url judged judged_parse read_against address_of url_of resolved with_fragment base_of fragment_of origin_text origin_of has_same_base is_rewritable events_of each_event after_opening AtEachEvent is_numbered opens is_formed is_once is_caused is_queued is_ordered is_checked ends_settled loads_end ends_told ends_stepped goes_in_time
is_finished_duly_1_is_refused holds = false≢true holds.formed

-- is_first_poke: without test `poke.req.0 == req.0`, `formed` would hold.
abbrev pub is_first_poke_1 : List Event
is_first_poke_1 =
    by_start (rows.Opened (e 0 1) (s 1) (d 1) (p 1) None (codes "http://a.test/")) []
    ∷ by_ui (rows.Accepted (r 1) (Some (d 1)) (requests.Poke (n 0) (actions.AddFrame (n 1)))) []
    ∷ by_proc 1 (made 1 0 1 1 (whats.AddFrame (n 1))) []
    ∷ []

pub is_first_poke_1_is_refused : IsLegal (log_of is_first_poke_1) → ⊥
unfolding url_on_literals is_web is_blank_url judged judged_parse read_against address_of url_of resolved with_fragment base_of fragment_of origin_text origin_of has_same_base is_rewritable events_of each_event after_opening AtEachEvent is_numbered opens is_formed is_once is_caused is_queued is_ordered is_checked ends_settled loads_end ends_told ends_stepped goes_in_time
is_first_poke_1_is_refused holds = false≢true holds.formed

-- is_followed_by_made: by_kind: were equation 1 true, `formed` would hold.
abbrev pub is_followed_by_made_1 : List Event
is_followed_by_made_1 =
    before 3 fragment_load
    ++ by_proc 1 (rows.Finished (p 1) (j 1) outcomes.Fragmented) (made 1 0 1 1 (whats.Push (e 1 1) None (codes "http://a.test/#x")) ∷ [])
    ∷ []

pub is_followed_by_made_1_is_refused : IsLegal (log_of is_followed_by_made_1) → ⊥
unfolding url_on_literals is_web is_blank_url judged judged_parse read_against address_of url_of resolved with_fragment base_of fragment_of origin_text origin_of has_same_base is_rewritable events_of each_event after_opening AtEachEvent is_numbered opens is_formed is_once is_caused is_queued is_ordered is_checked ends_settled loads_end ends_told ends_stepped goes_in_time
is_followed_by_made_1_is_refused holds = false≢true holds.formed

-- is_followed_duly: were equation 2 true, `formed` would hold.
abbrev pub is_followed_duly_1 : List Event
is_followed_duly_1 =
    before 5 document_goes_back
    ++ by_proc 1 (rows.Finished (p 1) (j 1) outcomes.Updated) (made 1 1 1 1 (whats.Push (e 1 2) None (codes "http://a.test/1")) ∷ [])
    ∷ []

pub is_followed_duly_1_is_refused : IsLegal (log_of is_followed_duly_1) → ⊥
unfolding url_on_literals is_web is_blank_url judged judged_parse read_against address_of url_of resolved with_fragment base_of fragment_of origin_text origin_of has_same_base is_rewritable events_of each_event after_opening AtEachEvent is_numbered opens is_formed is_once is_caused is_queued is_ordered is_checked ends_settled loads_end ends_told ends_stepped goes_in_time
is_followed_duly_1_is_refused holds = false≢true holds.formed

-- is_in_its_place: by_place: were equation 2 true, `formed` would hold.
abbrev pub is_in_its_place_1 : List Event
is_in_its_place_1 =
    by_start (rows.Opened (e 0 1) (s 1) (d 1) (p 1) None (codes "http://a.test/")) []
    ∷ by_ui (rows.Accepted (r 1) (Some (d 1)) (requests.Poke (n 0) (actions.Push (Some (codes "s")) (Some (codes "/1"))))) (rows.Accepted (r 1) (Some (d 1)) (requests.Poke (n 0) (actions.Push (Some (codes "s")) (Some (codes "/1")))) ∷ [])
    ∷ []

pub is_in_its_place_1_is_refused : IsLegal (log_of is_in_its_place_1) → ⊥
unfolding url_on_literals is_web is_blank_url judged judged_parse read_against address_of url_of resolved with_fragment base_of fragment_of origin_text origin_of has_same_base is_rewritable events_of each_event after_opening AtEachEvent is_numbered opens is_formed is_once is_caused is_queued is_ordered is_checked ends_settled loads_end ends_told ends_stepped goes_in_time
is_in_its_place_1_is_refused holds = false≢true holds.formed

-- is_said_rightly: by_kind: were equation 10 true, `formed` would hold.
abbrev pub is_said_rightly_1 : List Event
is_said_rightly_1 =
    before 3 push_in_an_initial_document
    ++ by_coord (rows.Delivered (p 1)) (rows.Applied (r 1) (changes.Replace (n 0) (e 0 1) (e 1 1) (s 1) (codes "about:blank") (Some (codes "s"))) ∷ rows.Applied (r 2) (changes.Replace (n 0) (e 1 1) (e 1 2) (s 1) (codes "about:blank#x") (Some (codes "t"))) ∷ [])
    ∷ []

pub is_said_rightly_1_is_refused : IsLegal (log_of is_said_rightly_1) → ⊥
unfolding url_on_literals is_web is_blank_url judged judged_parse read_against address_of url_of resolved with_fragment base_of fragment_of origin_text origin_of has_same_base is_rewritable events_of each_event after_opening AtEachEvent is_numbered opens is_formed is_once is_caused is_queued is_ordered is_checked ends_settled loads_end ends_told ends_stepped goes_in_time
is_said_rightly_1_is_refused holds = false≢true holds.formed

-- is_said_rightly: by_kind: were equation 11 true, `formed` would hold.
abbrev pub is_said_rightly_2 : List Event
is_said_rightly_2 =
    by_start (rows.Opened (e 0 1) (s 1) (d 1) (p 1) None (codes "http://a.test/")) []
    ∷ by_ui (rows.Accepted (r 1) None (requests.Go (pos 5))) (rows.Refused (r 2) denials.NoStep ∷ [])
    ∷ []

pub is_said_rightly_2_is_refused : IsLegal (log_of is_said_rightly_2) → ⊥
unfolding url_on_literals is_web is_blank_url judged judged_parse read_against address_of url_of resolved with_fragment base_of fragment_of origin_text origin_of has_same_base is_rewritable events_of each_event after_opening AtEachEvent is_numbered opens is_formed is_once is_caused is_queued is_ordered is_checked ends_settled loads_end ends_told ends_stepped goes_in_time
is_said_rightly_2_is_refused holds = false≢true holds.formed

-- is_said_rightly: by_kind: were equation 12 true, `formed` would hold.
abbrev pub is_said_rightly_3 : List Event
is_said_rightly_3 =
    before 3 push_in_an_initial_document
    ++ by_coord (rows.Delivered (p 1)) (rows.Dropped (r 2) drops.Stay ∷ rows.Applied (r 1) (changes.Replace (n 0) (e 0 1) (e 1 1) (s 1) (codes "about:blank") (Some (codes "s"))) ∷ [])
    ∷ []

pub is_said_rightly_3_is_refused : IsLegal (log_of is_said_rightly_3) → ⊥
unfolding url_on_literals is_web is_blank_url judged judged_parse read_against address_of url_of resolved with_fragment base_of fragment_of origin_text origin_of has_same_base is_rewritable events_of each_event after_opening AtEachEvent is_numbered opens is_formed is_once is_caused is_queued is_ordered is_checked ends_settled loads_end ends_told ends_stepped goes_in_time
is_said_rightly_3_is_refused holds = false≢true holds.formed

-- is_said_rightly: by_kind: were equation 13 true, `formed` would hold.
abbrev pub is_said_rightly_4 : List Event
is_said_rightly_4 =
    before 4 two_pushes_on_their_way
    ++ by_coord (rows.Delivered (p 1)) (rows.Prompted (r 3) (d 1) ∷ [])
    ∷ []

pub is_said_rightly_4_is_refused : IsLegal (log_of is_said_rightly_4) → ⊥
unfolding url_on_literals is_web is_blank_url judged judged_parse read_against address_of url_of resolved with_fragment base_of fragment_of origin_text origin_of has_same_base is_rewritable events_of each_event after_opening AtEachEvent is_numbered opens is_formed is_once is_caused is_queued is_ordered is_checked ends_settled loads_end ends_told ends_stepped goes_in_time
is_said_rightly_4_is_refused holds = false≢true holds.formed

-- is_taken_duly: without conjunct `is_none desk.in_hand`, `formed` would hold.
abbrev pub is_taken_duly_1 : List Event
is_taken_duly_1 =
    before 6 load_behind_a_prompt
    ++ by_proc 1 (rows.Taken (p 1) (j 3) true false) []
    ∷ []

pub is_taken_duly_1_is_refused : IsLegal (log_of is_taken_duly_1) → ⊥
unfolding url_on_literals is_web is_blank_url judged judged_parse read_against address_of url_of resolved with_fragment base_of fragment_of origin_text origin_of has_same_base is_rewritable events_of each_event after_opening AtEachEvent is_numbered opens is_formed is_once is_caused is_queued is_ordered is_checked ends_settled loads_end ends_told ends_stepped goes_in_time
is_taken_duly_1_is_refused holds = false≢true holds.formed

-- may_begin: were equation 6 true, `formed` would hold.
abbrev pub may_begin_1 : List Event
may_begin_1 =
    before 5 void_order
    ++ by_proc 2 (rows.Taken (p 1) (j 1) false false) []
    ∷ []

pub may_begin_1_is_refused : IsLegal (log_of may_begin_1) → ⊥
unfolding url_on_literals is_web is_blank_url judged judged_parse read_against address_of url_of resolved with_fragment base_of fragment_of origin_text origin_of has_same_base is_rewritable events_of each_event after_opening AtEachEvent is_numbered opens is_formed is_once is_caused is_queued is_ordered is_checked ends_settled loads_end ends_told ends_stepped goes_in_time
may_begin_1_is_refused holds = false≢true holds.formed

-- may_begin: were equation 7 true, `formed` would hold.
abbrev pub may_begin_2 : List Event
may_begin_2 =
    before 3 load_behind_an_answer
    ++ by_proc 2 (rows.Finished (p 1) (j 1) (outcomes.Populated (Some 0))) []
    ∷ []

pub may_begin_2_is_refused : IsLegal (log_of may_begin_2) → ⊥
unfolding url_on_literals is_web is_blank_url judged judged_parse read_against address_of url_of resolved with_fragment base_of fragment_of origin_text origin_of has_same_base is_rewritable events_of each_event after_opening AtEachEvent is_numbered opens is_formed is_once is_caused is_queued is_ordered is_checked ends_settled loads_end ends_told ends_stepped goes_in_time
may_begin_2_is_refused holds = false≢true holds.formed

-- may_begin: were equation 9 true, `formed` would hold.
abbrev pub may_begin_3 : List Event
may_begin_3 =
    before 3 push_in_an_initial_document
    ++ by_proc 1 (rows.Refused (r 1) denials.BadAddress) []
    ∷ []

pub may_begin_3_is_refused : IsLegal (log_of may_begin_3) → ⊥
unfolding url_on_literals is_web is_blank_url judged judged_parse read_against address_of url_of resolved with_fragment base_of fragment_of origin_text origin_of has_same_base is_rewritable events_of each_event after_opening AtEachEvent is_numbered opens is_formed is_once is_caused is_queued is_ordered is_checked ends_settled loads_end ends_told ends_stepped goes_in_time
may_begin_3_is_refused holds = false≢true holds.formed

-- may_begin: without conjunct `p.0 == proc.0`, `formed` would hold.
abbrev pub may_begin_4 : List Event
may_begin_4 =
    by_start (rows.Opened (e 0 1) (s 1) (d 1) (p 1) None (codes "http://a.test/")) []
    ∷ by_ui (rows.Accepted (r 1) (Some (d 1)) (requests.Poke (n 0) (actions.Push (Some (codes "s")) (Some (codes "/1"))))) []
    ∷ by_proc 2 (made 1 1 1 1 (whats.Push (e 1 1) (Some (codes "s")) (codes "http://a.test/1"))) []
    ∷ []

pub may_begin_4_is_refused : IsLegal (log_of may_begin_4) → ⊥
unfolding url_on_literals is_web is_blank_url judged judged_parse read_against address_of url_of resolved with_fragment base_of fragment_of origin_text origin_of has_same_base is_rewritable events_of each_event after_opening AtEachEvent is_numbered opens is_formed is_once is_caused is_queued is_ordered is_checked ends_settled loads_end ends_told ends_stepped goes_in_time
may_begin_4_is_refused holds = false≢true holds.formed

-- may_follow: were equation 3 true, `formed` would hold.
abbrev pub may_follow_1 : List Event
may_follow_1 =
    before 37 evicted_documents
    ++ by_ui (rows.Evicted (s 3)) (rows.Evicted (s 3) ∷ sent 12 1 0 3 whys.Evict tasks.Discard ∷ [])
    ∷ []

pub may_follow_1_is_refused : IsLegal (log_of may_follow_1) → ⊥
unfolding url_on_literals is_web is_blank_url judged judged_parse read_against address_of url_of resolved with_fragment base_of fragment_of origin_text origin_of has_same_base is_rewritable events_of each_event after_opening AtEachEvent is_numbered opens is_formed is_once is_caused is_queued is_ordered is_checked ends_settled loads_end ends_told ends_stepped goes_in_time
may_follow_1_is_refused holds = false≢true holds.formed

-- may_follow: were equation 4 true, `formed` would hold.
abbrev pub may_follow_2 : List Event
may_follow_2 =
    before 5 two_pushes_on_their_way
    ++ by_coord (rows.Delivered (p 1)) (rows.Delivered (p 1) ∷ rows.Applied (r 1) (changes.Push (n 0) (e 1 1) (s 1) (codes "http://a.test/1") (Some (codes "s"))) ∷ sent 1 1 0 1 (whys.Req (r 1)) (tasks.Update 2 1) ∷ [])
    ∷ []

pub may_follow_2_is_refused : IsLegal (log_of may_follow_2) → ⊥
unfolding url_on_literals is_web is_blank_url judged judged_parse read_against address_of url_of resolved with_fragment base_of fragment_of origin_text origin_of has_same_base is_rewritable events_of each_event after_opening AtEachEvent is_numbered opens is_formed is_once is_caused is_queued is_ordered is_checked ends_settled loads_end ends_told ends_stepped goes_in_time
may_follow_2_is_refused holds = false≢true holds.formed

-- may_follow: were equation 8 true, `formed` would hold.
abbrev pub may_follow_3 : List Event
may_follow_3 =
    by_start (rows.Opened (e 0 1) (s 1) (d 1) (p 1) None (codes "about:blank")) []
    ∷ by_ui (rows.Accepted (r 1) (Some (d 1)) (requests.Poke (n 0) (actions.Push (Some (codes "s")) None))) []
    ∷ by_proc 1 (rows.Refused (r 1) denials.NoDocument) (rows.Applied (r 1) (changes.Reload (n 0)) ∷ [])
    ∷ []

pub may_follow_3_is_refused : IsLegal (log_of may_follow_3) → ⊥
unfolding url_on_literals is_web is_blank_url judged judged_parse read_against address_of url_of resolved with_fragment base_of fragment_of origin_text origin_of has_same_base is_rewritable events_of each_event after_opening AtEachEvent is_numbered opens is_formed is_once is_caused is_queued is_ordered is_checked ends_settled loads_end ends_told ends_stepped goes_in_time
may_follow_3_is_refused holds = false≢true holds.formed

-- names_document: without conjunct `is_poke what`, `formed` would hold.
abbrev pub names_document_1 : List Event
names_document_1 =
    by_start (rows.Opened (e 0 1) (s 1) (d 1) (p 1) None (codes "http://a.test/")) []
    ∷ by_ui (rows.Accepted (r 1) (Some (d 1)) (requests.Load (n 0) modes.Auto (codes "http://a.test/#x"))) []
    ∷ []

pub names_document_1_is_refused : IsLegal (log_of names_document_1) → ⊥
unfolding url_on_literals is_web is_blank_url judged judged_parse read_against address_of url_of resolved with_fragment base_of fragment_of origin_text origin_of has_same_base is_rewritable events_of each_event after_opening AtEachEvent is_numbered opens is_formed is_once is_caused is_queued is_ordered is_checked ends_settled loads_end ends_told ends_stepped goes_in_time
names_document_1_is_refused holds = false≢true holds.formed

-- names_document: without conjunct `not (list_any (refuses req) p.later)`, `formed` would hold.
abbrev pub names_document_2 : List Event
names_document_2 =
    by_start (rows.Opened (e 0 1) (s 1) (d 1) (p 1) None (codes "http://a.test/")) []
    ∷ by_ui (rows.Accepted (r 1) (Some (d 1)) (requests.Poke (n 0) (actions.Fragment (codes "x")))) (rows.Refused (r 1) denials.NotShown ∷ [])
    ∷ []

pub names_document_2_is_refused : IsLegal (log_of names_document_2) → ⊥
unfolding url_on_literals is_web is_blank_url judged judged_parse read_against address_of url_of resolved with_fragment base_of fragment_of origin_text origin_of has_same_base is_rewritable events_of each_event after_opening AtEachEvent is_numbered opens is_formed is_once is_caused is_queued is_ordered is_checked ends_settled loads_end ends_told ends_stepped goes_in_time
names_document_2_is_refused holds = false≢true holds.formed

-- names_document: without test `refuses req`, `formed` would hold.
abbrev pub names_document_3 : List Event
names_document_3 =
    by_start (rows.Opened (e 0 1) (s 1) (d 1) (p 1) None (codes "http://a.test/")) []
    ∷ by_ui (rows.Accepted (r 1) None (requests.Poke (n 1) (actions.Go (negsuc 0)))) (rows.Started (r 1) (Some (t 3)) ∷ [])
    ∷ []

pub names_document_3_is_refused : IsLegal (log_of names_document_3) → ⊥
unfolding url_on_literals is_web is_blank_url judged judged_parse read_against address_of url_of resolved with_fragment base_of fragment_of origin_text origin_of has_same_base is_rewritable events_of each_event after_opening AtEachEvent is_numbered opens is_formed is_once is_caused is_queued is_ordered is_checked ends_settled loads_end ends_told ends_stepped goes_in_time
names_document_3_is_refused holds = false≢true holds.formed

-- refuses: by_kind: were equation 1 true, `formed` would hold.
abbrev pub refuses_1 : List Event
refuses_1 =
    by_start (rows.Opened (e 0 1) (s 1) (d 1) (p 1) None (codes "http://a.test/")) []
    ∷ by_ui (rows.Accepted (r 1) (Some (d 1)) (requests.Poke (n 0) (actions.AddFrame (n 1)))) []
    ∷ by_ui (rows.Accepted (r 2) None (requests.Poke (n 1) (actions.RemoveFrame (n 0)))) (rows.Refused (r 1) denials.BadAddress ∷ [])
    ∷ []

pub refuses_1_is_refused : IsLegal (log_of refuses_1) → ⊥
unfolding url_on_literals is_web is_blank_url judged judged_parse read_against address_of url_of resolved with_fragment base_of fragment_of origin_text origin_of has_same_base is_rewritable events_of each_event after_opening AtEachEvent is_numbered opens is_formed is_once is_caused is_queued is_ordered is_checked ends_settled loads_end ends_told ends_stepped goes_in_time
refuses_1_is_refused holds = false≢true holds.formed

-- request_in: were `req.0 == 0` never so, `formed` would hold.
abbrev pub request_in_1 : List Event
request_in_1 =
    by_start (rows.Opened (e 0 1) (s 1) (d 1) (p 1) None (codes "http://a.test/")) []
    ∷ by_ui (rows.Accepted (r 1) None (requests.Load (n 0) modes.Auto (codes "http://a.test/1"))) (rows.Started (r 0) None ∷ sent 1 1 0 2 (whys.Req (r 1)) (tasks.Populate (n 0) (s 2) (codes "http://a.test/1") false) ∷ [])
    ∷ []

pub request_in_1_is_refused : IsLegal (log_of request_in_1) → ⊥
unfolding url_on_literals is_web is_blank_url judged judged_parse read_against address_of url_of resolved with_fragment base_of fragment_of origin_text origin_of has_same_base is_rewritable events_of each_event after_opening AtEachEvent is_numbered opens is_formed is_once is_caused is_queued is_ordered is_checked ends_settled loads_end ends_told ends_stepped goes_in_time
request_in_1_is_refused holds = false≢true holds.formed

-- may_follow: were equation 2 true, `formed` would hold.
abbrev pub may_follow_answered : List Event
may_follow_answered =
    before 17 stay
    ++ by_ui (rows.Answered (r 3) false) (rows.Killed (p 1) (x 1) ∷ [])
    ∷ []

pub may_follow_answered_is_refused : IsLegal (log_of may_follow_answered) → ⊥
unfolding url_on_literals is_web is_blank_url judged judged_parse read_against address_of url_of resolved with_fragment base_of fragment_of origin_text origin_of has_same_base is_rewritable events_of each_event after_opening AtEachEvent is_numbered opens is_formed is_once is_caused is_queued is_ordered is_checked ends_settled loads_end ends_told ends_stepped goes_in_time
may_follow_answered_is_refused holds = false≢true holds.formed

-- awaits_answer: without conjunct `is_none q.ending`, `formed` would hold.
abbrev pub answered_after_its_end : List Event
answered_after_its_end =
    before 12 load_dropped_before_its_answer
    ++ by_proc 1 (rows.Taken (p 1) (j 4) true false) []
    ∷ by_proc 1 (rows.Finished (p 1) (j 4) (outcomes.Asked verdicts.Prompt)) []
    ∷ by_coord (rows.Delivered (p 1)) (rows.Prompted (r 2) (d 2) ∷ [])
    ∷ by_ui (rows.Accepted (r 3) None (requests.Load (n 0) modes.Auto (codes "http://a.test/3"))) (rows.Dropped (r 2) (drops.By (r 3)) ∷ rows.Started (r 3) None ∷ sent 5 1 0 2 (whys.Req (r 3)) (tasks.Ask 1 leavings.Load) ∷ [])
    ∷ by_proc 1 (rows.Taken (p 1) (j 5) true false) []
    ∷ by_proc 1 (rows.Finished (p 1) (j 5) (outcomes.Asked verdicts.Prompt)) []
    ∷ by_coord (rows.Delivered (p 1)) (rows.Prompted (r 3) (d 2) ∷ [])
    ∷ by_ui (rows.Answered (r 2) false) []
    ∷ []

pub answered_after_its_end_is_refused : IsLegal (log_of answered_after_its_end) → ⊥
unfolding url_on_literals is_web is_blank_url judged judged_parse read_against address_of url_of resolved with_fragment base_of fragment_of origin_text origin_of has_same_base is_rewritable events_of each_event after_opening AtEachEvent is_numbered opens is_formed is_once is_caused is_queued is_ordered is_checked ends_settled loads_end ends_told ends_stepped goes_in_time
answered_after_its_end_is_refused holds = false≢true holds.formed
