-- Broken logs, each refused by the field `ordered`.
-- A log is its events: those before one of another log, since one, or between two, and its own.
use Rattle.std.proofs.Common.{pos, negsuc, true, false, List, [], ◌∷◌, ◌++◌, codes, Some, None}
use Rattle.std.proofs.lemmas.Bool.{false≢true}
use Rattle.url.proofs.OnLiterals.{url_on_literals}
use Rattle.address.specs.Addresses.{is_web, is_blank_url, judged, judged_parse, read_against, address_of, url_of, resolved, with_fragment, base_of, fragment_of, origin_text, origin_of, has_same_base, is_rewritable}
use Rattle.log_model.specs.declared.action.Action.TheVariants as actions
use Rattle.log_model.specs.declared.change.Change.TheVariants as changes
use Rattle.log_model.specs.declared.handler.LeaveCause.TheVariants as leavings
use Rattle.log_model.specs.declared.handler.Verdict.TheVariants as verdicts
use Rattle.log_model.specs.declared.job.Task.TheVariants as tasks
use Rattle.log_model.specs.declared.job.Why.TheVariants as whys
use Rattle.log_model.specs.declared.made.What.TheVariants as whats
use Rattle.log_model.specs.declared.outcome.Cause.TheVariants as drops
use Rattle.log_model.specs.declared.outcome.Denial.TheVariants as denials
use Rattle.log_model.specs.declared.outcome.Outcome.TheVariants as outcomes
use Rattle.log_model.specs.declared.request.Mode.TheVariants as modes
use Rattle.log_model.specs.declared.request.Request.TheVariants as requests
use Rattle.log_model.specs.declared.row_kind.RowKind.TheVariants as rows
use Rattle.log_model.specs.Events.{events_of, each_event, after_opening, AtEachEvent}
use Rattle.log_model.specs.Formed.{is_numbered}
use Rattle.log_model.specs.Legal.{IsLegal, opens, is_formed, is_once, is_caused, is_queued, is_ordered, is_checked, ends_settled}
use Rattle.log_model.specs.LoadsEndInTime.{loads_end}
use Rattle.log_model.specs.ActsAtOnce.{ends_told, ends_stepped, goes_in_time}
use Rattle.log_examples.specs.Rows.{n, s, r, p, t, x, d, j, e, epoch, sent, made}
use Rattle.log_examples.specs.Logs.{Event, by_start, by_ui, by_coord, by_proc, log_of, before, since}
use Rattle.log_examples.proofs.Pushes.{one_push, push_after_a_death, push_beside_a_frame}
use Rattle.log_examples.proofs.Traversals.{document_goes_back}
use Rattle.log_examples.proofs.Interleavings.{held_back_push, held_back_push_and_removal}
use Rattle.log_examples.proofs.Loads.{later_load, no_document_kept, push_over_a_kept_document, evicted_documents, fragment_load}
use Rattle.log_examples.proofs.Frames.{taken_number, replace_above_a_load, load_of_a_new_frame, load_while_frames_are_moved}
use Rattle.log_examples.proofs.Removals.{removed_frame}
use Rattle.log_examples.proofs.Reloads.{reload_of_a_hidden_frame}
use Rattle.log_examples.proofs.Prompts.{leave, one_prompt_for_two, load_behind_a_prompt, load_behind_an_answer}
use Rattle.log_examples.proofs.Deaths.{one_of_two_processes_dies, poke_of_a_dead_document, reload_that_cannot_begin}
use Rattle.log_examples.proofs.Pending.{two_pushes_on_their_way}

-- An update is sent again.
abbrev pub update_sent_twice : List Event
update_sent_twice =
    before 3 one_push
    ++ by_coord (rows.Delivered (p 1)) (rows.Applied (r 1) (changes.Push (n 0) (e 1 1) (s 1) (codes "http://a.test/1") (Some (codes "s"))) ∷ sent 1 1 0 1 (whys.Req (r 1)) (tasks.Update 2 1) ∷ sent 2 1 0 1 (whys.Req (r 1)) (tasks.Update 2 1) ∷ [])
    ∷ since 4 one_push

pub update_sent_twice_is_refused : IsLegal (log_of update_sent_twice) → ⊥
unfolding url_on_literals is_web is_blank_url judged judged_parse read_against address_of url_of resolved with_fragment base_of fragment_of origin_text origin_of has_same_base is_rewritable events_of each_event after_opening AtEachEvent is_numbered opens is_formed is_once is_caused is_queued is_ordered is_checked ends_settled loads_end ends_told ends_stepped goes_in_time
update_sent_twice_is_refused holds = false≢true holds.ordered

-- An update has another length.
abbrev pub another_length : List Event
another_length =
    before 3 one_push
    ++ by_coord (rows.Delivered (p 1)) (rows.Applied (r 1) (changes.Push (n 0) (e 1 1) (s 1) (codes "http://a.test/1") (Some (codes "s"))) ∷ sent 1 1 0 1 (whys.Req (r 1)) (tasks.Update 3 1) ∷ [])
    ∷ since 4 one_push

pub another_length_is_refused : IsLegal (log_of another_length) → ⊥
unfolding url_on_literals is_web is_blank_url judged judged_parse read_against address_of url_of resolved with_fragment base_of fragment_of origin_text origin_of has_same_base is_rewritable events_of each_event after_opening AtEachEvent is_numbered opens is_formed is_once is_caused is_queued is_ordered is_checked ends_settled loads_end ends_told ends_stepped goes_in_time
another_length_is_refused holds = false≢true holds.ordered

-- A dead document is shown.
abbrev pub order_for_a_dead_document : List Event
order_for_a_dead_document =
    before 8 push_after_a_death
    ++ by_coord (rows.Delivered (p 1)) (sent 2 1 1 1 (whys.Death (x 1)) (tasks.Activate (e 1 1) (epoch 2) 2 1 (Some (codes "s")) (codes "http://a.test/1")) ∷ [])
    ∷ by_ui (rows.Accepted (r 2) None (requests.Poke (n 0) (actions.Push (Some (codes "t")) (Some (codes "/2"))))) (rows.Refused (r 2) denials.NoDocument ∷ [])
    ∷ []

pub order_for_a_dead_document_is_refused : IsLegal (log_of order_for_a_dead_document) → ⊥
unfolding url_on_literals is_web is_blank_url judged judged_parse read_against address_of url_of resolved with_fragment base_of fragment_of origin_text origin_of has_same_base is_rewritable events_of each_event after_opening AtEachEvent is_numbered opens is_formed is_once is_caused is_queued is_ordered is_checked ends_settled loads_end ends_told ends_stepped goes_in_time
order_for_a_dead_document_is_refused holds = false≢true holds.ordered

-- A document is shown under an epoch that was.
abbrev pub old_epoch_sent : List Event
old_epoch_sent =
    before 17 leave
    ++ by_ui (rows.Answered (r 3) false) (sent 5 1 0 2 (whys.Req (r 3)) tasks.Freeze ∷ sent 6 1 0 1 (whys.Req (r 3)) (tasks.Activate (e 0 1) (epoch 2) 2 0 None (codes "http://a.test/")) ∷ [])
    ∷ since 18 leave

pub old_epoch_sent_is_refused : IsLegal (log_of old_epoch_sent) → ⊥
unfolding url_on_literals is_web is_blank_url judged judged_parse read_against address_of url_of resolved with_fragment base_of fragment_of origin_text origin_of has_same_base is_rewritable events_of each_event after_opening AtEachEvent is_numbered opens is_formed is_once is_caused is_queued is_ordered is_checked ends_settled loads_end ends_told ends_stepped goes_in_time
old_epoch_sent_is_refused holds = false≢true holds.ordered

-- A document is made twice.
abbrev pub made_twice : List Event
made_twice =
    by_start (rows.Opened (e 0 1) (s 1) (d 1) (p 1) None (codes "http://a.test/")) []
    ∷ by_ui (rows.Accepted (r 1) None (requests.Load (n 0) modes.Auto (codes "http://a.test/1"))) (rows.Started (r 1) None ∷ sent 1 1 0 2 (whys.Req (r 1)) (tasks.Populate (n 0) (s 2) (codes "http://a.test/1") false) ∷ sent 2 1 0 3 (whys.Req (r 1)) (tasks.Populate (n 0) (s 2) (codes "http://a.test/1") false) ∷ [])
    ∷ since 2 later_load

pub made_twice_is_refused : IsLegal (log_of made_twice) → ⊥
unfolding url_on_literals is_web is_blank_url judged judged_parse read_against address_of url_of resolved with_fragment base_of fragment_of origin_text origin_of has_same_base is_rewritable events_of each_event after_opening AtEachEvent is_numbered opens is_formed is_once is_caused is_queued is_ordered is_checked ends_settled loads_end ends_told ends_stepped goes_in_time
made_twice_is_refused holds = false≢true holds.ordered

-- A document with a handler is left unasked.
abbrev pub handler_not_asked : List Event
handler_not_asked =
    before 13 leave
    ++ by_ui (rows.Accepted (r 3) None (requests.Go (negsuc 0))) (rows.Started (r 3) (Some (t 0)) ∷ [])
    ∷ since 14 leave

pub handler_not_asked_is_refused : IsLegal (log_of handler_not_asked) → ⊥
unfolding url_on_literals is_web is_blank_url judged judged_parse read_against address_of url_of resolved with_fragment base_of fragment_of origin_text origin_of has_same_base is_rewritable events_of each_event after_opening AtEachEvent is_numbered opens is_formed is_once is_caused is_queued is_ordered is_checked ends_settled loads_end ends_told ends_stepped goes_in_time
handler_not_asked_is_refused holds = false≢true holds.ordered

-- A document is evicted, and not discarded.
abbrev pub eviction_without_discard : List Event
eviction_without_discard =
    before 37 evicted_documents
    ++ by_ui (rows.Evicted (s 3)) []
    ∷ since 38 evicted_documents

pub eviction_without_discard_is_refused : IsLegal (log_of eviction_without_discard) → ⊥
unfolding url_on_literals is_web is_blank_url judged judged_parse read_against address_of url_of resolved with_fragment base_of fragment_of origin_text origin_of has_same_base is_rewritable events_of each_event after_opening AtEachEvent is_numbered opens is_formed is_once is_caused is_queued is_ordered is_checked ends_settled loads_end ends_told ends_stepped goes_in_time
eviction_without_discard_is_refused holds = false≢true holds.ordered

-- An order goes to an incarnation that is not known.
abbrev pub another_incarnation : List Event
another_incarnation =
    before 3 one_push
    ++ by_coord (rows.Delivered (p 1)) (rows.Applied (r 1) (changes.Push (n 0) (e 1 1) (s 1) (codes "http://a.test/1") (Some (codes "s"))) ∷ sent 1 1 1 1 (whys.Req (r 1)) (tasks.Update 2 1) ∷ [])
    ∷ since 4 one_push

pub another_incarnation_is_refused : IsLegal (log_of another_incarnation) → ⊥
unfolding url_on_literals is_web is_blank_url judged judged_parse read_against address_of url_of resolved with_fragment base_of fragment_of origin_text origin_of has_same_base is_rewritable events_of each_event after_opening AtEachEvent is_numbered opens is_formed is_once is_caused is_queued is_ordered is_checked ends_settled loads_end ends_told ends_stepped goes_in_time
another_incarnation_is_refused holds = false≢true holds.ordered

-- An order shows another entry than the target.
abbrev pub shown_too_late : List Event
shown_too_late =
    before 9 document_goes_back
    ++ by_coord (rows.Delivered (p 1)) (rows.Started (r 2) (Some (t 0)) ∷ sent 2 1 0 1 (whys.Req (r 2)) (tasks.Activate (e 1 1) (epoch 2) 2 0 None (codes "http://a.test/")) ∷ [])
    ∷ since 10 document_goes_back

pub shown_too_late_is_refused : IsLegal (log_of shown_too_late) → ⊥
unfolding url_on_literals is_web is_blank_url judged judged_parse read_against address_of url_of resolved with_fragment base_of fragment_of origin_text origin_of has_same_base is_rewritable events_of each_event after_opening AtEachEvent is_numbered opens is_formed is_once is_caused is_queued is_ordered is_checked ends_settled loads_end ends_told ends_stepped goes_in_time
shown_too_late_is_refused holds = false≢true holds.ordered

-- A document is frozen that nothing is shown instead of.
abbrev pub frozen_without_leaving : List Event
frozen_without_leaving =
    before 3 one_push
    ++ by_coord (rows.Delivered (p 1)) (rows.Applied (r 1) (changes.Push (n 0) (e 1 1) (s 1) (codes "http://a.test/1") (Some (codes "s"))) ∷ sent 1 1 0 1 (whys.Req (r 1)) tasks.Freeze ∷ [])
    ∷ since 4 one_push

pub frozen_without_leaving_is_refused : IsLegal (log_of frozen_without_leaving) → ⊥
unfolding url_on_literals is_web is_blank_url judged judged_parse read_against address_of url_of resolved with_fragment base_of fragment_of origin_text origin_of has_same_base is_rewritable events_of each_event after_opening AtEachEvent is_numbered opens is_formed is_once is_caused is_queued is_ordered is_checked ends_settled loads_end ends_told ends_stepped goes_in_time
frozen_without_leaving_is_refused holds = false≢true holds.ordered

-- A document is discarded that is needed.
abbrev pub discarded_without_cause : List Event
discarded_without_cause =
    before 3 one_push
    ++ by_coord (rows.Delivered (p 1)) (rows.Applied (r 1) (changes.Push (n 0) (e 1 1) (s 1) (codes "http://a.test/1") (Some (codes "s"))) ∷ sent 1 1 0 1 (whys.Req (r 1)) tasks.Discard ∷ [])
    ∷ since 4 one_push

pub discarded_without_cause_is_refused : IsLegal (log_of discarded_without_cause) → ⊥
unfolding url_on_literals is_web is_blank_url judged judged_parse read_against address_of url_of resolved with_fragment base_of fragment_of origin_text origin_of has_same_base is_rewritable events_of each_event after_opening AtEachEvent is_numbered opens is_formed is_once is_caused is_queued is_ordered is_checked ends_settled loads_end ends_told ends_stepped goes_in_time
discarded_without_cause_is_refused holds = false≢true holds.ordered

-- A document is asked at another slot than its own.
abbrev pub another_handler_slot : List Event
another_handler_slot =
    before 13 leave
    ++ by_ui (rows.Accepted (r 3) None (requests.Go (negsuc 0))) (rows.Started (r 3) (Some (t 0)) ∷ sent 4 1 0 2 (whys.Req (r 3)) (tasks.Ask 1 leavings.Traverse) ∷ [])
    ∷ since 14 leave

pub another_handler_slot_is_refused : IsLegal (log_of another_handler_slot) → ⊥
unfolding url_on_literals is_web is_blank_url judged judged_parse read_against address_of url_of resolved with_fragment base_of fragment_of origin_text origin_of has_same_base is_rewritable events_of each_event after_opening AtEachEvent is_numbered opens is_formed is_once is_caused is_queued is_ordered is_checked ends_settled loads_end ends_told ends_stepped goes_in_time
another_handler_slot_is_refused holds = false≢true holds.ordered

-- A document is asked for another cause.
abbrev pub another_leave_cause : List Event
another_leave_cause =
    before 13 leave
    ++ by_ui (rows.Accepted (r 3) None (requests.Go (negsuc 0))) (rows.Started (r 3) (Some (t 0)) ∷ sent 4 1 0 2 (whys.Req (r 3)) (tasks.Ask 0 leavings.Reload) ∷ [])
    ∷ since 14 leave

pub another_leave_cause_is_refused : IsLegal (log_of another_leave_cause) → ⊥
unfolding url_on_literals is_web is_blank_url judged judged_parse read_against address_of url_of resolved with_fragment base_of fragment_of origin_text origin_of has_same_base is_rewritable events_of each_event after_opening AtEachEvent is_numbered opens is_formed is_once is_caused is_queued is_ordered is_checked ends_settled loads_end ends_told ends_stepped goes_in_time
another_leave_cause_is_refused holds = false≢true holds.ordered

-- A load begins and has its document made, and only then asks the one that it leaves.
abbrev pub asked_after_it_went_on : List Event
asked_after_it_went_on =
    before 13 load_behind_an_answer
    ++ by_ui (rows.Accepted (r 3) None (requests.Load (n 0) modes.Auto (codes "http://a.test/2"))) (rows.Started (r 3) None ∷ sent 4 1 0 3 (whys.Req (r 3)) (tasks.Populate (n 0) (s 3) (codes "http://a.test/2") false) ∷ sent 5 1 0 2 (whys.Req (r 3)) (tasks.Ask 0 leavings.Load) ∷ [])
    ∷ []

pub asked_after_it_went_on_is_refused : IsLegal (log_of asked_after_it_went_on) → ⊥
unfolding url_on_literals is_web is_blank_url judged judged_parse read_against address_of url_of resolved with_fragment base_of fragment_of origin_text origin_of has_same_base is_rewritable events_of each_event after_opening AtEachEvent is_numbered opens is_formed is_once is_caused is_queued is_ordered is_checked ends_settled loads_end ends_told ends_stepped goes_in_time
asked_after_it_went_on_is_refused holds = false≢true holds.ordered

-- The frame is asked before the top.
abbrev pub asked_out_of_order : List Event
asked_out_of_order =
    before 30 one_prompt_for_two
    ++ by_ui (rows.Accepted (r 4) None (requests.Go (negsuc 0))) (rows.Started (r 4) (Some (t 0)) ∷ sent 10 1 0 4 (whys.Req (r 4)) (tasks.Ask 1 leavings.Traverse) ∷ sent 9 1 0 2 (whys.Req (r 4)) (tasks.Ask 1 leavings.Traverse) ∷ [])
    ∷ since 31 one_prompt_for_two

pub asked_out_of_order_is_refused : IsLegal (log_of asked_out_of_order) → ⊥
unfolding url_on_literals is_web is_blank_url judged judged_parse read_against address_of url_of resolved with_fragment base_of fragment_of origin_text origin_of has_same_base is_rewritable events_of each_event after_opening AtEachEvent is_numbered opens is_formed is_once is_caused is_queued is_ordered is_checked ends_settled loads_end ends_told ends_stepped goes_in_time
asked_out_of_order_is_refused holds = false≢true holds.ordered

-- A document is shown before it is made.
abbrev pub shown_before_it_is_made : List Event
shown_before_it_is_made =
    before 3 taken_number
    ++ by_coord (rows.Delivered (p 1)) (rows.Applied (r 1) (changes.AddFrame (s 1) (n 1) (e 0 2) (s 2)) ∷ sent 1 1 0 2 (whys.Req (r 1)) (tasks.Populate (n 1) (s 2) (codes "about:blank") true) ∷ sent 2 1 0 2 (whys.Req (r 1)) (tasks.Activate (e 0 2) (epoch 1) 1 0 None (codes "about:blank")) ∷ [])
    ∷ by_proc 1 (rows.Taken (p 1) (j 1) true false) []
    ∷ by_proc 1 (rows.Finished (p 1) (j 1) (outcomes.Populated None)) []
    ∷ by_coord (rows.Delivered (p 1)) []
    ∷ since 7 taken_number

pub shown_before_it_is_made_is_refused : IsLegal (log_of shown_before_it_is_made) → ⊥
unfolding url_on_literals is_web is_blank_url judged judged_parse read_against address_of url_of resolved with_fragment base_of fragment_of origin_text origin_of has_same_base is_rewritable events_of each_event after_opening AtEachEvent is_numbered opens is_formed is_once is_caused is_queued is_ordered is_checked ends_settled loads_end ends_told ends_stepped goes_in_time
shown_before_it_is_made_is_refused holds = false≢true holds.ordered

-- An initial about:blank document is made as a plain one.
abbrev pub initial_document_made_plain : List Event
initial_document_made_plain =
    before 3 taken_number
    ++ by_coord (rows.Delivered (p 1)) (rows.Applied (r 1) (changes.AddFrame (s 1) (n 1) (e 0 2) (s 2)) ∷ sent 1 1 0 2 (whys.Req (r 1)) (tasks.Populate (n 1) (s 2) (codes "about:blank") false) ∷ [])
    ∷ since 4 taken_number

pub initial_document_made_plain_is_refused : IsLegal (log_of initial_document_made_plain) → ⊥
unfolding url_on_literals is_web is_blank_url judged judged_parse read_against address_of url_of resolved with_fragment base_of fragment_of origin_text origin_of has_same_base is_rewritable events_of each_event after_opening AtEachEvent is_numbered opens is_formed is_once is_caused is_queued is_ordered is_checked ends_settled loads_end ends_told ends_stepped goes_in_time
initial_document_made_plain_is_refused holds = false≢true holds.ordered

-- A fragment order has another address than its load.
abbrev pub another_fragment : List Event
another_fragment =
    by_start (rows.Opened (e 0 1) (s 1) (d 1) (p 1) None (codes "http://a.test/")) []
    ∷ by_ui (rows.Accepted (r 1) None (requests.Load (n 0) modes.Auto (codes "http://a.test/#x"))) (sent 1 1 0 1 (whys.Req (r 1)) (tasks.DoFragment (r 1) modes.Auto (codes "http://a.test/#y")) ∷ [])
    ∷ since 2 fragment_load

pub another_fragment_is_refused : IsLegal (log_of another_fragment) → ⊥
unfolding url_on_literals is_web is_blank_url judged judged_parse read_against address_of url_of resolved with_fragment base_of fragment_of origin_text origin_of has_same_base is_rewritable events_of each_event after_opening AtEachEvent is_numbered opens is_formed is_once is_caused is_queued is_ordered is_checked ends_settled loads_end ends_told ends_stepped goes_in_time
another_fragment_is_refused holds = false≢true holds.ordered

-- is_activated_duly: at_place: without conjunct `needs_activation place entry`, `ordered` would hold.
abbrev pub is_activated_duly_1 : List Event
is_activated_duly_1 =
    by_start (rows.Opened (e 0 1) (s 1) (d 1) (p 1) None (codes "http://a.test/")) []
    ∷ by_ui (rows.Answered (r 1) true) (sent 1 1 0 1 (whys.Req (r 1)) (tasks.Activate (e 0 1) (epoch 2) 1 0 None (codes "http://a.test/")) ∷ [])
    ∷ []

pub is_activated_duly_1_is_refused : IsLegal (log_of is_activated_duly_1) → ⊥
unfolding url_on_literals is_web is_blank_url judged judged_parse read_against address_of url_of resolved with_fragment base_of fragment_of origin_text origin_of has_same_base is_rewritable events_of each_event after_opening AtEachEvent is_numbered opens is_formed is_once is_caused is_queued is_ordered is_checked ends_settled loads_end ends_told ends_stepped goes_in_time
is_activated_duly_1_is_refused holds = false≢true holds.ordered

-- is_activated_duly: in_document: without conjunct `same_pair pair (pair_at s (aim_of s))`, `ordered` would hold.
abbrev pub is_activated_duly_2 : List Event
is_activated_duly_2 =
    before 3 two_pushes_on_their_way
    ++ by_ui (rows.Killed (p 2) (x 1)) (rows.Applied (r 2) (changes.Reload (n 0)) ∷ sent 1 1 0 1 (whys.Req (r 2)) (tasks.Activate (e 0 1) (epoch 3) 1 1 None (codes "http://a.test/")) ∷ [])
    ∷ []

pub is_activated_duly_2_is_refused : IsLegal (log_of is_activated_duly_2) → ⊥
unfolding url_on_literals is_web is_blank_url judged judged_parse read_against address_of url_of resolved with_fragment base_of fragment_of origin_text origin_of has_same_base is_rewritable events_of each_event after_opening AtEachEvent is_numbered opens is_formed is_once is_caused is_queued is_ordered is_checked ends_settled loads_end ends_told ends_stepped goes_in_time
is_activated_duly_2_is_refused holds = false≢true holds.ordered

-- is_activated_duly: is_row: without conjunct `bytes_eq row.address address`, `ordered` would hold.
abbrev pub is_activated_duly_3 : List Event
is_activated_duly_3 =
    before 13 load_while_frames_are_moved
    ++ by_coord (rows.Delivered (p 2)) (rows.Applied (r 2) (changes.Replace (n 1) (e 0 2) (e 0 3) (s 3) (codes "http://b.test/f") None) ∷ sent 4 1 0 2 (whys.Req (r 2)) tasks.Discard ∷ sent 5 2 0 3 (whys.Req (r 2)) (tasks.Activate (e 0 3) (epoch 2) 1 0 None (codes "http://b.test/fx")) ∷ [])
    ∷ []

pub is_activated_duly_3_is_refused : IsLegal (log_of is_activated_duly_3) → ⊥
unfolding url_on_literals is_web is_blank_url judged judged_parse read_against address_of url_of resolved with_fragment base_of fragment_of origin_text origin_of has_same_base is_rewritable events_of each_event after_opening AtEachEvent is_numbered opens is_formed is_once is_caused is_queued is_ordered is_checked ends_settled loads_end ends_told ends_stepped goes_in_time
is_activated_duly_3_is_refused holds = false≢true holds.ordered

-- is_activated_duly: is_row: without conjunct `same_entry row.entry entry`, `ordered` would hold.
abbrev pub is_activated_duly_4 : List Event
is_activated_duly_4 =
    before 6 one_of_two_processes_dies
    ++ by_coord (rows.Delivered (p 1)) (sent 2 1 0 2 (whys.Req (r 1)) (tasks.Activate (e 0 3) (epoch 1) 1 0 None (codes "about:blank")) ∷ [])
    ∷ []

pub is_activated_duly_4_is_refused : IsLegal (log_of is_activated_duly_4) → ⊥
unfolding url_on_literals is_web is_blank_url judged judged_parse read_against address_of url_of resolved with_fragment base_of fragment_of origin_text origin_of has_same_base is_rewritable events_of each_event after_opening AtEachEvent is_numbered opens is_formed is_once is_caused is_queued is_ordered is_checked ends_settled loads_end ends_told ends_stepped goes_in_time
is_activated_duly_4_is_refused holds = false≢true holds.ordered

-- is_activated_duly: is_row: without conjunct `same_memo row.memo memo`, `ordered` would hold.
abbrev pub is_activated_duly_5 : List Event
is_activated_duly_5 =
    before 6 load_of_a_new_frame
    ++ by_coord (rows.Delivered (p 1)) (sent 2 1 0 2 (whys.Req (r 1)) (tasks.Activate (e 0 2) (epoch 1) 1 0 (Some (codes "0")) (codes "about:blank")) ∷ [])
    ∷ []

pub is_activated_duly_5_is_refused : IsLegal (log_of is_activated_duly_5) → ⊥
unfolding url_on_literals is_web is_blank_url judged judged_parse read_against address_of url_of resolved with_fragment base_of fragment_of origin_text origin_of has_same_base is_rewritable events_of each_event after_opening AtEachEvent is_numbered opens is_formed is_once is_caused is_queued is_ordered is_checked ends_settled loads_end ends_told ends_stepped goes_in_time
is_activated_duly_5_is_refused holds = false≢true holds.ordered

-- is_addressed: were equation 1 true, `ordered` would hold.
abbrev pub is_addressed_1 : List Event
is_addressed_1 =
    before 3 removed_frame
    ++ by_coord (rows.Delivered (p 1)) (rows.Applied (r 1) (changes.AddFrame (s 1) (n 1) (e 0 2) (s 2)) ∷ sent 1 1 0 3 (whys.Req (r 1)) (tasks.Populate (n 1) (s 2) (codes "about:blank") true) ∷ [])
    ∷ []

pub is_addressed_1_is_refused : IsLegal (log_of is_addressed_1) → ⊥
unfolding url_on_literals is_web is_blank_url judged judged_parse read_against address_of url_of resolved with_fragment base_of fragment_of origin_text origin_of has_same_base is_rewritable events_of each_event after_opening AtEachEvent is_numbered opens is_formed is_once is_caused is_queued is_ordered is_checked ends_settled loads_end ends_told ends_stepped goes_in_time
is_addressed_1_is_refused holds = false≢true holds.ordered

-- is_addressed: without test `d.proc.0 == job.proc.0`, `ordered` would hold.
abbrev pub is_addressed_2 : List Event
is_addressed_2 =
    before 3 document_goes_back
    ++ by_coord (rows.Delivered (p 1)) (rows.Applied (r 1) (changes.Push (n 0) (e 1 1) (s 1) (codes "http://a.test/1") (Some (codes "s"))) ∷ sent 1 3 0 1 (whys.Req (r 1)) (tasks.Update 2 1) ∷ [])
    ∷ []

pub is_addressed_2_is_refused : IsLegal (log_of is_addressed_2) → ⊥
unfolding url_on_literals is_web is_blank_url judged judged_parse read_against address_of url_of resolved with_fragment base_of fragment_of origin_text origin_of has_same_base is_rewritable events_of each_event after_opening AtEachEvent is_numbered opens is_formed is_once is_caused is_queued is_ordered is_checked ends_settled loads_end ends_told ends_stepped goes_in_time
is_addressed_2_is_refused holds = false≢true holds.ordered

-- is_asked_duly: by_why: were equation 2 true, `ordered` would hold.
abbrev pub is_asked_duly_1 : List Event
is_asked_duly_1 =
    by_start (rows.Opened (e 0 1) (s 1) (d 1) (p 1) None (codes "http://a.test/")) []
    ∷ by_ui (rows.Accepted (r 1) None (requests.Go (pos 5))) (sent 1 1 0 1 (whys.Death (x 1)) (tasks.Ask 0 leavings.Load) ∷ [])
    ∷ []

pub is_asked_duly_1_is_refused : IsLegal (log_of is_asked_duly_1) → ⊥
unfolding url_on_literals is_web is_blank_url judged judged_parse read_against address_of url_of resolved with_fragment base_of fragment_of origin_text origin_of has_same_base is_rewritable events_of each_event after_opening AtEachEvent is_numbered opens is_formed is_once is_caused is_queued is_ordered is_checked ends_settled loads_end ends_told ends_stepped goes_in_time
is_asked_duly_1_is_refused holds = false≢true holds.ordered

-- is_asked_duly: by_why: without conjunct `not (had_started p req)`, `ordered` would hold.
abbrev pub is_asked_duly_2 : List Event
is_asked_duly_2 =
    before 5 push_over_a_kept_document
    ++ by_proc 1 (rows.Taken (p 1) (j 2) true false) (sent 4 1 0 2 (whys.Req (r 1)) (tasks.Ask 0 leavings.Reload) ∷ [])
    ∷ []

pub is_asked_duly_2_is_refused : IsLegal (log_of is_asked_duly_2) → ⊥
unfolding url_on_literals is_web is_blank_url judged judged_parse read_against address_of url_of resolved with_fragment base_of fragment_of origin_text origin_of has_same_base is_rewritable events_of each_event after_opening AtEachEvent is_numbered opens is_formed is_once is_caused is_queued is_ordered is_checked ends_settled loads_end ends_told ends_stepped goes_in_time
is_asked_duly_2_is_refused holds = false≢true holds.ordered

-- is_asked_duly: by_why: without conjunct `q.is_started`, `ordered` would hold.
abbrev pub is_asked_duly_3 : List Event
is_asked_duly_3 =
    by_start (rows.Opened (e 0 1) (s 1) (d 1) (p 1) None (codes "http://a.test/")) []
    ∷ by_ui (rows.Accepted (r 1) None (requests.Go (pos 5))) (rows.Refused (r 1) denials.NoStep ∷ [])
    ∷ by_proc 1 (rows.Finished (p 1) (j 1) outcomes.Frozen) (sent 1 1 0 1 (whys.Req (r 1)) (tasks.Ask 0 leavings.Reload) ∷ [])
    ∷ []

pub is_asked_duly_3_is_refused : IsLegal (log_of is_asked_duly_3) → ⊥
unfolding url_on_literals is_web is_blank_url judged judged_parse read_against address_of url_of resolved with_fragment base_of fragment_of origin_text origin_of has_same_base is_rewritable events_of each_event after_opening AtEachEvent is_numbered opens is_formed is_once is_caused is_queued is_ordered is_checked ends_settled loads_end ends_told ends_stepped goes_in_time
is_asked_duly_3_is_refused holds = false≢true holds.ordered

-- is_evicted_duly: without test `discards doc`, `ordered` would hold.
abbrev pub is_evicted_duly_1 : List Event
is_evicted_duly_1 =
    before 22 load_behind_an_answer
    ++ by_ui (rows.Evicted (s 2)) (sent 8 1 0 2 whys.Evict tasks.Discard ∷ rows.Prompted (r 3) (d 1) ∷ [])
    ∷ []

pub is_evicted_duly_1_is_refused : IsLegal (log_of is_evicted_duly_1) → ⊥
unfolding url_on_literals is_web is_blank_url judged judged_parse read_against address_of url_of resolved with_fragment base_of fragment_of origin_text origin_of has_same_base is_rewritable events_of each_event after_opening AtEachEvent is_numbered opens is_formed is_once is_caused is_queued is_ordered is_checked ends_settled loads_end ends_told ends_stepped goes_in_time
is_evicted_duly_1_is_refused holds = false≢true holds.ordered

-- is_leaving: were equation 3 true, `ordered` would hold.
abbrev pub is_leaving_1 : List Event
is_leaving_1 =
    before 12 load_behind_a_prompt
    ++ by_ui (rows.Accepted (r 3) None (requests.Go (negsuc 0))) (rows.Started (r 3) (Some (t 1)) ∷ sent 4 1 0 2 (whys.Req (r 3)) (tasks.Ask 1 leavings.Traverse) ∷ [])
    ∷ []

pub is_leaving_1_is_refused : IsLegal (log_of is_leaving_1) → ⊥
unfolding url_on_literals is_web is_blank_url judged judged_parse read_against address_of url_of resolved with_fragment base_of fragment_of origin_text origin_of has_same_base is_rewritable events_of each_event after_opening AtEachEvent is_numbered opens is_formed is_once is_caused is_queued is_ordered is_checked ends_settled loads_end ends_told ends_stepped goes_in_time
is_leaving_1_is_refused holds = false≢true holds.ordered

-- is_left: without test `shows_another p.now d`, `ordered` would hold.
abbrev pub is_left_1 : List Event
is_left_1 =
    by_start (rows.Opened (e 0 1) (s 1) (d 1) (p 1) None (codes "http://a.test/")) []
    ∷ by_proc 1 (made 1 1 1 1 (whats.Push (e 1 1) (Some (codes "s")) (codes "http://a.test/1"))) (sent 1 1 0 1 (whys.Req (r 1)) tasks.Discard ∷ rows.Dropped (r 1) (drops.Gone (x 1)) ∷ [])
    ∷ []

pub is_left_1_is_refused : IsLegal (log_of is_left_1) → ⊥
unfolding url_on_literals is_web is_blank_url judged judged_parse read_against address_of url_of resolved with_fragment base_of fragment_of origin_text origin_of has_same_base is_rewritable events_of each_event after_opening AtEachEvent is_numbered opens is_formed is_once is_caused is_queued is_ordered is_checked ends_settled loads_end ends_told ends_stepped goes_in_time
is_left_1_is_refused holds = false≢true holds.ordered

-- is_sent_duly: without conjunct `job.nr.0 == (p.now.jobs + 1)`, `ordered` would hold.
abbrev pub is_sent_duly_1 : List Event
is_sent_duly_1 =
    before 3 one_push
    ++ by_coord (rows.Delivered (p 1)) (rows.Applied (r 1) (changes.Push (n 0) (e 1 1) (s 1) (codes "http://a.test/1") (Some (codes "s"))) ∷ sent 0 1 0 1 (whys.Req (r 1)) (tasks.Update 2 1) ∷ [])
    ∷ []

pub is_sent_duly_1_is_refused : IsLegal (log_of is_sent_duly_1) → ⊥
unfolding url_on_literals is_web is_blank_url judged judged_parse read_against address_of url_of resolved with_fragment base_of fragment_of origin_text origin_of has_same_base is_rewritable events_of each_event after_opening AtEachEvent is_numbered opens is_formed is_once is_caused is_queued is_ordered is_checked ends_settled loads_end ends_told ends_stepped goes_in_time
is_sent_duly_1_is_refused holds = false≢true holds.ordered

-- is_sent_to_fragment: by_request: were equation 2 true, `ordered` would hold.
abbrev pub is_sent_to_fragment_1 : List Event
is_sent_to_fragment_1 =
    by_start (rows.Opened (e 0 1) (s 1) (d 1) (p 1) None (codes "http://a.test/")) []
    ∷ by_ui (rows.Accepted (r 1) None (requests.Reload (n 0))) (rows.Started (r 1) None ∷ sent 1 1 0 1 (whys.Req (r 1)) (tasks.DoFragment (r 1) modes.Auto (codes "http://a.test/#x")) ∷ rows.Refused (r 1) denials.NoStep ∷ [])
    ∷ []

pub is_sent_to_fragment_1_is_refused : IsLegal (log_of is_sent_to_fragment_1) → ⊥
unfolding url_on_literals is_web is_blank_url judged judged_parse read_against address_of url_of resolved with_fragment base_of fragment_of origin_text origin_of has_same_base is_rewritable events_of each_event after_opening AtEachEvent is_numbered opens is_formed is_once is_caused is_queued is_ordered is_checked ends_settled loads_end ends_told ends_stepped goes_in_time
is_sent_to_fragment_1_is_refused holds = false≢true holds.ordered

-- is_sent_to_fragment: by_request: without conjunct `same_mode m mode`, `ordered` would hold.
abbrev pub is_sent_to_fragment_2 : List Event
is_sent_to_fragment_2 =
    by_start (rows.Opened (e 0 1) (s 1) (d 1) (p 1) None (codes "http://a.test/")) []
    ∷ by_ui (rows.Accepted (r 1) None (requests.Load (n 0) modes.Auto (codes "http://a.test/#x"))) (sent 1 1 0 1 (whys.Req (r 1)) (tasks.DoFragment (r 1) modes.Replace (codes "http://a.test/#x")) ∷ [])
    ∷ []

pub is_sent_to_fragment_2_is_refused : IsLegal (log_of is_sent_to_fragment_2) → ⊥
unfolding url_on_literals is_web is_blank_url judged judged_parse read_against address_of url_of resolved with_fragment base_of fragment_of origin_text origin_of has_same_base is_rewritable events_of each_event after_opening AtEachEvent is_numbered opens is_formed is_once is_caused is_queued is_ordered is_checked ends_settled loads_end ends_told ends_stepped goes_in_time
is_sent_to_fragment_2_is_refused holds = false≢true holds.ordered

-- is_sent_to_fragment: by_request: without test `in_place s job address`, `ordered` would hold.
abbrev pub is_sent_to_fragment_3 : List Event
is_sent_to_fragment_3 =
    by_start (rows.Opened (e 0 1) (s 1) (d 1) (p 1) None (codes "http://a.test/")) []
    ∷ by_ui (rows.Accepted (r 1) (Some (d 1)) (requests.Poke (n 0) (actions.Replace (Some (codes "m")) None))) []
    ∷ by_ui (rows.Accepted (r 2) None (requests.Load (n 0) modes.Push (codes "about:blank#x"))) (rows.Started (r 2) (Some (t 0)) ∷ sent 1 1 0 1 (whys.Req (r 2)) (tasks.DoFragment (r 2) modes.Push (codes "about:blank#x")) ∷ rows.Refused (r 2) denials.NotShown ∷ [])
    ∷ []

pub is_sent_to_fragment_3_is_refused : IsLegal (log_of is_sent_to_fragment_3) → ⊥
unfolding url_on_literals is_web is_blank_url judged judged_parse read_against address_of url_of resolved with_fragment base_of fragment_of origin_text origin_of has_same_base is_rewritable events_of each_event after_opening AtEachEvent is_numbered opens is_formed is_once is_caused is_queued is_ordered is_checked ends_settled loads_end ends_told ends_stepped goes_in_time
is_sent_to_fragment_3_is_refused holds = false≢true holds.ordered

-- is_sent_to_fragment: in_place: without conjunct `is_awake_on job.doc place`, `ordered` would hold.
abbrev pub is_sent_to_fragment_4 : List Event
is_sent_to_fragment_4 =
    poke_of_a_dead_document
    ++ by_ui (rows.Accepted (r 2) None (requests.Load (n 0) modes.Push (codes "http://a.test/#x"))) (rows.Dropped (r 2) drops.Stay ∷ sent 1 1 1 1 (whys.Req (r 2)) (tasks.DoFragment (r 2) modes.Push (codes "http://a.test/#x")) ∷ [])
    ∷ []

pub is_sent_to_fragment_4_is_refused : IsLegal (log_of is_sent_to_fragment_4) → ⊥
unfolding url_on_literals is_web is_blank_url judged judged_parse read_against address_of url_of resolved with_fragment base_of fragment_of origin_text origin_of has_same_base is_rewritable events_of each_event after_opening AtEachEvent is_numbered opens is_formed is_once is_caused is_queued is_ordered is_checked ends_settled loads_end ends_told ends_stepped goes_in_time
is_sent_to_fragment_4_is_refused holds = false≢true holds.ordered

-- is_sent_to_fragment: in_place: without conjunct `stands s (aim_of s) place.nav`, `ordered` would hold.
abbrev pub is_sent_to_fragment_5 : List Event
is_sent_to_fragment_5 =
    by_start (rows.Opened (e 0 1) (s 1) (d 1) (p 1) (Some 2) (codes "about:blank")) []
    ∷ by_ui (rows.Accepted (r 1) (Some (d 1)) (requests.Poke (n 0) (actions.AddFrame (n 1)))) []
    ∷ by_proc 1 (made 1 1 1 1 (whats.AddFrame (n 1))) []
    ∷ by_coord (rows.Delivered (p 1)) (rows.Applied (r 1) (changes.AddFrame (s 1) (n 1) (e 0 2) (s 2)) ∷ sent 1 1 0 2 (whys.Req (r 1)) (tasks.Populate (n 1) (s 2) (codes "about:blank") true) ∷ [])
    ∷ by_proc 1 (rows.Taken (p 1) (j 1) true false) []
    ∷ by_proc 1 (rows.Finished (p 1) (j 1) (outcomes.Populated (Some 2))) []
    ∷ by_coord (rows.Delivered (p 1)) (sent 2 1 0 2 (whys.Req (r 1)) (tasks.Activate (e 0 2) (epoch 1) 1 0 None (codes "about:blank")) ∷ [])
    ∷ by_ui (rows.Accepted (r 2) None (requests.Load (n 1) modes.Replace (codes "about:blank#x"))) (sent 3 1 0 2 (whys.Req (r 2)) (tasks.DoFragment (r 2) modes.Replace (codes "about:blank#x")) ∷ [])
    ∷ []

pub is_sent_to_fragment_5_is_refused : IsLegal (log_of is_sent_to_fragment_5) → ⊥
unfolding url_on_literals is_web is_blank_url judged judged_parse read_against address_of url_of resolved with_fragment base_of fragment_of origin_text origin_of has_same_base is_rewritable events_of each_event after_opening AtEachEvent is_numbered opens is_formed is_once is_caused is_queued is_ordered is_checked ends_settled loads_end ends_told ends_stepped goes_in_time
is_sent_to_fragment_5_is_refused holds = false≢true holds.ordered

-- is_sent_to_fragment: without conjunct `is_accepted_here p req`, `ordered` would hold.
abbrev pub is_sent_to_fragment_6 : List Event
is_sent_to_fragment_6 =
    by_start (rows.Opened (e 0 1) (s 1) (d 1) (p 1) None (codes "http://a.test/")) []
    ∷ by_ui (rows.Accepted (r 1) None (requests.Load (n 0) modes.Auto (codes "http://a.test/#x"))) (sent 1 1 0 1 (whys.Req (r 1)) (tasks.DoFragment (r 1) modes.Auto (codes "http://a.test/#x")) ∷ [])
    ∷ by_proc 1 (rows.Taken (p 1) (j 1) true false) (sent 2 1 0 1 whys.Evict (tasks.DoFragment (r 1) modes.Auto (codes "http://a.test/#x")) ∷ [])
    ∷ []

pub is_sent_to_fragment_6_is_refused : IsLegal (log_of is_sent_to_fragment_6) → ⊥
unfolding url_on_literals is_web is_blank_url judged judged_parse read_against address_of url_of resolved with_fragment base_of fragment_of origin_text origin_of has_same_base is_rewritable events_of each_event after_opening AtEachEvent is_numbered opens is_formed is_once is_caused is_queued is_ordered is_checked ends_settled loads_end ends_told ends_stepped goes_in_time
is_sent_to_fragment_6_is_refused holds = false≢true holds.ordered

-- is_stateless: without conjunct `is_none (ongoing_load s d.state)`, `ordered` would hold.
abbrev pub is_stateless_1 : List Event
is_stateless_1 =
    by_start (rows.Opened (e 0 1) (s 1) (d 1) (p 1) None (codes "http://a.test/")) []
    ∷ by_ui (rows.Accepted (r 1) None (requests.Load (n 0) modes.Auto (codes "http://a.test/p1"))) (rows.Started (r 1) None ∷ sent 1 1 0 2 (whys.Req (r 1)) (tasks.Populate (n 0) (s 2) (codes "http://a.test/p1") false) ∷ [])
    ∷ by_ui (rows.Killed (p 2) (x 1)) (sent 2 1 0 2 (whys.Req (r 1)) tasks.Discard ∷ [])
    ∷ []

pub is_stateless_1_is_refused : IsLegal (log_of is_stateless_1) → ⊥
unfolding url_on_literals is_web is_blank_url judged judged_parse read_against address_of url_of resolved with_fragment base_of fragment_of origin_text origin_of has_same_base is_rewritable events_of each_event after_opening AtEachEvent is_numbered opens is_formed is_once is_caused is_queued is_ordered is_checked ends_settled loads_end ends_told ends_stepped goes_in_time
is_stateless_1_is_refused holds = false≢true holds.ordered

-- is_unneeded: tells_made: were `job.doc.0 == d.nr.0` turned, `ordered` would hold.
abbrev pub is_unneeded_1 : List Event
is_unneeded_1 =
    before 4 no_document_kept
    ++ by_coord (rows.Delivered (p 1)) (rows.Applied (r 1) (changes.Push (n 0) (e 0 2) (s 2) (codes "http://a.test/1") None) ∷ sent 2 1 0 1 (whys.Req (r 1)) tasks.Discard ∷ [])
    ∷ []

pub is_unneeded_1_is_refused : IsLegal (log_of is_unneeded_1) → ⊥
unfolding url_on_literals is_web is_blank_url judged judged_parse read_against address_of url_of resolved with_fragment base_of fragment_of origin_text origin_of has_same_base is_rewritable events_of each_event after_opening AtEachEvent is_numbered opens is_formed is_once is_caused is_queued is_ordered is_checked ends_settled loads_end ends_told ends_stepped goes_in_time
is_unneeded_1_is_refused holds = false≢true holds.ordered

-- is_unneeded: without conjunct `is_none (ongoing_load p.now d.state)`, `ordered` would hold.
abbrev pub is_unneeded_2 : List Event
is_unneeded_2 =
    before 10 replace_above_a_load
    ++ by_ui (rows.Accepted (r 2) None (requests.Load (n 1) modes.Auto (codes "http://b.test/p1"))) (rows.Started (r 2) None ∷ sent 3 1 0 3 (whys.Req (r 2)) (tasks.Populate (n 1) (s 3) (codes "http://b.test/p1") false) ∷ [])
    ∷ by_proc 1 (rows.Taken (p 1) (j 3) true false) []
    ∷ by_proc 1 (rows.Finished (p 1) (j 3) (outcomes.Populated None)) []
    ∷ by_coord (rows.Delivered (p 1)) (sent 4 1 0 3 (whys.Req (r 2)) tasks.Discard ∷ [])
    ∷ []

pub is_unneeded_2_is_refused : IsLegal (log_of is_unneeded_2) → ⊥
unfolding url_on_literals is_web is_blank_url judged judged_parse read_against address_of url_of resolved with_fragment base_of fragment_of origin_text origin_of has_same_base is_rewritable events_of each_event after_opening AtEachEvent is_numbered opens is_formed is_once is_caused is_queued is_ordered is_checked ends_settled loads_end ends_told ends_stepped goes_in_time
is_unneeded_2_is_refused holds = false≢true holds.ordered

-- is_unneeded: without conjunct `not (list_any (is_target p.now d.state) p.now.places)`, `ordered` would hold.
abbrev pub is_unneeded_3 : List Event
is_unneeded_3 =
    before 6 taken_number
    ++ by_coord (rows.Delivered (p 1)) (sent 2 1 0 2 (whys.Req (r 1)) tasks.Discard ∷ [])
    ∷ []

pub is_unneeded_3_is_refused : IsLegal (log_of is_unneeded_3) → ⊥
unfolding url_on_literals is_web is_blank_url judged judged_parse read_against address_of url_of resolved with_fragment base_of fragment_of origin_text origin_of has_same_base is_rewritable events_of each_event after_opening AtEachEvent is_numbered opens is_formed is_once is_caused is_queued is_ordered is_checked ends_settled loads_end ends_told ends_stepped goes_in_time
is_unneeded_3_is_refused holds = false≢true holds.ordered

-- is_unneeded: without test `tells_made d`, `ordered` would hold.
abbrev pub is_unneeded_4 : List Event
is_unneeded_4 =
    before 33 reload_of_a_hidden_frame
    ++ by_coord (rows.Delivered (p 1)) (sent 10 1 0 2 (whys.Req (r 4)) tasks.Discard ∷ [])
    ∷ []

pub is_unneeded_4_is_refused : IsLegal (log_of is_unneeded_4) → ⊥
unfolding url_on_literals is_web is_blank_url judged judged_parse read_against address_of url_of resolved with_fragment base_of fragment_of origin_text origin_of has_same_base is_rewritable events_of each_event after_opening AtEachEvent is_numbered opens is_formed is_once is_caused is_queued is_ordered is_checked ends_settled loads_end ends_told ends_stepped goes_in_time
is_unneeded_4_is_refused holds = false≢true holds.ordered

-- is_usable: without conjunct `not d.is_known_dead`, `ordered` would hold.
abbrev pub is_usable_1 : List Event
is_usable_1 =
    before 11 reload_that_cannot_begin
    ++ by_proc 1 (rows.Taken (p 1) (j 3) true false) []
    ∷ by_proc 1 (rows.Finished (p 1) (j 3) (outcomes.Populated None)) []
    ∷ by_ui (rows.Killed (p 1) (x 1)) []
    ∷ by_coord (rows.Delivered (p 1)) (sent 4 1 0 2 (whys.Req (r 2)) tasks.Discard ∷ sent 5 1 0 3 (whys.Req (r 2)) (tasks.Activate (e 0 2) (epoch 2) 1 0 None (codes "about:blank")) ∷ [])
    ∷ by_coord (rows.Delivered (p 1)) []
    ∷ by_proc 1 (rows.Taken (p 1) (j 4) false false) []
    ∷ by_proc 1 (made 1 1 2 1 (whats.Push (e 2 1) (Some (codes "s")) (codes "http://a.test/1"))) (sent 6 1 1 3 (whys.Death (x 1)) (tasks.Activate (e 0 2) (epoch 4) 1 0 None (codes "about:blank")) ∷ [])
    ∷ []

pub is_usable_1_is_refused : IsLegal (log_of is_usable_1) → ⊥
unfolding url_on_literals is_web is_blank_url judged judged_parse read_against address_of url_of resolved with_fragment base_of fragment_of origin_text origin_of has_same_base is_rewritable events_of each_event after_opening AtEachEvent is_numbered opens is_formed is_once is_caused is_queued is_ordered is_checked ends_settled loads_end ends_told ends_stepped goes_in_time
is_usable_1_is_refused holds = false≢true holds.ordered

-- needs_document: is_reloaded: without test `place.is_pending`, `ordered` would hold.
abbrev pub needs_document_1 : List Event
needs_document_1 =
    by_start (rows.Opened (e 0 1) (s 1) (d 1) (p 1) None (codes "http://a.test/")) []
    ∷ by_ui (rows.Accepted (r 1) (Some (d 1)) (requests.Poke (n 0) (actions.Push (Some (codes "s")) (Some (codes "/1"))))) (sent 1 1 0 2 (whys.Req (r 1)) (tasks.Populate (n 0) (s 1) (codes "http://a.test/") false) ∷ [])
    ∷ []

pub needs_document_1_is_refused : IsLegal (log_of needs_document_1) → ⊥
unfolding url_on_literals is_web is_blank_url judged judged_parse read_against address_of url_of resolved with_fragment base_of fragment_of origin_text origin_of has_same_base is_rewritable events_of each_event after_opening AtEachEvent is_numbered opens is_formed is_once is_caused is_queued is_ordered is_checked ends_settled loads_end ends_told ends_stepped goes_in_time
needs_document_1_is_refused holds = false≢true holds.ordered

-- needs_document: without conjunct `not (is_being_made d)`, `ordered` would hold.
abbrev pub needs_document_2 : List Event
needs_document_2 =
    before 26 reload_of_a_hidden_frame
    ++ by_coord (rows.Delivered (p 1)) (rows.Refused (r 4) denials.NoDocument ∷ sent 8 1 0 5 (whys.Req (r 4)) (tasks.Populate (n 0) (s 3) (codes "http://a.test/1") false) ∷ [])
    ∷ []

pub needs_document_2_is_refused : IsLegal (log_of needs_document_2) → ⊥
unfolding url_on_literals is_web is_blank_url judged judged_parse read_against address_of url_of resolved with_fragment base_of fragment_of origin_text origin_of has_same_base is_rewritable events_of each_event after_opening AtEachEvent is_numbered opens is_formed is_once is_caused is_queued is_ordered is_checked ends_settled loads_end ends_told ends_stepped goes_in_time
needs_document_2_is_refused holds = false≢true holds.ordered

-- populates_load: loads_there: without conjunct `bytes_eq a address`, `ordered` would hold.
abbrev pub populates_load_1 : List Event
populates_load_1 =
    by_start (rows.Opened (e 0 1) (s 1) (d 1) (p 1) None (codes "http://a.test/")) []
    ∷ by_ui (rows.Accepted (r 1) None (requests.Load (n 0) modes.Auto (codes "http://a.test/1"))) (rows.Started (r 1) None ∷ sent 1 1 0 2 (whys.Req (r 1)) (tasks.Populate (n 0) (s 2) (codes "http://a.test/") false) ∷ [])
    ∷ []

pub populates_load_1_is_refused : IsLegal (log_of populates_load_1) → ⊥
unfolding url_on_literals is_web is_blank_url judged judged_parse read_against address_of url_of resolved with_fragment base_of fragment_of origin_text origin_of has_same_base is_rewritable events_of each_event after_opening AtEachEvent is_numbered opens is_formed is_once is_caused is_queued is_ordered is_checked ends_settled loads_end ends_told ends_stepped goes_in_time
populates_load_1_is_refused holds = false≢true holds.ordered

-- populates_load: loads_there: without conjunct `n.0 == nav.0`, `ordered` would hold.
abbrev pub populates_load_2 : List Event
populates_load_2 =
    by_start (rows.Opened (e 0 1) (s 1) (d 1) (p 1) None (codes "http://a.test/")) []
    ∷ by_ui (rows.Accepted (r 1) None (requests.Load (n 1) modes.Auto (codes "http://a.test/1"))) (rows.Started (r 1) None ∷ sent 1 1 0 2 (whys.Req (r 1)) (tasks.Populate (n 0) (s 2) (codes "http://a.test/1") false) ∷ [])
    ∷ []

pub populates_load_2_is_refused : IsLegal (log_of populates_load_2) → ⊥
unfolding url_on_literals is_web is_blank_url judged judged_parse read_against address_of url_of resolved with_fragment base_of fragment_of origin_text origin_of has_same_base is_rewritable events_of each_event after_opening AtEachEvent is_numbered opens is_formed is_once is_caused is_queued is_ordered is_checked ends_settled loads_end ends_told ends_stepped goes_in_time
populates_load_2_is_refused holds = false≢true holds.ordered

-- populates_load: without conjunct `has_passed s q`, `ordered` would hold.
abbrev pub populates_load_3 : List Event
populates_load_3 =
    before 15 load_behind_an_answer
    ++ by_proc 1 (rows.Finished (p 1) (j 4) (outcomes.Asked verdicts.Prompt)) (sent 5 1 0 3 (whys.Req (r 3)) (tasks.Populate (n 0) (s 3) (codes "http://a.test/2") false) ∷ [])
    ∷ []

pub populates_load_3_is_refused : IsLegal (log_of populates_load_3) → ⊥
unfolding url_on_literals is_web is_blank_url judged judged_parse read_against address_of url_of resolved with_fragment base_of fragment_of origin_text origin_of has_same_base is_rewritable events_of each_event after_opening AtEachEvent is_numbered opens is_formed is_once is_caused is_queued is_ordered is_checked ends_settled loads_end ends_told ends_stepped goes_in_time
populates_load_3_is_refused holds = false≢true holds.ordered

-- populates_load: without conjunct `not initial`, `ordered` would hold.
abbrev pub populates_load_4 : List Event
populates_load_4 =
    by_start (rows.Opened (e 0 1) (s 1) (d 1) (p 1) None (codes "http://a.test/")) []
    ∷ by_ui (rows.Accepted (r 1) None (requests.Load (n 0) modes.Push (codes "about:blank"))) (rows.Started (r 1) (Some (t 1)) ∷ sent 1 1 0 2 (whys.Req (r 1)) (tasks.Populate (n 0) (s 2) (codes "about:blank") true) ∷ [])
    ∷ []

pub populates_load_4_is_refused : IsLegal (log_of populates_load_4) → ⊥
unfolding url_on_literals is_web is_blank_url judged judged_parse read_against address_of url_of resolved with_fragment base_of fragment_of origin_text origin_of has_same_base is_rewritable events_of each_event after_opening AtEachEvent is_numbered opens is_formed is_once is_caused is_queued is_ordered is_checked ends_settled loads_end ends_told ends_stepped goes_in_time
populates_load_4_is_refused holds = false≢true holds.ordered

-- populates_target: without conjunct `bytes_eq row.address address`, `ordered` would hold.
abbrev pub populates_target_1 : List Event
populates_target_1 =
    before 9 push_after_a_death
    ++ by_ui (rows.Accepted (r 2) None (requests.Poke (n 0) (actions.Push (Some (codes "t")) (Some (codes "/2"))))) (rows.Refused (r 2) denials.NoDocument ∷ sent 2 1 1 2 (whys.Req (r 1)) (tasks.Populate (n 0) (s 1) (codes "http://a.test/") false) ∷ [])
    ∷ []

pub populates_target_1_is_refused : IsLegal (log_of populates_target_1) → ⊥
unfolding url_on_literals is_web is_blank_url judged judged_parse read_against address_of url_of resolved with_fragment base_of fragment_of origin_text origin_of has_same_base is_rewritable events_of each_event after_opening AtEachEvent is_numbered opens is_formed is_once is_caused is_queued is_ordered is_checked ends_settled loads_end ends_told ends_stepped goes_in_time
populates_target_1_is_refused holds = false≢true holds.ordered

-- populates_target: without conjunct `is_shown s.history.rows (aim_of s) nav`, `ordered` would hold.
abbrev pub populates_target_2 : List Event
populates_target_2 =
    before 3 held_back_push
    ++ by_coord (rows.Delivered (p 1)) (rows.Applied (r 1) (changes.AddFrame (s 2) (n 1) (e 0 2) (s 2)) ∷ sent 1 1 0 2 (whys.Req (r 1)) (tasks.Populate (n 1) (s 2) (codes "about:blank") true) ∷ [])
    ∷ []

pub populates_target_2_is_refused : IsLegal (log_of populates_target_2) → ⊥
unfolding url_on_literals is_web is_blank_url judged judged_parse read_against address_of url_of resolved with_fragment base_of fragment_of origin_text origin_of has_same_base is_rewritable events_of each_event after_opening AtEachEvent is_numbered opens is_formed is_once is_caused is_queued is_ordered is_checked ends_settled loads_end ends_told ends_stepped goes_in_time
populates_target_2_is_refused holds = false≢true holds.ordered

-- displaces: is_of_nav: without test `d.nav.0 == nav.0`, `ordered` would hold.
abbrev pub displaces_1 : List Event
displaces_1 =
    before 67 held_back_push_and_removal
    ++ by_ui (rows.Accepted (r 7) None (requests.Go (negsuc 1))) (rows.Started (r 7) (Some (t 0)) ∷ sent 19 1 0 3 (whys.Req (r 7)) (tasks.Activate (e 0 3) (epoch 3) 3 0 None (codes "http://a.test/p0")) ∷ sent 20 1 0 6 (whys.Req (r 7)) tasks.Freeze ∷ [])
    ∷ []

pub displaces_1_is_refused : IsLegal (log_of displaces_1) → ⊥
unfolding url_on_literals is_web is_blank_url judged judged_parse read_against address_of url_of resolved with_fragment base_of fragment_of origin_text origin_of has_same_base is_rewritable events_of each_event after_opening AtEachEvent is_numbered opens is_formed is_once is_caused is_queued is_ordered is_checked ends_settled loads_end ends_told ends_stepped goes_in_time
displaces_1_is_refused holds = false≢true holds.ordered

-- A frame of the second document is shown its entry at the step of the first. first_step: without test `row.state.0 == state.0`, `ordered` would hold.
abbrev pub frame_shown_before_its_first_step : List Event
frame_shown_before_its_first_step =
    before 11 evicted_documents
    ++ by_ui (rows.Accepted (r 2) (Some (d 2)) (requests.Poke (n 0) (actions.AddFrame (n 1)))) []
    ∷ by_proc 1 (made 1 2 2 2 (whats.AddFrame (n 1))) []
    ∷ by_coord (rows.Delivered (p 1)) (rows.Applied (r 2) (changes.AddFrame (s 2) (n 1) (e 0 3) (s 3)) ∷ sent 4 1 0 3 (whys.Req (r 2)) (tasks.Populate (n 1) (s 3) (codes "about:blank") true) ∷ [])
    ∷ by_proc 1 (rows.Taken (p 1) (j 4) true false) []
    ∷ by_proc 1 (rows.Finished (p 1) (j 4) (outcomes.Populated None)) []
    ∷ by_coord (rows.Delivered (p 1)) (sent 5 1 0 3 (whys.Req (r 2)) (tasks.Activate (e 0 3) (epoch 1) 2 1 None (codes "about:blank")) ∷ [])
    ∷ by_proc 1 (rows.Taken (p 1) (j 5) true false) []
    ∷ by_proc 1 (rows.Finished (p 1) (j 5) outcomes.Activated) []
    ∷ by_coord (rows.Delivered (p 1)) []
    ∷ by_ui (rows.Accepted (r 3) None (requests.Go (negsuc 0))) (rows.Started (r 3) (Some (t 0)) ∷ sent 6 1 0 2 (whys.Req (r 3)) tasks.Freeze ∷ sent 7 1 0 3 (whys.Req (r 3)) tasks.Freeze ∷ sent 8 1 0 1 (whys.Req (r 3)) (tasks.Activate (e 0 1) (epoch 3) 2 0 None (codes "http://a.test/")) ∷ [])
    ∷ by_proc 1 (rows.Taken (p 1) (j 6) true false) []
    ∷ by_proc 1 (rows.Finished (p 1) (j 6) outcomes.Frozen) []
    ∷ by_coord (rows.Delivered (p 1)) []
    ∷ by_proc 1 (rows.Taken (p 1) (j 7) true false) []
    ∷ by_proc 1 (rows.Finished (p 1) (j 7) outcomes.Frozen) []
    ∷ by_coord (rows.Delivered (p 1)) []
    ∷ by_proc 1 (rows.Taken (p 1) (j 8) true false) []
    ∷ by_proc 1 (rows.Finished (p 1) (j 8) outcomes.Activated) []
    ∷ by_coord (rows.Delivered (p 1)) (rows.Applied (r 3) (changes.Traverse (t 0)) ∷ [])
    ∷ by_ui (rows.Accepted (r 4) None (requests.Go (pos 5))) (sent 9 1 0 3 (whys.Req (r 4)) (tasks.Activate (e 0 3) (epoch 9) 2 0 None (codes "about:blank")) ∷ [])
    ∷ []

pub frame_shown_before_its_first_step_is_refused : IsLegal (log_of frame_shown_before_its_first_step) → ⊥
unfolding url_on_literals is_web is_blank_url judged judged_parse read_against address_of url_of resolved with_fragment base_of fragment_of origin_text origin_of has_same_base is_rewritable events_of each_event after_opening AtEachEvent is_numbered opens is_formed is_once is_caused is_queued is_ordered is_checked ends_settled loads_end ends_told ends_stepped goes_in_time
frame_shown_before_its_first_step_is_refused holds = false≢true holds.ordered

-- The top document is discarded, and its frame is shown one. shows_another: by_task: without test `other.nav.0 == d.nav.0`, `ordered` would hold.
abbrev pub discarded_as_another_frame_is_shown : List Event
discarded_as_another_frame_is_shown =
    before 10 push_beside_a_frame
    ++ by_ui (rows.Accepted (r 2) None (requests.Go (pos 5))) (sent 3 1 0 1 (whys.Req (r 2)) tasks.Discard ∷ sent 4 1 0 2 (whys.Req (r 2)) (tasks.Activate (e 0 2) (epoch 2) 1 0 None (codes "about:blank")) ∷ [])
    ∷ []

pub discarded_as_another_frame_is_shown_is_refused : IsLegal (log_of discarded_as_another_frame_is_shown) → ⊥
unfolding url_on_literals is_web is_blank_url judged judged_parse read_against address_of url_of resolved with_fragment base_of fragment_of origin_text origin_of has_same_base is_rewritable events_of each_event after_opening AtEachEvent is_numbered opens is_formed is_once is_caused is_queued is_ordered is_checked ends_settled loads_end ends_told ends_stepped goes_in_time
discarded_as_another_frame_is_shown_is_refused holds = false≢true holds.ordered

-- A frame has the document state on which it hangs, and its dead document is discarded as below itself. is_below_gone: without conjunct `not (other.nr.0 == d.nr.0)`, `ordered` would hold.
abbrev pub discarded_as_below_itself : List Event
discarded_as_below_itself =
    before 3 push_beside_a_frame
    ++ by_coord (rows.Delivered (p 1)) (rows.Applied (r 1) (changes.AddFrame (s 1) (n 1) (e 0 2) (s 1)) ∷ [])
    ∷ by_ui (rows.Accepted (r 2) None (requests.Reload (n 1))) (rows.Started (r 2) None ∷ rows.Applied (r 2) (changes.Reload (n 1)) ∷ sent 1 2 0 2 (whys.Req (r 2)) (tasks.Populate (n 1) (s 1) (codes "about:blank") true) ∷ [])
    ∷ by_ui (rows.Killed (p 2) (x 1)) []
    ∷ by_coord (rows.Delivered (p 2)) (sent 2 2 1 2 (whys.Death (x 1)) tasks.Discard ∷ [])
    ∷ []

pub discarded_as_below_itself_is_refused : IsLegal (log_of discarded_as_below_itself) → ⊥
unfolding url_on_literals is_web is_blank_url judged judged_parse read_against address_of url_of resolved with_fragment base_of fragment_of origin_text origin_of has_same_base is_rewritable events_of each_event after_opening AtEachEvent is_numbered opens is_formed is_once is_caused is_queued is_ordered is_checked ends_settled loads_end ends_told ends_stepped goes_in_time
discarded_as_below_itself_is_refused holds = false≢true holds.ordered

-- A kept document is evicted, and shown instead of discarded. is_evicted_duly: discards: without conjunct `is_discard job.task`, `ordered` would hold.
abbrev pub evicted_and_shown : List Event
evicted_and_shown =
    before 11 evicted_documents
    ++ by_ui (rows.Evicted (s 1)) (rows.Accepted (r 2) None (requests.Go (negsuc 0)) ∷ rows.Started (r 2) (Some (t 0)) ∷ sent 4 1 0 1 (whys.Req (r 2)) (tasks.Activate (e 0 1) (epoch 3) 2 0 None (codes "http://a.test/")) ∷ [])
    ∷ []

pub evicted_and_shown_is_refused : IsLegal (log_of evicted_and_shown) → ⊥
unfolding url_on_literals is_web is_blank_url judged judged_parse read_against address_of url_of resolved with_fragment base_of fragment_of origin_text origin_of has_same_base is_rewritable events_of each_event after_opening AtEachEvent is_numbered opens is_formed is_once is_caused is_queued is_ordered is_checked ends_settled loads_end ends_told ends_stepped goes_in_time
evicted_and_shown_is_refused holds = false≢true holds.ordered

-- The document of a frame is asked in the place of the one that has a handler. same_question: without conjunct `a.0.0 == b.0.0`, `ordered` would hold.
abbrev pub another_document_asked : List Event
another_document_asked =
    by_start (rows.Opened (e 0 1) (s 1) (d 1) (p 1) (Some 1) (codes "http://a.test/")) []
    ∷ by_ui (rows.Accepted (r 1) (Some (d 1)) (requests.Poke (n 0) (actions.AddFrame (n 1)))) []
    ∷ by_proc 1 (made 1 1 1 1 (whats.AddFrame (n 1))) []
    ∷ by_coord (rows.Delivered (p 1)) (rows.Applied (r 1) (changes.AddFrame (s 1) (n 1) (e 0 2) (s 2)) ∷ sent 1 1 0 2 (whys.Req (r 1)) (tasks.Populate (n 1) (s 2) (codes "about:blank") true) ∷ [])
    ∷ by_proc 1 (rows.Taken (p 1) (j 1) true false) []
    ∷ by_proc 1 (rows.Finished (p 1) (j 1) (outcomes.Populated None)) []
    ∷ by_coord (rows.Delivered (p 1)) (sent 2 1 0 2 (whys.Req (r 1)) (tasks.Activate (e 0 2) (epoch 1) 1 0 None (codes "about:blank")) ∷ [])
    ∷ by_proc 1 (rows.Taken (p 1) (j 2) true false) []
    ∷ by_proc 1 (rows.Finished (p 1) (j 2) outcomes.Activated) []
    ∷ by_coord (rows.Delivered (p 1)) []
    ∷ by_ui (rows.Accepted (r 2) None (requests.Load (n 0) modes.Auto (codes "http://a.test/1"))) (rows.Started (r 2) None ∷ sent 3 1 0 2 (whys.Req (r 2)) (tasks.Ask 1 leavings.Load) ∷ [])
    ∷ []

pub another_document_asked_is_refused : IsLegal (log_of another_document_asked) → ⊥
unfolding url_on_literals is_web is_blank_url judged judged_parse read_against address_of url_of resolved with_fragment base_of fragment_of origin_text origin_of has_same_base is_rewritable events_of each_event after_opening AtEachEvent is_numbered opens is_formed is_once is_caused is_queued is_ordered is_checked ends_settled loads_end ends_told ends_stepped goes_in_time
another_document_asked_is_refused holds = false≢true holds.ordered

-- A document is asked, and after another row once more. asks_at_once: without conjunct `same_list same_question (filter_map (question_in req) later) due`, `ordered` would hold.
abbrev pub asked_again_later : List Event
asked_again_later =
    by_start (rows.Opened (e 0 1) (s 1) (d 1) (p 1) (Some 1) (codes "http://a.test/")) []
    ∷ by_ui (rows.Accepted (r 1) None (requests.Load (n 0) modes.Auto (codes "http://a.test/1"))) (rows.Started (r 1) None ∷ sent 1 1 0 1 (whys.Req (r 1)) (tasks.Ask 1 leavings.Load) ∷ rows.Accepted (r 2) None (requests.Go (pos 5)) ∷ sent 2 1 0 1 (whys.Req (r 1)) (tasks.Ask 1 leavings.Load) ∷ [])
    ∷ []

pub asked_again_later_is_refused : IsLegal (log_of asked_again_later) → ⊥
unfolding url_on_literals is_web is_blank_url judged judged_parse read_against address_of url_of resolved with_fragment base_of fragment_of origin_text origin_of has_same_base is_rewritable events_of each_event after_opening AtEachEvent is_numbered opens is_formed is_once is_caused is_queued is_ordered is_checked ends_settled loads_end ends_told ends_stepped goes_in_time
asked_again_later_is_refused holds = false≢true holds.ordered
