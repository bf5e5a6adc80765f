-- Broken logs, each refused by the field `settled`.
-- A log is its events: those before one of another log, since one, or between two, and its own.
use Rattle.std.proofs.Common.{pos, true, false, List, [], ◌∷◌, ◌++◌, codes, Some, None}
use Rattle.std.proofs.lemmas.Bool.{false≢true}
use Rattle.url.proofs.OnLiterals.{url_on_literals}
use Rattle.address.specs.Addresses.{is_web, is_blank_url, judged, judged_parse, read_against, address_of, url_of, resolved, with_fragment, base_of, fragment_of, origin_text, origin_of, has_same_base, is_rewritable}
use Rattle.log_model.specs.declared.action.Action.TheVariants as actions
use Rattle.log_model.specs.declared.change.Change.TheVariants as changes
use Rattle.log_model.specs.declared.job.Task.TheVariants as tasks
use Rattle.log_model.specs.declared.job.Why.TheVariants as whys
use Rattle.log_model.specs.declared.made.What.TheVariants as whats
use Rattle.log_model.specs.declared.outcome.Cause.TheVariants as drops
use Rattle.log_model.specs.declared.outcome.Denial.TheVariants as denials
use Rattle.log_model.specs.declared.outcome.Outcome.TheVariants as outcomes
use Rattle.log_model.specs.declared.request.Mode.TheVariants as modes
use Rattle.log_model.specs.declared.request.Request.TheVariants as requests
use Rattle.log_model.specs.declared.row_kind.RowKind.TheVariants as rows
use Rattle.log_model.specs.Events.{events_of, each_event, after_opening, AtEachEvent}
use Rattle.log_model.specs.Formed.{is_numbered}
use Rattle.log_model.specs.Legal.{IsLegal, opens, is_formed, is_once, is_caused, is_queued, is_ordered, is_checked, ends_settled}
use Rattle.log_model.specs.LoadsEndInTime.{loads_end}
use Rattle.log_model.specs.ActsAtOnce.{ends_told, ends_stepped, goes_in_time}
use Rattle.log_examples.specs.Rows.{n, s, r, p, t, x, d, j, e, epoch, sent, made}
use Rattle.log_examples.specs.Logs.{Event, by_start, by_ui, by_coord, by_proc, log_of, before, between}
use Rattle.log_examples.proofs.Pushes.{replace_and_fragment, push_beside_a_frame, push_in_an_initial_document}
use Rattle.log_examples.proofs.Interleavings.{push_beside_a_running_traversal}
use Rattle.log_examples.proofs.Loads.{two_processes}
use Rattle.log_examples.proofs.Frames.{taken_number}
use Rattle.log_examples.proofs.Removals.{removal_and_push}
use Rattle.log_examples.proofs.Prompts.{load_behind_a_prompt, load_behind_an_answer}
use Rattle.log_examples.proofs.Deaths.{reload_after_a_death}

-- A push without the update of the frame beside it.
abbrev pub update_forgotten : List Event
update_forgotten =
    before 12 push_beside_a_frame
    ++ by_coord (rows.Delivered (p 1)) (rows.Applied (r 2) (changes.Push (n 0) (e 1 1) (s 1) (codes "http://a.test/1") (Some (codes "s"))) ∷ sent 3 1 0 1 (whys.Req (r 2)) (tasks.Update 2 1) ∷ [])
    ∷ between 13 16 push_beside_a_frame

pub update_forgotten_is_refused : IsLegal (log_of update_forgotten) → ⊥
unfolding url_on_literals is_web is_blank_url judged judged_parse read_against address_of url_of resolved with_fragment base_of fragment_of origin_text origin_of has_same_base is_rewritable events_of each_event after_opening AtEachEvent is_numbered opens is_formed is_once is_caused is_queued is_ordered is_checked ends_settled loads_end ends_told ends_stepped goes_in_time
update_forgotten_is_refused holds = false≢true holds.settled

-- A held back push and a removal without the update after them.
abbrev pub update_after_a_guess_forgotten : List Event
update_after_a_guess_forgotten =
    before 67 removal_and_push
    ++ by_coord (rows.Delivered (p 1)) (rows.Applied (r 6) (changes.Traverse (t 2)) ∷ rows.Applied (r 7) (changes.RemoveFrame (n 1)) ∷ rows.Applied (r 8) (changes.Push (n 0) (e 1 2) (s 1) (codes "http://a.test/y") (Some (codes "s"))) ∷ sent 18 1 0 3 (whys.Req (r 7)) tasks.Discard ∷ sent 19 1 0 4 (whys.Req (r 7)) tasks.Discard ∷ [])
    ∷ between 68 74 removal_and_push

pub update_after_a_guess_forgotten_is_refused : IsLegal (log_of update_after_a_guess_forgotten) → ⊥
unfolding url_on_literals is_web is_blank_url judged judged_parse read_against address_of url_of resolved with_fragment base_of fragment_of origin_text origin_of has_same_base is_rewritable events_of each_event after_opening AtEachEvent is_numbered opens is_formed is_once is_caused is_queued is_ordered is_checked ends_settled loads_end ends_told ends_stepped goes_in_time
update_after_a_guess_forgotten_is_refused holds = false≢true holds.settled

-- A traversal without an outcome.
abbrev pub traversal_forgotten : List Event
traversal_forgotten =
    by_start (rows.Opened (e 0 1) (s 1) (d 1) (p 1) None (codes "http://a.test/")) []
    ∷ by_ui (rows.Accepted (r 1) None (requests.Go (pos 5))) []
    ∷ []

pub traversal_forgotten_is_refused : IsLegal (log_of traversal_forgotten) → ⊥
unfolding url_on_literals is_web is_blank_url judged judged_parse read_against address_of url_of resolved with_fragment base_of fragment_of origin_text origin_of has_same_base is_rewritable events_of each_event after_opening AtEachEvent is_numbered opens is_formed is_once is_caused is_queued is_ordered is_checked ends_settled loads_end ends_told ends_stepped goes_in_time
traversal_forgotten_is_refused holds = false≢true holds.settled

-- A new frame whose document is never made.
abbrev pub frame_forgotten : List Event
frame_forgotten =
    before 3 taken_number
    ++ by_coord (rows.Delivered (p 1)) (rows.Applied (r 1) (changes.AddFrame (s 1) (n 1) (e 0 2) (s 2)) ∷ [])
    ∷ []

pub frame_forgotten_is_refused : IsLegal (log_of frame_forgotten) → ⊥
unfolding url_on_literals is_web is_blank_url judged judged_parse read_against address_of url_of resolved with_fragment base_of fragment_of origin_text origin_of has_same_base is_rewritable events_of each_event after_opening AtEachEvent is_numbered opens is_formed is_once is_caused is_queued is_ordered is_checked ends_settled loads_end ends_told ends_stepped goes_in_time
frame_forgotten_is_refused holds = false≢true holds.settled

-- desk_dropped: without test `not (poke.req.0 == req.0)`, `settled` would hold.
abbrev pub desk_dropped_1 : List Event
desk_dropped_1 =
    by_start (rows.Opened (e 0 1) (s 1) (d 1) (p 1) None (codes "http://a.test/")) []
    ∷ by_ui (rows.Accepted (r 1) (Some (d 1)) (requests.Poke (n 0) (actions.Push (Some (codes "s")) (Some (codes "/1"))))) []
    ∷ by_ui (rows.Answered (r 1) false) (rows.Dropped (r 1) (drops.Destroyed (r 1)) ∷ rows.Applied (r 2) (changes.Reload (n 0)) ∷ [])
    ∷ []

pub desk_dropped_1_is_refused : IsLegal (log_of desk_dropped_1) → ⊥
unfolding url_on_literals is_web is_blank_url judged judged_parse read_against address_of url_of resolved with_fragment base_of fragment_of origin_text origin_of has_same_base is_rewritable events_of each_event after_opening AtEachEvent is_numbered opens is_formed is_once is_caused is_queued is_ordered is_checked ends_settled loads_end ends_told ends_stepped goes_in_time
desk_dropped_1_is_refused holds = false≢true holds.settled

-- follows_finished: without conjunct `is_some s.just_finished`, `settled` would hold.
abbrev pub follows_finished_2 : List Event
follows_finished_2 =
    before 3 replace_and_fragment
    ++ by_proc 1 (made 1 1 1 1 whats.Edit) (made 1 1 1 1 whats.Edit ∷ [])
    ∷ []

pub follows_finished_2_is_refused : IsLegal (log_of follows_finished_2) → ⊥
unfolding url_on_literals is_web is_blank_url judged judged_parse read_against address_of url_of resolved with_fragment base_of fragment_of origin_text origin_of has_same_base is_rewritable events_of each_event after_opening AtEachEvent is_numbered opens is_formed is_once is_caused is_queued is_ordered is_checked ends_settled loads_end ends_told ends_stepped goes_in_time
follows_finished_2_is_refused holds = false≢true holds.settled

-- replaced_row: without conjunct `same_entry row.entry over`, `settled` would hold.
abbrev pub replaced_row_2 : List Event
replaced_row_2 =
    before 3 push_in_an_initial_document
    ++ by_coord (rows.Delivered (p 1)) (rows.Applied (r 1) (changes.Replace (n 0) (e 0 0) (e 1 1) (s 1) (codes "about:blank") (Some (codes "s"))) ∷ [])
    ∷ []

pub replaced_row_2_is_refused : IsLegal (log_of replaced_row_2) → ⊥
unfolding url_on_literals is_web is_blank_url judged judged_parse read_against address_of url_of resolved with_fragment base_of fragment_of origin_text origin_of has_same_base is_rewritable events_of each_event after_opening AtEachEvent is_numbered opens is_formed is_once is_caused is_queued is_ordered is_checked ends_settled loads_end ends_told ends_stepped goes_in_time
replaced_row_2_is_refused holds = false≢true holds.settled

-- is_prompt_up: without conjunct `is_none q.answered`, `settled` would hold.
abbrev pub is_prompt_up_1 : List Event
is_prompt_up_1 =
    before 18 load_behind_an_answer
    ++ by_proc 1 (rows.Taken (p 1) (j 5) true false) (rows.Taken (p 1) (j 5) true false ∷ [])
    ∷ []

pub is_prompt_up_1_is_refused : IsLegal (log_of is_prompt_up_1) → ⊥
unfolding url_on_literals is_web is_blank_url judged judged_parse read_against address_of url_of resolved with_fragment base_of fragment_of origin_text origin_of has_same_base is_rewritable events_of each_event after_opening AtEachEvent is_numbered opens is_formed is_once is_caused is_queued is_ordered is_checked ends_settled loads_end ends_told ends_stepped goes_in_time
is_prompt_up_1_is_refused holds = false≢true holds.settled

-- is_prompt_up: without conjunct `not (holds is_drop q.ending)`, `settled` would hold.
abbrev pub is_prompt_up_2 : List Event
is_prompt_up_2 =
    before 24 load_behind_a_prompt
    ++ by_coord (rows.Delivered (p 1)) (rows.Applied (r 4) (changes.Push (n 1) (e 0 4) (s 3) (codes "http://a.test/p2") None) ∷ rows.Dropped (r 3) (drops.Gone (x 1)) ∷ [])
    ∷ []

pub is_prompt_up_2_is_refused : IsLegal (log_of is_prompt_up_2) → ⊥
unfolding url_on_literals is_web is_blank_url judged judged_parse read_against address_of url_of resolved with_fragment base_of fragment_of origin_text origin_of has_same_base is_rewritable events_of each_event after_opening AtEachEvent is_numbered opens is_formed is_once is_caused is_queued is_ordered is_checked ends_settled loads_end ends_told ends_stepped goes_in_time
is_prompt_up_2_is_refused holds = false≢true holds.settled

-- is_at_target: without conjunct `has_target s s.history.current place`, `settled` would hold.
abbrev pub is_at_target_1 : List Event
is_at_target_1 =
    by_start (rows.Opened (e 0 1) (s 1) (d 1) (p 1) None (codes "http://a.test/")) []
    ∷ by_ui (rows.Evicted (s 1)) (rows.Applied (r 1) (changes.AddFrame (s 1) (n 0) (e 0 2) (s 2)) ∷ [])
    ∷ []

pub is_at_target_1_is_refused : IsLegal (log_of is_at_target_1) → ⊥
unfolding url_on_literals is_web is_blank_url judged judged_parse read_against address_of url_of resolved with_fragment base_of fragment_of origin_text origin_of has_same_base is_rewritable events_of each_event after_opening AtEachEvent is_numbered opens is_formed is_once is_caused is_queued is_ordered is_checked ends_settled loads_end ends_told ends_stepped goes_in_time
is_at_target_1_is_refused holds = false≢true holds.settled

-- is_document_of: without conjunct `d.state.0 == row.state.0`, `settled` would hold.
abbrev pub is_document_of_1 : List Event
is_document_of_1 =
    before 3 push_in_an_initial_document
    ++ by_coord (rows.Delivered (p 1)) (rows.Applied (r 1) (changes.Replace (n 0) (e 0 1) (e 1 1) (s 3) (codes "about:blank") (Some (codes "s"))) ∷ [])
    ∷ []

pub is_document_of_1_is_refused : IsLegal (log_of is_document_of_1) → ⊥
unfolding url_on_literals is_web is_blank_url judged judged_parse read_against address_of url_of resolved with_fragment base_of fragment_of origin_text origin_of has_same_base is_rewritable events_of each_event after_opening AtEachEvent is_numbered opens is_formed is_once is_caused is_queued is_ordered is_checked ends_settled loads_end ends_told ends_stepped goes_in_time
is_document_of_1_is_refused holds = false≢true holds.settled

-- is_document_settled: without conjunct `not (is_lost s place)`, `settled` would hold.
abbrev pub is_document_settled_1 : List Event
is_document_settled_1 =
    before 38 reload_after_a_death
    ++ by_proc 2 (rows.Taken (p 2) (j 11) false false) []
    ∷ []

pub is_document_settled_1_is_refused : IsLegal (log_of is_document_settled_1) → ⊥
unfolding url_on_literals is_web is_blank_url judged judged_parse read_against address_of url_of resolved with_fragment base_of fragment_of origin_text origin_of has_same_base is_rewritable events_of each_event after_opening AtEachEvent is_numbered opens is_formed is_once is_caused is_queued is_ordered is_checked ends_settled loads_end ends_told ends_stepped goes_in_time
is_document_settled_1_is_refused holds = false≢true holds.settled

-- is_settled: without conjunct `list_all (is_document_settled s) s.documents`, `settled` would hold.
abbrev pub is_settled_1 : List Event
is_settled_1 =
    before 9 taken_number
    ++ by_coord (rows.Delivered (p 1)) (rows.Applied (r 1) (changes.RemoveFrame (n 1)) ∷ [])
    ∷ []

pub is_settled_1_is_refused : IsLegal (log_of is_settled_1) → ⊥
unfolding url_on_literals is_web is_blank_url judged judged_parse read_against address_of url_of resolved with_fragment base_of fragment_of origin_text origin_of has_same_base is_rewritable events_of each_event after_opening AtEachEvent is_numbered opens is_formed is_once is_caused is_queued is_ordered is_checked ends_settled loads_end ends_told ends_stepped goes_in_time
is_settled_1_is_refused holds = false≢true holds.settled

-- runs_target: is_one: were equation 2 true, `settled` would hold.
abbrev pub runs_target_1 : List Event
runs_target_1 =
    before 15 two_processes
    ++ by_proc 2 (rows.Taken (p 2) (j 4) true false) (rows.Taken (p 2) (j 4) true false ∷ [])
    ∷ []

pub runs_target_1_is_refused : IsLegal (log_of runs_target_1) → ⊥
unfolding url_on_literals is_web is_blank_url judged judged_parse read_against address_of url_of resolved with_fragment base_of fragment_of origin_text origin_of has_same_base is_rewritable events_of each_event after_opening AtEachEvent is_numbered opens is_formed is_once is_caused is_queued is_ordered is_checked ends_settled loads_end ends_told ends_stepped goes_in_time
runs_target_1_is_refused holds = false≢true holds.settled

-- shows: without conjunct `same_entry view.entry row.entry`, `settled` would hold.
abbrev pub shows_1 : List Event
shows_1 =
    before 3 push_in_an_initial_document
    ++ by_coord (rows.Delivered (p 1)) (rows.Applied (r 1) (changes.Replace (n 0) (e 0 1) (e 0 1) (s 1) (codes "about:blank") (Some (codes "s"))) ∷ [])
    ∷ []

pub shows_1_is_refused : IsLegal (log_of shows_1) → ⊥
unfolding url_on_literals is_web is_blank_url judged judged_parse read_against address_of url_of resolved with_fragment base_of fragment_of origin_text origin_of has_same_base is_rewritable events_of each_event after_opening AtEachEvent is_numbered opens is_formed is_once is_caused is_queued is_ordered is_checked ends_settled loads_end ends_told ends_stepped goes_in_time
shows_1_is_refused holds = false≢true holds.settled

-- shows: without conjunct `same_memo view.memo row.memo`, `settled` would hold.
abbrev pub shows_2 : List Event
shows_2 =
    before 3 push_in_an_initial_document
    ++ by_coord (rows.Delivered (p 1)) (rows.Applied (r 1) (changes.Replace (n 0) (e 0 1) (e 1 1) (s 1) (codes "about:blank") None) ∷ [])
    ∷ []

pub shows_2_is_refused : IsLegal (log_of shows_2) → ⊥
unfolding url_on_literals is_web is_blank_url judged judged_parse read_against address_of url_of resolved with_fragment base_of fragment_of origin_text origin_of has_same_base is_rewritable events_of each_event after_opening AtEachEvent is_numbered opens is_formed is_once is_caused is_queued is_ordered is_checked ends_settled loads_end ends_told ends_stepped goes_in_time
shows_2_is_refused holds = false≢true holds.settled

-- A reload is met by the document that was there before it. applied_to: were equation 3 left out, `settled` would hold.
abbrev pub reload_met_by_the_old_document : List Event
reload_met_by_the_old_document =
    by_start (rows.Opened (e 0 1) (s 1) (d 1) (p 1) None (codes "http://a.test/")) []
    ∷ by_ui (rows.Accepted (r 1) None (requests.Reload (n 0))) (rows.Started (r 1) None ∷ rows.Applied (r 1) (changes.Reload (n 0)) ∷ sent 1 1 0 1 (whys.Req (r 1)) (tasks.Activate (e 0 1) (epoch 2) 1 0 None (codes "http://a.test/")) ∷ [])
    ∷ by_proc 1 (rows.Taken (p 1) (j 1) true false) []
    ∷ by_proc 1 (rows.Finished (p 1) (j 1) outcomes.Activated) []
    ∷ by_coord (rows.Delivered (p 1)) []
    ∷ []

pub reload_met_by_the_old_document_is_refused : IsLegal (log_of reload_met_by_the_old_document) → ⊥
unfolding url_on_literals is_web is_blank_url judged judged_parse read_against address_of url_of resolved with_fragment base_of fragment_of origin_text origin_of has_same_base is_rewritable events_of each_event after_opening AtEachEvent is_numbered opens is_formed is_once is_caused is_queued is_ordered is_checked ends_settled loads_end ends_told ends_stepped goes_in_time
reload_met_by_the_old_document_is_refused holds = false≢true holds.settled

-- A frame is added once more, below a lost one, which is removed and then reloaded. has_lost_document: without conjunct `not place.is_pending`, `settled` would hold.
abbrev pub frame_below_a_removed_lost_one : List Event
frame_below_a_removed_lost_one =
    before 19 push_beside_a_running_traversal
    ++ by_ui (rows.Accepted (r 3) None (requests.Load (n 2) modes.Auto (codes "http://b.test/f"))) (rows.Started (r 3) None ∷ sent 5 2 0 4 (whys.Req (r 3)) (tasks.Populate (n 2) (s 4) (codes "http://b.test/f") false) ∷ [])
    ∷ by_proc 2 (rows.Taken (p 2) (j 5) true false) []
    ∷ by_proc 2 (rows.Finished (p 2) (j 5) (outcomes.Populated None)) []
    ∷ by_coord (rows.Delivered (p 2)) (rows.Applied (r 3) (changes.Replace (n 2) (e 0 3) (e 0 4) (s 4) (codes "http://b.test/f") None) ∷ sent 6 1 0 3 (whys.Req (r 3)) tasks.Discard ∷ sent 7 2 0 4 (whys.Req (r 3)) (tasks.Activate (e 0 4) (epoch 2) 1 0 None (codes "http://b.test/f")) ∷ [])
    ∷ by_proc 1 (rows.Taken (p 1) (j 6) true false) []
    ∷ by_proc 1 (rows.Finished (p 1) (j 6) outcomes.Discarded) []
    ∷ by_coord (rows.Delivered (p 1)) []
    ∷ by_proc 2 (rows.Taken (p 2) (j 7) true false) []
    ∷ by_proc 2 (rows.Finished (p 2) (j 7) outcomes.Activated) []
    ∷ by_coord (rows.Delivered (p 2)) []
    ∷ by_ui (rows.Killed (p 2) (x 1)) []
    ∷ by_coord (rows.Delivered (p 2)) []
    ∷ by_ui (rows.Accepted (r 4) None (requests.Reload (n 2))) (rows.Applied (r 1) (changes.AddFrame (s 4) (n 1) (e 0 5) (s 5)) ∷ rows.Applied (r 4) (changes.RemoveFrame (n 2)) ∷ rows.Accepted (r 5) None (requests.Reload (n 2)) ∷ rows.Applied (r 5) (changes.Reload (n 2)) ∷ [])
    ∷ []

pub frame_below_a_removed_lost_one_is_refused : IsLegal (log_of frame_below_a_removed_lost_one) → ⊥
unfolding url_on_literals is_web is_blank_url judged judged_parse read_against address_of url_of resolved with_fragment base_of fragment_of origin_text origin_of has_same_base is_rewritable events_of each_event after_opening AtEachEvent is_numbered opens is_formed is_once is_caused is_queued is_ordered is_checked ends_settled loads_end ends_told ends_stepped goes_in_time
frame_below_a_removed_lost_one_is_refused holds = false≢true holds.settled

-- A document is shown its entry under another address. shows: without conjunct `bytes_eq view.address row.address`, `settled` would hold.
abbrev pub shown_under_another_address : List Event
shown_under_another_address =
    by_start (rows.Opened (e 0 1) (s 1) (d 1) (p 1) None (codes "http://a.test/")) []
    ∷ by_ui (rows.Accepted (r 1) None (requests.Go (pos 5))) (rows.Refused (r 1) denials.NoStep ∷ sent 1 1 0 1 (whys.Req (r 1)) (tasks.Activate (e 0 1) (epoch 2) 1 0 None (codes "http://a.test/x")) ∷ [])
    ∷ by_proc 1 (rows.Taken (p 1) (j 1) true false) []
    ∷ by_proc 1 (rows.Finished (p 1) (j 1) outcomes.Activated) []
    ∷ by_coord (rows.Delivered (p 1)) []
    ∷ []

pub shown_under_another_address_is_refused : IsLegal (log_of shown_under_another_address) → ⊥
unfolding url_on_literals is_web is_blank_url judged judged_parse read_against address_of url_of resolved with_fragment base_of fragment_of origin_text origin_of has_same_base is_rewritable events_of each_event after_opening AtEachEvent is_numbered opens is_formed is_once is_caused is_queued is_ordered is_checked ends_settled loads_end ends_told ends_stepped goes_in_time
shown_under_another_address_is_refused holds = false≢true holds.settled
