-- Broken logs, each refused by the field `once`, that each tell one sentence of a definition.
-- A log is its events: those before one of another log, since one, or between two, and its own.
use Rattle.std.proofs.Common.{pos, negsuc, true, false, List, [], ◌∷◌, ◌++◌, codes, Some, None}
use Rattle.std.proofs.lemmas.Bool.{false≢true}
use Rattle.url.proofs.OnLiterals.{url_on_literals}
use Rattle.address.specs.Addresses.{is_web, is_blank_url, judged, judged_parse, read_against, address_of, url_of, resolved, with_fragment, base_of, fragment_of, origin_text, origin_of, has_same_base, is_rewritable}
use Rattle.log_model.specs.declared.action.Action.TheVariants as actions
use Rattle.log_model.specs.declared.change.Change.TheVariants as changes
use Rattle.log_model.specs.declared.handler.LeaveCause.TheVariants as leavings
use Rattle.log_model.specs.declared.job.Task.TheVariants as tasks
use Rattle.log_model.specs.declared.job.Why.TheVariants as whys
use Rattle.log_model.specs.declared.made.What.TheVariants as whats
use Rattle.log_model.specs.declared.outcome.Cause.TheVariants as drops
use Rattle.log_model.specs.declared.outcome.Denial.TheVariants as denials
use Rattle.log_model.specs.declared.outcome.Outcome.TheVariants as outcomes
use Rattle.log_model.specs.declared.request.Mode.TheVariants as modes
use Rattle.log_model.specs.declared.request.Request.TheVariants as requests
use Rattle.log_model.specs.declared.row_kind.RowKind.TheVariants as rows
use Rattle.log_model.specs.Events.{events_of, each_event, after_opening, AtEachEvent}
use Rattle.log_model.specs.Formed.{is_numbered}
use Rattle.log_model.specs.Legal.{IsLegal, opens, is_formed, is_once, is_caused, is_queued, is_ordered, is_checked, ends_settled}
use Rattle.log_model.specs.LoadsEndInTime.{loads_end}
use Rattle.log_model.specs.ActsAtOnce.{ends_told, ends_stepped, goes_in_time}
use Rattle.log_examples.specs.Rows.{n, s, r, p, t, d, j, e, epoch, sent, made}
use Rattle.log_examples.specs.Logs.{Event, by_start, by_ui, by_coord, by_proc, log_of, before}
use Rattle.log_examples.proofs.Pushes.{three_pushes, replace_and_fragment, push_beside_a_frame, push_in_an_initial_document, push_to_another_origin}
use Rattle.log_examples.proofs.Traversals.{document_goes_back, push_under_an_old_epoch}
use Rattle.log_examples.proofs.Interleavings.{push_beside_a_running_traversal}
use Rattle.log_examples.proofs.Loads.{evicted_documents}
use Rattle.log_examples.proofs.Frames.{taken_number}
use Rattle.log_examples.proofs.Removals.{removed_frame, removal_of_a_frame_of_another, push_of_a_removed_frame, push_of_a_removed_frame_behind_another}
use Rattle.log_examples.proofs.Prompts.{stay, load_behind_a_prompt, hidden_frame_is_asked}
use Rattle.log_examples.proofs.Deaths.{reload_after_a_death}
use Rattle.log_examples.proofs.Pending.{two_pushes_on_their_way, push_behind_a_traversal, traversal_beside_a_push, load_over_a_frame}

-- same_change: were equation 3 true, `once` would hold.
abbrev pub same_change_1 : List Event
same_change_1 =
    before 11 push_behind_a_traversal
    ++ by_coord (rows.Delivered (p 1)) (rows.Applied (r 2) (changes.Traverse (t 1)) ∷ [])
    ∷ []

pub same_change_1_is_refused : IsLegal (log_of same_change_1) → ⊥
unfolding url_on_literals is_web is_blank_url judged judged_parse read_against address_of url_of resolved with_fragment base_of fragment_of origin_text origin_of has_same_base is_rewritable events_of each_event after_opening AtEachEvent is_numbered opens is_formed is_once is_caused is_queued is_ordered is_checked ends_settled loads_end ends_told ends_stepped goes_in_time
same_change_1_is_refused holds = false≢true holds.once

-- same_change: were equation 4 true, `once` would hold.
abbrev pub same_change_2 : List Event
same_change_2 =
    before 42 reload_after_a_death
    ++ by_ui (rows.Accepted (r 5) None (requests.Reload (n 0))) (rows.Started (r 5) None ∷ rows.Applied (r 5) (changes.Reload (n 1)) ∷ sent 12 1 1 5 (whys.Req (r 5)) (tasks.Populate (n 0) (s 1) (codes "http://a.test/") false) ∷ [])
    ∷ []

pub same_change_2_is_refused : IsLegal (log_of same_change_2) → ⊥
unfolding url_on_literals is_web is_blank_url judged judged_parse read_against address_of url_of resolved with_fragment base_of fragment_of origin_text origin_of has_same_base is_rewritable events_of each_event after_opening AtEachEvent is_numbered opens is_formed is_once is_caused is_queued is_ordered is_checked ends_settled loads_end ends_told ends_stepped goes_in_time
same_change_2_is_refused holds = false≢true holds.once

-- same_change: without conjunct `n.0 == n'.0`, `once` would hold.
abbrev pub same_change_3 : List Event
same_change_3 =
    before 3 load_over_a_frame
    ++ by_coord (rows.Delivered (p 1)) (rows.Applied (r 1) (changes.AddFrame (s 1) (n 2) (e 0 2) (s 2)) ∷ sent 1 1 0 2 (whys.Req (r 1)) (tasks.Populate (n 1) (s 2) (codes "about:blank") true) ∷ [])
    ∷ []

pub same_change_3_is_refused : IsLegal (log_of same_change_3) → ⊥
unfolding url_on_literals is_web is_blank_url judged judged_parse read_against address_of url_of resolved with_fragment base_of fragment_of origin_text origin_of has_same_base is_rewritable events_of each_event after_opening AtEachEvent is_numbered opens is_formed is_once is_caused is_queued is_ordered is_checked ends_settled loads_end ends_told ends_stepped goes_in_time
same_change_3_is_refused holds = false≢true holds.once

-- same_change: without conjunct `o.0 == o'.0`, `once` would hold.
abbrev pub same_change_4 : List Event
same_change_4 =
    before 14 load_behind_a_prompt
    ++ by_coord (rows.Delivered (p 1)) (rows.Applied (r 2) (changes.AddFrame (s 1) (n 1) (e 0 3) (s 3)) ∷ sent 5 1 0 3 (whys.Req (r 2)) (tasks.Populate (n 1) (s 3) (codes "about:blank") true) ∷ [])
    ∷ []

pub same_change_4_is_refused : IsLegal (log_of same_change_4) → ⊥
unfolding url_on_literals is_web is_blank_url judged judged_parse read_against address_of url_of resolved with_fragment base_of fragment_of origin_text origin_of has_same_base is_rewritable events_of each_event after_opening AtEachEvent is_numbered opens is_formed is_once is_caused is_queued is_ordered is_checked ends_settled loads_end ends_told ends_stepped goes_in_time
same_change_4_is_refused holds = false≢true holds.once

-- same_change: without conjunct `same_entry e e'`, `once` would hold.
abbrev pub same_change_5 : List Event
same_change_5 =
    before 3 push_beside_a_frame
    ++ by_coord (rows.Delivered (p 1)) (rows.Applied (r 1) (changes.AddFrame (s 1) (n 1) (e 1 2) (s 2)) ∷ sent 1 1 0 2 (whys.Req (r 1)) (tasks.Populate (n 1) (s 2) (codes "about:blank") true) ∷ [])
    ∷ []

pub same_change_5_is_refused : IsLegal (log_of same_change_5) → ⊥
unfolding url_on_literals is_web is_blank_url judged judged_parse read_against address_of url_of resolved with_fragment base_of fragment_of origin_text origin_of has_same_base is_rewritable events_of each_event after_opening AtEachEvent is_numbered opens is_formed is_once is_caused is_queued is_ordered is_checked ends_settled loads_end ends_told ends_stepped goes_in_time
same_change_5_is_refused holds = false≢true holds.once

-- same_new_row: without conjunct `bytes_eq a a'`, `once` would hold.
abbrev pub same_new_row_1 : List Event
same_new_row_1 =
    before 4 replace_and_fragment
    ++ by_coord (rows.Delivered (p 1)) (rows.Applied (r 1) (changes.Replace (n 0) (e 0 1) (e 1 1) (s 1) (codes "http://a.test/#f0") (Some (codes "m"))) ∷ [])
    ∷ []

pub same_new_row_1_is_refused : IsLegal (log_of same_new_row_1) → ⊥
unfolding url_on_literals is_web is_blank_url judged judged_parse read_against address_of url_of resolved with_fragment base_of fragment_of origin_text origin_of has_same_base is_rewritable events_of each_event after_opening AtEachEvent is_numbered opens is_formed is_once is_caused is_queued is_ordered is_checked ends_settled loads_end ends_told ends_stepped goes_in_time
same_new_row_1_is_refused holds = false≢true holds.once

-- same_new_row: without conjunct `n.0 == n'.0`, `once` would hold.
abbrev pub same_new_row_2 : List Event
same_new_row_2 =
    before 12 push_beside_a_frame
    ++ by_coord (rows.Delivered (p 1)) (rows.Applied (r 2) (changes.Push (n 1) (e 1 1) (s 1) (codes "http://a.test/1") (Some (codes "s"))) ∷ sent 3 1 0 1 (whys.Req (r 2)) (tasks.Update 2 1) ∷ sent 4 1 0 2 (whys.Req (r 2)) (tasks.Update 2 1) ∷ [])
    ∷ []

pub same_new_row_2_is_refused : IsLegal (log_of same_new_row_2) → ⊥
unfolding url_on_literals is_web is_blank_url judged judged_parse read_against address_of url_of resolved with_fragment base_of fragment_of origin_text origin_of has_same_base is_rewritable events_of each_event after_opening AtEachEvent is_numbered opens is_formed is_once is_caused is_queued is_ordered is_checked ends_settled loads_end ends_told ends_stepped goes_in_time
same_new_row_2_is_refused holds = false≢true holds.once

-- same_new_row: without conjunct `s.0 == s'.0`, `once` would hold.
abbrev pub same_new_row_3 : List Event
same_new_row_3 =
    before 5 push_to_another_origin
    ++ by_coord (rows.Delivered (p 1)) (rows.Applied (r 2) (changes.Push (n 0) (e 1 1) (s 2) (codes "http://a.test/1") (Some (codes "s"))) ∷ sent 1 1 0 1 (whys.Req (r 2)) (tasks.Update 2 1) ∷ [])
    ∷ []

pub same_new_row_3_is_refused : IsLegal (log_of same_new_row_3) → ⊥
unfolding url_on_literals is_web is_blank_url judged judged_parse read_against address_of url_of resolved with_fragment base_of fragment_of origin_text origin_of has_same_base is_rewritable events_of each_event after_opening AtEachEvent is_numbered opens is_formed is_once is_caused is_queued is_ordered is_checked ends_settled loads_end ends_told ends_stepped goes_in_time
same_new_row_3_is_refused holds = false≢true holds.once

-- same_new_row: without conjunct `s.0 == s'.0`, `once` would hold.
abbrev pub same_new_row_4 : List Event
same_new_row_4 =
    before 3 push_in_an_initial_document
    ++ by_coord (rows.Delivered (p 1)) (rows.Applied (r 1) (changes.Replace (n 0) (e 0 1) (e 1 1) (s 3) (codes "about:blank") (Some (codes "s"))) ∷ [])
    ∷ []

pub same_new_row_4_is_refused : IsLegal (log_of same_new_row_4) → ⊥
unfolding url_on_literals is_web is_blank_url judged judged_parse read_against address_of url_of resolved with_fragment base_of fragment_of origin_text origin_of has_same_base is_rewritable events_of each_event after_opening AtEachEvent is_numbered opens is_formed is_once is_caused is_queued is_ordered is_checked ends_settled loads_end ends_told ends_stepped goes_in_time
same_new_row_4_is_refused holds = false≢true holds.once

-- same_new_row: without conjunct `same_entry e e'`, `once` would hold.
abbrev pub same_new_row_5 : List Event
same_new_row_5 =
    before 3 traversal_beside_a_push
    ++ by_coord (rows.Delivered (p 1)) (rows.Applied (r 1) (changes.Push (n 0) (e 1 2) (s 1) (codes "http://a.test/1") (Some (codes "s"))) ∷ sent 1 1 0 1 (whys.Req (r 1)) (tasks.Update 2 1) ∷ [])
    ∷ []

pub same_new_row_5_is_refused : IsLegal (log_of same_new_row_5) → ⊥
unfolding url_on_literals is_web is_blank_url judged judged_parse read_against address_of url_of resolved with_fragment base_of fragment_of origin_text origin_of has_same_base is_rewritable events_of each_event after_opening AtEachEvent is_numbered opens is_formed is_once is_caused is_queued is_ordered is_checked ends_settled loads_end ends_told ends_stepped goes_in_time
same_new_row_5_is_refused holds = false≢true holds.once

-- same_new_row: without conjunct `same_entry e e'`, `once` would hold.
abbrev pub same_new_row_6 : List Event
same_new_row_6 =
    before 3 push_in_an_initial_document
    ++ by_coord (rows.Delivered (p 1)) (rows.Applied (r 1) (changes.Replace (n 0) (e 0 1) (e 0 1) (s 1) (codes "about:blank") (Some (codes "s"))) ∷ [])
    ∷ []

pub same_new_row_6_is_refused : IsLegal (log_of same_new_row_6) → ⊥
unfolding url_on_literals is_web is_blank_url judged judged_parse read_against address_of url_of resolved with_fragment base_of fragment_of origin_text origin_of has_same_base is_rewritable events_of each_event after_opening AtEachEvent is_numbered opens is_formed is_once is_caused is_queued is_ordered is_checked ends_settled loads_end ends_told ends_stepped goes_in_time
same_new_row_6_is_refused holds = false≢true holds.once

-- same_new_row: without conjunct `same_entry o o'`, `once` would hold.
abbrev pub same_new_row_7 : List Event
same_new_row_7 =
    before 13 removed_frame
    ++ by_coord (rows.Delivered (p 1)) (sent 4 1 0 2 (whys.Req (r 2)) tasks.Discard ∷ sent 5 1 0 3 (whys.Req (r 2)) (tasks.Activate (e 0 3) (epoch 2) 1 0 None (codes "http://a.test/f1")) ∷ rows.Applied (r 2) (changes.Replace (n 1) (e 0 2) (e 0 3) (s 3) (codes "http://a.test/f1") None) ∷ [])
    ∷ []

pub same_new_row_7_is_refused : IsLegal (log_of same_new_row_7) → ⊥
unfolding url_on_literals is_web is_blank_url judged judged_parse read_against address_of url_of resolved with_fragment base_of fragment_of origin_text origin_of has_same_base is_rewritable events_of each_event after_opening AtEachEvent is_numbered opens is_formed is_once is_caused is_queued is_ordered is_checked ends_settled loads_end ends_told ends_stepped goes_in_time
same_new_row_7_is_refused holds = false≢true holds.once

-- same_new_row: without conjunct `same_memo m m'`, `once` would hold.
abbrev pub same_new_row_8 : List Event
same_new_row_8 =
    before 5 three_pushes
    ++ by_coord (rows.Delivered (p 1)) (rows.Applied (r 1) (changes.Push (n 0) (e 1 1) (s 1) (codes "http://a.test/1") (Some (codes "s2"))) ∷ sent 1 1 0 1 (whys.Req (r 1)) (tasks.Update 2 1) ∷ [])
    ∷ []

pub same_new_row_8_is_refused : IsLegal (log_of same_new_row_8) → ⊥
unfolding url_on_literals is_web is_blank_url judged judged_parse read_against address_of url_of resolved with_fragment base_of fragment_of origin_text origin_of has_same_base is_rewritable events_of each_event after_opening AtEachEvent is_numbered opens is_formed is_once is_caused is_queued is_ordered is_checked ends_settled loads_end ends_told ends_stepped goes_in_time
same_new_row_8_is_refused holds = false≢true holds.once

-- same_new_row: without conjunct `same_memo m m'`, `once` would hold.
abbrev pub same_new_row_9 : List Event
same_new_row_9 =
    before 3 push_in_an_initial_document
    ++ by_coord (rows.Delivered (p 1)) (rows.Applied (r 1) (changes.Replace (n 0) (e 0 1) (e 1 1) (s 1) (codes "about:blank") None) ∷ [])
    ∷ []

pub same_new_row_9_is_refused : IsLegal (log_of same_new_row_9) → ⊥
unfolding url_on_literals is_web is_blank_url judged judged_parse read_against address_of url_of resolved with_fragment base_of fragment_of origin_text origin_of has_same_base is_rewritable events_of each_event after_opening AtEachEvent is_numbered opens is_formed is_once is_caused is_queued is_ordered is_checked ends_settled loads_end ends_told ends_stepped goes_in_time
same_new_row_9_is_refused holds = false≢true holds.once

-- fits: were equation 2 true, `once` would hold.
abbrev pub fits_1 : List Event
fits_1 =
    before 16 push_of_a_removed_frame
    ++ by_proc 1 (rows.Finished (p 1) (j 3) outcomes.Discarded) (rows.Applied (r 3) (changes.Replace (n 1) (e 0 2) (e 2 1) (s 2) (codes "about:blank") (Some (codes "s"))) ∷ [])
    ∷ []

pub fits_1_is_refused : IsLegal (log_of fits_1) → ⊥
unfolding url_on_literals is_web is_blank_url judged judged_parse read_against address_of url_of resolved with_fragment base_of fragment_of origin_text origin_of has_same_base is_rewritable events_of each_event after_opening AtEachEvent is_numbered opens is_formed is_once is_caused is_queued is_ordered is_checked ends_settled loads_end ends_told ends_stepped goes_in_time
fits_1_is_refused holds = false≢true holds.once

-- is_applied_rightly: without conjunct `fits s.history change`, `once` would hold.
abbrev pub is_applied_rightly_1 : List Event
is_applied_rightly_1 =
    before 12 taken_number
    ++ by_ui (rows.Accepted (r 3) (Some (d 1)) (requests.Poke (n 0) actions.Edit)) (rows.Applied (r 2) (changes.AddFrame (s 1) (n 1) (e 0 3) (s 3)) ∷ [])
    ∷ []

pub is_applied_rightly_1_is_refused : IsLegal (log_of is_applied_rightly_1) → ⊥
unfolding url_on_literals is_web is_blank_url judged judged_parse read_against address_of url_of resolved with_fragment base_of fragment_of origin_text origin_of has_same_base is_rewritable events_of each_event after_opening AtEachEvent is_numbered opens is_formed is_once is_caused is_queued is_ordered is_checked ends_settled loads_end ends_told ends_stepped goes_in_time
is_applied_rightly_1_is_refused holds = false≢true holds.once

-- is_goal: without test `g.0 == step`, `once` would hold.
abbrev pub is_goal_1 : List Event
is_goal_1 =
    by_start (rows.Opened (e 0 1) (s 1) (d 1) (p 1) None (codes "http://a.test/")) []
    ∷ by_ui (rows.Accepted (r 1) None (requests.Go (pos 5))) (rows.Refused (r 1) denials.NoStep ∷ [])
    ∷ by_ui (rows.Accepted (r 2) None (requests.Go (pos 0))) (rows.Started (r 2) (Some (t 1)) ∷ sent 1 1 0 1 (whys.Req (r 2)) (tasks.DoFragment (r 2) modes.Auto (codes "about:blank")) ∷ [])
    ∷ []

pub is_goal_1_is_refused : IsLegal (log_of is_goal_1) → ⊥
unfolding url_on_literals is_web is_blank_url judged judged_parse read_against address_of url_of resolved with_fragment base_of fragment_of origin_text origin_of has_same_base is_rewritable events_of each_event after_opening AtEachEvent is_numbered opens is_formed is_once is_caused is_queued is_ordered is_checked ends_settled loads_end ends_told ends_stepped goes_in_time
is_goal_1_is_refused holds = false≢true holds.once

-- is_once_row: by_kind: without conjunct `is_open q`, `once` would hold.
abbrev pub is_once_row_1 : List Event
is_once_row_1 =
    before 4 replace_and_fragment
    ++ by_coord (rows.Delivered (p 1)) (rows.Dropped (r 1) drops.Stay ∷ rows.Applied (r 1) (changes.Replace (n 0) (e 0 1) (e 1 1) (s 1) (codes "http://a.test/") (Some (codes "m"))) ∷ [])
    ∷ []

pub is_once_row_1_is_refused : IsLegal (log_of is_once_row_1) → ⊥
unfolding url_on_literals is_web is_blank_url judged judged_parse read_against address_of url_of resolved with_fragment base_of fragment_of origin_text origin_of has_same_base is_rewritable events_of each_event after_opening AtEachEvent is_numbered opens is_formed is_once is_caused is_queued is_ordered is_checked ends_settled loads_end ends_told ends_stepped goes_in_time
is_once_row_1_is_refused holds = false≢true holds.once

-- is_once_row: by_kind: without test `is_none q.answered`, `once` would hold.
abbrev pub is_once_row_2 : List Event
is_once_row_2 =
    before 17 stay
    ++ by_ui (rows.Answered (r 3) true) (rows.Answered (r 3) true ∷ rows.Dropped (r 3) drops.Stay ∷ [])
    ∷ []

pub is_once_row_2_is_refused : IsLegal (log_of is_once_row_2) → ⊥
unfolding url_on_literals is_web is_blank_url judged judged_parse read_against address_of url_of resolved with_fragment base_of fragment_of origin_text origin_of has_same_base is_rewritable events_of each_event after_opening AtEachEvent is_numbered opens is_formed is_once is_caused is_queued is_ordered is_checked ends_settled loads_end ends_told ends_stepped goes_in_time
is_once_row_2_is_refused holds = false≢true holds.once

-- is_once_row: by_kind: without test `is_none q.prompted`, `once` would hold.
abbrev pub is_once_row_3 : List Event
is_once_row_3 =
    before 3 document_goes_back
    ++ by_coord (rows.Delivered (p 1)) (rows.Prompted (r 1) (d 1) ∷ rows.Prompted (r 1) (d 1) ∷ [])
    ∷ []

pub is_once_row_3_is_refused : IsLegal (log_of is_once_row_3) → ⊥
unfolding url_on_literals is_web is_blank_url judged judged_parse read_against address_of url_of resolved with_fragment base_of fragment_of origin_text origin_of has_same_base is_rewritable events_of each_event after_opening AtEachEvent is_numbered opens is_formed is_once is_caused is_queued is_ordered is_checked ends_settled loads_end ends_told ends_stepped goes_in_time
is_once_row_3_is_refused holds = false≢true holds.once

-- is_once_row: by_kind: without test `is_open`, `once` would hold.
abbrev pub is_once_row_4 : List Event
is_once_row_4 =
    by_start (rows.Opened (e 0 1) (s 1) (d 1) (p 1) None (codes "http://a.test/")) []
    ∷ by_ui (rows.Accepted (r 1) None (requests.Go (pos 1))) (rows.Refused (r 1) denials.NoStep ∷ rows.Refused (r 1) denials.NoStep ∷ [])
    ∷ []

pub is_once_row_4_is_refused : IsLegal (log_of is_once_row_4) → ⊥
unfolding url_on_literals is_web is_blank_url judged judged_parse read_against address_of url_of resolved with_fragment base_of fragment_of origin_text origin_of has_same_base is_rewritable events_of each_event after_opening AtEachEvent is_numbered opens is_formed is_once is_caused is_queued is_ordered is_checked ends_settled loads_end ends_told ends_stepped goes_in_time
is_once_row_4_is_refused holds = false≢true holds.once

-- is_once_row: by_kind: without test `is_open`, `once` would hold.
abbrev pub is_once_row_5 : List Event
is_once_row_5 =
    by_start (rows.Opened (e 0 1) (s 1) (d 1) (p 1) None (codes "http://a.test/")) []
    ∷ by_ui (rows.Accepted (r 1) None (requests.Load (n 5) modes.Auto (codes "http://a.test/1"))) (rows.Refused (r 1) denials.NoNavigable ∷ rows.Dropped (r 1) drops.Stay ∷ [])
    ∷ []

pub is_once_row_5_is_refused : IsLegal (log_of is_once_row_5) → ⊥
unfolding url_on_literals is_web is_blank_url judged judged_parse read_against address_of url_of resolved with_fragment base_of fragment_of origin_text origin_of has_same_base is_rewritable events_of each_event after_opening AtEachEvent is_numbered opens is_formed is_once is_caused is_queued is_ordered is_checked ends_settled loads_end ends_told ends_stepped goes_in_time
is_once_row_5_is_refused holds = false≢true holds.once

-- load_begins: without conjunct `list_all (is_placed p.now (aim_of p.now)) (way_to p.now nav)`, `once` would hold.
abbrev pub load_begins_2 : List Event
load_begins_2 =
    before 5 push_of_a_removed_frame
    ++ by_ui (rows.Accepted (r 2) None (requests.Load (n 1) modes.Auto (codes "http://b.test/p0#x"))) (rows.Started (r 2) None ∷ rows.Refused (r 2) denials.NotShown ∷ [])
    ∷ []

pub load_begins_2_is_refused : IsLegal (log_of load_begins_2) → ⊥
unfolding url_on_literals is_web is_blank_url judged judged_parse read_against address_of url_of resolved with_fragment base_of fragment_of origin_text origin_of has_same_base is_rewritable events_of each_event after_opening AtEachEvent is_numbered opens is_formed is_once is_caused is_queued is_ordered is_checked ends_settled loads_end ends_told ends_stepped goes_in_time
load_begins_2_is_refused holds = false≢true holds.once

-- may_begin_request: by_request: were equation 2 true, `once` would hold.
abbrev pub may_begin_request_1 : List Event
may_begin_request_1 =
    by_start (rows.Opened (e 0 1) (s 1) (d 1) (p 1) None (codes "http://a.test/")) []
    ∷ by_ui (rows.Accepted (r 1) None (requests.Reload (n 1))) (rows.Started (r 1) (Some (t 1)) ∷ [])
    ∷ []

pub may_begin_request_1_is_refused : IsLegal (log_of may_begin_request_1) → ⊥
unfolding url_on_literals is_web is_blank_url judged judged_parse read_against address_of url_of resolved with_fragment base_of fragment_of origin_text origin_of has_same_base is_rewritable events_of each_event after_opening AtEachEvent is_numbered opens is_formed is_once is_caused is_queued is_ordered is_checked ends_settled loads_end ends_told ends_stepped goes_in_time
may_begin_request_1_is_refused holds = false≢true holds.once

-- may_begin_request: by_request: without conjunct `is_none goal`, `once` would hold.
abbrev pub may_begin_request_2 : List Event
may_begin_request_2 =
    by_start (rows.Opened (e 0 1) (s 1) (d 1) (p 1) None (codes "http://a.test/")) []
    ∷ by_ui (rows.Accepted (r 1) None (requests.Load (n 0) modes.Replace (codes "http://b.test/p0"))) (rows.Started (r 1) (Some (t 0)) ∷ [])
    ∷ []

pub may_begin_request_2_is_refused : IsLegal (log_of may_begin_request_2) → ⊥
unfolding url_on_literals is_web is_blank_url judged judged_parse read_against address_of url_of resolved with_fragment base_of fragment_of origin_text origin_of has_same_base is_rewritable events_of each_event after_opening AtEachEvent is_numbered opens is_formed is_once is_caused is_queued is_ordered is_checked ends_settled loads_end ends_told ends_stepped goes_in_time
may_begin_request_2_is_refused holds = false≢true holds.once

-- may_begin_request: by_request: without conjunct `load_begins p q nav address`, `once` would hold.
abbrev pub may_begin_request_3 : List Event
may_begin_request_3 =
    by_start (rows.Opened (e 0 1) (s 1) (d 1) (p 1) None (codes "http://a.test/")) []
    ∷ by_ui (rows.Accepted (r 1) None (requests.Load (n 0) modes.Replace (codes "http://a.test/#x"))) (rows.Started (r 1) None ∷ [])
    ∷ []

pub may_begin_request_3_is_refused : IsLegal (log_of may_begin_request_3) → ⊥
unfolding url_on_literals is_web is_blank_url judged judged_parse read_against address_of url_of resolved with_fragment base_of fragment_of origin_text origin_of has_same_base is_rewritable events_of each_event after_opening AtEachEvent is_numbered opens is_formed is_once is_caused is_queued is_ordered is_checked ends_settled loads_end ends_told ends_stepped goes_in_time
may_begin_request_3_is_refused holds = false≢true holds.once

-- may_begin_request: without conjunct `is_none q.ending`, `once` would hold.
abbrev pub may_begin_request_4 : List Event
may_begin_request_4 =
    by_start (rows.Opened (e 0 1) (s 1) (d 1) (p 1) None (codes "http://a.test/")) []
    ∷ by_ui (rows.Accepted (r 1) None (requests.Load (n 0) modes.Replace (codes "http://a.test/1"))) (rows.Dropped (r 1) (drops.By (r 1)) ∷ rows.Started (r 1) None ∷ [])
    ∷ []

pub may_begin_request_4_is_refused : IsLegal (log_of may_begin_request_4) → ⊥
unfolding url_on_literals is_web is_blank_url judged judged_parse read_against address_of url_of resolved with_fragment base_of fragment_of origin_text origin_of has_same_base is_rewritable events_of each_event after_opening AtEachEvent is_numbered opens is_formed is_once is_caused is_queued is_ordered is_checked ends_settled loads_end ends_told ends_stepped goes_in_time
may_begin_request_4_is_refused holds = false≢true holds.once

-- is_in_order: were equation 2 true, `once` would hold: a replace after a later push of its document.
abbrev pub replace_applied_late : List Event
replace_applied_late =
    by_start (rows.Opened (e 0 1) (s 1) (d 1) (p 1) None (codes "http://a.test/")) []
    ∷ by_ui (rows.Accepted (r 1) (Some (d 1)) (requests.Poke (n 0) (actions.Replace (Some (codes "m")) None))) []
    ∷ by_ui (rows.Accepted (r 2) (Some (d 1)) (requests.Poke (n 0) (actions.Push (Some (codes "t")) (Some (codes "/2"))))) []
    ∷ by_proc 1 (made 1 1 1 1 (whats.Replace (e 0 1) (e 1 1) (Some (codes "m")) (codes "http://a.test/"))) []
    ∷ by_proc 1 (made 1 2 1 1 (whats.Push (e 1 2) (Some (codes "t")) (codes "http://a.test/2"))) []
    ∷ by_coord (rows.Delivered (p 1)) (rows.Applied (r 2) (changes.Push (n 0) (e 1 2) (s 1) (codes "http://a.test/2") (Some (codes "t"))) ∷ rows.Applied (r 1) (changes.Replace (n 0) (e 0 1) (e 1 1) (s 1) (codes "http://a.test/") (Some (codes "m"))) ∷ [])
    ∷ []

pub replace_applied_late_is_refused : IsLegal (log_of replace_applied_late) → ⊥
unfolding url_on_literals is_web is_blank_url judged judged_parse read_against address_of url_of resolved with_fragment base_of fragment_of origin_text origin_of has_same_base is_rewritable events_of each_event after_opening AtEachEvent is_numbered opens is_formed is_once is_caused is_queued is_ordered is_checked ends_settled loads_end ends_told ends_stepped goes_in_time
replace_applied_late_is_refused holds = false≢true holds.once

-- is_in_order: were equation 1 true, `once` would hold: a push after a later one of its document.
abbrev pub push_applied_late : List Event
push_applied_late =
    before 5 two_pushes_on_their_way
    ++ by_coord (rows.Delivered (p 1)) (rows.Applied (r 2) (changes.Push (n 0) (e 1 2) (s 1) (codes "http://a.test/2") (Some (codes "t"))) ∷ rows.Applied (r 1) (changes.Push (n 0) (e 1 1) (s 1) (codes "http://a.test/1") (Some (codes "s"))) ∷ [])
    ∷ []

pub push_applied_late_is_refused : IsLegal (log_of push_applied_late) → ⊥
unfolding url_on_literals is_web is_blank_url judged judged_parse read_against address_of url_of resolved with_fragment base_of fragment_of origin_text origin_of has_same_base is_rewritable events_of each_event after_opening AtEachEvent is_numbered opens is_formed is_once is_caused is_queued is_ordered is_checked ends_settled loads_end ends_told ends_stepped goes_in_time
push_applied_late_is_refused holds = false≢true holds.once

-- same_change: were equation 2 true, `once` would hold.
abbrev pub another_frame_removed : List Event
another_frame_removed =
    before 19 push_beside_a_running_traversal
    ++ by_ui (rows.Accepted (r 3) (Some (d 1)) (requests.Poke (n 0) (actions.RemoveFrame (n 1)))) []
    ∷ by_proc 1 (made 1 3 1 1 (whats.RemoveFrame (n 1))) []
    ∷ by_coord (rows.Delivered (p 1)) (rows.Applied (r 3) (changes.RemoveFrame (n 2)) ∷ [])
    ∷ []

pub another_frame_removed_is_refused : IsLegal (log_of another_frame_removed) → ⊥
unfolding url_on_literals is_web is_blank_url judged judged_parse read_against address_of url_of resolved with_fragment base_of fragment_of origin_text origin_of has_same_base is_rewritable events_of each_event after_opening AtEachEvent is_numbered opens is_formed is_once is_caused is_queued is_ordered is_checked ends_settled loads_end ends_told ends_stepped goes_in_time
another_frame_removed_is_refused holds = false≢true holds.once

-- change_of_made: without test `owner.0 == d.state.0`, `once` would hold.
abbrev pub frame_of_another_removed : List Event
frame_of_another_removed =
    before 21 removal_of_a_frame_of_another
    ++ by_coord (rows.Delivered (p 1)) (rows.Applied (r 3) (changes.RemoveFrame (n 2)) ∷ [])
    ∷ []

pub frame_of_another_removed_is_refused : IsLegal (log_of frame_of_another_removed) → ⊥
unfolding url_on_literals is_web is_blank_url judged judged_parse read_against address_of url_of resolved with_fragment base_of fragment_of origin_text origin_of has_same_base is_rewritable events_of each_event after_opening AtEachEvent is_numbered opens is_formed is_once is_caused is_queued is_ordered is_checked ends_settled loads_end ends_told ends_stepped goes_in_time
frame_of_another_removed_is_refused holds = false≢true holds.once

-- A push is applied after a replace that its document made later. applied_to: were equation 2 left out, `once` would hold.
abbrev pub push_behind_a_later_replace : List Event
push_behind_a_later_replace =
    before 8 push_under_an_old_epoch
    ++ by_ui (rows.Accepted (r 3) (Some (d 1)) (requests.Poke (n 0) (actions.Push (Some (codes "t")) (Some (codes "/2"))))) []
    ∷ by_proc 1 (made 1 3 1 1 (whats.Push (e 1 2) (Some (codes "t")) (codes "http://a.test/2"))) []
    ∷ by_proc 1 (rows.Taken (p 1) (j 2) true false) []
    ∷ by_proc 1 (rows.Finished (p 1) (j 2) outcomes.Activated) []
    ∷ by_ui (rows.Accepted (r 4) (Some (d 1)) (requests.Poke (n 0) (actions.Replace (Some (codes "u")) None))) []
    ∷ by_proc 1 (made 1 4 1 2 (whats.Replace (e 0 1) (e 1 3) (Some (codes "u")) (codes "http://a.test/"))) []
    ∷ by_coord (rows.Delivered (p 1)) (rows.Applied (r 4) (changes.Replace (n 0) (e 0 1) (e 1 3) (s 1) (codes "http://a.test/") (Some (codes "u"))) ∷ rows.Applied (r 3) (changes.Push (n 0) (e 1 2) (s 1) (codes "http://a.test/2") (Some (codes "t"))) ∷ [])
    ∷ []

pub push_behind_a_later_replace_is_refused : IsLegal (log_of push_behind_a_later_replace) → ⊥
unfolding url_on_literals is_web is_blank_url judged judged_parse read_against address_of url_of resolved with_fragment base_of fragment_of origin_text origin_of has_same_base is_rewritable events_of each_event after_opening AtEachEvent is_numbered opens is_formed is_once is_caused is_queued is_ordered is_checked ends_settled loads_end ends_told ends_stepped goes_in_time
push_behind_a_later_replace_is_refused holds = false≢true holds.once

-- A replace is applied whose entry was never applied. fits: without conjunct `same_entry row.entry over`, `once` would hold.
abbrev pub replace_of_an_unapplied_entry : List Event
replace_of_an_unapplied_entry =
    by_start (rows.Opened (e 0 1) (s 1) (d 1) (p 1) None (codes "http://a.test/")) []
    ∷ by_ui (rows.Accepted (r 1) (Some (d 1)) (requests.Poke (n 0) (actions.Replace (Some (codes "m")) None))) []
    ∷ by_ui (rows.Accepted (r 2) (Some (d 1)) (requests.Poke (n 0) (actions.Replace (Some (codes "t")) None))) []
    ∷ by_proc 1 (made 1 1 1 1 (whats.Replace (e 0 1) (e 1 1) (Some (codes "m")) (codes "http://a.test/"))) []
    ∷ by_proc 1 (made 1 2 1 1 (whats.Replace (e 1 1) (e 1 2) (Some (codes "t")) (codes "http://a.test/"))) []
    ∷ by_coord (rows.Delivered (p 1)) (rows.Applied (r 2) (changes.Replace (n 0) (e 1 1) (e 1 2) (s 1) (codes "http://a.test/") (Some (codes "t"))) ∷ [])
    ∷ []

pub replace_of_an_unapplied_entry_is_refused : IsLegal (log_of replace_of_an_unapplied_entry) → ⊥
unfolding url_on_literals is_web is_blank_url judged judged_parse read_against address_of url_of resolved with_fragment base_of fragment_of origin_text origin_of has_same_base is_rewritable events_of each_event after_opening AtEachEvent is_numbered opens is_formed is_once is_caused is_queued is_ordered is_checked ends_settled loads_end ends_told ends_stepped goes_in_time
replace_of_an_unapplied_entry_is_refused holds = false≢true holds.once

-- A push of a removed frame is applied. fits: were equation 1 true, `once` would hold.
abbrev pub push_in_a_removed_frame : List Event
push_in_a_removed_frame =
    before 25 push_of_a_removed_frame_behind_another
    ++ by_coord (rows.Delivered (p 2)) (rows.Applied (r 3) (changes.Push (n 1) (e 3 1) (s 3) (codes "http://b.test/f") (Some (codes "s"))) ∷ [])
    ∷ []

pub push_in_a_removed_frame_is_refused : IsLegal (log_of push_in_a_removed_frame) → ⊥
unfolding url_on_literals is_web is_blank_url judged judged_parse read_against address_of url_of resolved with_fragment base_of fragment_of origin_text origin_of has_same_base is_rewritable events_of each_event after_opening AtEachEvent is_numbered opens is_formed is_once is_caused is_queued is_ordered is_checked ends_settled loads_end ends_told ends_stepped goes_in_time
push_in_a_removed_frame_is_refused holds = false≢true holds.once

-- A frame is added in a removed one. fits: without conjunct `has_state owner history.rows`, `once` would hold.
abbrev pub frame_in_a_removed_frame : List Event
frame_in_a_removed_frame =
    before 11 push_of_a_removed_frame
    ++ by_proc 1 (made 1 2 1 1 (whats.RemoveFrame (n 1))) []
    ∷ by_ui (rows.Accepted (r 3) (Some (d 2)) (requests.Poke (n 1) (actions.AddFrame (n 2)))) []
    ∷ by_proc 1 (made 1 3 2 1 (whats.AddFrame (n 2))) []
    ∷ by_coord (rows.Delivered (p 1)) (rows.Applied (r 2) (changes.RemoveFrame (n 1)) ∷ sent 3 1 0 2 (whys.Req (r 2)) tasks.Discard ∷ [])
    ∷ by_coord (rows.Delivered (p 1)) (rows.Applied (r 3) (changes.AddFrame (s 2) (n 2) (e 0 3) (s 3)) ∷ [])
    ∷ []

pub frame_in_a_removed_frame_is_refused : IsLegal (log_of frame_in_a_removed_frame) → ⊥
unfolding url_on_literals is_web is_blank_url judged judged_parse read_against address_of url_of resolved with_fragment base_of fragment_of origin_text origin_of has_same_base is_rewritable events_of each_event after_opening AtEachEvent is_numbered opens is_formed is_once is_caused is_queued is_ordered is_checked ends_settled loads_end ends_told ends_stepped goes_in_time
frame_in_a_removed_frame_is_refused holds = false≢true holds.once

-- A traversal that waits for an answer is applied at the current step, whose entries a replace has tidied away. fits: were equation 5 true, `once` would hold.
abbrev pub traversal_to_a_step_that_is_gone : List Event
traversal_to_a_step_that_is_gone =
    before 11 evicted_documents
    ++ by_ui (rows.Accepted (r 2) (Some (d 2)) (requests.Poke (n 0) (actions.AddFrame (n 1)))) []
    ∷ by_proc 1 (made 1 2 2 2 (whats.AddFrame (n 1))) []
    ∷ by_coord (rows.Delivered (p 1)) (rows.Applied (r 2) (changes.AddFrame (s 2) (n 1) (e 0 3) (s 3)) ∷ sent 4 1 0 3 (whys.Req (r 2)) (tasks.Populate (n 1) (s 3) (codes "about:blank") true) ∷ [])
    ∷ by_proc 1 (rows.Taken (p 1) (j 4) true false) []
    ∷ by_proc 1 (rows.Finished (p 1) (j 4) (outcomes.Populated None)) []
    ∷ by_coord (rows.Delivered (p 1)) (sent 5 1 0 3 (whys.Req (r 2)) (tasks.Activate (e 0 3) (epoch 1) 2 1 None (codes "about:blank")) ∷ [])
    ∷ by_proc 1 (rows.Taken (p 1) (j 5) true false) []
    ∷ by_proc 1 (rows.Finished (p 1) (j 5) outcomes.Activated) []
    ∷ by_coord (rows.Delivered (p 1)) []
    ∷ by_ui (rows.Accepted (r 3) None (requests.Load (n 1) modes.Auto (codes "http://a.test/f"))) (rows.Started (r 3) None ∷ sent 6 1 0 4 (whys.Req (r 3)) (tasks.Populate (n 1) (s 4) (codes "http://a.test/f") false) ∷ [])
    ∷ by_proc 1 (rows.Taken (p 1) (j 6) true false) []
    ∷ by_proc 1 (rows.Finished (p 1) (j 6) (outcomes.Populated None)) []
    ∷ by_coord (rows.Delivered (p 1)) (rows.Applied (r 3) (changes.Replace (n 1) (e 0 3) (e 0 4) (s 4) (codes "http://a.test/f") None) ∷ sent 7 1 0 3 (whys.Req (r 3)) tasks.Discard ∷ sent 8 1 0 4 (whys.Req (r 3)) (tasks.Activate (e 0 4) (epoch 2) 2 1 None (codes "http://a.test/f")) ∷ [])
    ∷ by_proc 1 (rows.Taken (p 1) (j 7) true false) []
    ∷ by_proc 1 (rows.Finished (p 1) (j 7) outcomes.Discarded) []
    ∷ by_coord (rows.Delivered (p 1)) []
    ∷ by_proc 1 (rows.Taken (p 1) (j 8) true false) []
    ∷ by_proc 1 (rows.Finished (p 1) (j 8) outcomes.Activated) []
    ∷ by_coord (rows.Delivered (p 1)) []
    ∷ by_ui (rows.Accepted (r 4) None (requests.Load (n 1) modes.Auto (codes "http://a.test/g"))) (rows.Started (r 4) None ∷ sent 9 1 0 5 (whys.Req (r 4)) (tasks.Populate (n 1) (s 5) (codes "http://a.test/g") false) ∷ [])
    ∷ by_proc 1 (rows.Taken (p 1) (j 9) true false) []
    ∷ by_proc 1 (rows.Finished (p 1) (j 9) (outcomes.Populated None)) []
    ∷ by_coord (rows.Delivered (p 1)) (rows.Applied (r 4) (changes.Push (n 1) (e 0 5) (s 5) (codes "http://a.test/g") None) ∷ sent 10 1 0 4 (whys.Req (r 4)) tasks.Freeze ∷ sent 11 1 0 5 (whys.Req (r 4)) (tasks.Activate (e 0 5) (epoch 3) 3 2 None (codes "http://a.test/g")) ∷ sent 12 1 0 2 (whys.Req (r 4)) (tasks.Update 3 2) ∷ [])
    ∷ by_proc 1 (rows.Taken (p 1) (j 10) true false) []
    ∷ by_proc 1 (rows.Finished (p 1) (j 10) outcomes.Frozen) []
    ∷ by_coord (rows.Delivered (p 1)) []
    ∷ by_proc 1 (rows.Taken (p 1) (j 11) true false) []
    ∷ by_proc 1 (rows.Finished (p 1) (j 11) outcomes.Activated) []
    ∷ by_coord (rows.Delivered (p 1)) []
    ∷ by_proc 1 (rows.Taken (p 1) (j 12) true false) []
    ∷ by_proc 1 (rows.Finished (p 1) (j 12) outcomes.Updated) []
    ∷ by_coord (rows.Delivered (p 1)) []
    ∷ by_ui (rows.Accepted (r 5) None (requests.Load (n 0) modes.Replace (codes "http://a.test/x"))) (rows.Started (r 5) None ∷ sent 13 1 0 6 (whys.Req (r 5)) (tasks.Populate (n 0) (s 6) (codes "http://a.test/x") false) ∷ [])
    ∷ by_proc 1 (rows.Taken (p 1) (j 13) true false) []
    ∷ by_proc 1 (rows.Finished (p 1) (j 13) (outcomes.Populated None)) []
    ∷ by_coord (rows.Delivered (p 1)) (rows.Applied (r 5) (changes.Replace (n 0) (e 0 2) (e 0 6) (s 6) (codes "http://a.test/x") None) ∷ sent 14 1 0 2 (whys.Req (r 5)) tasks.Discard ∷ sent 15 1 0 4 (whys.Req (r 5)) tasks.Discard ∷ sent 16 1 0 5 (whys.Req (r 5)) tasks.Discard ∷ sent 17 1 0 6 (whys.Req (r 5)) (tasks.Activate (e 0 6) (epoch 3) 2 1 None (codes "http://a.test/x")) ∷ [])
    ∷ by_proc 1 (rows.Taken (p 1) (j 14) true false) []
    ∷ by_proc 1 (rows.Finished (p 1) (j 14) outcomes.Discarded) []
    ∷ by_coord (rows.Delivered (p 1)) []
    ∷ by_proc 1 (rows.Taken (p 1) (j 15) true false) []
    ∷ by_proc 1 (rows.Finished (p 1) (j 15) outcomes.Discarded) []
    ∷ by_coord (rows.Delivered (p 1)) []
    ∷ by_proc 1 (rows.Taken (p 1) (j 16) true false) []
    ∷ by_proc 1 (rows.Finished (p 1) (j 16) outcomes.Discarded) []
    ∷ by_coord (rows.Delivered (p 1)) []
    ∷ by_proc 1 (rows.Taken (p 1) (j 17) true false) []
    ∷ by_proc 1 (rows.Finished (p 1) (j 17) outcomes.Activated) []
    ∷ by_coord (rows.Delivered (p 1)) []
    ∷ by_ui (rows.Accepted (r 6) None (requests.Go (negsuc 0))) (rows.Started (r 6) (Some (t 0)) ∷ sent 18 1 0 6 (whys.Req (r 6)) (tasks.Ask 1 leavings.Traverse) ∷ rows.Applied (r 6) (changes.Traverse (t 2)) ∷ [])
    ∷ []

pub traversal_to_a_step_that_is_gone_is_refused : IsLegal (log_of traversal_to_a_step_that_is_gone) → ⊥
unfolding url_on_literals is_web is_blank_url judged judged_parse read_against address_of url_of resolved with_fragment base_of fragment_of origin_text origin_of has_same_base is_rewritable events_of each_event after_opening AtEachEvent is_numbered opens is_formed is_once is_caused is_queued is_ordered is_checked ends_settled loads_end ends_told ends_stepped goes_in_time
traversal_to_a_step_that_is_gone_is_refused holds = false≢true holds.once

-- A reload of a removed frame is applied. fits: were equation 6 true, `once` would hold.
abbrev pub reload_applied_in_a_removed_frame : List Event
reload_applied_in_a_removed_frame =
    before 11 push_of_a_removed_frame
    ++ by_proc 1 (made 1 2 1 1 (whats.RemoveFrame (n 1))) []
    ∷ by_coord (rows.Delivered (p 1)) (rows.Applied (r 2) (changes.RemoveFrame (n 1)) ∷ sent 3 1 0 2 (whys.Req (r 2)) tasks.Discard ∷ [])
    ∷ by_proc 1 (rows.Taken (p 1) (j 3) true false) []
    ∷ by_proc 1 (rows.Finished (p 1) (j 3) outcomes.Discarded) []
    ∷ by_coord (rows.Delivered (p 1)) []
    ∷ by_ui (rows.Accepted (r 3) None (requests.Reload (n 1))) (rows.Started (r 3) None ∷ rows.Applied (r 3) (changes.Reload (n 1)) ∷ [])
    ∷ []

pub reload_applied_in_a_removed_frame_is_refused : IsLegal (log_of reload_applied_in_a_removed_frame) → ⊥
unfolding url_on_literals is_web is_blank_url judged judged_parse read_against address_of url_of resolved with_fragment base_of fragment_of origin_text origin_of has_same_base is_rewritable events_of each_event after_opening AtEachEvent is_numbered opens is_formed is_once is_caused is_queued is_ordered is_checked ends_settled loads_end ends_told ends_stepped goes_in_time
reload_applied_in_a_removed_frame_is_refused holds = false≢true holds.once

-- A load begins in a later event than that of its acceptance. load_begins: without conjunct `is_accepted_here p q.nr`, `once` would hold.
abbrev pub load_begun_later : List Event
load_begun_later =
    by_start (rows.Opened (e 0 1) (s 1) (d 1) (p 1) None (codes "http://a.test/")) []
    ∷ by_ui (rows.Accepted (r 1) None (requests.Load (n 0) modes.Auto (codes "http://a.test/1"))) []
    ∷ by_ui (rows.Accepted (r 2) None (requests.Go (pos 1))) (rows.Started (r 1) None ∷ [])
    ∷ []

pub load_begun_later_is_refused : IsLegal (log_of load_begun_later) → ⊥
unfolding url_on_literals is_web is_blank_url judged judged_parse read_against address_of url_of resolved with_fragment base_of fragment_of origin_text origin_of has_same_base is_rewritable events_of each_event after_opening AtEachEvent is_numbered opens is_formed is_once is_caused is_queued is_ordered is_checked ends_settled loads_end ends_told ends_stepped goes_in_time
load_begun_later_is_refused holds = false≢true holds.once

-- A traversal that hides a frame shows the top its goal by the old document, so that the frame stays awake, and a load of the frame begins. is_placed: without conjunct `is_shown s.history.rows step nav`, `once` would hold.
abbrev pub load_begun_in_a_frame_about_to_hide : List Event
load_begun_in_a_frame_about_to_hide =
    before 27 hidden_frame_is_asked
    ++ by_ui (rows.Accepted (r 4) None (requests.Go (pos 1))) (rows.Started (r 4) (Some (t 1)) ∷ sent 8 1 0 1 (whys.Req (r 4)) (tasks.Activate (e 0 2) (epoch 4) 2 1 None (codes "http://a.test/1")) ∷ [])
    ∷ by_proc 1 (rows.Taken (p 1) (j 8) true false) []
    ∷ by_proc 1 (rows.Finished (p 1) (j 8) outcomes.Activated) []
    ∷ by_coord (rows.Delivered (p 1)) []
    ∷ by_ui (rows.Accepted (r 5) None (requests.Load (n 1) modes.Auto (codes "http://a.test/f"))) (rows.Started (r 5) None ∷ [])
    ∷ []

pub load_begun_in_a_frame_about_to_hide_is_refused : IsLegal (log_of load_begun_in_a_frame_about_to_hide) → ⊥
unfolding url_on_literals is_web is_blank_url judged judged_parse read_against address_of url_of resolved with_fragment base_of fragment_of origin_text origin_of has_same_base is_rewritable events_of each_event after_opening AtEachEvent is_numbered opens is_formed is_once is_caused is_queued is_ordered is_checked ends_settled loads_end ends_told ends_stepped goes_in_time
load_begun_in_a_frame_about_to_hide_is_refused holds = false≢true holds.once
