-- Broken logs, each refused by the field `queued`.
-- A log is its events: those before one of another log, since one, or between two, and its own.
use Rattle.std.proofs.Common.{pos, negsuc, true, false, List, [], ◌∷◌, ◌++◌, codes, Some, None}
use Rattle.std.proofs.lemmas.Bool.{false≢true}
use Rattle.url.proofs.OnLiterals.{url_on_literals}
use Rattle.address.specs.Addresses.{is_web, is_blank_url, judged, judged_parse, read_against, address_of, url_of, resolved, with_fragment, base_of, fragment_of, origin_text, origin_of, has_same_base, is_rewritable}
use Rattle.log_model.specs.declared.change.Change.TheVariants as changes
use Rattle.log_model.specs.declared.job.Task.TheVariants as tasks
use Rattle.log_model.specs.declared.job.Why.TheVariants as whys
use Rattle.log_model.specs.declared.outcome.Cause.TheVariants as drops
use Rattle.log_model.specs.declared.outcome.Denial.TheVariants as denials
use Rattle.log_model.specs.declared.outcome.Outcome.TheVariants as outcomes
use Rattle.log_model.specs.declared.request.Request.TheVariants as requests
use Rattle.log_model.specs.declared.row_kind.RowKind.TheVariants as rows
use Rattle.log_model.specs.Events.{events_of, each_event, after_opening, AtEachEvent}
use Rattle.log_model.specs.Formed.{is_numbered}
use Rattle.log_model.specs.Legal.{IsLegal, opens, is_formed, is_once, is_caused, is_queued, is_ordered, is_checked, ends_settled}
use Rattle.log_model.specs.LoadsEndInTime.{loads_end}
use Rattle.log_model.specs.ActsAtOnce.{ends_told, ends_stepped, goes_in_time}
use Rattle.log_examples.specs.Rows.{n, s, r, p, t, x, d, j, e, epoch, sent}
use Rattle.log_examples.specs.Logs.{Event, by_start, by_ui, by_coord, by_proc, log_of, before, since, between}
use Rattle.log_examples.proofs.Pushes.{replace_and_fragment, push_in_an_initial_document}
use Rattle.log_examples.proofs.Traversals.{push_under_an_old_epoch, two_traversals_in_the_queue}
use Rattle.log_examples.proofs.Interleavings.{push_beside_a_running_traversal, held_back_push}
use Rattle.log_examples.proofs.Loads.{load_ended_by_a_traversal, load_of_no_navigable}
use Rattle.log_examples.proofs.Removals.{push_of_a_removed_frame, removal_and_push, removal_and_push_of_two_processes}
use Rattle.log_examples.proofs.Reloads.{kept_frame_document_at_an_eviction}
use Rattle.log_examples.proofs.Pending.{push_behind_a_traversal}

-- A traversal is applied before all navigables stand.
abbrev pub traversal_applied_early : List Event
traversal_applied_early =
    before 64 push_beside_a_running_traversal
    ++ by_coord (rows.Delivered (p 1)) (rows.Applied (r 7) (changes.Traverse (t 0)) ∷ [])
    ∷ by_proc 1 (rows.Taken (p 1) (j 18) true false) []
    ∷ by_proc 1 (rows.Finished (p 1) (j 18) outcomes.Activated) []
    ∷ by_coord (rows.Delivered (p 1)) (sent 21 1 0 1 (whys.Req (r 7)) (tasks.Update 3 0) ∷ [])
    ∷ since 68 push_beside_a_running_traversal

pub traversal_applied_early_is_refused : IsLegal (log_of traversal_applied_early) → ⊥
unfolding url_on_literals is_web is_blank_url judged judged_parse read_against address_of url_of resolved with_fragment base_of fragment_of origin_text origin_of has_same_base is_rewritable events_of each_event after_opening AtEachEvent is_numbered opens is_formed is_once is_caused is_queued is_ordered is_checked ends_settled loads_end ends_told ends_stepped goes_in_time
traversal_applied_early_is_refused holds = false≢true holds.queued

-- A push under an old epoch is applied.
abbrev pub old_epoch_applied : List Event
old_epoch_applied =
    before 12 push_under_an_old_epoch
    ++ by_coord (rows.Delivered (p 1)) (rows.Applied (r 3) (changes.Push (n 0) (e 1 2) (s 1) (codes "http://a.test/2") (Some (codes "t"))) ∷ [])
    ∷ by_coord (rows.Delivered (p 1)) (rows.Applied (r 2) (changes.Traverse (t 0)) ∷ [])
    ∷ []

pub old_epoch_applied_is_refused : IsLegal (log_of old_epoch_applied) → ⊥
unfolding url_on_literals is_web is_blank_url judged judged_parse read_against address_of url_of resolved with_fragment base_of fragment_of origin_text origin_of has_same_base is_rewritable events_of each_event after_opening AtEachEvent is_numbered opens is_formed is_once is_caused is_queued is_ordered is_checked ends_settled loads_end ends_told ends_stepped goes_in_time
old_epoch_applied_is_refused holds = false≢true holds.queued

-- A push that may jump the queue waits for the traversal.
abbrev pub push_waits_for_the_traversal : List Event
push_waits_for_the_traversal =
    before 58 push_beside_a_running_traversal
    ++ by_coord (rows.Delivered (p 1)) (sent 18 1 0 5 (whys.Req (r 7)) (tasks.Activate (e 0 5) (epoch 3) 3 0 None (codes "http://a.test/g")) ∷ sent 19 1 0 1 (whys.Req (r 6)) (tasks.Update 3 2) ∷ sent 20 1 0 4 (whys.Req (r 6)) (tasks.Update 3 0) ∷ [])
    ∷ between 59 67 push_beside_a_running_traversal
    ++ by_coord (rows.Delivered (p 1)) (rows.Applied (r 7) (changes.Traverse (t 0)) ∷ rows.Applied (r 6) (changes.Push (n 2) (e 5 1) (s 5) (codes "http://a.test/h") (Some (codes "s"))) ∷ sent 21 1 0 1 (whys.Req (r 7)) (tasks.Update 3 0) ∷ [])
    ∷ since 68 push_beside_a_running_traversal

pub push_waits_for_the_traversal_is_refused : IsLegal (log_of push_waits_for_the_traversal) → ⊥
unfolding url_on_literals is_web is_blank_url judged judged_parse read_against address_of url_of resolved with_fragment base_of fragment_of origin_text origin_of has_same_base is_rewritable events_of each_event after_opening AtEachEvent is_numbered opens is_formed is_once is_caused is_queued is_ordered is_checked ends_settled loads_end ends_told ends_stepped goes_in_time
push_waits_for_the_traversal_is_refused holds = false≢true holds.queued

-- A held back push is applied before its traversal.
abbrev pub held_back_push_applied_early : List Event
held_back_push_applied_early =
    before 44 held_back_push
    ++ by_coord (rows.Delivered (p 1)) (rows.Applied (r 6) (changes.Push (n 0) (e 1 2) (s 1) (codes "http://a.test/2") (Some (codes "s"))) ∷ [])
    ∷ by_proc 1 (rows.Taken (p 1) (j 11) true false) []
    ∷ by_proc 1 (rows.Finished (p 1) (j 11) outcomes.Activated) []
    ∷ by_coord (rows.Delivered (p 1)) (rows.Applied (r 5) (changes.Traverse (t 0)) ∷ sent 12 1 0 1 (whys.Req (r 5)) (tasks.Update 2 1) ∷ sent 13 1 0 3 (whys.Req (r 5)) (tasks.Update 2 1) ∷ [])
    ∷ since 48 held_back_push

pub held_back_push_applied_early_is_refused : IsLegal (log_of held_back_push_applied_early) → ⊥
unfolding url_on_literals is_web is_blank_url judged judged_parse read_against address_of url_of resolved with_fragment base_of fragment_of origin_text origin_of has_same_base is_rewritable events_of each_event after_opening AtEachEvent is_numbered opens is_formed is_once is_caused is_queued is_ordered is_checked ends_settled loads_end ends_told ends_stepped goes_in_time
held_back_push_applied_early_is_refused holds = false≢true holds.queued

-- A traversal begins before the one before it has ended.
abbrev pub begins_out_of_turn : List Event
begins_out_of_turn =
    before 14 two_traversals_in_the_queue
    ++ by_ui (rows.Accepted (r 4) None (requests.Go (negsuc 0))) (rows.Started (r 4) (Some (t 0)) ∷ [])
    ∷ by_proc 1 (rows.Taken (p 1) (j 3) true false) []
    ∷ by_proc 1 (rows.Finished (p 1) (j 3) outcomes.Activated) []
    ∷ by_coord (rows.Delivered (p 1)) (rows.Applied (r 3) (changes.Traverse (t 1)) ∷ sent 4 1 0 1 (whys.Req (r 4)) (tasks.Activate (e 0 1) (epoch 3) 3 0 None (codes "http://a.test/")) ∷ [])
    ∷ since 18 two_traversals_in_the_queue

pub begins_out_of_turn_is_refused : IsLegal (log_of begins_out_of_turn) → ⊥
unfolding url_on_literals is_web is_blank_url judged judged_parse read_against address_of url_of resolved with_fragment base_of fragment_of origin_text origin_of has_same_base is_rewritable events_of each_event after_opening AtEachEvent is_numbered opens is_formed is_once is_caused is_queued is_ordered is_checked ends_settled loads_end ends_told ends_stepped goes_in_time
begins_out_of_turn_is_refused holds = false≢true holds.queued

-- A load is applied while a traversal is under way.
abbrev pub load_applied_during_a_traversal : List Event
load_applied_during_a_traversal =
    before 12 load_ended_by_a_traversal
    ++ by_ui (rows.Accepted (r 3) None (requests.Go (negsuc 0))) (rows.Started (r 3) (Some (t 0)) ∷ rows.Applied (r 2) (changes.Push (n 0) (e 0 3) (s 3) (codes "http://b.test/p0") None) ∷ sent 5 1 0 2 (whys.Req (r 3)) tasks.Freeze ∷ sent 6 1 0 1 (whys.Req (r 3)) (tasks.Activate (e 0 1) (epoch 3) 2 0 None (codes "http://a.test/")) ∷ [])
    ∷ since 13 load_ended_by_a_traversal

pub load_applied_during_a_traversal_is_refused : IsLegal (log_of load_applied_during_a_traversal) → ⊥
unfolding url_on_literals is_web is_blank_url judged judged_parse read_against address_of url_of resolved with_fragment base_of fragment_of origin_text origin_of has_same_base is_rewritable events_of each_event after_opening AtEachEvent is_numbered opens is_formed is_once is_caused is_queued is_ordered is_checked ends_settled loads_end ends_told ends_stepped goes_in_time
load_applied_during_a_traversal_is_refused holds = false≢true holds.queued

-- is_present: without conjunct `is_awake place`, `queued` would hold.
abbrev pub is_present_1 : List Event
is_present_1 =
    before 3 push_of_a_removed_frame
    ++ by_coord (rows.Delivered (p 1)) (sent 1 1 0 1 (whys.Req (r 1)) tasks.Discard ∷ rows.Applied (r 1) (changes.AddFrame (s 1) (n 1) (e 0 2) (s 2)) ∷ sent 1 1 0 2 (whys.Req (r 1)) (tasks.Populate (n 1) (s 2) (codes "about:blank") true) ∷ [])
    ∷ []

pub is_present_1_is_refused : IsLegal (log_of is_present_1) → ⊥
unfolding url_on_literals is_web is_blank_url judged judged_parse read_against address_of url_of resolved with_fragment base_of fragment_of origin_text origin_of has_same_base is_rewritable events_of each_event after_opening AtEachEvent is_numbered opens is_formed is_once is_caused is_queued is_ordered is_checked ends_settled loads_end ends_told ends_stepped goes_in_time
is_present_1_is_refused holds = false≢true holds.queued

-- ends_in: by_kind: were equation 2 left out, `queued` would hold.
abbrev pub ends_in_1 : List Event
ends_in_1 =
    before 67 removal_and_push_of_two_processes
    ++ by_coord (rows.Delivered (p 2)) (rows.Applied (r 6) (changes.Traverse (t 2)) ∷ rows.Applied (r 7) (changes.RemoveFrame (n 1)) ∷ rows.Applied (r 8) (changes.Push (n 0) (e 1 2) (s 1) (codes "http://a.test/") (Some (codes "t"))) ∷ sent 18 2 0 3 (whys.Req (r 7)) tasks.Discard ∷ sent 19 2 0 4 (whys.Req (r 7)) tasks.Discard ∷ rows.Started (r 8) (Some (t 0)) ∷ sent 20 1 0 1 (whys.Req (r 6)) (tasks.Update 3 2) ∷ rows.Refused (r 8) denials.NoStep ∷ [])
    ∷ []

pub ends_in_1_is_refused : IsLegal (log_of ends_in_1) → ⊥
unfolding url_on_literals is_web is_blank_url judged judged_parse read_against address_of url_of resolved with_fragment base_of fragment_of origin_text origin_of has_same_base is_rewritable events_of each_event after_opening AtEachEvent is_numbered opens is_formed is_once is_caused is_queued is_ordered is_checked ends_settled loads_end ends_told ends_stepped goes_in_time
ends_in_1_is_refused holds = false≢true holds.queued

-- is_taken_up_in: by_kind: were equation 2 true, `queued` would hold.
abbrev pub is_taken_up_in_1 : List Event
is_taken_up_in_1 =
    before 6 push_in_an_initial_document
    ++ by_coord (rows.Delivered (p 1)) (rows.Refused (r 1) denials.NavTaken ∷ [])
    ∷ []

pub is_taken_up_in_1_is_refused : IsLegal (log_of is_taken_up_in_1) → ⊥
unfolding url_on_literals is_web is_blank_url judged judged_parse read_against address_of url_of resolved with_fragment base_of fragment_of origin_text origin_of has_same_base is_rewritable events_of each_event after_opening AtEachEvent is_numbered opens is_formed is_once is_caused is_queued is_ordered is_checked ends_settled loads_end ends_told ends_stepped goes_in_time
is_taken_up_in_1_is_refused holds = false≢true holds.queued

-- begins_in_turn: without conjunct `is_first_joined s req`, `queued` would hold.
abbrev pub begins_in_turn_1 : List Event
begins_in_turn_1 =
    load_of_no_navigable
    ++ by_proc 1 (rows.Finished (p 1) (j 1) outcomes.Discarded) (rows.Refused (r 2) denials.NoNavigable ∷ [])
    ∷ []

pub begins_in_turn_1_is_refused : IsLegal (log_of begins_in_turn_1) → ⊥
unfolding url_on_literals is_web is_blank_url judged judged_parse read_against address_of url_of resolved with_fragment base_of fragment_of origin_text origin_of has_same_base is_rewritable events_of each_event after_opening AtEachEvent is_numbered opens is_formed is_once is_caused is_queued is_ordered is_checked ends_settled loads_end ends_told ends_stepped goes_in_time
begins_in_turn_1_is_refused holds = false≢true holds.queued

-- begins_in_turn: without conjunct `is_queue_free s`, `queued` would hold.
abbrev pub begins_in_turn_2 : List Event
begins_in_turn_2 =
    by_start (rows.Opened (e 0 1) (s 1) (d 1) (p 1) None (codes "http://a.test/")) []
    ∷ by_ui (rows.Accepted (r 1) None (requests.Go (pos 1))) (rows.Refused (r 1) denials.NoStep ∷ [])
    ∷ by_ui (rows.Accepted (r 2) None (requests.Reload (n 0))) (rows.Started (r 2) (Some (t 1)) ∷ sent 1 1 0 2 (whys.Req (r 2)) (tasks.Populate (n 0) (s 2) (codes "http://b.test/p0#x") true) ∷ rows.Refused (r 2) denials.NoDocument ∷ [])
    ∷ []

pub begins_in_turn_2_is_refused : IsLegal (log_of begins_in_turn_2) → ⊥
unfolding url_on_literals is_web is_blank_url judged judged_parse read_against address_of url_of resolved with_fragment base_of fragment_of origin_text origin_of has_same_base is_rewritable events_of each_event after_opening AtEachEvent is_numbered opens is_formed is_once is_caused is_queued is_ordered is_checked ends_settled loads_end ends_told ends_stepped goes_in_time
begins_in_turn_2_is_refused holds = false≢true holds.queued

-- is_delivered_duly: by_made: without test `is_taken_up_in made.req`, `queued` would hold.
abbrev pub is_delivered_duly_1 : List Event
is_delivered_duly_1 =
    before 4 replace_and_fragment
    ++ by_coord (rows.Delivered (p 1)) (rows.Applied (r 2) (changes.Reload (n 0)) ∷ sent 1 1 0 1 (whys.Death (x 1)) tasks.Discard ∷ [])
    ∷ []

pub is_delivered_duly_1_is_refused : IsLegal (log_of is_delivered_duly_1) → ⊥
unfolding url_on_literals is_web is_blank_url judged judged_parse read_against address_of url_of resolved with_fragment base_of fragment_of origin_text origin_of has_same_base is_rewritable events_of each_event after_opening AtEachEvent is_numbered opens is_formed is_once is_caused is_queued is_ordered is_checked ends_settled loads_end ends_told ends_stepped goes_in_time
is_delivered_duly_1_is_refused holds = false≢true holds.queued

-- is_first_joined: without test `first.0 == req.0`, `queued` would hold.
abbrev pub is_first_joined_1 : List Event
is_first_joined_1 =
    by_start (rows.Opened (e 0 1) (s 1) (d 1) (p 1) None (codes "http://a.test/")) []
    ∷ by_ui (rows.Accepted (r 2) None (requests.Go (pos 5))) (rows.Refused (r 1) denials.NoStep ∷ [])
    ∷ []

pub is_first_joined_1_is_refused : IsLegal (log_of is_first_joined_1) → ⊥
unfolding url_on_literals is_web is_blank_url judged judged_parse read_against address_of url_of resolved with_fragment base_of fragment_of origin_text origin_of has_same_base is_rewritable events_of each_event after_opening AtEachEvent is_numbered opens is_formed is_once is_caused is_queued is_ordered is_checked ends_settled loads_end ends_told ends_stepped goes_in_time
is_first_joined_1_is_refused holds = false≢true holds.queued

-- is_load_step: without test `is_shown s.history.rows s.history.current`, `queued` would hold.
abbrev pub is_load_step_1 : List Event
is_load_step_1 =
    before 32 kept_frame_document_at_an_eviction
    ++ by_coord (rows.Delivered (p 2)) (rows.Applied (r 2) (changes.Push (n 1) (e 0 5) (s 3) (codes "http://b.test/f") None) ∷ [])
    ∷ []

pub is_load_step_1_is_refused : IsLegal (log_of is_load_step_1) → ⊥
unfolding url_on_literals is_web is_blank_url judged judged_parse read_against address_of url_of resolved with_fragment base_of fragment_of origin_text origin_of has_same_base is_rewritable events_of each_event after_opening AtEachEvent is_numbered opens is_formed is_once is_caused is_queued is_ordered is_checked ends_settled loads_end ends_told ends_stepped goes_in_time
is_load_step_1_is_refused holds = false≢true holds.queued

-- is_queued_row: by_kind: without conjunct `is_jump s q`, `queued` would hold.
abbrev pub is_queued_row_1 : List Event
is_queued_row_1 =
    before 3 push_behind_a_traversal
    ++ by_coord (rows.Delivered (p 1)) (rows.Applied (r 1) (changes.RemoveFrame (n 0)) ∷ rows.Applied (r 1) (changes.Push (n 0) (e 1 1) (s 1) (codes "http://a.test/1") (Some (codes "s"))) ∷ sent 1 1 0 1 (whys.Req (r 1)) (tasks.Update 2 1) ∷ [])
    ∷ []

pub is_queued_row_1_is_refused : IsLegal (log_of is_queued_row_1) → ⊥
unfolding url_on_literals is_web is_blank_url judged judged_parse read_against address_of url_of resolved with_fragment base_of fragment_of origin_text origin_of has_same_base is_rewritable events_of each_event after_opening AtEachEvent is_numbered opens is_formed is_once is_caused is_queued is_ordered is_checked ends_settled loads_end ends_told ends_stepped goes_in_time
is_queued_row_1_is_refused holds = false≢true holds.queued

-- is_queued_row: by_kind: without conjunct `is_unparked_duly p req`, `queued` would hold.
abbrev pub is_queued_row_2 : List Event
is_queued_row_2 =
    before 63 removal_and_push
    ++ by_proc 1 (rows.Finished (p 1) (j 16) outcomes.Frozen) (rows.Refused (r 8) denials.BadAddress ∷ [])
    ∷ []

pub is_queued_row_2_is_refused : IsLegal (log_of is_queued_row_2) → ⊥
unfolding url_on_literals is_web is_blank_url judged judged_parse read_against address_of url_of resolved with_fragment base_of fragment_of origin_text origin_of has_same_base is_rewritable events_of each_event after_opening AtEachEvent is_numbered opens is_formed is_once is_caused is_queued is_ordered is_checked ends_settled loads_end ends_told ends_stepped goes_in_time
is_queued_row_2_is_refused holds = false≢true holds.queued

-- is_queued_row: by_kind: without disjunct `is_reload q.what`, `queued` would hold.
abbrev pub is_queued_row_3 : List Event
is_queued_row_3 =
    load_of_no_navigable
    ++ by_ui (rows.Evicted (s 1)) (rows.Started (r 2) (Some (t 3)) ∷ [])
    ∷ []

pub is_queued_row_3_is_refused : IsLegal (log_of is_queued_row_3) → ⊥
unfolding url_on_literals is_web is_blank_url judged judged_parse read_against address_of url_of resolved with_fragment base_of fragment_of origin_text origin_of has_same_base is_rewritable events_of each_event after_opening AtEachEvent is_numbered opens is_formed is_once is_caused is_queued is_ordered is_checked ends_settled loads_end ends_told ends_stepped goes_in_time
is_queued_row_3_is_refused holds = false≢true holds.queued

-- is_traversed_duly: without conjunct `unparks p`, `queued` would hold.
abbrev pub is_traversed_duly_1 : List Event
is_traversed_duly_1 =
    before 67 removal_and_push_of_two_processes
    ++ by_coord (rows.Delivered (p 2)) (rows.Applied (r 6) (changes.Traverse (t 2)) ∷ rows.Applied (r 7) (changes.RemoveFrame (n 1)) ∷ rows.Dropped (r 8) (drops.Destroyed (r 8)) ∷ rows.Applied (r 8) (changes.Push (n 0) (e 1 2) (s 1) (codes "http://a.test/") (Some (codes "t"))) ∷ sent 18 2 0 3 (whys.Req (r 7)) tasks.Discard ∷ sent 19 2 0 4 (whys.Req (r 7)) tasks.Discard ∷ sent 20 1 0 1 (whys.Req (r 6)) (tasks.Update 3 2) ∷ [])
    ∷ []

pub is_traversed_duly_1_is_refused : IsLegal (log_of is_traversed_duly_1) → ⊥
unfolding url_on_literals is_web is_blank_url judged judged_parse read_against address_of url_of resolved with_fragment base_of fragment_of origin_text origin_of has_same_base is_rewritable events_of each_event after_opening AtEachEvent is_numbered opens is_formed is_once is_caused is_queued is_ordered is_checked ends_settled loads_end ends_told ends_stepped goes_in_time
is_traversed_duly_1_is_refused holds = false≢true holds.queued

-- is_unparked_duly: without test `is_traverse`, `queued` would hold.
abbrev pub is_unparked_duly_1 : List Event
is_unparked_duly_1 =
    before 62 removal_and_push
    ++ by_proc 1 (rows.Taken (p 1) (j 16) true false) (rows.Dropped (r 8) drops.Stay ∷ [])
    ∷ []

pub is_unparked_duly_1_is_refused : IsLegal (log_of is_unparked_duly_1) → ⊥
unfolding url_on_literals is_web is_blank_url judged judged_parse read_against address_of url_of resolved with_fragment base_of fragment_of origin_text origin_of has_same_base is_rewritable events_of each_event after_opening AtEachEvent is_numbered opens is_formed is_once is_caused is_queued is_ordered is_checked ends_settled loads_end ends_told ends_stepped goes_in_time
is_unparked_duly_1_is_refused holds = false≢true holds.queued

-- The traversal is dropped for which a push is held back, and the push is applied without it. is_queued_row: by_kind: without conjunct `is_unparked_duly p req`, `queued` would hold.
abbrev pub held_back_push_without_its_traversal : List Event
held_back_push_without_its_traversal =
    before 45 held_back_push
    ++ by_ui (rows.Accepted (r 7) None (requests.Go (pos 5))) (rows.Dropped (r 5) drops.Stay ∷ rows.Applied (r 6) (changes.Push (n 0) (e 1 2) (s 1) (codes "http://a.test/2") (Some (codes "s"))) ∷ [])
    ∷ []

pub held_back_push_without_its_traversal_is_refused : IsLegal (log_of held_back_push_without_its_traversal) → ⊥
unfolding url_on_literals is_web is_blank_url judged judged_parse read_against address_of url_of resolved with_fragment base_of fragment_of origin_text origin_of has_same_base is_rewritable events_of each_event after_opening AtEachEvent is_numbered opens is_formed is_once is_caused is_queued is_ordered is_checked ends_settled loads_end ends_told ends_stepped goes_in_time
held_back_push_without_its_traversal_is_refused holds = false≢true holds.queued
