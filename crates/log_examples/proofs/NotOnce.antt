-- Broken logs, each refused by the field `once`.
-- A log is its events: those before one of another log, since one, or between two, and its own.
use Rattle.std.proofs.Common.{pos, negsuc, true, false, List, [], ◌∷◌, ◌++◌, codes, Some, None}
use Rattle.std.proofs.lemmas.Bool.{false≢true}
use Rattle.url.proofs.OnLiterals.{url_on_literals}
use Rattle.address.specs.Addresses.{is_web, is_blank_url, judged, judged_parse, read_against, address_of, url_of, resolved, with_fragment, base_of, fragment_of, origin_text, origin_of, has_same_base, is_rewritable}
use Rattle.log_model.specs.declared.action.Action.TheVariants as actions
use Rattle.log_model.specs.declared.change.Change.TheVariants as changes
use Rattle.log_model.specs.declared.job.Task.TheVariants as tasks
use Rattle.log_model.specs.declared.job.Why.TheVariants as whys
use Rattle.log_model.specs.declared.made.What.TheVariants as whats
use Rattle.log_model.specs.declared.outcome.Cause.TheVariants as drops
use Rattle.log_model.specs.declared.outcome.Denial.TheVariants as denials
use Rattle.log_model.specs.declared.request.Mode.TheVariants as modes
use Rattle.log_model.specs.declared.request.Request.TheVariants as requests
use Rattle.log_model.specs.declared.row_kind.RowKind.TheVariants as rows
use Rattle.log_model.specs.Events.{events_of, each_event, after_opening, AtEachEvent}
use Rattle.log_model.specs.Formed.{is_numbered}
use Rattle.log_model.specs.Legal.{IsLegal, opens, is_formed, is_once, is_caused, is_queued, is_ordered, is_checked, ends_settled}
use Rattle.log_model.specs.LoadsEndInTime.{loads_end}
use Rattle.log_model.specs.ActsAtOnce.{ends_told, ends_stepped, goes_in_time}
use Rattle.log_examples.specs.Rows.{n, s, r, p, t, d, e, epoch, sent, made}
use Rattle.log_examples.specs.Logs.{Event, by_start, by_ui, by_coord, by_proc, log_of, before, since}
use Rattle.log_examples.proofs.Pushes.{one_push}
use Rattle.log_examples.proofs.Traversals.{back_after_three_pushes}
use Rattle.log_examples.proofs.Loads.{later_load, load_ended_by_a_reload, fragment_load}
use Rattle.log_examples.proofs.Frames.{frame_replaced, taken_number}

-- A request is applied twice.
abbrev pub two_outcomes : List Event
two_outcomes =
    before 3 one_push
    ++ by_coord (rows.Delivered (p 1)) (rows.Applied (r 1) (changes.Push (n 0) (e 1 1) (s 1) (codes "http://a.test/1") (Some (codes "s"))) ∷ rows.Applied (r 1) (changes.Push (n 0) (e 1 1) (s 1) (codes "http://a.test/1") (Some (codes "s"))) ∷ sent 1 1 0 1 (whys.Req (r 1)) (tasks.Update 2 1) ∷ [])
    ∷ since 4 one_push

pub two_outcomes_is_refused : IsLegal (log_of two_outcomes) → ⊥
unfolding url_on_literals is_web is_blank_url judged judged_parse read_against address_of url_of resolved with_fragment base_of fragment_of origin_text origin_of has_same_base is_rewritable events_of each_event after_opening AtEachEvent is_numbered opens is_formed is_once is_caused is_queued is_ordered is_checked ends_settled loads_end ends_told ends_stepped goes_in_time
two_outcomes_is_refused holds = false≢true holds.once

-- A document makes another address than its reference spells.
abbrev pub made_another_address : List Event
made_another_address =
    by_start (rows.Opened (e 0 1) (s 1) (d 1) (p 1) None (codes "http://a.test/")) []
    ∷ by_ui (rows.Accepted (r 1) (Some (d 1)) (requests.Poke (n 0) (actions.Push (Some (codes "s")) (Some (codes "/1"))))) []
    ∷ by_proc 1 (made 1 1 1 1 (whats.Push (e 1 1) (Some (codes "s")) (codes "http://a.test/2"))) []
    ∷ since 3 one_push

pub made_another_address_is_refused : IsLegal (log_of made_another_address) → ⊥
unfolding url_on_literals is_web is_blank_url judged judged_parse read_against address_of url_of resolved with_fragment base_of fragment_of origin_text origin_of has_same_base is_rewritable events_of each_event after_opening AtEachEvent is_numbered opens is_formed is_once is_caused is_queued is_ordered is_checked ends_settled loads_end ends_told ends_stepped goes_in_time
made_another_address_is_refused holds = false≢true holds.once

-- The applied push has another address than the document made.
abbrev pub applied_another_address : List Event
applied_another_address =
    before 3 one_push
    ++ by_coord (rows.Delivered (p 1)) (rows.Applied (r 1) (changes.Push (n 0) (e 1 1) (s 1) (codes "http://a.test/2") (Some (codes "s"))) ∷ sent 1 1 0 1 (whys.Req (r 1)) (tasks.Update 2 1) ∷ [])
    ∷ since 4 one_push

pub applied_another_address_is_refused : IsLegal (log_of applied_another_address) → ⊥
unfolding url_on_literals is_web is_blank_url judged judged_parse read_against address_of url_of resolved with_fragment base_of fragment_of origin_text origin_of has_same_base is_rewritable events_of each_event after_opening AtEachEvent is_numbered opens is_formed is_once is_caused is_queued is_ordered is_checked ends_settled loads_end ends_told ends_stepped goes_in_time
applied_another_address_is_refused holds = false≢true holds.once

-- A traversal begins with another goal.
abbrev pub another_goal : List Event
another_goal =
    before 19 back_after_three_pushes
    ++ by_ui (rows.Accepted (r 4) None (requests.Go (negsuc 0))) (rows.Started (r 4) (Some (t 1)) ∷ sent 4 1 0 1 (whys.Req (r 4)) (tasks.Activate (e 1 2) (epoch 2) 4 2 (Some (codes "s2")) (codes "http://a.test/2")) ∷ [])
    ∷ since 20 back_after_three_pushes

pub another_goal_is_refused : IsLegal (log_of another_goal) → ⊥
unfolding url_on_literals is_web is_blank_url judged judged_parse read_against address_of url_of resolved with_fragment base_of fragment_of origin_text origin_of has_same_base is_rewritable events_of each_event after_opening AtEachEvent is_numbered opens is_formed is_once is_caused is_queued is_ordered is_checked ends_settled loads_end ends_told ends_stepped goes_in_time
another_goal_is_refused holds = false≢true holds.once

-- A load of an initial document pushes.
abbrev pub push_for_a_replace : List Event
push_for_a_replace =
    before 13 frame_replaced
    ++ by_coord (rows.Delivered (p 1)) (rows.Applied (r 2) (changes.Push (n 1) (e 0 3) (s 3) (codes "http://a.test/f") None) ∷ sent 4 1 0 2 (whys.Req (r 2)) tasks.Discard ∷ sent 5 1 0 3 (whys.Req (r 2)) (tasks.Activate (e 0 3) (epoch 2) 1 0 None (codes "http://a.test/f")) ∷ [])
    ∷ since 14 frame_replaced

pub push_for_a_replace_is_refused : IsLegal (log_of push_for_a_replace) → ⊥
unfolding url_on_literals is_web is_blank_url judged judged_parse read_against address_of url_of resolved with_fragment base_of fragment_of origin_text origin_of has_same_base is_rewritable events_of each_event after_opening AtEachEvent is_numbered opens is_formed is_once is_caused is_queued is_ordered is_checked ends_settled loads_end ends_told ends_stepped goes_in_time
push_for_a_replace_is_refused holds = false≢true holds.once

-- A request has another number than the next.
abbrev pub another_request_number : List Event
another_request_number =
    by_start (rows.Opened (e 0 1) (s 1) (d 1) (p 1) None (codes "http://a.test/")) []
    ∷ by_ui (rows.Accepted (r 2) None (requests.Go (pos 5))) (rows.Refused (r 1) denials.NoStep ∷ [])
    ∷ []

pub another_request_number_is_refused : IsLegal (log_of another_request_number) → ⊥
unfolding url_on_literals is_web is_blank_url judged judged_parse read_against address_of url_of resolved with_fragment base_of fragment_of origin_text origin_of has_same_base is_rewritable events_of each_event after_opening AtEachEvent is_numbered opens is_formed is_once is_caused is_queued is_ordered is_checked ends_settled loads_end ends_told ends_stepped goes_in_time
another_request_number_is_refused holds = false≢true holds.once

-- A reload is applied that never began.
abbrev pub reload_that_did_not_begin : List Event
reload_that_did_not_begin =
    by_start (rows.Opened (e 0 1) (s 1) (d 1) (p 1) None (codes "http://a.test/")) []
    ∷ by_ui (rows.Accepted (r 1) None (requests.Load (n 0) modes.Auto (codes "http://b.test/p0"))) (rows.Started (r 1) None ∷ sent 1 2 0 2 (whys.Req (r 1)) (tasks.Populate (n 0) (s 2) (codes "http://b.test/p0") false) ∷ [])
    ∷ by_ui (rows.Accepted (r 2) None (requests.Reload (n 0))) (rows.Applied (r 2) (changes.Reload (n 0)) ∷ rows.Dropped (r 1) (drops.By (r 2)) ∷ sent 2 1 0 3 (whys.Req (r 2)) (tasks.Populate (n 0) (s 1) (codes "http://a.test/") false) ∷ [])
    ∷ since 3 load_ended_by_a_reload

pub reload_that_did_not_begin_is_refused : IsLegal (log_of reload_that_did_not_begin) → ⊥
unfolding url_on_literals is_web is_blank_url judged judged_parse read_against address_of url_of resolved with_fragment base_of fragment_of origin_text origin_of has_same_base is_rewritable events_of each_event after_opening AtEachEvent is_numbered opens is_formed is_once is_caused is_queued is_ordered is_checked ends_settled loads_end ends_told ends_stepped goes_in_time
reload_that_did_not_begin_is_refused holds = false≢true holds.once

-- A frame is added with another document state than the next.
abbrev pub another_document_state : List Event
another_document_state =
    before 3 taken_number
    ++ by_coord (rows.Delivered (p 1)) (rows.Applied (r 1) (changes.AddFrame (s 1) (n 1) (e 0 2) (s 3)) ∷ sent 1 1 0 2 (whys.Req (r 1)) (tasks.Populate (n 1) (s 2) (codes "about:blank") true) ∷ [])
    ∷ since 4 taken_number

pub another_document_state_is_refused : IsLegal (log_of another_document_state) → ⊥
unfolding url_on_literals is_web is_blank_url judged judged_parse read_against address_of url_of resolved with_fragment base_of fragment_of origin_text origin_of has_same_base is_rewritable events_of each_event after_opening AtEachEvent is_numbered opens is_formed is_once is_caused is_queued is_ordered is_checked ends_settled loads_end ends_told ends_stepped goes_in_time
another_document_state_is_refused holds = false≢true holds.once

-- A traversal begins twice.
abbrev pub begins_twice : List Event
begins_twice =
    before 19 back_after_three_pushes
    ++ by_ui (rows.Accepted (r 4) None (requests.Go (negsuc 0))) (rows.Started (r 4) (Some (t 2)) ∷ rows.Started (r 4) (Some (t 2)) ∷ sent 4 1 0 1 (whys.Req (r 4)) (tasks.Activate (e 1 2) (epoch 2) 4 2 (Some (codes "s2")) (codes "http://a.test/2")) ∷ [])
    ∷ since 20 back_after_three_pushes

pub begins_twice_is_refused : IsLegal (log_of begins_twice) → ⊥
unfolding url_on_literals is_web is_blank_url judged judged_parse read_against address_of url_of resolved with_fragment base_of fragment_of origin_text origin_of has_same_base is_rewritable events_of each_event after_opening AtEachEvent is_numbered opens is_formed is_once is_caused is_queued is_ordered is_checked ends_settled loads_end ends_told ends_stepped goes_in_time
begins_twice_is_refused holds = false≢true holds.once

-- A load that is a fragment navigation begins as one with a new document.
abbrev pub fragment_load_with_a_document : List Event
fragment_load_with_a_document =
    by_start (rows.Opened (e 0 1) (s 1) (d 1) (p 1) None (codes "http://a.test/")) []
    ∷ by_ui (rows.Accepted (r 1) None (requests.Load (n 0) modes.Auto (codes "http://a.test/#x"))) (rows.Started (r 1) None ∷ [])
    ∷ since 2 fragment_load

pub fragment_load_with_a_document_is_refused : IsLegal (log_of fragment_load_with_a_document) → ⊥
unfolding url_on_literals is_web is_blank_url judged judged_parse read_against address_of url_of resolved with_fragment base_of fragment_of origin_text origin_of has_same_base is_rewritable events_of each_event after_opening AtEachEvent is_numbered opens is_formed is_once is_caused is_queued is_ordered is_checked ends_settled loads_end ends_told ends_stepped goes_in_time
fragment_load_with_a_document_is_refused holds = false≢true holds.once

-- A load begins and the earlier one goes on.
abbrev pub two_loads_of_one_navigable : List Event
two_loads_of_one_navigable =
    by_start (rows.Opened (e 0 1) (s 1) (d 1) (p 1) None (codes "http://a.test/")) []
    ∷ by_ui (rows.Accepted (r 1) None (requests.Load (n 0) modes.Auto (codes "http://a.test/1"))) (rows.Started (r 1) None ∷ sent 1 1 0 2 (whys.Req (r 1)) (tasks.Populate (n 0) (s 2) (codes "http://a.test/1") false) ∷ [])
    ∷ by_ui (rows.Accepted (r 2) None (requests.Load (n 0) modes.Auto (codes "http://a.test/2"))) (rows.Started (r 2) None ∷ sent 2 1 0 3 (whys.Req (r 2)) (tasks.Populate (n 0) (s 3) (codes "http://a.test/2") false) ∷ [])
    ∷ since 3 later_load

pub two_loads_of_one_navigable_is_refused : IsLegal (log_of two_loads_of_one_navigable) → ⊥
unfolding url_on_literals is_web is_blank_url judged judged_parse read_against address_of url_of resolved with_fragment base_of fragment_of origin_text origin_of has_same_base is_rewritable events_of each_event after_opening AtEachEvent is_numbered opens is_formed is_once is_caused is_queued is_ordered is_checked ends_settled loads_end ends_told ends_stepped goes_in_time
two_loads_of_one_navigable_is_refused holds = false≢true holds.once
