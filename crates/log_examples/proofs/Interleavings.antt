-- Legal logs: interleavings.
-- A log is its events: those before one of another log, since one, or between two, and its own.
use Rattle.std.proofs.Common.{pos, negsuc, true, false, List, [], ◌∷◌, ◌++◌, codes, refl, Some, None}
use Rattle.url.proofs.OnLiterals.{url_on_literals}
use Rattle.address.specs.Addresses.{is_web, is_blank_url, judged, judged_parse, read_against, address_of, url_of, resolved, with_fragment, base_of, fragment_of, origin_text, origin_of, has_same_base, is_rewritable}
use Rattle.log_model.specs.declared.action.Action.TheVariants as actions
use Rattle.log_model.specs.declared.change.Change.TheVariants as changes
use Rattle.log_model.specs.declared.job.Task.TheVariants as tasks
use Rattle.log_model.specs.declared.job.Why.TheVariants as whys
use Rattle.log_model.specs.declared.made.What.TheVariants as whats
use Rattle.log_model.specs.declared.outcome.Cause.TheVariants as drops
use Rattle.log_model.specs.declared.outcome.Denial.TheVariants as denials
use Rattle.log_model.specs.declared.outcome.Outcome.TheVariants as outcomes
use Rattle.log_model.specs.declared.request.Mode.TheVariants as modes
use Rattle.log_model.specs.declared.request.Request.TheVariants as requests
use Rattle.log_model.specs.declared.row_kind.RowKind.TheVariants as rows
use Rattle.log_model.specs.Events.{events_of, each_event, after_opening, AtEachEvent}
use Rattle.log_model.specs.Formed.{is_numbered}
use Rattle.log_model.specs.Legal.{IsLegal, opens, is_formed, is_once, is_caused, is_queued, is_ordered, is_checked, ends_settled}
use Rattle.log_model.specs.LoadsEndInTime.{LoadsEndInTime, loads_end}
use Rattle.log_model.specs.ActsAtOnce.{ActsAtOnce, ends_told, ends_stepped, goes_in_time}
use Rattle.log_model.specs.Suits.{Suits}
use Rattle.log_model.specs.declared.header.Header.{Header}
use Rattle.log_examples.specs.Rows.{n, s, r, p, t, x, d, j, e, epoch, sent, made}
use Rattle.log_examples.specs.Logs.{Event, by_start, by_ui, by_coord, by_proc, log_of, before, plain_settings}
use Rattle.log_examples.proofs.Pushes.{push_beside_a_frame}

-- A push in a navigable that a running traversal has not moved is applied before it.
abbrev pub push_beside_a_running_traversal : List Event
push_beside_a_running_traversal =
    by_start (rows.Opened (e 0 1) (s 1) (d 1) (p 1) None (codes "http://a.test/")) []
    ∷ by_ui (rows.Accepted (r 1) (Some (d 1)) (requests.Poke (n 0) (actions.AddFrame (n 1)))) []
    ∷ by_ui (rows.Accepted (r 2) (Some (d 1)) (requests.Poke (n 0) (actions.AddFrame (n 2)))) []
    ∷ by_proc 1 (made 1 1 1 1 (whats.AddFrame (n 1))) []
    ∷ by_coord (rows.Delivered (p 1)) (rows.Applied (r 1) (changes.AddFrame (s 1) (n 1) (e 0 2) (s 2)) ∷ sent 1 1 0 2 (whys.Req (r 1)) (tasks.Populate (n 1) (s 2) (codes "about:blank") true) ∷ [])
    ∷ by_proc 1 (made 1 2 1 1 (whats.AddFrame (n 2))) []
    ∷ by_proc 1 (rows.Taken (p 1) (j 1) true false) []
    ∷ by_proc 1 (rows.Finished (p 1) (j 1) (outcomes.Populated None)) []
    ∷ by_coord (rows.Delivered (p 1)) (rows.Applied (r 2) (changes.AddFrame (s 1) (n 2) (e 0 3) (s 3)) ∷ sent 2 1 0 3 (whys.Req (r 2)) (tasks.Populate (n 2) (s 3) (codes "about:blank") true) ∷ [])
    ∷ by_proc 1 (rows.Taken (p 1) (j 2) true false) []
    ∷ by_proc 1 (rows.Finished (p 1) (j 2) (outcomes.Populated None)) []
    ∷ by_coord (rows.Delivered (p 1)) (sent 3 1 0 2 (whys.Req (r 1)) (tasks.Activate (e 0 2) (epoch 1) 1 0 None (codes "about:blank")) ∷ [])
    ∷ by_proc 1 (rows.Taken (p 1) (j 3) true false) []
    ∷ by_proc 1 (rows.Finished (p 1) (j 3) outcomes.Activated) []
    ∷ by_coord (rows.Delivered (p 1)) (sent 4 1 0 3 (whys.Req (r 2)) (tasks.Activate (e 0 3) (epoch 1) 1 0 None (codes "about:blank")) ∷ [])
    ∷ by_proc 1 (rows.Taken (p 1) (j 4) true false) []
    ∷ by_proc 1 (rows.Finished (p 1) (j 4) outcomes.Activated) []
    ∷ by_coord (rows.Delivered (p 1)) []
    ∷ by_coord (rows.Delivered (p 1)) []
    ∷ by_ui (rows.Accepted (r 3) None (requests.Load (n 1) modes.Auto (codes "http://a.test/f1"))) (rows.Started (r 3) None ∷ sent 5 1 0 4 (whys.Req (r 3)) (tasks.Populate (n 1) (s 4) (codes "http://a.test/f1") false) ∷ [])
    ∷ by_ui (rows.Accepted (r 4) None (requests.Load (n 2) modes.Auto (codes "http://a.test/g"))) (rows.Started (r 4) None ∷ sent 6 1 0 5 (whys.Req (r 4)) (tasks.Populate (n 2) (s 5) (codes "http://a.test/g") false) ∷ [])
    ∷ by_proc 1 (rows.Taken (p 1) (j 5) true false) []
    ∷ by_proc 1 (rows.Finished (p 1) (j 5) (outcomes.Populated None)) []
    ∷ by_coord (rows.Delivered (p 1)) (rows.Applied (r 3) (changes.Replace (n 1) (e 0 2) (e 0 4) (s 4) (codes "http://a.test/f1") None) ∷ sent 7 1 0 2 (whys.Req (r 3)) tasks.Discard ∷ sent 8 1 0 4 (whys.Req (r 3)) (tasks.Activate (e 0 4) (epoch 2) 1 0 None (codes "http://a.test/f1")) ∷ [])
    ∷ by_proc 1 (rows.Taken (p 1) (j 6) true false) []
    ∷ by_proc 1 (rows.Finished (p 1) (j 6) (outcomes.Populated None)) []
    ∷ by_coord (rows.Delivered (p 1)) []
    ∷ by_proc 1 (rows.Taken (p 1) (j 7) true false) []
    ∷ by_proc 1 (rows.Finished (p 1) (j 7) outcomes.Discarded) []
    ∷ by_coord (rows.Delivered (p 1)) []
    ∷ by_proc 1 (rows.Taken (p 1) (j 8) true false) []
    ∷ by_proc 1 (rows.Finished (p 1) (j 8) outcomes.Activated) []
    ∷ by_coord (rows.Delivered (p 1)) (rows.Applied (r 4) (changes.Replace (n 2) (e 0 3) (e 0 5) (s 5) (codes "http://a.test/g") None) ∷ sent 9 1 0 3 (whys.Req (r 4)) tasks.Discard ∷ sent 10 1 0 5 (whys.Req (r 4)) (tasks.Activate (e 0 5) (epoch 2) 1 0 None (codes "http://a.test/g")) ∷ [])
    ∷ by_proc 1 (rows.Taken (p 1) (j 9) true false) []
    ∷ by_proc 1 (rows.Finished (p 1) (j 9) outcomes.Discarded) []
    ∷ by_coord (rows.Delivered (p 1)) []
    ∷ by_proc 1 (rows.Taken (p 1) (j 10) true false) []
    ∷ by_proc 1 (rows.Finished (p 1) (j 10) outcomes.Activated) []
    ∷ by_coord (rows.Delivered (p 1)) []
    ∷ by_ui (rows.Accepted (r 5) None (requests.Load (n 1) modes.Auto (codes "http://a.test/f2"))) (rows.Started (r 5) None ∷ sent 11 1 0 6 (whys.Req (r 5)) (tasks.Populate (n 1) (s 6) (codes "http://a.test/f2") false) ∷ [])
    ∷ by_proc 1 (rows.Taken (p 1) (j 11) true false) []
    ∷ by_proc 1 (rows.Finished (p 1) (j 11) (outcomes.Populated None)) []
    ∷ by_coord (rows.Delivered (p 1)) (rows.Applied (r 5) (changes.Push (n 1) (e 0 6) (s 6) (codes "http://a.test/f2") None) ∷ sent 12 1 0 4 (whys.Req (r 5)) tasks.Freeze ∷ sent 13 1 0 6 (whys.Req (r 5)) (tasks.Activate (e 0 6) (epoch 3) 2 1 None (codes "http://a.test/f2")) ∷ sent 14 1 0 1 (whys.Req (r 5)) (tasks.Update 2 1) ∷ sent 15 1 0 5 (whys.Req (r 5)) (tasks.Update 2 1) ∷ [])
    ∷ by_proc 1 (rows.Taken (p 1) (j 12) true false) []
    ∷ by_proc 1 (rows.Finished (p 1) (j 12) outcomes.Frozen) []
    ∷ by_coord (rows.Delivered (p 1)) []
    ∷ by_proc 1 (rows.Taken (p 1) (j 13) true false) []
    ∷ by_proc 1 (rows.Finished (p 1) (j 13) outcomes.Activated) []
    ∷ by_coord (rows.Delivered (p 1)) []
    ∷ by_proc 1 (rows.Taken (p 1) (j 14) true false) []
    ∷ by_proc 1 (rows.Finished (p 1) (j 14) outcomes.Updated) []
    ∷ by_coord (rows.Delivered (p 1)) []
    ∷ by_proc 1 (rows.Taken (p 1) (j 15) true false) []
    ∷ by_proc 1 (rows.Finished (p 1) (j 15) outcomes.Updated) []
    ∷ by_coord (rows.Delivered (p 1)) []
    ∷ by_ui (rows.Accepted (r 6) (Some (d 5)) (requests.Poke (n 2) (actions.Push (Some (codes "s")) (Some (codes "/h"))))) []
    ∷ by_ui (rows.Accepted (r 7) None (requests.Go (negsuc 0))) (rows.Started (r 7) (Some (t 0)) ∷ sent 16 1 0 6 (whys.Req (r 7)) tasks.Freeze ∷ sent 17 1 0 4 (whys.Req (r 7)) (tasks.Activate (e 0 4) (epoch 4) 2 0 None (codes "http://a.test/f1")) ∷ [])
    ∷ by_proc 1 (made 1 6 5 2 (whats.Push (e 5 1) (Some (codes "s")) (codes "http://a.test/h"))) []
    ∷ by_coord (rows.Delivered (p 1)) (rows.Applied (r 6) (changes.Push (n 2) (e 5 1) (s 5) (codes "http://a.test/h") (Some (codes "s"))) ∷ sent 18 1 0 5 (whys.Req (r 7)) (tasks.Activate (e 0 5) (epoch 3) 3 0 None (codes "http://a.test/g")) ∷ sent 19 1 0 1 (whys.Req (r 6)) (tasks.Update 3 2) ∷ sent 20 1 0 4 (whys.Req (r 6)) (tasks.Update 3 0) ∷ [])
    ∷ by_proc 1 (rows.Taken (p 1) (j 16) true false) []
    ∷ by_proc 1 (rows.Finished (p 1) (j 16) outcomes.Frozen) []
    ∷ by_coord (rows.Delivered (p 1)) []
    ∷ by_proc 1 (rows.Taken (p 1) (j 17) true false) []
    ∷ by_proc 1 (rows.Finished (p 1) (j 17) outcomes.Activated) []
    ∷ by_coord (rows.Delivered (p 1)) []
    ∷ by_proc 1 (rows.Taken (p 1) (j 18) true false) []
    ∷ by_proc 1 (rows.Finished (p 1) (j 18) outcomes.Activated) []
    ∷ by_coord (rows.Delivered (p 1)) (rows.Applied (r 7) (changes.Traverse (t 0)) ∷ sent 21 1 0 1 (whys.Req (r 7)) (tasks.Update 3 0) ∷ [])
    ∷ by_proc 1 (rows.Taken (p 1) (j 19) true false) []
    ∷ by_proc 1 (rows.Finished (p 1) (j 19) outcomes.Updated) []
    ∷ by_coord (rows.Delivered (p 1)) []
    ∷ by_proc 1 (rows.Taken (p 1) (j 20) true false) []
    ∷ by_proc 1 (rows.Finished (p 1) (j 20) outcomes.Updated) []
    ∷ by_coord (rows.Delivered (p 1)) []
    ∷ by_proc 1 (rows.Taken (p 1) (j 21) true false) []
    ∷ by_proc 1 (rows.Finished (p 1) (j 21) outcomes.Updated) []
    ∷ by_coord (rows.Delivered (p 1)) []
    ∷ []

pub push_beside_a_running_traversal_is_legal : IsLegal (log_of push_beside_a_running_traversal)
unfolding url_on_literals is_web is_blank_url judged judged_parse read_against address_of url_of resolved with_fragment base_of fragment_of origin_text origin_of has_same_base is_rewritable events_of each_event after_opening AtEachEvent is_numbered opens is_formed is_once is_caused is_queued is_ordered is_checked ends_settled loads_end ends_told ends_stepped goes_in_time
push_beside_a_running_traversal_is_legal = record { opened = refl; numbered = refl; formed = refl; once = refl; caused = refl; queued = refl; ordered = refl; checked = refl; settled = refl }

pub push_beside_a_running_traversal_ends_loads : LoadsEndInTime (log_of push_beside_a_running_traversal)
unfolding url_on_literals is_web is_blank_url judged judged_parse read_against address_of url_of resolved with_fragment base_of fragment_of origin_text origin_of has_same_base is_rewritable events_of each_event after_opening AtEachEvent is_numbered opens is_formed is_once is_caused is_queued is_ordered is_checked ends_settled loads_end ends_told ends_stepped goes_in_time
push_beside_a_running_traversal_ends_loads = refl

pub push_beside_a_running_traversal_acts_at_once : ActsAtOnce (log_of push_beside_a_running_traversal)
unfolding url_on_literals is_web is_blank_url judged judged_parse read_against address_of url_of resolved with_fragment base_of fragment_of origin_text origin_of has_same_base is_rewritable events_of each_event after_opening AtEachEvent is_numbered opens is_formed is_once is_caused is_queued is_ordered is_checked ends_settled loads_end ends_told ends_stepped goes_in_time
push_beside_a_running_traversal_acts_at_once = record { told = refl; stepped = refl; in_time = refl }

pub push_beside_a_running_traversal_suits : Suits plain_settings (log_of push_beside_a_running_traversal)
unfolding url_on_literals is_web is_blank_url judged judged_parse read_against address_of url_of resolved with_fragment base_of fragment_of origin_text origin_of has_same_base is_rewritable events_of each_event after_opening AtEachEvent is_numbered opens is_formed is_once is_caused is_queued is_ordered is_checked ends_settled loads_end ends_told ends_stepped goes_in_time
push_beside_a_running_traversal_suits = record { opened = refl; placed = refl; kept = refl }

-- A push clears the goal of a running traversal, which then ends at the step before.
abbrev pub goal_cleared_by_a_push : List Event
goal_cleared_by_a_push =
    before 55 push_beside_a_running_traversal
    ++ by_ui (rows.Accepted (r 6) None (requests.Go (negsuc 0))) (rows.Started (r 6) (Some (t 0)) ∷ sent 16 1 0 6 (whys.Req (r 6)) tasks.Freeze ∷ sent 17 1 0 4 (whys.Req (r 6)) (tasks.Activate (e 0 4) (epoch 4) 2 0 None (codes "http://a.test/f1")) ∷ [])
    ∷ by_proc 1 (rows.Taken (p 1) (j 16) true false) []
    ∷ by_proc 1 (rows.Finished (p 1) (j 16) outcomes.Frozen) []
    ∷ by_coord (rows.Delivered (p 1)) []
    ∷ by_proc 1 (rows.Taken (p 1) (j 17) true false) []
    ∷ by_proc 1 (rows.Finished (p 1) (j 17) outcomes.Activated) []
    ∷ by_coord (rows.Delivered (p 1)) (rows.Applied (r 6) (changes.Traverse (t 0)) ∷ sent 18 1 0 1 (whys.Req (r 6)) (tasks.Update 2 0) ∷ sent 19 1 0 5 (whys.Req (r 6)) (tasks.Update 2 0) ∷ [])
    ∷ by_proc 1 (rows.Taken (p 1) (j 18) true false) []
    ∷ by_proc 1 (rows.Finished (p 1) (j 18) outcomes.Updated) []
    ∷ by_coord (rows.Delivered (p 1)) []
    ∷ by_proc 1 (rows.Taken (p 1) (j 19) true false) []
    ∷ by_proc 1 (rows.Finished (p 1) (j 19) outcomes.Updated) []
    ∷ by_coord (rows.Delivered (p 1)) []
    ∷ by_ui (rows.Accepted (r 7) (Some (d 5)) (requests.Poke (n 2) (actions.Push (Some (codes "s")) (Some (codes "/h"))))) []
    ∷ by_ui (rows.Accepted (r 8) None (requests.Go (pos 1))) (rows.Started (r 8) (Some (t 1)) ∷ sent 20 1 0 4 (whys.Req (r 8)) tasks.Freeze ∷ sent 21 1 0 6 (whys.Req (r 8)) (tasks.Activate (e 0 6) (epoch 5) 2 1 None (codes "http://a.test/f2")) ∷ [])
    ∷ by_proc 1 (made 1 7 5 2 (whats.Push (e 5 1) (Some (codes "s")) (codes "http://a.test/h"))) []
    ∷ by_coord (rows.Delivered (p 1)) (rows.Applied (r 7) (changes.Push (n 2) (e 5 1) (s 5) (codes "http://a.test/h") (Some (codes "s"))) ∷ sent 22 1 0 6 (whys.Req (r 7)) tasks.Discard ∷ sent 23 1 0 4 (whys.Req (r 8)) (tasks.Activate (e 0 4) (epoch 6) 2 1 None (codes "http://a.test/f1")) ∷ sent 24 1 0 1 (whys.Req (r 7)) (tasks.Update 2 1) ∷ sent 25 1 0 5 (whys.Req (r 7)) (tasks.Update 2 1) ∷ [])
    ∷ by_proc 1 (rows.Taken (p 1) (j 20) true false) []
    ∷ by_proc 1 (rows.Finished (p 1) (j 20) outcomes.Frozen) []
    ∷ by_coord (rows.Delivered (p 1)) []
    ∷ by_proc 1 (rows.Taken (p 1) (j 21) true false) []
    ∷ by_proc 1 (rows.Finished (p 1) (j 21) outcomes.Activated) []
    ∷ by_coord (rows.Delivered (p 1)) []
    ∷ by_proc 1 (rows.Taken (p 1) (j 22) true false) []
    ∷ by_proc 1 (rows.Finished (p 1) (j 22) outcomes.Discarded) []
    ∷ by_coord (rows.Delivered (p 1)) []
    ∷ by_proc 1 (rows.Taken (p 1) (j 23) true false) []
    ∷ by_proc 1 (rows.Finished (p 1) (j 23) outcomes.Activated) []
    ∷ by_coord (rows.Delivered (p 1)) (rows.Applied (r 8) (changes.Traverse (t 1)) ∷ [])
    ∷ by_proc 1 (rows.Taken (p 1) (j 24) true false) []
    ∷ by_proc 1 (rows.Finished (p 1) (j 24) outcomes.Updated) []
    ∷ by_coord (rows.Delivered (p 1)) []
    ∷ by_proc 1 (rows.Taken (p 1) (j 25) true false) []
    ∷ by_proc 1 (rows.Finished (p 1) (j 25) outcomes.Updated) []
    ∷ by_coord (rows.Delivered (p 1)) []
    ∷ []

pub goal_cleared_by_a_push_is_legal : IsLegal (log_of goal_cleared_by_a_push)
unfolding url_on_literals is_web is_blank_url judged judged_parse read_against address_of url_of resolved with_fragment base_of fragment_of origin_text origin_of has_same_base is_rewritable events_of each_event after_opening AtEachEvent is_numbered opens is_formed is_once is_caused is_queued is_ordered is_checked ends_settled loads_end ends_told ends_stepped goes_in_time
goal_cleared_by_a_push_is_legal = record { opened = refl; numbered = refl; formed = refl; once = refl; caused = refl; queued = refl; ordered = refl; checked = refl; settled = refl }

pub goal_cleared_by_a_push_ends_loads : LoadsEndInTime (log_of goal_cleared_by_a_push)
unfolding url_on_literals is_web is_blank_url judged judged_parse read_against address_of url_of resolved with_fragment base_of fragment_of origin_text origin_of has_same_base is_rewritable events_of each_event after_opening AtEachEvent is_numbered opens is_formed is_once is_caused is_queued is_ordered is_checked ends_settled loads_end ends_told ends_stepped goes_in_time
goal_cleared_by_a_push_ends_loads = refl

pub goal_cleared_by_a_push_acts_at_once : ActsAtOnce (log_of goal_cleared_by_a_push)
unfolding url_on_literals is_web is_blank_url judged judged_parse read_against address_of url_of resolved with_fragment base_of fragment_of origin_text origin_of has_same_base is_rewritable events_of each_event after_opening AtEachEvent is_numbered opens is_formed is_once is_caused is_queued is_ordered is_checked ends_settled loads_end ends_told ends_stepped goes_in_time
goal_cleared_by_a_push_acts_at_once = record { told = refl; stepped = refl; in_time = refl }

pub goal_cleared_by_a_push_suits : Suits plain_settings (log_of goal_cleared_by_a_push)
unfolding url_on_literals is_web is_blank_url judged judged_parse read_against address_of url_of resolved with_fragment base_of fragment_of origin_text origin_of has_same_base is_rewritable events_of each_event after_opening AtEachEvent is_numbered opens is_formed is_once is_caused is_queued is_ordered is_checked ends_settled loads_end ends_told ends_stepped goes_in_time
goal_cleared_by_a_push_suits = record { opened = refl; placed = refl; kept = refl }

-- A push in a navigable that a running traversal has moved waits for it.
abbrev pub held_back_push : List Event
held_back_push =
    before 10 push_beside_a_frame
    ++ by_ui (rows.Accepted (r 2) None (requests.Load (n 1) modes.Auto (codes "http://a.test/f"))) (rows.Started (r 2) None ∷ sent 3 1 0 3 (whys.Req (r 2)) (tasks.Populate (n 1) (s 3) (codes "http://a.test/f") false) ∷ [])
    ∷ by_proc 1 (rows.Taken (p 1) (j 3) true false) []
    ∷ by_proc 1 (rows.Finished (p 1) (j 3) (outcomes.Populated None)) []
    ∷ by_coord (rows.Delivered (p 1)) (rows.Applied (r 2) (changes.Replace (n 1) (e 0 2) (e 0 3) (s 3) (codes "http://a.test/f") None) ∷ sent 4 1 0 2 (whys.Req (r 2)) tasks.Discard ∷ sent 5 1 0 3 (whys.Req (r 2)) (tasks.Activate (e 0 3) (epoch 2) 1 0 None (codes "http://a.test/f")) ∷ [])
    ∷ by_proc 1 (rows.Taken (p 1) (j 4) true false) []
    ∷ by_proc 1 (rows.Finished (p 1) (j 4) outcomes.Discarded) []
    ∷ by_coord (rows.Delivered (p 1)) []
    ∷ by_proc 1 (rows.Taken (p 1) (j 5) true false) []
    ∷ by_proc 1 (rows.Finished (p 1) (j 5) outcomes.Activated) []
    ∷ by_coord (rows.Delivered (p 1)) []
    ∷ by_ui (rows.Accepted (r 3) (Some (d 1)) (requests.Poke (n 0) (actions.Fragment (codes "x")))) []
    ∷ by_proc 1 (made 1 3 1 1 (whats.Push (e 1 1) None (codes "http://a.test/#x"))) []
    ∷ by_coord (rows.Delivered (p 1)) (rows.Applied (r 3) (changes.Push (n 0) (e 1 1) (s 1) (codes "http://a.test/#x") None) ∷ sent 6 1 0 1 (whys.Req (r 3)) (tasks.Update 2 1) ∷ sent 7 1 0 3 (whys.Req (r 3)) (tasks.Update 2 1) ∷ [])
    ∷ by_proc 1 (rows.Taken (p 1) (j 6) true false) []
    ∷ by_proc 1 (rows.Finished (p 1) (j 6) outcomes.Updated) []
    ∷ by_coord (rows.Delivered (p 1)) []
    ∷ by_proc 1 (rows.Taken (p 1) (j 7) true false) []
    ∷ by_proc 1 (rows.Finished (p 1) (j 7) outcomes.Updated) []
    ∷ by_coord (rows.Delivered (p 1)) []
    ∷ by_ui (rows.Accepted (r 4) (Some (d 3)) (requests.Poke (n 1) (actions.Push (Some (codes "t")) (Some (codes "/f2"))))) []
    ∷ by_proc 1 (made 1 4 3 2 (whats.Push (e 3 1) (Some (codes "t")) (codes "http://a.test/f2"))) []
    ∷ by_coord (rows.Delivered (p 1)) (rows.Applied (r 4) (changes.Push (n 1) (e 3 1) (s 3) (codes "http://a.test/f2") (Some (codes "t"))) ∷ sent 8 1 0 1 (whys.Req (r 4)) (tasks.Update 3 2) ∷ sent 9 1 0 3 (whys.Req (r 4)) (tasks.Update 3 2) ∷ [])
    ∷ by_proc 1 (rows.Taken (p 1) (j 8) true false) []
    ∷ by_proc 1 (rows.Finished (p 1) (j 8) outcomes.Updated) []
    ∷ by_coord (rows.Delivered (p 1)) []
    ∷ by_proc 1 (rows.Taken (p 1) (j 9) true false) []
    ∷ by_proc 1 (rows.Finished (p 1) (j 9) outcomes.Updated) []
    ∷ by_coord (rows.Delivered (p 1)) []
    ∷ by_ui (rows.Accepted (r 5) None (requests.Go (negsuc 1))) (rows.Started (r 5) (Some (t 0)) ∷ sent 10 1 0 1 (whys.Req (r 5)) (tasks.Activate (e 0 1) (epoch 2) 3 0 None (codes "http://a.test/")) ∷ sent 11 1 0 3 (whys.Req (r 5)) (tasks.Activate (e 0 3) (epoch 3) 3 0 None (codes "http://a.test/f")) ∷ [])
    ∷ by_proc 1 (rows.Taken (p 1) (j 10) true false) []
    ∷ by_proc 1 (rows.Finished (p 1) (j 10) outcomes.Activated) []
    ∷ by_ui (rows.Accepted (r 6) (Some (d 1)) (requests.Poke (n 0) (actions.Push (Some (codes "s")) (Some (codes "/2"))))) []
    ∷ by_proc 1 (made 1 6 1 2 (whats.Push (e 1 2) (Some (codes "s")) (codes "http://a.test/2"))) []
    ∷ by_coord (rows.Delivered (p 1)) []
    ∷ by_coord (rows.Delivered (p 1)) []
    ∷ by_proc 1 (rows.Taken (p 1) (j 11) true false) []
    ∷ by_proc 1 (rows.Finished (p 1) (j 11) outcomes.Activated) []
    ∷ by_coord (rows.Delivered (p 1)) (rows.Applied (r 5) (changes.Traverse (t 0)) ∷ rows.Applied (r 6) (changes.Push (n 0) (e 1 2) (s 1) (codes "http://a.test/2") (Some (codes "s"))) ∷ sent 12 1 0 1 (whys.Req (r 5)) (tasks.Update 2 1) ∷ sent 13 1 0 3 (whys.Req (r 5)) (tasks.Update 2 1) ∷ [])
    ∷ by_proc 1 (rows.Taken (p 1) (j 12) true false) []
    ∷ by_proc 1 (rows.Finished (p 1) (j 12) outcomes.Updated) []
    ∷ by_coord (rows.Delivered (p 1)) []
    ∷ by_proc 1 (rows.Taken (p 1) (j 13) true false) []
    ∷ by_proc 1 (rows.Finished (p 1) (j 13) outcomes.Updated) []
    ∷ by_coord (rows.Delivered (p 1)) []
    ∷ []

pub held_back_push_is_legal : IsLegal (log_of held_back_push)
unfolding url_on_literals is_web is_blank_url judged judged_parse read_against address_of url_of resolved with_fragment base_of fragment_of origin_text origin_of has_same_base is_rewritable events_of each_event after_opening AtEachEvent is_numbered opens is_formed is_once is_caused is_queued is_ordered is_checked ends_settled loads_end ends_told ends_stepped goes_in_time
held_back_push_is_legal = record { opened = refl; numbered = refl; formed = refl; once = refl; caused = refl; queued = refl; ordered = refl; checked = refl; settled = refl }

pub held_back_push_ends_loads : LoadsEndInTime (log_of held_back_push)
unfolding url_on_literals is_web is_blank_url judged judged_parse read_against address_of url_of resolved with_fragment base_of fragment_of origin_text origin_of has_same_base is_rewritable events_of each_event after_opening AtEachEvent is_numbered opens is_formed is_once is_caused is_queued is_ordered is_checked ends_settled loads_end ends_told ends_stepped goes_in_time
held_back_push_ends_loads = refl

pub held_back_push_acts_at_once : ActsAtOnce (log_of held_back_push)
unfolding url_on_literals is_web is_blank_url judged judged_parse read_against address_of url_of resolved with_fragment base_of fragment_of origin_text origin_of has_same_base is_rewritable events_of each_event after_opening AtEachEvent is_numbered opens is_formed is_once is_caused is_queued is_ordered is_checked ends_settled loads_end ends_told ends_stepped goes_in_time
held_back_push_acts_at_once = record { told = refl; stepped = refl; in_time = refl }

pub held_back_push_suits : Suits plain_settings (log_of held_back_push)
unfolding url_on_literals is_web is_blank_url judged judged_parse read_against address_of url_of resolved with_fragment base_of fragment_of origin_text origin_of has_same_base is_rewritable events_of each_event after_opening AtEachEvent is_numbered opens is_formed is_once is_caused is_queued is_ordered is_checked ends_settled loads_end ends_told ends_stepped goes_in_time
held_back_push_suits = record { opened = refl; placed = refl; kept = refl }

-- A held back push, and a frame that is removed with it.
abbrev pub held_back_push_and_removal : List Event
held_back_push_and_removal =
    before 10 push_beside_a_frame
    ++ by_ui (rows.Accepted (r 2) None (requests.Load (n 1) modes.Auto (codes "http://a.test/p0"))) (rows.Started (r 2) None ∷ sent 3 1 0 3 (whys.Req (r 2)) (tasks.Populate (n 1) (s 3) (codes "http://a.test/p0") false) ∷ [])
    ∷ by_proc 1 (rows.Taken (p 1) (j 3) true false) []
    ∷ by_proc 1 (rows.Finished (p 1) (j 3) (outcomes.Populated None)) []
    ∷ by_coord (rows.Delivered (p 1)) (rows.Applied (r 2) (changes.Replace (n 1) (e 0 2) (e 0 3) (s 3) (codes "http://a.test/p0") None) ∷ sent 4 1 0 2 (whys.Req (r 2)) tasks.Discard ∷ sent 5 1 0 3 (whys.Req (r 2)) (tasks.Activate (e 0 3) (epoch 2) 1 0 None (codes "http://a.test/p0")) ∷ [])
    ∷ by_proc 1 (rows.Taken (p 1) (j 4) true false) []
    ∷ by_proc 1 (rows.Finished (p 1) (j 4) outcomes.Discarded) []
    ∷ by_coord (rows.Delivered (p 1)) []
    ∷ by_proc 1 (rows.Taken (p 1) (j 5) true false) []
    ∷ by_proc 1 (rows.Finished (p 1) (j 5) outcomes.Activated) []
    ∷ by_coord (rows.Delivered (p 1)) []
    ∷ by_ui (rows.Accepted (r 3) (Some (d 3)) (requests.Poke (n 1) (actions.AddFrame (n 2)))) []
    ∷ by_proc 1 (made 1 3 3 2 (whats.AddFrame (n 2))) []
    ∷ by_coord (rows.Delivered (p 1)) (rows.Applied (r 3) (changes.AddFrame (s 3) (n 2) (e 0 4) (s 4)) ∷ sent 6 1 0 4 (whys.Req (r 3)) (tasks.Populate (n 2) (s 4) (codes "about:blank") true) ∷ [])
    ∷ by_proc 1 (rows.Taken (p 1) (j 6) true false) []
    ∷ by_proc 1 (rows.Finished (p 1) (j 6) (outcomes.Populated None)) []
    ∷ by_coord (rows.Delivered (p 1)) (sent 7 1 0 4 (whys.Req (r 3)) (tasks.Activate (e 0 4) (epoch 1) 1 0 None (codes "about:blank")) ∷ [])
    ∷ by_proc 1 (rows.Taken (p 1) (j 7) true false) []
    ∷ by_proc 1 (rows.Finished (p 1) (j 7) outcomes.Activated) []
    ∷ by_coord (rows.Delivered (p 1)) []
    ∷ by_ui (rows.Accepted (r 4) None (requests.Load (n 2) modes.Auto (codes "http://b.test/p0"))) (rows.Started (r 4) None ∷ sent 8 2 0 5 (whys.Req (r 4)) (tasks.Populate (n 2) (s 5) (codes "http://b.test/p0") false) ∷ [])
    ∷ by_ui (rows.Accepted (r 5) (Some (d 3)) (requests.Poke (n 1) (actions.Push (Some (codes "s")) None))) []
    ∷ by_proc 1 (made 1 5 3 2 (whats.Push (e 3 1) (Some (codes "s")) (codes "http://a.test/p0"))) []
    ∷ by_coord (rows.Delivered (p 1)) (rows.Applied (r 5) (changes.Push (n 1) (e 3 1) (s 3) (codes "http://a.test/p0") (Some (codes "s"))) ∷ sent 9 1 0 1 (whys.Req (r 5)) (tasks.Update 2 1) ∷ sent 10 1 0 3 (whys.Req (r 5)) (tasks.Update 2 1) ∷ sent 11 1 0 4 (whys.Req (r 5)) (tasks.Update 2 1) ∷ [])
    ∷ by_proc 2 (rows.Taken (p 2) (j 8) true false) []
    ∷ by_proc 2 (rows.Finished (p 2) (j 8) (outcomes.Populated None)) []
    ∷ by_coord (rows.Delivered (p 2)) (rows.Applied (r 4) (changes.Replace (n 2) (e 0 4) (e 0 5) (s 5) (codes "http://b.test/p0") None) ∷ sent 12 1 0 4 (whys.Req (r 4)) tasks.Discard ∷ sent 13 2 0 5 (whys.Req (r 4)) (tasks.Activate (e 0 5) (epoch 2) 2 1 None (codes "http://b.test/p0")) ∷ [])
    ∷ by_proc 1 (rows.Taken (p 1) (j 9) true false) []
    ∷ by_proc 1 (rows.Finished (p 1) (j 9) outcomes.Updated) []
    ∷ by_coord (rows.Delivered (p 1)) []
    ∷ by_proc 2 (rows.Taken (p 2) (j 13) true false) []
    ∷ by_proc 2 (rows.Finished (p 2) (j 13) outcomes.Activated) []
    ∷ by_coord (rows.Delivered (p 2)) []
    ∷ by_proc 1 (rows.Taken (p 1) (j 10) true false) []
    ∷ by_proc 1 (rows.Finished (p 1) (j 10) outcomes.Updated) []
    ∷ by_coord (rows.Delivered (p 1)) []
    ∷ by_proc 1 (rows.Taken (p 1) (j 11) true false) []
    ∷ by_proc 1 (rows.Finished (p 1) (j 11) outcomes.Updated) []
    ∷ by_coord (rows.Delivered (p 1)) []
    ∷ by_proc 1 (rows.Taken (p 1) (j 12) true false) []
    ∷ by_proc 1 (rows.Finished (p 1) (j 12) outcomes.Discarded) []
    ∷ by_coord (rows.Delivered (p 1)) []
    ∷ by_ui (rows.Accepted (r 6) None (requests.Load (n 2) modes.Auto (codes "http://a.test/p0"))) (rows.Started (r 6) None ∷ sent 14 1 0 6 (whys.Req (r 6)) (tasks.Populate (n 2) (s 6) (codes "http://a.test/p0") false) ∷ [])
    ∷ by_proc 1 (rows.Taken (p 1) (j 14) true false) []
    ∷ by_proc 1 (rows.Finished (p 1) (j 14) (outcomes.Populated None)) []
    ∷ by_coord (rows.Delivered (p 1)) (rows.Applied (r 6) (changes.Push (n 2) (e 0 6) (s 6) (codes "http://a.test/p0") None) ∷ sent 15 2 0 5 (whys.Req (r 6)) tasks.Freeze ∷ sent 16 1 0 6 (whys.Req (r 6)) (tasks.Activate (e 0 6) (epoch 3) 3 2 None (codes "http://a.test/p0")) ∷ sent 17 1 0 1 (whys.Req (r 6)) (tasks.Update 3 2) ∷ sent 18 1 0 3 (whys.Req (r 6)) (tasks.Update 3 2) ∷ [])
    ∷ by_proc 2 (rows.Taken (p 2) (j 15) true false) []
    ∷ by_proc 2 (rows.Finished (p 2) (j 15) outcomes.Frozen) []
    ∷ by_coord (rows.Delivered (p 2)) []
    ∷ by_proc 1 (rows.Taken (p 1) (j 16) true false) []
    ∷ by_proc 1 (rows.Finished (p 1) (j 16) outcomes.Activated) []
    ∷ by_coord (rows.Delivered (p 1)) []
    ∷ by_proc 1 (rows.Taken (p 1) (j 17) true false) []
    ∷ by_proc 1 (rows.Finished (p 1) (j 17) outcomes.Updated) []
    ∷ by_coord (rows.Delivered (p 1)) []
    ∷ by_proc 1 (rows.Taken (p 1) (j 18) true false) []
    ∷ by_proc 1 (rows.Finished (p 1) (j 18) outcomes.Updated) []
    ∷ by_coord (rows.Delivered (p 1)) []
    ∷ by_ui (rows.Accepted (r 7) None (requests.Go (negsuc 1))) (rows.Started (r 7) (Some (t 0)) ∷ sent 19 1 0 3 (whys.Req (r 7)) (tasks.Activate (e 0 3) (epoch 3) 3 0 None (codes "http://a.test/p0")) ∷ sent 20 1 0 6 (whys.Req (r 7)) tasks.Freeze ∷ sent 21 2 0 5 (whys.Req (r 7)) (tasks.Activate (e 0 5) (epoch 4) 3 0 None (codes "http://b.test/p0")) ∷ [])
    ∷ by_proc 2 (rows.Taken (p 2) (j 21) true false) []
    ∷ by_proc 2 (rows.Finished (p 2) (j 21) outcomes.Activated) []
    ∷ by_coord (rows.Delivered (p 2)) []
    ∷ by_ui (rows.Accepted (r 8) (Some (d 5)) (requests.Poke (n 2) (actions.Push (Some (codes "s")) None))) []
    ∷ by_ui (rows.Accepted (r 9) (Some (d 3)) (requests.Poke (n 1) (actions.RemoveFrame (n 2)))) []
    ∷ by_proc 1 (made 1 9 3 2 (whats.RemoveFrame (n 2))) []
    ∷ by_proc 1 (rows.Taken (p 1) (j 19) true false) []
    ∷ by_proc 1 (rows.Finished (p 1) (j 19) outcomes.Activated) []
    ∷ by_coord (rows.Delivered (p 1)) (rows.Dropped (r 9) (drops.By (r 7)) ∷ [])
    ∷ by_proc 2 (made 2 8 5 4 (whats.Push (e 5 1) (Some (codes "s")) (codes "http://b.test/p0"))) []
    ∷ by_coord (rows.Delivered (p 2)) []
    ∷ by_proc 1 (rows.Taken (p 1) (j 20) true false) []
    ∷ by_proc 1 (rows.Finished (p 1) (j 20) outcomes.Frozen) []
    ∷ by_coord (rows.Delivered (p 1)) (rows.Applied (r 7) (changes.Traverse (t 0)) ∷ rows.Applied (r 8) (changes.Push (n 2) (e 5 1) (s 5) (codes "http://b.test/p0") (Some (codes "s"))) ∷ sent 22 1 0 6 (whys.Req (r 8)) tasks.Discard ∷ sent 23 1 0 1 (whys.Req (r 7)) (tasks.Update 2 1) ∷ sent 24 1 0 3 (whys.Req (r 7)) (tasks.Update 2 1) ∷ sent 25 2 0 5 (whys.Req (r 7)) (tasks.Update 2 1) ∷ [])
    ∷ by_proc 2 (rows.Taken (p 2) (j 25) true false) []
    ∷ by_proc 2 (rows.Finished (p 2) (j 25) outcomes.Updated) []
    ∷ by_coord (rows.Delivered (p 2)) []
    ∷ by_proc 1 (rows.Taken (p 1) (j 22) true false) []
    ∷ by_proc 1 (rows.Finished (p 1) (j 22) outcomes.Discarded) []
    ∷ by_coord (rows.Delivered (p 1)) []
    ∷ by_proc 1 (rows.Taken (p 1) (j 23) true false) []
    ∷ by_proc 1 (rows.Finished (p 1) (j 23) outcomes.Updated) []
    ∷ by_coord (rows.Delivered (p 1)) []
    ∷ by_proc 1 (rows.Taken (p 1) (j 24) true false) []
    ∷ by_proc 1 (rows.Finished (p 1) (j 24) outcomes.Updated) []
    ∷ by_coord (rows.Delivered (p 1)) []
    ∷ by_coord (rows.Delivered (p 1)) []
    ∷ []

abbrev pub held_back_push_and_removal_header : Header
held_back_push_and_removal_header = record { keep = 3; sites = record { origin = codes "http://b.test"; proc = p 2 } ∷ []; pages = []; first = codes "http://a.test/" }

pub held_back_push_and_removal_is_legal : IsLegal (log_of held_back_push_and_removal)
unfolding url_on_literals is_web is_blank_url judged judged_parse read_against address_of url_of resolved with_fragment base_of fragment_of origin_text origin_of has_same_base is_rewritable events_of each_event after_opening AtEachEvent is_numbered opens is_formed is_once is_caused is_queued is_ordered is_checked ends_settled loads_end ends_told ends_stepped goes_in_time
held_back_push_and_removal_is_legal = record { opened = refl; numbered = refl; formed = refl; once = refl; caused = refl; queued = refl; ordered = refl; checked = refl; settled = refl }

pub held_back_push_and_removal_ends_loads : LoadsEndInTime (log_of held_back_push_and_removal)
unfolding url_on_literals is_web is_blank_url judged judged_parse read_against address_of url_of resolved with_fragment base_of fragment_of origin_text origin_of has_same_base is_rewritable events_of each_event after_opening AtEachEvent is_numbered opens is_formed is_once is_caused is_queued is_ordered is_checked ends_settled loads_end ends_told ends_stepped goes_in_time
held_back_push_and_removal_ends_loads = refl

pub held_back_push_and_removal_acts_at_once : ActsAtOnce (log_of held_back_push_and_removal)
unfolding url_on_literals is_web is_blank_url judged judged_parse read_against address_of url_of resolved with_fragment base_of fragment_of origin_text origin_of has_same_base is_rewritable events_of each_event after_opening AtEachEvent is_numbered opens is_formed is_once is_caused is_queued is_ordered is_checked ends_settled loads_end ends_told ends_stepped goes_in_time
held_back_push_and_removal_acts_at_once = record { told = refl; stepped = refl; in_time = refl }

pub held_back_push_and_removal_suits : Suits held_back_push_and_removal_header (log_of held_back_push_and_removal)
unfolding url_on_literals is_web is_blank_url judged judged_parse read_against address_of url_of resolved with_fragment base_of fragment_of origin_text origin_of has_same_base is_rewritable events_of each_event after_opening AtEachEvent is_numbered opens is_formed is_once is_caused is_queued is_ordered is_checked ends_settled loads_end ends_told ends_stepped goes_in_time
held_back_push_and_removal_suits = record { opened = refl; placed = refl; kept = refl }

-- A traversal after one that had a held back push.
abbrev pub back_after_a_held_back_push : List Event
back_after_a_held_back_push =
    held_back_push
    ++ by_ui (rows.Accepted (r 7) None (requests.Go (negsuc 0))) (rows.Started (r 7) (Some (t 0)) ∷ sent 14 1 0 1 (whys.Req (r 7)) (tasks.Activate (e 0 1) (epoch 3) 2 0 None (codes "http://a.test/")) ∷ [])
    ∷ by_proc 1 (rows.Taken (p 1) (j 14) true false) []
    ∷ by_proc 1 (rows.Finished (p 1) (j 14) outcomes.Activated) []
    ∷ by_coord (rows.Delivered (p 1)) (rows.Applied (r 7) (changes.Traverse (t 0)) ∷ sent 15 1 0 3 (whys.Req (r 7)) (tasks.Update 2 0) ∷ [])
    ∷ by_proc 1 (rows.Taken (p 1) (j 15) true false) []
    ∷ by_proc 1 (rows.Finished (p 1) (j 15) outcomes.Updated) []
    ∷ by_coord (rows.Delivered (p 1)) []
    ∷ []

pub back_after_a_held_back_push_is_legal : IsLegal (log_of back_after_a_held_back_push)
unfolding url_on_literals is_web is_blank_url judged judged_parse read_against address_of url_of resolved with_fragment base_of fragment_of origin_text origin_of has_same_base is_rewritable events_of each_event after_opening AtEachEvent is_numbered opens is_formed is_once is_caused is_queued is_ordered is_checked ends_settled loads_end ends_told ends_stepped goes_in_time
back_after_a_held_back_push_is_legal = record { opened = refl; numbered = refl; formed = refl; once = refl; caused = refl; queued = refl; ordered = refl; checked = refl; settled = refl }

pub back_after_a_held_back_push_ends_loads : LoadsEndInTime (log_of back_after_a_held_back_push)
unfolding url_on_literals is_web is_blank_url judged judged_parse read_against address_of url_of resolved with_fragment base_of fragment_of origin_text origin_of has_same_base is_rewritable events_of each_event after_opening AtEachEvent is_numbered opens is_formed is_once is_caused is_queued is_ordered is_checked ends_settled loads_end ends_told ends_stepped goes_in_time
back_after_a_held_back_push_ends_loads = refl

pub back_after_a_held_back_push_acts_at_once : ActsAtOnce (log_of back_after_a_held_back_push)
unfolding url_on_literals is_web is_blank_url judged judged_parse read_against address_of url_of resolved with_fragment base_of fragment_of origin_text origin_of has_same_base is_rewritable events_of each_event after_opening AtEachEvent is_numbered opens is_formed is_once is_caused is_queued is_ordered is_checked ends_settled loads_end ends_told ends_stepped goes_in_time
back_after_a_held_back_push_acts_at_once = record { told = refl; stepped = refl; in_time = refl }

pub back_after_a_held_back_push_suits : Suits plain_settings (log_of back_after_a_held_back_push)
unfolding url_on_literals is_web is_blank_url judged judged_parse read_against address_of url_of resolved with_fragment base_of fragment_of origin_text origin_of has_same_base is_rewritable events_of each_event after_opening AtEachEvent is_numbered opens is_formed is_once is_caused is_queued is_ordered is_checked ends_settled loads_end ends_told ends_stepped goes_in_time
back_after_a_held_back_push_suits = record { opened = refl; placed = refl; kept = refl }

-- A held back frame is refused, for its number is taken.
abbrev pub held_back_frame : List Event
held_back_frame =
    before 41 held_back_push
    ++ by_ui (rows.Accepted (r 6) (Some (d 1)) (requests.Poke (n 0) (actions.AddFrame (n 1)))) []
    ∷ by_proc 1 (made 1 6 1 2 (whats.AddFrame (n 1))) []
    ∷ by_coord (rows.Delivered (p 1)) []
    ∷ by_coord (rows.Delivered (p 1)) []
    ∷ by_proc 1 (rows.Taken (p 1) (j 11) true false) []
    ∷ by_proc 1 (rows.Finished (p 1) (j 11) outcomes.Activated) []
    ∷ by_coord (rows.Delivered (p 1)) (rows.Applied (r 5) (changes.Traverse (t 0)) ∷ rows.Refused (r 6) denials.NavTaken ∷ [])
    ∷ by_ui (rows.Accepted (r 7) None (requests.Go (pos 1))) (rows.Started (r 7) (Some (t 1)) ∷ sent 12 1 0 1 (whys.Req (r 7)) (tasks.Activate (e 1 1) (epoch 3) 3 1 None (codes "http://a.test/#x")) ∷ [])
    ∷ by_proc 1 (rows.Taken (p 1) (j 12) true false) []
    ∷ by_proc 1 (rows.Finished (p 1) (j 12) outcomes.Activated) []
    ∷ by_coord (rows.Delivered (p 1)) (rows.Applied (r 7) (changes.Traverse (t 1)) ∷ sent 13 1 0 3 (whys.Req (r 7)) (tasks.Update 3 1) ∷ [])
    ∷ by_proc 1 (rows.Taken (p 1) (j 13) true false) []
    ∷ by_proc 1 (rows.Finished (p 1) (j 13) outcomes.Updated) []
    ∷ by_coord (rows.Delivered (p 1)) []
    ∷ []

pub held_back_frame_is_legal : IsLegal (log_of held_back_frame)
unfolding url_on_literals is_web is_blank_url judged judged_parse read_against address_of url_of resolved with_fragment base_of fragment_of origin_text origin_of has_same_base is_rewritable events_of each_event after_opening AtEachEvent is_numbered opens is_formed is_once is_caused is_queued is_ordered is_checked ends_settled loads_end ends_told ends_stepped goes_in_time
held_back_frame_is_legal = record { opened = refl; numbered = refl; formed = refl; once = refl; caused = refl; queued = refl; ordered = refl; checked = refl; settled = refl }

pub held_back_frame_ends_loads : LoadsEndInTime (log_of held_back_frame)
unfolding url_on_literals is_web is_blank_url judged judged_parse read_against address_of url_of resolved with_fragment base_of fragment_of origin_text origin_of has_same_base is_rewritable events_of each_event after_opening AtEachEvent is_numbered opens is_formed is_once is_caused is_queued is_ordered is_checked ends_settled loads_end ends_told ends_stepped goes_in_time
held_back_frame_ends_loads = refl

pub held_back_frame_acts_at_once : ActsAtOnce (log_of held_back_frame)
unfolding url_on_literals is_web is_blank_url judged judged_parse read_against address_of url_of resolved with_fragment base_of fragment_of origin_text origin_of has_same_base is_rewritable events_of each_event after_opening AtEachEvent is_numbered opens is_formed is_once is_caused is_queued is_ordered is_checked ends_settled loads_end ends_told ends_stepped goes_in_time
held_back_frame_acts_at_once = record { told = refl; stepped = refl; in_time = refl }

pub held_back_frame_suits : Suits plain_settings (log_of held_back_frame)
unfolding url_on_literals is_web is_blank_url judged judged_parse read_against address_of url_of resolved with_fragment base_of fragment_of origin_text origin_of has_same_base is_rewritable events_of each_event after_opening AtEachEvent is_numbered opens is_formed is_once is_caused is_queued is_ordered is_checked ends_settled loads_end ends_told ends_stepped goes_in_time
held_back_frame_suits = record { opened = refl; placed = refl; kept = refl }

-- A death drops what was held back.
abbrev pub held_back_and_dropped : List Event
held_back_and_dropped =
    before 45 held_back_frame
    ++ by_ui (rows.Killed (p 1) (x 1)) []
    ∷ by_proc 1 (rows.Taken (p 1) (j 11) false false) []
    ∷ by_coord (rows.Delivered (p 1)) (rows.Applied (r 5) (changes.Traverse (t 0)) ∷ rows.Dropped (r 6) (drops.Gone (x 1)) ∷ [])
    ∷ by_ui (rows.Accepted (r 7) None (requests.Reload (n 0))) (rows.Started (r 7) None ∷ rows.Applied (r 7) (changes.Reload (n 0)) ∷ sent 12 1 1 4 (whys.Req (r 7)) (tasks.Populate (n 0) (s 1) (codes "http://a.test/") false) ∷ [])
    ∷ by_proc 1 (rows.Taken (p 1) (j 12) true false) []
    ∷ by_proc 1 (rows.Finished (p 1) (j 12) (outcomes.Populated None)) []
    ∷ by_coord (rows.Delivered (p 1)) (sent 13 1 1 4 (whys.Req (r 7)) (tasks.Activate (e 0 1) (epoch 3) 3 0 None (codes "http://a.test/")) ∷ sent 14 1 1 5 (whys.Req (r 7)) (tasks.Populate (n 1) (s 3) (codes "http://a.test/f") false) ∷ [])
    ∷ by_proc 1 (rows.Taken (p 1) (j 13) true false) []
    ∷ by_proc 1 (rows.Finished (p 1) (j 13) outcomes.Activated) []
    ∷ by_coord (rows.Delivered (p 1)) []
    ∷ by_proc 1 (rows.Taken (p 1) (j 14) true false) []
    ∷ by_proc 1 (rows.Finished (p 1) (j 14) (outcomes.Populated None)) []
    ∷ by_coord (rows.Delivered (p 1)) (sent 15 1 1 5 (whys.Req (r 7)) (tasks.Activate (e 0 3) (epoch 4) 3 0 None (codes "http://a.test/f")) ∷ [])
    ∷ by_proc 1 (rows.Taken (p 1) (j 15) true false) []
    ∷ by_proc 1 (rows.Finished (p 1) (j 15) outcomes.Activated) []
    ∷ by_coord (rows.Delivered (p 1)) []
    ∷ by_ui (rows.Accepted (r 8) None (requests.Go (pos 1))) (rows.Started (r 8) (Some (t 1)) ∷ sent 16 1 1 4 (whys.Req (r 8)) (tasks.Activate (e 1 1) (epoch 4) 3 1 None (codes "http://a.test/#x")) ∷ [])
    ∷ by_proc 1 (rows.Taken (p 1) (j 16) true false) []
    ∷ by_proc 1 (rows.Finished (p 1) (j 16) outcomes.Activated) []
    ∷ by_coord (rows.Delivered (p 1)) (rows.Applied (r 8) (changes.Traverse (t 1)) ∷ sent 17 1 1 5 (whys.Req (r 8)) (tasks.Update 3 1) ∷ [])
    ∷ by_proc 1 (rows.Taken (p 1) (j 17) true false) []
    ∷ by_proc 1 (rows.Finished (p 1) (j 17) outcomes.Updated) []
    ∷ by_coord (rows.Delivered (p 1)) []
    ∷ []

pub held_back_and_dropped_is_legal : IsLegal (log_of held_back_and_dropped)
unfolding url_on_literals is_web is_blank_url judged judged_parse read_against address_of url_of resolved with_fragment base_of fragment_of origin_text origin_of has_same_base is_rewritable events_of each_event after_opening AtEachEvent is_numbered opens is_formed is_once is_caused is_queued is_ordered is_checked ends_settled loads_end ends_told ends_stepped goes_in_time
held_back_and_dropped_is_legal = record { opened = refl; numbered = refl; formed = refl; once = refl; caused = refl; queued = refl; ordered = refl; checked = refl; settled = refl }

pub held_back_and_dropped_ends_loads : LoadsEndInTime (log_of held_back_and_dropped)
unfolding url_on_literals is_web is_blank_url judged judged_parse read_against address_of url_of resolved with_fragment base_of fragment_of origin_text origin_of has_same_base is_rewritable events_of each_event after_opening AtEachEvent is_numbered opens is_formed is_once is_caused is_queued is_ordered is_checked ends_settled loads_end ends_told ends_stepped goes_in_time
held_back_and_dropped_ends_loads = refl

pub held_back_and_dropped_acts_at_once : ActsAtOnce (log_of held_back_and_dropped)
unfolding url_on_literals is_web is_blank_url judged judged_parse read_against address_of url_of resolved with_fragment base_of fragment_of origin_text origin_of has_same_base is_rewritable events_of each_event after_opening AtEachEvent is_numbered opens is_formed is_once is_caused is_queued is_ordered is_checked ends_settled loads_end ends_told ends_stepped goes_in_time
held_back_and_dropped_acts_at_once = record { told = refl; stepped = refl; in_time = refl }

pub held_back_and_dropped_suits : Suits plain_settings (log_of held_back_and_dropped)
unfolding url_on_literals is_web is_blank_url judged judged_parse read_against address_of url_of resolved with_fragment base_of fragment_of origin_text origin_of has_same_base is_rewritable events_of each_event after_opening AtEachEvent is_numbered opens is_formed is_once is_caused is_queued is_ordered is_checked ends_settled loads_end ends_told ends_stepped goes_in_time
held_back_and_dropped_suits = record { opened = refl; placed = refl; kept = refl }

-- A push clears the entry that a running traversal has shown in a frame, and what the frame made is dropped.
abbrev pub entry_of_a_frame_is_cleared : List Event
entry_of_a_frame_is_cleared =
    before 71 goal_cleared_by_a_push
    ++ by_proc 1 (rows.Taken (p 1) (j 20) true false) []
    ∷ by_proc 1 (rows.Finished (p 1) (j 20) outcomes.Frozen) []
    ∷ by_proc 1 (rows.Taken (p 1) (j 21) true false) []
    ∷ by_proc 1 (rows.Finished (p 1) (j 21) outcomes.Activated) []
    ∷ by_ui (rows.Accepted (r 9) (Some (d 6)) (requests.Poke (n 1) (actions.Push (Some (codes "t")) (Some (codes "/k"))))) []
    ∷ by_proc 1 (made 1 9 6 5 (whats.Push (e 6 1) (Some (codes "t")) (codes "http://a.test/k"))) []
    ∷ by_coord (rows.Delivered (p 1)) (rows.Applied (r 7) (changes.Push (n 2) (e 5 1) (s 5) (codes "http://a.test/h") (Some (codes "s"))) ∷ sent 22 1 0 6 (whys.Req (r 7)) tasks.Discard ∷ sent 23 1 0 4 (whys.Req (r 8)) (tasks.Activate (e 0 4) (epoch 6) 2 1 None (codes "http://a.test/f1")) ∷ sent 24 1 0 1 (whys.Req (r 7)) (tasks.Update 2 1) ∷ sent 25 1 0 5 (whys.Req (r 7)) (tasks.Update 2 1) ∷ [])
    ∷ by_coord (rows.Delivered (p 1)) []
    ∷ by_coord (rows.Delivered (p 1)) []
    ∷ by_coord (rows.Delivered (p 1)) (rows.Dropped (r 9) (drops.By (r 8)) ∷ [])
    ∷ by_proc 1 (rows.Taken (p 1) (j 22) true false) []
    ∷ by_proc 1 (rows.Finished (p 1) (j 22) outcomes.Discarded) []
    ∷ by_coord (rows.Delivered (p 1)) []
    ∷ by_proc 1 (rows.Taken (p 1) (j 23) true false) []
    ∷ by_proc 1 (rows.Finished (p 1) (j 23) outcomes.Activated) []
    ∷ by_coord (rows.Delivered (p 1)) (rows.Applied (r 8) (changes.Traverse (t 1)) ∷ [])
    ∷ by_proc 1 (rows.Taken (p 1) (j 24) true false) []
    ∷ by_proc 1 (rows.Finished (p 1) (j 24) outcomes.Updated) []
    ∷ by_coord (rows.Delivered (p 1)) []
    ∷ by_proc 1 (rows.Taken (p 1) (j 25) true false) []
    ∷ by_proc 1 (rows.Finished (p 1) (j 25) outcomes.Updated) []
    ∷ by_coord (rows.Delivered (p 1)) []
    ∷ []

pub entry_of_a_frame_is_cleared_is_legal : IsLegal (log_of entry_of_a_frame_is_cleared)
unfolding url_on_literals is_web is_blank_url judged judged_parse read_against address_of url_of resolved with_fragment base_of fragment_of origin_text origin_of has_same_base is_rewritable events_of each_event after_opening AtEachEvent is_numbered opens is_formed is_once is_caused is_queued is_ordered is_checked ends_settled loads_end ends_told ends_stepped goes_in_time
entry_of_a_frame_is_cleared_is_legal = record { opened = refl; numbered = refl; formed = refl; once = refl; caused = refl; queued = refl; ordered = refl; checked = refl; settled = refl }

pub entry_of_a_frame_is_cleared_ends_loads : LoadsEndInTime (log_of entry_of_a_frame_is_cleared)
unfolding url_on_literals is_web is_blank_url judged judged_parse read_against address_of url_of resolved with_fragment base_of fragment_of origin_text origin_of has_same_base is_rewritable events_of each_event after_opening AtEachEvent is_numbered opens is_formed is_once is_caused is_queued is_ordered is_checked ends_settled loads_end ends_told ends_stepped goes_in_time
entry_of_a_frame_is_cleared_ends_loads = refl

pub entry_of_a_frame_is_cleared_acts_at_once : ActsAtOnce (log_of entry_of_a_frame_is_cleared)
unfolding url_on_literals is_web is_blank_url judged judged_parse read_against address_of url_of resolved with_fragment base_of fragment_of origin_text origin_of has_same_base is_rewritable events_of each_event after_opening AtEachEvent is_numbered opens is_formed is_once is_caused is_queued is_ordered is_checked ends_settled loads_end ends_told ends_stepped goes_in_time
entry_of_a_frame_is_cleared_acts_at_once = record { told = refl; stepped = refl; in_time = refl }

pub entry_of_a_frame_is_cleared_suits : Suits plain_settings (log_of entry_of_a_frame_is_cleared)
unfolding url_on_literals is_web is_blank_url judged judged_parse read_against address_of url_of resolved with_fragment base_of fragment_of origin_text origin_of has_same_base is_rewritable events_of each_event after_opening AtEachEvent is_numbered opens is_formed is_once is_caused is_queued is_ordered is_checked ends_settled loads_end ends_told ends_stepped goes_in_time
entry_of_a_frame_is_cleared_suits = record { opened = refl; placed = refl; kept = refl }

-- A push takes a frame back before the report that its other document was shown.
abbrev pub back_before_it_was_shown : List Event
back_before_it_was_shown =
    before 39 push_beside_a_running_traversal
    ++ by_ui (rows.Accepted (r 5) None (requests.Load (n 1) modes.Auto (codes "http://b.test/f2"))) (rows.Started (r 5) None ∷ sent 11 2 0 6 (whys.Req (r 5)) (tasks.Populate (n 1) (s 6) (codes "http://b.test/f2") false) ∷ [])
    ∷ by_proc 2 (rows.Taken (p 2) (j 11) true false) []
    ∷ by_proc 2 (rows.Finished (p 2) (j 11) (outcomes.Populated None)) []
    ∷ by_coord (rows.Delivered (p 2)) (rows.Applied (r 5) (changes.Push (n 1) (e 0 6) (s 6) (codes "http://b.test/f2") None) ∷ sent 12 1 0 4 (whys.Req (r 5)) tasks.Freeze ∷ sent 13 2 0 6 (whys.Req (r 5)) (tasks.Activate (e 0 6) (epoch 3) 2 1 None (codes "http://b.test/f2")) ∷ sent 14 1 0 1 (whys.Req (r 5)) (tasks.Update 2 1) ∷ sent 15 1 0 5 (whys.Req (r 5)) (tasks.Update 2 1) ∷ [])
    ∷ by_proc 1 (rows.Taken (p 1) (j 12) true false) []
    ∷ by_proc 1 (rows.Finished (p 1) (j 12) outcomes.Frozen) []
    ∷ by_coord (rows.Delivered (p 1)) []
    ∷ by_proc 2 (rows.Taken (p 2) (j 13) true false) []
    ∷ by_proc 2 (rows.Finished (p 2) (j 13) outcomes.Activated) []
    ∷ by_coord (rows.Delivered (p 2)) []
    ∷ by_proc 1 (rows.Taken (p 1) (j 14) true false) []
    ∷ by_proc 1 (rows.Finished (p 1) (j 14) outcomes.Updated) []
    ∷ by_coord (rows.Delivered (p 1)) []
    ∷ by_proc 1 (rows.Taken (p 1) (j 15) true false) []
    ∷ by_proc 1 (rows.Finished (p 1) (j 15) outcomes.Updated) []
    ∷ by_coord (rows.Delivered (p 1)) []
    ∷ by_ui (rows.Accepted (r 6) None (requests.Go (negsuc 0))) (rows.Started (r 6) (Some (t 0)) ∷ sent 16 2 0 6 (whys.Req (r 6)) tasks.Freeze ∷ sent 17 1 0 4 (whys.Req (r 6)) (tasks.Activate (e 0 4) (epoch 4) 2 0 None (codes "http://a.test/f1")) ∷ [])
    ∷ by_proc 1 (rows.Taken (p 1) (j 17) true false) []
    ∷ by_proc 1 (rows.Finished (p 1) (j 17) outcomes.Activated) []
    ∷ by_coord (rows.Delivered (p 1)) (rows.Applied (r 6) (changes.Traverse (t 0)) ∷ sent 18 1 0 1 (whys.Req (r 6)) (tasks.Update 2 0) ∷ sent 19 1 0 5 (whys.Req (r 6)) (tasks.Update 2 0) ∷ [])
    ∷ by_proc 2 (rows.Taken (p 2) (j 16) true false) []
    ∷ by_proc 2 (rows.Finished (p 2) (j 16) outcomes.Frozen) []
    ∷ by_coord (rows.Delivered (p 2)) []
    ∷ by_proc 1 (rows.Taken (p 1) (j 18) true false) []
    ∷ by_proc 1 (rows.Finished (p 1) (j 18) outcomes.Updated) []
    ∷ by_coord (rows.Delivered (p 1)) []
    ∷ by_proc 1 (rows.Taken (p 1) (j 19) true false) []
    ∷ by_proc 1 (rows.Finished (p 1) (j 19) outcomes.Updated) []
    ∷ by_coord (rows.Delivered (p 1)) []
    ∷ by_ui (rows.Accepted (r 7) (Some (d 5)) (requests.Poke (n 2) (actions.Push (Some (codes "s")) (Some (codes "/h"))))) []
    ∷ by_ui (rows.Accepted (r 8) None (requests.Go (pos 1))) (rows.Started (r 8) (Some (t 1)) ∷ sent 20 1 0 4 (whys.Req (r 8)) tasks.Freeze ∷ sent 21 2 0 6 (whys.Req (r 8)) (tasks.Activate (e 0 6) (epoch 5) 2 1 None (codes "http://b.test/f2")) ∷ [])
    ∷ by_proc 1 (made 1 7 5 2 (whats.Push (e 5 1) (Some (codes "s")) (codes "http://a.test/h"))) []
    ∷ by_coord (rows.Delivered (p 1)) (rows.Applied (r 7) (changes.Push (n 2) (e 5 1) (s 5) (codes "http://a.test/h") (Some (codes "s"))) ∷ sent 22 2 0 6 (whys.Req (r 7)) tasks.Discard ∷ sent 23 1 0 4 (whys.Req (r 8)) (tasks.Activate (e 0 4) (epoch 6) 2 1 None (codes "http://a.test/f1")) ∷ sent 24 1 0 1 (whys.Req (r 7)) (tasks.Update 2 1) ∷ sent 25 1 0 5 (whys.Req (r 7)) (tasks.Update 2 1) ∷ [])
    ∷ by_proc 1 (rows.Taken (p 1) (j 20) true false) []
    ∷ by_proc 1 (rows.Finished (p 1) (j 20) outcomes.Frozen) []
    ∷ by_coord (rows.Delivered (p 1)) []
    ∷ by_proc 1 (rows.Taken (p 1) (j 23) true false) []
    ∷ by_proc 1 (rows.Finished (p 1) (j 23) outcomes.Activated) []
    ∷ by_coord (rows.Delivered (p 1)) (rows.Applied (r 8) (changes.Traverse (t 1)) ∷ [])
    ∷ by_proc 1 (rows.Taken (p 1) (j 24) true false) []
    ∷ by_proc 1 (rows.Finished (p 1) (j 24) outcomes.Updated) []
    ∷ by_coord (rows.Delivered (p 1)) []
    ∷ by_proc 2 (rows.Taken (p 2) (j 21) true false) []
    ∷ by_proc 2 (rows.Finished (p 2) (j 21) outcomes.Activated) []
    ∷ by_coord (rows.Delivered (p 2)) []
    ∷ by_proc 1 (rows.Taken (p 1) (j 25) true false) []
    ∷ by_proc 1 (rows.Finished (p 1) (j 25) outcomes.Updated) []
    ∷ by_coord (rows.Delivered (p 1)) []
    ∷ by_proc 2 (rows.Taken (p 2) (j 22) true false) []
    ∷ by_proc 2 (rows.Finished (p 2) (j 22) outcomes.Discarded) []
    ∷ by_coord (rows.Delivered (p 2)) []
    ∷ []

abbrev pub back_before_it_was_shown_header : Header
back_before_it_was_shown_header = record { keep = 3; sites = record { origin = codes "http://b.test"; proc = p 2 } ∷ []; pages = []; first = codes "http://a.test/" }

pub back_before_it_was_shown_is_legal : IsLegal (log_of back_before_it_was_shown)
unfolding url_on_literals is_web is_blank_url judged judged_parse read_against address_of url_of resolved with_fragment base_of fragment_of origin_text origin_of has_same_base is_rewritable events_of each_event after_opening AtEachEvent is_numbered opens is_formed is_once is_caused is_queued is_ordered is_checked ends_settled loads_end ends_told ends_stepped goes_in_time
back_before_it_was_shown_is_legal = record { opened = refl; numbered = refl; formed = refl; once = refl; caused = refl; queued = refl; ordered = refl; checked = refl; settled = refl }

pub back_before_it_was_shown_ends_loads : LoadsEndInTime (log_of back_before_it_was_shown)
unfolding url_on_literals is_web is_blank_url judged judged_parse read_against address_of url_of resolved with_fragment base_of fragment_of origin_text origin_of has_same_base is_rewritable events_of each_event after_opening AtEachEvent is_numbered opens is_formed is_once is_caused is_queued is_ordered is_checked ends_settled loads_end ends_told ends_stepped goes_in_time
back_before_it_was_shown_ends_loads = refl

pub back_before_it_was_shown_acts_at_once : ActsAtOnce (log_of back_before_it_was_shown)
unfolding url_on_literals is_web is_blank_url judged judged_parse read_against address_of url_of resolved with_fragment base_of fragment_of origin_text origin_of has_same_base is_rewritable events_of each_event after_opening AtEachEvent is_numbered opens is_formed is_once is_caused is_queued is_ordered is_checked ends_settled loads_end ends_told ends_stepped goes_in_time
back_before_it_was_shown_acts_at_once = record { told = refl; stepped = refl; in_time = refl }

pub back_before_it_was_shown_suits : Suits back_before_it_was_shown_header (log_of back_before_it_was_shown)
unfolding url_on_literals is_web is_blank_url judged judged_parse read_against address_of url_of resolved with_fragment base_of fragment_of origin_text origin_of has_same_base is_rewritable events_of each_event after_opening AtEachEvent is_numbered opens is_formed is_once is_caused is_queued is_ordered is_checked ends_settled loads_end ends_told ends_stepped goes_in_time
back_before_it_was_shown_suits = record { opened = refl; placed = refl; kept = refl }

-- A document that a running traversal has shown goes forward: it joins the queue, and is not held back.
abbrev pub document_goes_during_a_traversal : List Event
document_goes_during_a_traversal =
    before 41 held_back_push
    ++ by_ui (rows.Accepted (r 6) (Some (d 1)) (requests.Poke (n 0) (actions.Go (pos 1)))) []
    ∷ by_proc 1 (made 1 6 1 2 (whats.Go (pos 1))) []
    ∷ by_coord (rows.Delivered (p 1)) []
    ∷ by_coord (rows.Delivered (p 1)) []
    ∷ by_proc 1 (rows.Taken (p 1) (j 11) true false) []
    ∷ by_proc 1 (rows.Finished (p 1) (j 11) outcomes.Activated) []
    ∷ by_coord (rows.Delivered (p 1)) (rows.Applied (r 5) (changes.Traverse (t 0)) ∷ rows.Started (r 6) (Some (t 1)) ∷ sent 12 1 0 1 (whys.Req (r 6)) (tasks.Activate (e 1 1) (epoch 3) 3 1 None (codes "http://a.test/#x")) ∷ [])
    ∷ by_proc 1 (rows.Taken (p 1) (j 12) true false) []
    ∷ by_proc 1 (rows.Finished (p 1) (j 12) outcomes.Activated) []
    ∷ by_coord (rows.Delivered (p 1)) (rows.Applied (r 6) (changes.Traverse (t 1)) ∷ sent 13 1 0 3 (whys.Req (r 6)) (tasks.Update 3 1) ∷ [])
    ∷ by_proc 1 (rows.Taken (p 1) (j 13) true false) []
    ∷ by_proc 1 (rows.Finished (p 1) (j 13) outcomes.Updated) []
    ∷ by_coord (rows.Delivered (p 1)) []
    ∷ []

pub document_goes_during_a_traversal_is_legal : IsLegal (log_of document_goes_during_a_traversal)
unfolding url_on_literals is_web is_blank_url judged judged_parse read_against address_of url_of resolved with_fragment base_of fragment_of origin_text origin_of has_same_base is_rewritable events_of each_event after_opening AtEachEvent is_numbered opens is_formed is_once is_caused is_queued is_ordered is_checked ends_settled loads_end ends_told ends_stepped goes_in_time
document_goes_during_a_traversal_is_legal = record { opened = refl; numbered = refl; formed = refl; once = refl; caused = refl; queued = refl; ordered = refl; checked = refl; settled = refl }

pub document_goes_during_a_traversal_ends_loads : LoadsEndInTime (log_of document_goes_during_a_traversal)
unfolding url_on_literals is_web is_blank_url judged judged_parse read_against address_of url_of resolved with_fragment base_of fragment_of origin_text origin_of has_same_base is_rewritable events_of each_event after_opening AtEachEvent is_numbered opens is_formed is_once is_caused is_queued is_ordered is_checked ends_settled loads_end ends_told ends_stepped goes_in_time
document_goes_during_a_traversal_ends_loads = refl

pub document_goes_during_a_traversal_acts_at_once : ActsAtOnce (log_of document_goes_during_a_traversal)
unfolding url_on_literals is_web is_blank_url judged judged_parse read_against address_of url_of resolved with_fragment base_of fragment_of origin_text origin_of has_same_base is_rewritable events_of each_event after_opening AtEachEvent is_numbered opens is_formed is_once is_caused is_queued is_ordered is_checked ends_settled loads_end ends_told ends_stepped goes_in_time
document_goes_during_a_traversal_acts_at_once = record { told = refl; stepped = refl; in_time = refl }

pub document_goes_during_a_traversal_suits : Suits plain_settings (log_of document_goes_during_a_traversal)
unfolding url_on_literals is_web is_blank_url judged judged_parse read_against address_of url_of resolved with_fragment base_of fragment_of origin_text origin_of has_same_base is_rewritable events_of each_event after_opening AtEachEvent is_numbered opens is_formed is_once is_caused is_queued is_ordered is_checked ends_settled loads_end ends_told ends_stepped goes_in_time
document_goes_during_a_traversal_suits = record { opened = refl; placed = refl; kept = refl }
