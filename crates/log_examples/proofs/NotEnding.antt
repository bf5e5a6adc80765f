-- Logs in which a load ends too late.
-- A log is its events: those before one of another log, since one, or between two, and its own.
use Rattle.std.proofs.Common.{pos, negsuc, true, false, List, [], ◌∷◌, ◌++◌, codes, Some, None}
use Rattle.std.proofs.lemmas.Bool.{false≢true}
use Rattle.url.proofs.OnLiterals.{url_on_literals}
use Rattle.address.specs.Addresses.{is_web, is_blank_url, judged, judged_parse, read_against, address_of, url_of, resolved, with_fragment, base_of, fragment_of, origin_text, origin_of, has_same_base, is_rewritable}
use Rattle.log_model.specs.declared.action.Action.TheVariants as actions
use Rattle.log_model.specs.declared.change.Change.TheVariants as changes
use Rattle.log_model.specs.declared.job.Task.TheVariants as tasks
use Rattle.log_model.specs.declared.job.Why.TheVariants as whys
use Rattle.log_model.specs.declared.made.What.TheVariants as whats
use Rattle.log_model.specs.declared.outcome.Outcome.TheVariants as outcomes
use Rattle.log_model.specs.declared.request.Mode.TheVariants as modes
use Rattle.log_model.specs.declared.request.Request.TheVariants as requests
use Rattle.log_model.specs.declared.row_kind.RowKind.TheVariants as rows
use Rattle.log_model.specs.Events.{events_of, each_event, after_opening, AtEachEvent}
use Rattle.log_model.specs.Formed.{is_numbered}
use Rattle.log_model.specs.Legal.{opens, is_formed, is_once, is_caused, is_queued, is_ordered, is_checked, ends_settled}
use Rattle.log_model.specs.LoadsEndInTime.{LoadsEndInTime, loads_end}
use Rattle.log_model.specs.ActsAtOnce.{ends_told, ends_stepped, goes_in_time}
use Rattle.log_examples.specs.Rows.{n, s, r, p, t, d, j, e, epoch, sent, made}
use Rattle.log_examples.specs.Logs.{Event, by_start, by_ui, by_coord, by_proc, log_of, before, since}
use Rattle.log_examples.proofs.Pushes.{push_beside_a_frame, same_fragment_again}
use Rattle.log_examples.proofs.Loads.{later_load, load_ended_by_a_traversal, load_ended_by_a_reload}
use Rattle.log_examples.proofs.Frames.{load_while_frames_are_moved}
use Rattle.log_examples.proofs.Deaths.{load_below_a_lost_navigable}
use Rattle.log_examples.proofs.Pending.{load_over_a_frame}

-- A load outlives the traversal that moves its navigable.
abbrev pub load_outlives_a_traversal : List Event
load_outlives_a_traversal =
    before 12 load_ended_by_a_traversal
    ++ by_ui (rows.Accepted (r 3) None (requests.Go (negsuc 0))) (rows.Started (r 3) (Some (t 0)) ∷ sent 5 1 0 2 (whys.Req (r 3)) tasks.Freeze ∷ sent 6 1 0 1 (whys.Req (r 3)) (tasks.Activate (e 0 1) (epoch 3) 2 0 None (codes "http://a.test/")) ∷ [])
    ∷ since 13 load_ended_by_a_traversal

pub load_outlives_a_traversal_is_refused : LoadsEndInTime (log_of load_outlives_a_traversal) → ⊥
unfolding url_on_literals is_web is_blank_url judged judged_parse read_against address_of url_of resolved with_fragment base_of fragment_of origin_text origin_of has_same_base is_rewritable events_of each_event after_opening AtEachEvent is_numbered opens is_formed is_once is_caused is_queued is_ordered is_checked ends_settled loads_end ends_told ends_stepped goes_in_time
load_outlives_a_traversal_is_refused holds = false≢true holds

-- A load outlives the reload of its navigable.
abbrev pub load_outlives_a_reload : List Event
load_outlives_a_reload =
    by_start (rows.Opened (e 0 1) (s 1) (d 1) (p 1) None (codes "http://a.test/")) []
    ∷ by_ui (rows.Accepted (r 1) None (requests.Load (n 0) modes.Auto (codes "http://b.test/p0"))) (rows.Started (r 1) None ∷ sent 1 2 0 2 (whys.Req (r 1)) (tasks.Populate (n 0) (s 2) (codes "http://b.test/p0") false) ∷ [])
    ∷ by_ui (rows.Accepted (r 2) None (requests.Reload (n 0))) (rows.Started (r 2) None ∷ rows.Applied (r 2) (changes.Reload (n 0)) ∷ sent 2 1 0 3 (whys.Req (r 2)) (tasks.Populate (n 0) (s 1) (codes "http://a.test/") false) ∷ [])
    ∷ since 3 load_ended_by_a_reload

pub load_outlives_a_reload_is_refused : LoadsEndInTime (log_of load_outlives_a_reload) → ⊥
unfolding url_on_literals is_web is_blank_url judged judged_parse read_against address_of url_of resolved with_fragment base_of fragment_of origin_text origin_of has_same_base is_rewritable events_of each_event after_opening AtEachEvent is_numbered opens is_formed is_once is_caused is_queued is_ordered is_checked ends_settled loads_end ends_told ends_stepped goes_in_time
load_outlives_a_reload_is_refused holds = false≢true holds

-- is_on_untouched_way: is_untouched: without test `has_target e (aim_of e)`, it would be in time.
abbrev pub is_on_untouched_way_1 : List Event
is_on_untouched_way_1 =
    before 31 load_while_frames_are_moved
    ++ by_ui (rows.Accepted (r 5) None (requests.Go (negsuc 0))) (rows.Started (r 5) (Some (t 0)) ∷ [])
    ∷ []

pub is_on_untouched_way_1_is_refused : LoadsEndInTime (log_of is_on_untouched_way_1) → ⊥
unfolding url_on_literals is_web is_blank_url judged judged_parse read_against address_of url_of resolved with_fragment base_of fragment_of origin_text origin_of has_same_base is_rewritable events_of each_event after_opening AtEachEvent is_numbered opens is_formed is_once is_caused is_queued is_ordered is_checked ends_settled loads_end ends_told ends_stepped goes_in_time
is_on_untouched_way_1_is_refused holds = false≢true holds

-- may_be_loaded: without conjunct `has_row nav e.history.rows`, it would be in time.
abbrev pub may_be_loaded_1 : List Event
may_be_loaded_1 =
    before 3 later_load
    ++ by_ui (rows.Answered (r 2) false) (rows.Applied (r 3) (changes.RemoveFrame (n 0)) ∷ [])
    ∷ []

pub may_be_loaded_1_is_refused : LoadsEndInTime (log_of may_be_loaded_1) → ⊥
unfolding url_on_literals is_web is_blank_url judged judged_parse read_against address_of url_of resolved with_fragment base_of fragment_of origin_text origin_of has_same_base is_rewritable events_of each_event after_opening AtEachEvent is_numbered opens is_formed is_once is_caused is_queued is_ordered is_checked ends_settled loads_end ends_told ends_stepped goes_in_time
may_be_loaded_1_is_refused holds = false≢true holds

-- may_be_loaded: without conjunct `is_shown e.history.rows (aim_of e) nav`, it would be in time.
abbrev pub may_be_loaded_2 : List Event
may_be_loaded_2 =
    before 14 load_over_a_frame
    ++ by_ui (rows.Accepted (r 3) None (requests.Load (n 1) modes.Replace (codes "about:blank"))) (rows.Started (r 3) (Some (t 1)) ∷ [])
    ∷ []

pub may_be_loaded_2_is_refused : LoadsEndInTime (log_of may_be_loaded_2) → ⊥
unfolding url_on_literals is_web is_blank_url judged judged_parse read_against address_of url_of resolved with_fragment base_of fragment_of origin_text origin_of has_same_base is_rewritable events_of each_event after_opening AtEachEvent is_numbered opens is_formed is_once is_caused is_queued is_ordered is_checked ends_settled loads_end ends_told ends_stepped goes_in_time
may_be_loaded_2_is_refused holds = false≢true holds

-- may_be_loaded: without test `not (is_below_known_lost e place)`, it would be in time.
abbrev pub may_be_loaded_3 : List Event
may_be_loaded_3 =
    before 12 load_below_a_lost_navigable
    ++ by_coord (rows.Delivered (p 1)) []
    ∷ []

pub may_be_loaded_3_is_refused : LoadsEndInTime (log_of may_be_loaded_3) → ⊥
unfolding url_on_literals is_web is_blank_url judged judged_parse read_against address_of url_of resolved with_fragment base_of fragment_of origin_text origin_of has_same_base is_rewritable events_of each_event after_opening AtEachEvent is_numbered opens is_formed is_once is_caused is_queued is_ordered is_checked ends_settled loads_end ends_told ends_stepped goes_in_time
may_be_loaded_3_is_refused holds = false≢true holds

-- A load of the top is applied with the document state that was there, and leaves an earlier load of a frame. ends_at_change: were equation 2 true, it would be in time.
abbrev pub load_below_a_push_of_the_same_state : List Event
load_below_a_push_of_the_same_state =
    before 10 push_beside_a_frame
    ++ by_ui (rows.Accepted (r 2) None (requests.Load (n 1) modes.Auto (codes "http://c.test/p0"))) (rows.Started (r 2) None ∷ sent 3 2 0 3 (whys.Req (r 2)) (tasks.Populate (n 1) (s 3) (codes "http://c.test/p0") false) ∷ [])
    ∷ by_ui (rows.Accepted (r 3) None (requests.Load (n 0) modes.Auto (codes "http://a.test/1"))) (rows.Started (r 3) None ∷ sent 4 1 0 4 (whys.Req (r 3)) (tasks.Populate (n 0) (s 4) (codes "http://a.test/1") false) ∷ [])
    ∷ by_proc 1 (rows.Taken (p 1) (j 4) true false) []
    ∷ by_proc 1 (rows.Finished (p 1) (j 4) (outcomes.Populated None)) []
    ∷ by_coord (rows.Delivered (p 1)) (rows.Applied (r 3) (changes.Push (n 0) (e 0 3) (s 1) (codes "http://a.test/1") None) ∷ [])
    ∷ []

pub load_below_a_push_of_the_same_state_is_refused : LoadsEndInTime (log_of load_below_a_push_of_the_same_state) → ⊥
unfolding url_on_literals is_web is_blank_url judged judged_parse read_against address_of url_of resolved with_fragment base_of fragment_of origin_text origin_of has_same_base is_rewritable events_of each_event after_opening AtEachEvent is_numbered opens is_formed is_once is_caused is_queued is_ordered is_checked ends_settled loads_end ends_told ends_stepped goes_in_time
load_below_a_push_of_the_same_state_is_refused holds = false≢true holds

-- A load of the top is applied as a replace with the document state that was there, and leaves an earlier load of a frame. ends_at_change: were equation 3 true, it would be in time.
abbrev pub load_below_a_replace_of_the_same_state : List Event
load_below_a_replace_of_the_same_state =
    before 10 push_beside_a_frame
    ++ by_ui (rows.Accepted (r 2) None (requests.Load (n 1) modes.Auto (codes "http://c.test/p0"))) (rows.Started (r 2) None ∷ sent 3 2 0 3 (whys.Req (r 2)) (tasks.Populate (n 1) (s 3) (codes "http://c.test/p0") false) ∷ [])
    ∷ by_ui (rows.Accepted (r 3) None (requests.Load (n 0) modes.Replace (codes "http://a.test/1"))) (rows.Started (r 3) None ∷ sent 4 1 0 4 (whys.Req (r 3)) (tasks.Populate (n 0) (s 4) (codes "http://a.test/1") false) ∷ [])
    ∷ by_proc 1 (rows.Taken (p 1) (j 4) true false) []
    ∷ by_proc 1 (rows.Finished (p 1) (j 4) (outcomes.Populated None)) []
    ∷ by_coord (rows.Delivered (p 1)) (rows.Applied (r 3) (changes.Replace (n 0) (e 0 1) (e 0 3) (s 1) (codes "http://a.test/1") None) ∷ [])
    ∷ []

pub load_below_a_replace_of_the_same_state_is_refused : LoadsEndInTime (log_of load_below_a_replace_of_the_same_state) → ⊥
unfolding url_on_literals is_web is_blank_url judged judged_parse read_against address_of url_of resolved with_fragment base_of fragment_of origin_text origin_of has_same_base is_rewritable events_of each_event after_opening AtEachEvent is_numbered opens is_formed is_once is_caused is_queued is_ordered is_checked ends_settled loads_end ends_told ends_stepped goes_in_time
load_below_a_replace_of_the_same_state_is_refused holds = false≢true holds

-- The document state of a frame becomes that of the top, so that the frame is hidden and the one in it is shown; a load of that one goes on during a traversal. is_on_untouched_way: is_untouched: without conjunct `is_shown e.history.rows (aim_of e) nav`, it would be in time.
abbrev pub load_below_a_frame_that_is_hidden : List Event
load_below_a_frame_that_is_hidden =
    before 7 same_fragment_again
    ++ by_ui (rows.Accepted (r 2) (Some (d 1)) (requests.Poke (n 0) (actions.AddFrame (n 1)))) []
    ∷ by_proc 1 (made 1 2 1 1 (whats.AddFrame (n 1))) []
    ∷ by_coord (rows.Delivered (p 1)) (rows.Applied (r 2) (changes.AddFrame (s 1) (n 1) (e 0 2) (s 2)) ∷ sent 2 1 0 2 (whys.Req (r 2)) (tasks.Populate (n 1) (s 2) (codes "about:blank") true) ∷ [])
    ∷ by_proc 1 (rows.Taken (p 1) (j 2) true false) []
    ∷ by_proc 1 (rows.Finished (p 1) (j 2) (outcomes.Populated None)) []
    ∷ by_coord (rows.Delivered (p 1)) (sent 3 1 0 2 (whys.Req (r 2)) (tasks.Activate (e 0 2) (epoch 1) 2 1 None (codes "about:blank")) ∷ [])
    ∷ by_proc 1 (rows.Taken (p 1) (j 3) true false) []
    ∷ by_proc 1 (rows.Finished (p 1) (j 3) outcomes.Activated) []
    ∷ by_coord (rows.Delivered (p 1)) []
    ∷ by_ui (rows.Accepted (r 3) (Some (d 2)) (requests.Poke (n 1) (actions.AddFrame (n 2)))) []
    ∷ by_proc 1 (made 1 3 2 1 (whats.AddFrame (n 2))) []
    ∷ by_coord (rows.Delivered (p 1)) (rows.Applied (r 3) (changes.AddFrame (s 2) (n 2) (e 0 3) (s 3)) ∷ sent 4 1 0 3 (whys.Req (r 3)) (tasks.Populate (n 2) (s 3) (codes "about:blank") true) ∷ [])
    ∷ by_proc 1 (rows.Taken (p 1) (j 4) true false) []
    ∷ by_proc 1 (rows.Finished (p 1) (j 4) (outcomes.Populated None)) []
    ∷ by_coord (rows.Delivered (p 1)) (sent 5 1 0 3 (whys.Req (r 3)) (tasks.Activate (e 0 3) (epoch 1) 2 1 None (codes "about:blank")) ∷ [])
    ∷ by_proc 1 (rows.Taken (p 1) (j 5) true false) []
    ∷ by_proc 1 (rows.Finished (p 1) (j 5) outcomes.Activated) []
    ∷ by_coord (rows.Delivered (p 1)) []
    ∷ by_ui (rows.Accepted (r 4) None (requests.Go (pos 1))) (rows.Applied (r 1) (changes.Replace (n 0) (e 1 1) (e 1 1) (s 2) (codes "http://a.test/#x") None) ∷ rows.Applied (r 2) (changes.Replace (n 1) (e 0 2) (e 0 2) (s 9) (codes "about:blank") None) ∷ rows.Started (r 4) (Some (t 1)) ∷ rows.Accepted (r 5) None (requests.Load (n 2) modes.Auto (codes "http://a.test/g")) ∷ rows.Started (r 5) None ∷ [])
    ∷ []

pub load_below_a_frame_that_is_hidden_is_refused : LoadsEndInTime (log_of load_below_a_frame_that_is_hidden) → ⊥
unfolding url_on_literals is_web is_blank_url judged judged_parse read_against address_of url_of resolved with_fragment base_of fragment_of origin_text origin_of has_same_base is_rewritable events_of each_event after_opening AtEachEvent is_numbered opens is_formed is_once is_caused is_queued is_ordered is_checked ends_settled loads_end ends_told ends_stepped goes_in_time
load_below_a_frame_that_is_hidden_is_refused holds = false≢true holds
