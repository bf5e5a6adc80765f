-- The same, where a drop is among the rows that end the log.
-- A log is its events: those before one of another log, since one, or between two, and its own.
use Rattle.std.proofs.Common.{pos, negsuc, true, false, List, [], ◌∷◌, ◌++◌, codes, Some, None}
use Rattle.std.proofs.lemmas.Bool.{false≢true}
use Rattle.url.proofs.OnLiterals.{url_on_literals}
use Rattle.address.specs.Addresses.{is_web, is_blank_url, judged, judged_parse, read_against, address_of, url_of, resolved, with_fragment, base_of, fragment_of, origin_text, origin_of, has_same_base, is_rewritable}
use Rattle.log_model.specs.declared.action.Action.TheVariants as actions
use Rattle.log_model.specs.declared.change.Change.TheVariants as changes
use Rattle.log_model.specs.declared.handler.LeaveCause.TheVariants as leavings
use Rattle.log_model.specs.declared.handler.Verdict.TheVariants as verdicts
use Rattle.log_model.specs.declared.job.Task.TheVariants as tasks
use Rattle.log_model.specs.declared.job.Why.TheVariants as whys
use Rattle.log_model.specs.declared.made.What.TheVariants as whats
use Rattle.log_model.specs.declared.outcome.Cause.TheVariants as drops
use Rattle.log_model.specs.declared.outcome.Denial.TheVariants as denials
use Rattle.log_model.specs.declared.outcome.Outcome.TheVariants as outcomes
use Rattle.log_model.specs.declared.request.Mode.TheVariants as modes
use Rattle.log_model.specs.declared.request.Request.TheVariants as requests
use Rattle.log_model.specs.declared.row_kind.RowKind.TheVariants as rows
use Rattle.log_model.specs.Events.{events_of, each_event, after_opening, AtEachEvent}
use Rattle.log_model.specs.Formed.{is_numbered}
use Rattle.log_model.specs.Legal.{IsLegal, opens, is_formed, is_once, is_caused, is_queued, is_ordered, is_checked, ends_settled}
use Rattle.log_model.specs.LoadsEndInTime.{loads_end}
use Rattle.log_model.specs.ActsAtOnce.{ends_told, ends_stepped, goes_in_time}
use Rattle.log_examples.specs.Rows.{n, s, r, p, t, x, d, j, e, epoch, sent, made}
use Rattle.log_examples.specs.Logs.{Event, by_start, by_ui, by_coord, by_proc, log_of, before}
use Rattle.log_examples.proofs.Pushes.{push_beside_a_frame}
use Rattle.log_examples.proofs.Traversals.{push_after_going_back, document_goes_back, push_under_an_old_epoch}
use Rattle.log_examples.proofs.Interleavings.{push_beside_a_running_traversal}
use Rattle.log_examples.proofs.Loads.{two_processes, load_ended_by_a_reload, fragment_above_a_load, fragment_beside_a_reload}
use Rattle.log_examples.proofs.Frames.{frame_at_a_later_step, replace_above_a_load}
use Rattle.log_examples.proofs.Removals.{removed_frame, push_of_a_removed_frame, removal_and_push, removal_and_push_of_two_processes}
use Rattle.log_examples.proofs.Prompts.{stay, one_prompt_for_two, load_behind_an_answer, frames_asked_in_order}
use Rattle.log_examples.proofs.Deaths.{one_of_two_processes_dies, load_below_a_lost_navigable, reload_whose_target_changes, poke_of_a_dead_document, death_of_a_fragment_order, death_above_what_a_frame_made}

-- is_dead_by: without test `by.0 == death.0`, `caused` would hold.
abbrev pub is_dead_by_1 : List Event
is_dead_by_1 =
    by_start (rows.Opened (e 0 1) (s 1) (d 1) (p 1) None (codes "http://a.test/")) []
    ∷ by_ui (rows.Accepted (r 1) (Some (d 1)) (requests.Poke (n 0) (actions.AddFrame (n 1)))) []
    ∷ by_ui (rows.Killed (p 1) (x 1)) (rows.Dropped (r 1) (drops.Gone (x 1)) ∷ [])
    ∷ by_coord (rows.Delivered (p 1)) []
    ∷ by_ui (rows.Killed (p 1) (x 2)) (rows.Dropped (r 1) (drops.Gone (x 2)) ∷ [])
    ∷ []

pub is_dead_by_1_is_refused : IsLegal (log_of is_dead_by_1) → ⊥
unfolding url_on_literals is_web is_blank_url judged judged_parse read_against address_of url_of resolved with_fragment base_of fragment_of origin_text origin_of has_same_base is_rewritable events_of each_event after_opening AtEachEvent is_numbered opens is_formed is_once is_caused is_queued is_ordered is_checked ends_settled loads_end ends_told ends_stepped goes_in_time
is_dead_by_1_is_refused holds = false≢true holds.caused

-- is_taken_by: without test `is_dead_by death`, `caused` would hold.
abbrev pub is_taken_by_1 : List Event
is_taken_by_1 =
    before 5 push_under_an_old_epoch
    ++ by_coord (rows.Delivered (p 1)) (sent 2 1 0 1 (whys.Death (x 1)) (tasks.Activate (e 0 1) (epoch 3) 2 1 None (codes "http://a.test/")) ∷ rows.Dropped (r 1) (drops.Gone (x 1)) ∷ sent 2 1 0 1 (whys.Req (r 2)) tasks.Freeze ∷ [])
    ∷ []

pub is_taken_by_1_is_refused : IsLegal (log_of is_taken_by_1) → ⊥
unfolding url_on_literals is_web is_blank_url judged judged_parse read_against address_of url_of resolved with_fragment base_of fragment_of origin_text origin_of has_same_base is_rewritable events_of each_event after_opening AtEachEvent is_numbered opens is_formed is_once is_caused is_queued is_ordered is_checked ends_settled loads_end ends_told ends_stepped goes_in_time
is_taken_by_1_is_refused holds = false≢true holds.caused

-- any_displaced: without test `not (is_placed s step nav)`, `caused` would hold.
abbrev pub any_displaced_1 : List Event
any_displaced_1 =
    by_start (rows.Opened (e 0 1) (s 1) (d 1) (p 1) (Some 1) (codes "about:blank")) []
    ∷ by_ui (rows.Accepted (r 1) (Some (d 1)) (requests.Poke (n 0) (actions.Push (Some (codes "s")) (Some (codes "/q0"))))) []
    ∷ by_proc 1 (rows.Refused (r 1) denials.BadAddress) []
    ∷ by_ui (rows.Accepted (r 2) None (requests.Load (n 0) modes.Push (codes "http://a.test/p1"))) (rows.Started (r 2) None ∷ sent 1 1 0 1 (whys.Req (r 2)) (tasks.Ask 1 leavings.Load) ∷ [])
    ∷ by_proc 1 (rows.Taken (p 1) (j 1) true false) []
    ∷ by_proc 1 (rows.Finished (p 1) (j 1) (outcomes.Asked verdicts.Prompt)) []
    ∷ by_coord (rows.Delivered (p 1)) (rows.Prompted (r 2) (d 1) ∷ [])
    ∷ by_ui (rows.Answered (r 2) false) (sent 2 1 0 2 (whys.Req (r 2)) (tasks.Populate (n 0) (s 2) (codes "http://a.test/p1") false) ∷ [])
    ∷ by_proc 1 (rows.Taken (p 1) (j 2) true false) []
    ∷ by_proc 1 (rows.Finished (p 1) (j 2) (outcomes.Populated None)) []
    ∷ by_ui (rows.Accepted (r 3) None (requests.Go (pos 0))) (rows.Dropped (r 2) (drops.By (r 3)) ∷ rows.Started (r 3) (Some (t 0)) ∷ sent 3 1 0 3 (whys.Req (r 3)) (tasks.Populate (n 0) (s 3) (codes "about:blank") false) ∷ [])
    ∷ []

pub any_displaced_1_is_refused : IsLegal (log_of any_displaced_1) → ⊥
unfolding url_on_literals is_web is_blank_url judged judged_parse read_against address_of url_of resolved with_fragment base_of fragment_of origin_text origin_of has_same_base is_rewritable events_of each_event after_opening AtEachEvent is_numbered opens is_formed is_once is_caused is_queued is_ordered is_checked ends_settled loads_end ends_told ends_stepped goes_in_time
any_displaced_1_is_refused holds = false≢true holds.caused

-- by_adder: without conjunct `is_accepted_here p q.nr`, `caused` would hold.
abbrev pub by_adder_1 : List Event
by_adder_1 =
    before 3 push_beside_a_frame
    ++ by_ui (rows.Accepted (r 2) None (requests.Load (n 1) modes.Auto (codes "http://a.test/p2"))) (rows.Refused (r 2) denials.NoNavigable ∷ [])
    ∷ by_coord (rows.Delivered (p 1)) (rows.Applied (r 1) (changes.AddFrame (s 1) (n 1) (e 0 2) (s 2)) ∷ sent 1 1 0 2 (whys.Req (r 1)) (tasks.Populate (n 1) (s 2) (codes "about:blank") true) ∷ [])
    ∷ by_proc 1 (rows.Taken (p 1) (j 1) true false) []
    ∷ by_proc 1 (rows.Finished (p 1) (j 1) (outcomes.Populated None)) []
    ∷ by_coord (rows.Delivered (p 1)) (sent 2 1 0 2 (whys.Req (r 1)) (tasks.Activate (e 0 2) (epoch 1) 1 0 None (codes "about:blank")) ∷ rows.Dropped (r 2) (drops.By (r 1)) ∷ [])
    ∷ []

pub by_adder_1_is_refused : IsLegal (log_of by_adder_1) → ⊥
unfolding url_on_literals is_web is_blank_url judged judged_parse read_against address_of url_of resolved with_fragment base_of fragment_of origin_text origin_of has_same_base is_rewritable events_of each_event after_opening AtEachEvent is_numbered opens is_formed is_once is_caused is_queued is_ordered is_checked ends_settled loads_end ends_told ends_stepped goes_in_time
by_adder_1_is_refused holds = false≢true holds.caused

-- by_adder: without conjunct `is_load q.what`, `caused` would hold.
abbrev pub by_adder_2 : List Event
by_adder_2 =
    by_start (rows.Opened (e 0 1) (s 1) (d 1) (p 1) None (codes "http://b.test/p1")) []
    ∷ by_ui (rows.Accepted (r 1) (Some (d 1)) (requests.Poke (n 0) (actions.AddFrame (n 1)))) []
    ∷ by_proc 1 (made 1 1 1 1 (whats.AddFrame (n 1))) []
    ∷ by_coord (rows.Delivered (p 1)) (rows.Applied (r 1) (changes.AddFrame (s 1) (n 1) (e 0 2) (s 2)) ∷ sent 1 1 0 2 (whys.Req (r 1)) (tasks.Populate (n 1) (s 2) (codes "about:blank") true) ∷ [])
    ∷ by_proc 1 (rows.Taken (p 1) (j 1) true false) []
    ∷ by_ui (rows.Accepted (r 2) None (requests.Reload (n 1))) (rows.Dropped (r 2) (drops.By (r 1)) ∷ rows.Started (r 2) (Some (t 1)) ∷ sent 2 1 0 1 (whys.Req (r 2)) (tasks.DoFragment (r 2) modes.Push (codes "http://a.test/1")) ∷ [])
    ∷ []

pub by_adder_2_is_refused : IsLegal (log_of by_adder_2) → ⊥
unfolding url_on_literals is_web is_blank_url judged judged_parse read_against address_of url_of resolved with_fragment base_of fragment_of origin_text origin_of has_same_base is_rewritable events_of each_event after_opening AtEachEvent is_numbered opens is_formed is_once is_caused is_queued is_ordered is_checked ends_settled loads_end ends_told ends_stepped goes_in_time
by_adder_2_is_refused holds = false≢true holds.caused

-- by_adder: without conjunct `not place.was_activated`, `caused` would hold.
abbrev pub by_adder_3 : List Event
by_adder_3 =
    before 10 removed_frame
    ++ by_ui (rows.Accepted (r 2) None (requests.Load (n 1) modes.Auto (codes "http://a.test/f1"))) (rows.Dropped (r 2) (drops.By (r 1)) ∷ rows.Started (r 2) None ∷ sent 3 1 0 3 (whys.Req (r 2)) (tasks.Populate (n 1) (s 3) (codes "http://a.test/f1") false) ∷ [])
    ∷ []

pub by_adder_3_is_refused : IsLegal (log_of by_adder_3) → ⊥
unfolding url_on_literals is_web is_blank_url judged judged_parse read_against address_of url_of resolved with_fragment base_of fragment_of origin_text origin_of has_same_base is_rewritable events_of each_event after_opening AtEachEvent is_numbered opens is_formed is_once is_caused is_queued is_ordered is_checked ends_settled loads_end ends_told ends_stepped goes_in_time
by_adder_3_is_refused holds = false≢true holds.caused

-- by_last_step: without conjunct `is_load q.what`, `caused` would hold.
abbrev pub by_last_step_1 : List Event
by_last_step_1 =
    before 7 two_processes
    ++ by_ui (rows.Accepted (r 2) None (requests.Reload (n 0))) (rows.Dropped (r 2) (drops.By (r 1)) ∷ rows.Started (r 2) None ∷ sent 4 1 0 1 (whys.Req (r 2)) (tasks.DoFragment (r 2) modes.Push (codes "http://b.test/p0#x")) ∷ [])
    ∷ []

pub by_last_step_1_is_refused : IsLegal (log_of by_last_step_1) → ⊥
unfolding url_on_literals is_web is_blank_url judged judged_parse read_against address_of url_of resolved with_fragment base_of fragment_of origin_text origin_of has_same_base is_rewritable events_of each_event after_opening AtEachEvent is_numbered opens is_formed is_once is_caused is_queued is_ordered is_checked ends_settled loads_end ends_told ends_stepped goes_in_time
by_last_step_1_is_refused holds = false≢true holds.caused

-- by_last_step: without test `last.0 == r.nr.0`, `caused` would hold.
abbrev pub by_last_step_2 : List Event
by_last_step_2 =
    before 7 frame_at_a_later_step
    ++ by_ui (rows.Accepted (r 2) None (requests.Load (n 0) modes.Auto (codes "http://b.test/p1"))) (rows.Started (r 2) None ∷ sent 2 1 0 2 (whys.Req (r 2)) (tasks.Populate (n 0) (s 2) (codes "http://b.test/p1") false) ∷ [])
    ∷ by_proc 1 (rows.Taken (p 1) (j 2) true false) []
    ∷ by_proc 1 (rows.Finished (p 1) (j 2) (outcomes.Populated None)) []
    ∷ by_coord (rows.Delivered (p 1)) (rows.Applied (r 2) (changes.Push (n 0) (e 0 2) (s 2) (codes "http://b.test/p1") None) ∷ sent 3 1 0 1 (whys.Req (r 2)) tasks.Freeze ∷ sent 4 1 0 2 (whys.Req (r 2)) (tasks.Activate (e 0 2) (epoch 2) 3 2 None (codes "http://b.test/p1")) ∷ [])
    ∷ by_proc 1 (rows.Taken (p 1) (j 3) true false) []
    ∷ by_coord (rows.Delivered (p 1)) (rows.Dropped (r 2) (drops.By (r 1)) ∷ sent 5 1 0 2 (whys.Req (r 1)) (tasks.DoFragment (r 2) modes.Auto (codes "http://b.test/p1")) ∷ rows.Applied (r 1) (changes.Push (n 0) (e 1 1) (s 1) (codes "http://a.test/q0") (Some (codes "s"))) ∷ [])
    ∷ []

pub by_last_step_2_is_refused : IsLegal (log_of by_last_step_2) → ⊥
unfolding url_on_literals is_web is_blank_url judged judged_parse read_against address_of url_of resolved with_fragment base_of fragment_of origin_text origin_of has_same_base is_rewritable events_of each_event after_opening AtEachEvent is_numbered opens is_formed is_once is_caused is_queued is_ordered is_checked ends_settled loads_end ends_told ends_stepped goes_in_time
by_last_step_2_is_refused holds = false≢true holds.caused

-- by_later_load: without conjunct `is_load q.what`, `caused` would hold.
abbrev pub by_later_load_1 : List Event
by_later_load_1 =
    by_start (rows.Opened (e 0 1) (s 1) (d 1) (p 1) None (codes "about:blank")) []
    ∷ by_ui (rows.Accepted (r 1) (Some (d 1)) (requests.Poke (n 0) (actions.Push (Some (codes "s")) None))) []
    ∷ by_ui (rows.Accepted (r 2) None (requests.Load (n 0) modes.Replace (codes "about:blank"))) (rows.Dropped (r 1) (drops.By (r 2)) ∷ rows.Started (r 2) None ∷ [])
    ∷ []

pub by_later_load_1_is_refused : IsLegal (log_of by_later_load_1) → ⊥
unfolding url_on_literals is_web is_blank_url judged judged_parse read_against address_of url_of resolved with_fragment base_of fragment_of origin_text origin_of has_same_base is_rewritable events_of each_event after_opening AtEachEvent is_numbered opens is_formed is_once is_caused is_queued is_ordered is_checked ends_settled loads_end ends_told ends_stepped goes_in_time
by_later_load_1_is_refused holds = false≢true holds.caused

-- by_later_load: without conjunct `is_load r.what`, `caused` would hold.
abbrev pub by_later_load_2 : List Event
by_later_load_2 =
    before 3 stay
    ++ by_ui (rows.Accepted (r 2) None (requests.Reload (n 0))) (rows.Dropped (r 1) (drops.By (r 2)) ∷ rows.Started (r 2) None ∷ [])
    ∷ []

pub by_later_load_2_is_refused : IsLegal (log_of by_later_load_2) → ⊥
unfolding url_on_literals is_web is_blank_url judged judged_parse read_against address_of url_of resolved with_fragment base_of fragment_of origin_text origin_of has_same_base is_rewritable events_of each_event after_opening AtEachEvent is_numbered opens is_formed is_once is_caused is_queued is_ordered is_checked ends_settled loads_end ends_told ends_stepped goes_in_time
by_later_load_2_is_refused holds = false≢true holds.caused

-- by_later_load: without conjunct `not (had_started p r.nr)`, `caused` would hold.
abbrev pub by_later_load_3 : List Event
by_later_load_3 =
    before 29 removal_and_push
    ++ by_coord (rows.Delivered (p 1)) (rows.Dropped (r 2) (drops.By (r 3)) ∷ [])
    ∷ []

pub by_later_load_3_is_refused : IsLegal (log_of by_later_load_3) → ⊥
unfolding url_on_literals is_web is_blank_url judged judged_parse read_against address_of url_of resolved with_fragment base_of fragment_of origin_text origin_of has_same_base is_rewritable events_of each_event after_opening AtEachEvent is_numbered opens is_formed is_once is_caused is_queued is_ordered is_checked ends_settled loads_end ends_told ends_stepped goes_in_time
by_later_load_3_is_refused holds = false≢true holds.caused

-- by_later_load: without conjunct `r.is_started`, `caused` would hold.
abbrev pub by_later_load_4 : List Event
by_later_load_4 =
    by_start (rows.Opened (e 0 1) (s 1) (d 1) (p 1) None (codes "http://a.test/")) []
    ∷ by_ui (rows.Accepted (r 1) None (requests.Load (n 0) modes.Auto (codes "http://a.test/1"))) (rows.Started (r 1) None ∷ sent 1 1 0 2 (whys.Req (r 1)) (tasks.Populate (n 0) (s 2) (codes "http://a.test/1") false) ∷ [])
    ∷ by_ui (rows.Accepted (r 2) None (requests.Load (n 0) modes.Auto (codes "http://b.test/p0"))) (rows.Dropped (r 1) (drops.By (r 2)) ∷ sent 2 1 0 3 (whys.Req (r 2)) (tasks.Populate (n 0) (s 3) (codes "http://b.test/p0") true) ∷ [])
    ∷ []

pub by_later_load_4_is_refused : IsLegal (log_of by_later_load_4) → ⊥
unfolding url_on_literals is_web is_blank_url judged judged_parse read_against address_of url_of resolved with_fragment base_of fragment_of origin_text origin_of has_same_base is_rewritable events_of each_event after_opening AtEachEvent is_numbered opens is_formed is_once is_caused is_queued is_ordered is_checked ends_settled loads_end ends_told ends_stepped goes_in_time
by_later_load_4_is_refused holds = false≢true holds.caused

-- by_later_load: without conjunct `same_option (λ (a : NavId) (b : NavId) . a.0 == b.0) (nav_of_request q.what) (nav_of_request r.what)`, `caused` would hold.
abbrev pub by_later_load_5 : List Event
by_later_load_5 =
    before 11 replace_above_a_load
    ++ by_proc 1 (rows.Taken (p 1) (j 3) true false) []
    ∷ by_ui (rows.Accepted (r 3) None (requests.Load (n 0) modes.Auto (codes "http://a.test/1#x"))) (rows.Dropped (r 2) (drops.By (r 3)) ∷ rows.Started (r 3) (Some (t 0)) ∷ sent 4 1 0 2 (whys.Req (r 3)) (tasks.DoFragment (r 3) modes.Replace (codes "http://a.test/1#x")) ∷ [])
    ∷ []

pub by_later_load_5_is_refused : IsLegal (log_of by_later_load_5) → ⊥
unfolding url_on_literals is_web is_blank_url judged judged_parse read_against address_of url_of resolved with_fragment base_of fragment_of origin_text origin_of has_same_base is_rewritable events_of each_event after_opening AtEachEvent is_numbered opens is_formed is_once is_caused is_queued is_ordered is_checked ends_settled loads_end ends_told ends_stepped goes_in_time
by_later_load_5_is_refused holds = false≢true holds.caused

-- by_traversal: without conjunct `is_load q.what`, `caused` would hold.
abbrev pub by_traversal_1 : List Event
by_traversal_1 =
    before 12 push_under_an_old_epoch
    ++ by_coord (rows.Delivered (p 1)) (sent 3 1 0 1 (whys.Req (r 3)) tasks.Freeze ∷ rows.Dropped (r 3) (drops.By (r 2)) ∷ [])
    ∷ []

pub by_traversal_1_is_refused : IsLegal (log_of by_traversal_1) → ⊥
unfolding url_on_literals is_web is_blank_url judged judged_parse read_against address_of url_of resolved with_fragment base_of fragment_of origin_text origin_of has_same_base is_rewritable events_of each_event after_opening AtEachEvent is_numbered opens is_formed is_once is_caused is_queued is_ordered is_checked ends_settled loads_end ends_told ends_stepped goes_in_time
by_traversal_1_is_refused holds = false≢true holds.caused

-- by_traversal: without conjunct `not (had_ended p r.nr)`, `caused` would hold.
abbrev pub by_traversal_2 : List Event
by_traversal_2 =
    before 15 two_processes
    ++ by_coord (rows.Delivered (p 1)) (rows.Dropped (r 1) (drops.By (r 2)) ∷ sent 6 1 0 1 (whys.Req (r 2)) tasks.Freeze ∷ [])
    ∷ []

pub by_traversal_2_is_refused : IsLegal (log_of by_traversal_2) → ⊥
unfolding url_on_literals is_web is_blank_url judged judged_parse read_against address_of url_of resolved with_fragment base_of fragment_of origin_text origin_of has_same_base is_rewritable events_of each_event after_opening AtEachEvent is_numbered opens is_formed is_once is_caused is_queued is_ordered is_checked ends_settled loads_end ends_told ends_stepped goes_in_time
by_traversal_2_is_refused holds = false≢true holds.caused

-- changed_one_of: without test `has_nav navs`, `caused` would hold.
abbrev pub changed_one_of_1 : List Event
changed_one_of_1 =
    before 10 push_beside_a_frame
    ++ by_coord (rows.Delivered (p 1)) (sent 3 1 0 1 (whys.Req (r 1)) tasks.Discard ∷ sent 3 1 0 1 (whys.Req (r 1)) (tasks.Activate (e 0 1) (epoch 2) 1 0 None (codes "http://a.test/")) ∷ rows.Dropped (r 1) (drops.By (r 1)) ∷ [])
    ∷ []

pub changed_one_of_1_is_refused : IsLegal (log_of changed_one_of_1) → ⊥
unfolding url_on_literals is_web is_blank_url judged judged_parse read_against address_of url_of resolved with_fragment base_of fragment_of origin_text origin_of has_same_base is_rewritable events_of each_event after_opening AtEachEvent is_numbered opens is_formed is_once is_caused is_queued is_ordered is_checked ends_settled loads_end ends_told ends_stepped goes_in_time
changed_one_of_1_is_refused holds = false≢true holds.caused

-- has_moved_away: without conjunct `is_passed_traversal s r || changed_one_of r (way_to s nav) || any_place s (way_to s nav) (λ place . list_any (λ entry . list_any (same_entry entry) place.ever_given) r.took)`, `caused` would hold.
abbrev pub has_moved_away_2 : List Event
has_moved_away_2 =
    before 11 push_after_going_back
    ++ by_coord (rows.Delivered (p 1)) (sent 3 1 0 1 (whys.Req (r 3)) tasks.Freeze ∷ rows.Dropped (r 3) (drops.By (r 3)) ∷ rows.Applied (r 4) (changes.RemoveFrame (n 0)) ∷ [])
    ∷ []

pub has_moved_away_2_is_refused : IsLegal (log_of has_moved_away_2) → ⊥
unfolding url_on_literals is_web is_blank_url judged judged_parse read_against address_of url_of resolved with_fragment base_of fragment_of origin_text origin_of has_same_base is_rewritable events_of each_event after_opening AtEachEvent is_numbered opens is_formed is_once is_caused is_queued is_ordered is_checked ends_settled loads_end ends_told ends_stepped goes_in_time
has_moved_away_2_is_refused holds = false≢true holds.caused

-- has_taken_away: without test `same_why place.why (whys.Death death)`, `caused` would hold.
abbrev pub has_taken_away_1 : List Event
has_taken_away_1 =
    before 66 reload_whose_target_changes
    ++ by_proc 1 (rows.Taken (p 1) (j 19) true false) (rows.Dropped (r 1) (drops.Gone (x 1)) ∷ [])
    ∷ []

pub has_taken_away_1_is_refused : IsLegal (log_of has_taken_away_1) → ⊥
unfolding url_on_literals is_web is_blank_url judged judged_parse read_against address_of url_of resolved with_fragment base_of fragment_of origin_text origin_of has_same_base is_rewritable events_of each_event after_opening AtEachEvent is_numbered opens is_formed is_once is_caused is_queued is_ordered is_checked ends_settled loads_end ends_told ends_stepped goes_in_time
has_taken_away_1_is_refused holds = false≢true holds.caused

-- is_begun_unapplied: without conjunct `is_none q.change`, `caused` would hold.
abbrev pub is_begun_unapplied_1 : List Event
is_begun_unapplied_1 =
    before 34 one_of_two_processes_dies
    ++ by_coord (rows.Delivered (p 1)) (sent 10 2 0 3 (whys.Death (x 1)) tasks.Discard ∷ rows.Dropped (r 3) (drops.Gone (x 1)) ∷ sent 11 2 0 4 (whys.Death (x 1)) tasks.Discard ∷ [])
    ∷ []

pub is_begun_unapplied_1_is_refused : IsLegal (log_of is_begun_unapplied_1) → ⊥
unfolding url_on_literals is_web is_blank_url judged judged_parse read_against address_of url_of resolved with_fragment base_of fragment_of origin_text origin_of has_same_base is_rewritable events_of each_event after_opening AtEachEvent is_numbered opens is_formed is_once is_caused is_queued is_ordered is_checked ends_settled loads_end ends_told ends_stepped goes_in_time
is_begun_unapplied_1_is_refused holds = false≢true holds.caused

-- is_destroyed_by: takes: without conjunct `not (has_row nav s.history.rows)`, `caused` would hold.
abbrev pub is_destroyed_by_1 : List Event
is_destroyed_by_1 =
    before 17 push_of_a_removed_frame
    ++ by_coord (rows.Delivered (p 1)) (rows.Applied (r 3) (changes.AddFrame (s 1) (n 1) (e 0 3) (s 3)) ∷ rows.Dropped (r 3) (drops.Destroyed (r 2)) ∷ [])
    ∷ []

pub is_destroyed_by_1_is_refused : IsLegal (log_of is_destroyed_by_1) → ⊥
unfolding url_on_literals is_web is_blank_url judged judged_parse read_against address_of url_of resolved with_fragment base_of fragment_of origin_text origin_of has_same_base is_rewritable events_of each_event after_opening AtEachEvent is_numbered opens is_formed is_once is_caused is_queued is_ordered is_checked ends_settled loads_end ends_told ends_stepped goes_in_time
is_destroyed_by_1_is_refused holds = false≢true holds.caused

-- is_outdated: without conjunct `not (is_traversal q.what)`, `caused` would hold.
abbrev pub is_outdated_1 : List Event
is_outdated_1 =
    before 10 document_goes_back
    ++ by_proc 1 (rows.Taken (p 1) (j 2) true false) (rows.Dropped (r 2) (drops.By (r 2)) ∷ [])
    ∷ []

pub is_outdated_1_is_refused : IsLegal (log_of is_outdated_1) → ⊥
unfolding url_on_literals is_web is_blank_url judged judged_parse read_against address_of url_of resolved with_fragment base_of fragment_of origin_text origin_of has_same_base is_rewritable events_of each_event after_opening AtEachEvent is_numbered opens is_formed is_once is_caused is_queued is_ordered is_checked ends_settled loads_end ends_told ends_stepped goes_in_time
is_outdated_1_is_refused holds = false≢true holds.caused

-- is_outdated: without test `not (is_present s made)`, `caused` would hold.
abbrev pub is_outdated_2 : List Event
is_outdated_2 =
    before 12 stay
    ++ by_proc 1 (made 1 2 2 2 whats.Edit) (rows.Applied (r 2) changes.Edit ∷ rows.Dropped (r 2) (drops.By (r 1)) ∷ [])
    ∷ []

pub is_outdated_2_is_refused : IsLegal (log_of is_outdated_2) → ⊥
unfolding url_on_literals is_web is_blank_url judged judged_parse read_against address_of url_of resolved with_fragment base_of fragment_of origin_text origin_of has_same_base is_rewritable events_of each_event after_opening AtEachEvent is_numbered opens is_formed is_once is_caused is_queued is_ordered is_checked ends_settled loads_end ends_told ends_stepped goes_in_time
is_outdated_2_is_refused holds = false≢true holds.caused

-- is_passed_traversal: without conjunct `is_traversal r.what`, `caused` would hold.
abbrev pub is_passed_traversal_1 : List Event
is_passed_traversal_1 =
    before 3 load_ended_by_a_reload
    ++ by_ui (rows.Accepted (r 3) None (requests.Load (n 0) modes.Auto (codes "http://a.test/#x"))) (rows.Dropped (r 3) (drops.By (r 3)) ∷ rows.Started (r 3) None ∷ sent 3 1 0 1 (whys.Req (r 3)) (tasks.DoFragment (r 3) modes.Push (codes "http://a.test/#x")) ∷ [])
    ∷ []

pub is_passed_traversal_1_is_refused : IsLegal (log_of is_passed_traversal_1) → ⊥
unfolding url_on_literals is_web is_blank_url judged judged_parse read_against address_of url_of resolved with_fragment base_of fragment_of origin_text origin_of has_same_base is_rewritable events_of each_event after_opening AtEachEvent is_numbered opens is_formed is_once is_caused is_queued is_ordered is_checked ends_settled loads_end ends_told ends_stepped goes_in_time
is_passed_traversal_1_is_refused holds = false≢true holds.caused

-- is_passed_traversal: without conjunct `r.is_started`, `caused` would hold.
abbrev pub is_passed_traversal_2 : List Event
is_passed_traversal_2 =
    by_start (rows.Opened (e 0 1) (s 1) (d 1) (p 1) (Some 1) (codes "http://a.test/p0")) []
    ∷ by_ui (rows.Accepted (r 1) (Some (d 1)) (requests.Poke (n 0) (actions.AddFrame (n 1)))) []
    ∷ by_proc 1 (made 1 1 1 1 (whats.AddFrame (n 1))) []
    ∷ by_coord (rows.Delivered (p 1)) (rows.Applied (r 1) (changes.AddFrame (s 1) (n 1) (e 0 2) (s 2)) ∷ sent 1 1 0 2 (whys.Req (r 1)) (tasks.Populate (n 1) (s 2) (codes "about:blank") true) ∷ [])
    ∷ by_proc 1 (rows.Taken (p 1) (j 1) true false) []
    ∷ by_proc 1 (rows.Finished (p 1) (j 1) (outcomes.Populated None)) []
    ∷ by_coord (rows.Delivered (p 1)) (sent 2 1 0 2 (whys.Req (r 1)) (tasks.Activate (e 0 2) (epoch 1) 1 0 None (codes "about:blank")) ∷ [])
    ∷ by_proc 1 (rows.Taken (p 1) (j 2) true false) []
    ∷ by_proc 1 (rows.Finished (p 1) (j 2) outcomes.Activated) []
    ∷ by_coord (rows.Delivered (p 1)) []
    ∷ by_ui (rows.Accepted (r 2) None (requests.Load (n 1) modes.Auto (codes "http://a.test/p0"))) (rows.Started (r 2) None ∷ sent 3 1 0 3 (whys.Req (r 2)) (tasks.Populate (n 1) (s 3) (codes "http://a.test/p0") false) ∷ [])
    ∷ by_proc 1 (rows.Taken (p 1) (j 3) true false) []
    ∷ by_proc 1 (rows.Finished (p 1) (j 3) (outcomes.Populated (Some 1))) []
    ∷ by_coord (rows.Delivered (p 1)) (rows.Applied (r 2) (changes.Replace (n 1) (e 0 2) (e 0 3) (s 3) (codes "http://a.test/p0") None) ∷ sent 4 1 0 2 (whys.Req (r 2)) tasks.Discard ∷ sent 5 1 0 3 (whys.Req (r 2)) (tasks.Activate (e 0 3) (epoch 2) 1 0 None (codes "http://a.test/p0")) ∷ [])
    ∷ by_proc 1 (rows.Taken (p 1) (j 4) true false) []
    ∷ by_ui (rows.Accepted (r 3) None (requests.Go (negsuc 0))) (rows.Dropped (r 2) (drops.By (r 3)) ∷ [])
    ∷ []

pub is_passed_traversal_2_is_refused : IsLegal (log_of is_passed_traversal_2) → ⊥
unfolding url_on_literals is_web is_blank_url judged judged_parse read_against address_of url_of resolved with_fragment base_of fragment_of origin_text origin_of has_same_base is_rewritable events_of each_event after_opening AtEachEvent is_numbered opens is_formed is_once is_caused is_queued is_ordered is_checked ends_settled loads_end ends_told ends_stepped goes_in_time
is_passed_traversal_2_is_refused holds = false≢true holds.caused

-- is_stay: answers_stay: were equation 2 true, `caused` would hold.
abbrev pub is_stay_1 : List Event
is_stay_1 =
    before 18 load_behind_an_answer
    ++ by_proc 1 (rows.Taken (p 1) (j 5) true false) (rows.Dropped (r 3) drops.Stay ∷ [])
    ∷ []

pub is_stay_1_is_refused : IsLegal (log_of is_stay_1) → ⊥
unfolding url_on_literals is_web is_blank_url judged judged_parse read_against address_of url_of resolved with_fragment base_of fragment_of origin_text origin_of has_same_base is_rewritable events_of each_event after_opening AtEachEvent is_numbered opens is_formed is_once is_caused is_queued is_ordered is_checked ends_settled loads_end ends_told ends_stepped goes_in_time
is_stay_1_is_refused holds = false≢true holds.caused

-- is_stay: without conjunct `holds (wanted_prompt q) q.prompted`, `caused` would hold.
abbrev pub is_stay_2 : List Event
is_stay_2 =
    by_start (rows.Opened (e 0 1) (s 1) (d 1) (p 1) None (codes "http://a.test/")) []
    ∷ by_ui (rows.Accepted (r 1) None (requests.Go (pos 5))) (rows.Refused (r 1) denials.NoStep ∷ [])
    ∷ by_ui (rows.Answered (r 1) true) (sent 1 1 1 1 (whys.Req (r 2)) (tasks.Ask 0 leavings.Traverse) ∷ rows.Dropped (r 1) drops.Stay ∷ [])
    ∷ []

pub is_stay_2_is_refused : IsLegal (log_of is_stay_2) → ⊥
unfolding url_on_literals is_web is_blank_url judged judged_parse read_against address_of url_of resolved with_fragment base_of fragment_of origin_text origin_of has_same_base is_rewritable events_of each_event after_opening AtEachEvent is_numbered opens is_formed is_once is_caused is_queued is_ordered is_checked ends_settled loads_end ends_told ends_stepped goes_in_time
is_stay_2_is_refused holds = false≢true holds.caused

-- load_is_gone: without conjunct `takes_death p row death`, `caused` would hold.
abbrev pub load_is_gone_1 : List Event
load_is_gone_1 =
    before 11 load_below_a_lost_navigable
    ++ by_ui (rows.Killed (p 1) (x 1)) (rows.Dropped (r 2) (drops.Gone (x 1)) ∷ [])
    ∷ []

pub load_is_gone_1_is_refused : IsLegal (log_of load_is_gone_1) → ⊥
unfolding url_on_literals is_web is_blank_url judged judged_parse read_against address_of url_of resolved with_fragment base_of fragment_of origin_text origin_of has_same_base is_rewritable events_of each_event after_opening AtEachEvent is_numbered opens is_formed is_once is_caused is_queued is_ordered is_checked ends_settled loads_end ends_told ends_stepped goes_in_time
load_is_gone_1_is_refused holds = false≢true holds.caused

-- report_is_gone: without conjunct `is_outdated s q`, `caused` would hold.
abbrev pub report_is_gone_1 : List Event
report_is_gone_1 =
    before 3 poke_of_a_dead_document
    ++ by_coord (rows.Delivered (p 1)) (rows.Dropped (r 1) (drops.Gone (x 1)) ∷ [])
    ∷ []

pub report_is_gone_1_is_refused : IsLegal (log_of report_is_gone_1) → ⊥
unfolding url_on_literals is_web is_blank_url judged judged_parse read_against address_of url_of resolved with_fragment base_of fragment_of origin_text origin_of has_same_base is_rewritable events_of each_event after_opening AtEachEvent is_numbered opens is_formed is_once is_caused is_queued is_ordered is_checked ends_settled loads_end ends_told ends_stepped goes_in_time
report_is_gone_1_is_refused holds = false≢true holds.caused

-- is_stay: answers_stay: without conjunct `r.0 == req.0`, `caused` would hold.
abbrev pub stay_of_another : List Event
stay_of_another =
    before 7 push_beside_a_running_traversal
    ++ by_proc 1 (rows.Finished (p 1) (j 1) (outcomes.Populated (Some 1))) []
    ∷ by_coord (rows.Delivered (p 1)) (rows.Applied (r 2) (changes.AddFrame (s 1) (n 2) (e 0 3) (s 3)) ∷ sent 2 1 0 3 (whys.Req (r 2)) (tasks.Populate (n 2) (s 3) (codes "about:blank") true) ∷ [])
    ∷ by_proc 1 (rows.Taken (p 1) (j 2) true false) []
    ∷ by_proc 1 (rows.Finished (p 1) (j 2) (outcomes.Populated (Some 1))) []
    ∷ by_coord (rows.Delivered (p 1)) (sent 3 1 0 2 (whys.Req (r 1)) (tasks.Activate (e 0 2) (epoch 1) 1 0 None (codes "about:blank")) ∷ [])
    ∷ by_proc 1 (rows.Taken (p 1) (j 3) true false) []
    ∷ by_proc 1 (rows.Finished (p 1) (j 3) outcomes.Activated) []
    ∷ by_coord (rows.Delivered (p 1)) (sent 4 1 0 3 (whys.Req (r 2)) (tasks.Activate (e 0 3) (epoch 1) 1 0 None (codes "about:blank")) ∷ [])
    ∷ by_proc 1 (rows.Taken (p 1) (j 4) true false) []
    ∷ by_proc 1 (rows.Finished (p 1) (j 4) outcomes.Activated) []
    ∷ by_coord (rows.Delivered (p 1)) []
    ∷ by_coord (rows.Delivered (p 1)) []
    ∷ by_ui (rows.Accepted (r 3) None (requests.Load (n 1) modes.Auto (codes "http://a.test/f"))) (rows.Started (r 3) None ∷ sent 5 1 0 2 (whys.Req (r 3)) (tasks.Ask 1 leavings.Load) ∷ [])
    ∷ by_ui (rows.Accepted (r 4) None (requests.Load (n 2) modes.Auto (codes "http://a.test/g"))) (rows.Started (r 4) None ∷ sent 6 1 0 3 (whys.Req (r 4)) (tasks.Ask 1 leavings.Load) ∷ [])
    ∷ by_proc 1 (rows.Taken (p 1) (j 5) true false) []
    ∷ by_proc 1 (rows.Finished (p 1) (j 5) (outcomes.Asked verdicts.Prompt)) []
    ∷ by_coord (rows.Delivered (p 1)) (rows.Prompted (r 3) (d 2) ∷ [])
    ∷ by_proc 1 (rows.Taken (p 1) (j 6) true false) []
    ∷ by_proc 1 (rows.Finished (p 1) (j 6) (outcomes.Asked verdicts.Prompt)) []
    ∷ by_coord (rows.Delivered (p 1)) (rows.Prompted (r 4) (d 3) ∷ [])
    ∷ by_ui (rows.Answered (r 3) true) (rows.Dropped (r 3) drops.Stay ∷ rows.Dropped (r 4) drops.Stay ∷ [])
    ∷ []

pub stay_of_another_is_refused : IsLegal (log_of stay_of_another) → ⊥
unfolding url_on_literals is_web is_blank_url judged judged_parse read_against address_of url_of resolved with_fragment base_of fragment_of origin_text origin_of has_same_base is_rewritable events_of each_event after_opening AtEachEvent is_numbered opens is_formed is_once is_caused is_queued is_ordered is_checked ends_settled loads_end ends_told ends_stepped goes_in_time
stay_of_another_is_refused holds = false≢true holds.caused

-- load_is_gone: without conjunct `is_bereft_above p (end_of p row) q death`, `caused` would hold.
abbrev pub gone_with_nothing_above : List Event
gone_with_nothing_above =
    by_start (rows.Opened (e 0 1) (s 1) (d 1) (p 1) None (codes "http://a.test/")) []
    ∷ by_ui (rows.Accepted (r 1) None (requests.Load (n 0) modes.Auto (codes "http://a.test/1"))) (rows.Started (r 1) None ∷ sent 1 1 0 2 (whys.Req (r 1)) (tasks.Populate (n 0) (s 2) (codes "http://a.test/1") false) ∷ [])
    ∷ by_ui (rows.Killed (p 1) (x 1)) []
    ∷ by_coord (rows.Delivered (p 1)) (rows.Dropped (r 1) (drops.Gone (x 1)) ∷ [])
    ∷ []

pub gone_with_nothing_above_is_refused : IsLegal (log_of gone_with_nothing_above) → ⊥
unfolding url_on_literals is_web is_blank_url judged judged_parse read_against address_of url_of resolved with_fragment base_of fragment_of origin_text origin_of has_same_base is_rewritable events_of each_event after_opening AtEachEvent is_numbered opens is_formed is_once is_caused is_queued is_ordered is_checked ends_settled loads_end ends_told ends_stepped goes_in_time
gone_with_nothing_above_is_refused holds = false≢true holds.caused

-- is_destroyed_by: without conjunct `not (is_traversal q.what)`, `caused` would hold.
abbrev pub traversal_destroyed : List Event
traversal_destroyed =
    before 10 push_beside_a_frame
    ++ by_ui (rows.Accepted (r 2) (Some (d 2)) (requests.Poke (n 1) (actions.Go (negsuc 0)))) []
    ∷ by_ui (rows.Accepted (r 3) (Some (d 1)) (requests.Poke (n 0) (actions.RemoveFrame (n 1)))) []
    ∷ by_proc 1 (made 1 2 2 1 (whats.Go (negsuc 0))) []
    ∷ by_proc 1 (made 1 3 1 1 (whats.RemoveFrame (n 1))) []
    ∷ by_coord (rows.Delivered (p 1)) (rows.Refused (r 2) denials.NoStep ∷ [])
    ∷ by_coord (rows.Delivered (p 1)) (rows.Applied (r 3) (changes.RemoveFrame (n 1)) ∷ rows.Dropped (r 2) (drops.Destroyed (r 3)) ∷ [])
    ∷ []

pub traversal_destroyed_is_refused : IsLegal (log_of traversal_destroyed) → ⊥
unfolding url_on_literals is_web is_blank_url judged judged_parse read_against address_of url_of resolved with_fragment base_of fragment_of origin_text origin_of has_same_base is_rewritable events_of each_event after_opening AtEachEvent is_numbered opens is_formed is_once is_caused is_queued is_ordered is_checked ends_settled loads_end ends_told ends_stepped goes_in_time
traversal_destroyed_is_refused holds = false≢true holds.caused

-- A load of a new frame is dropped by a traversal that still asks. is_passed_traversal: without conjunct `has_passed s r`, `caused` would hold.
abbrev pub dropped_by_a_traversal_that_asks : List Event
dropped_by_a_traversal_that_asks =
    before 11 one_prompt_for_two
    ++ by_ui (rows.Accepted (r 2) None (requests.Go (negsuc 0))) (rows.Started (r 2) (Some (t 0)) ∷ sent 4 1 0 2 (whys.Req (r 2)) (tasks.Ask 1 leavings.Traverse) ∷ [])
    ∷ by_ui (rows.Accepted (r 3) (Some (d 2)) (requests.Poke (n 0) (actions.AddFrame (n 1)))) []
    ∷ by_proc 1 (made 1 3 2 2 (whats.AddFrame (n 1))) []
    ∷ by_coord (rows.Delivered (p 1)) (rows.Applied (r 3) (changes.AddFrame (s 2) (n 1) (e 0 3) (s 3)) ∷ sent 5 1 0 3 (whys.Req (r 3)) (tasks.Populate (n 1) (s 3) (codes "about:blank") true) ∷ [])
    ∷ by_ui (rows.Accepted (r 4) None (requests.Load (n 1) modes.Auto (codes "http://a.test/f"))) (rows.Dropped (r 4) (drops.By (r 2)) ∷ [])
    ∷ []

pub dropped_by_a_traversal_that_asks_is_refused : IsLegal (log_of dropped_by_a_traversal_that_asks) → ⊥
unfolding url_on_literals is_web is_blank_url judged judged_parse read_against address_of url_of resolved with_fragment base_of fragment_of origin_text origin_of has_same_base is_rewritable events_of each_event after_opening AtEachEvent is_numbered opens is_formed is_once is_caused is_queued is_ordered is_checked ends_settled loads_end ends_told ends_stepped goes_in_time
dropped_by_a_traversal_that_asks_is_refused holds = false≢true holds.caused

-- What a frame made is dropped by a push that took an entry of another frame. has_moved_away: without test `same_entry entry`, `caused` would hold.
abbrev pub dropped_by_what_took_another_entry : List Event
dropped_by_what_took_another_entry =
    before 19 push_beside_a_running_traversal
    ++ by_ui (rows.Accepted (r 3) None (requests.Load (n 2) modes.Auto (codes "http://a.test/g"))) (rows.Started (r 3) None ∷ sent 5 1 0 4 (whys.Req (r 3)) (tasks.Populate (n 2) (s 4) (codes "http://a.test/g") false) ∷ [])
    ∷ by_proc 1 (rows.Taken (p 1) (j 5) true false) []
    ∷ by_proc 1 (rows.Finished (p 1) (j 5) (outcomes.Populated None)) []
    ∷ by_coord (rows.Delivered (p 1)) (rows.Applied (r 3) (changes.Replace (n 2) (e 0 3) (e 0 4) (s 4) (codes "http://a.test/g") None) ∷ sent 6 1 0 3 (whys.Req (r 3)) tasks.Discard ∷ sent 7 1 0 4 (whys.Req (r 3)) (tasks.Activate (e 0 4) (epoch 2) 1 0 None (codes "http://a.test/g")) ∷ [])
    ∷ by_proc 1 (rows.Taken (p 1) (j 6) true false) []
    ∷ by_proc 1 (rows.Finished (p 1) (j 6) outcomes.Discarded) []
    ∷ by_coord (rows.Delivered (p 1)) []
    ∷ by_proc 1 (rows.Taken (p 1) (j 7) true false) []
    ∷ by_proc 1 (rows.Finished (p 1) (j 7) outcomes.Activated) []
    ∷ by_coord (rows.Delivered (p 1)) []
    ∷ by_ui (rows.Accepted (r 4) None (requests.Load (n 2) modes.Auto (codes "http://a.test/g2"))) (rows.Started (r 4) None ∷ sent 8 1 0 5 (whys.Req (r 4)) (tasks.Populate (n 2) (s 5) (codes "http://a.test/g2") false) ∷ [])
    ∷ by_proc 1 (rows.Taken (p 1) (j 8) true false) []
    ∷ by_proc 1 (rows.Finished (p 1) (j 8) (outcomes.Populated None)) []
    ∷ by_coord (rows.Delivered (p 1)) (rows.Applied (r 4) (changes.Push (n 2) (e 0 5) (s 5) (codes "http://a.test/g2") None) ∷ sent 9 1 0 4 (whys.Req (r 4)) tasks.Freeze ∷ sent 10 1 0 5 (whys.Req (r 4)) (tasks.Activate (e 0 5) (epoch 3) 2 1 None (codes "http://a.test/g2")) ∷ sent 11 1 0 1 (whys.Req (r 4)) (tasks.Update 2 1) ∷ sent 12 1 0 2 (whys.Req (r 4)) (tasks.Update 2 1) ∷ [])
    ∷ by_proc 1 (rows.Taken (p 1) (j 9) true false) []
    ∷ by_proc 1 (rows.Finished (p 1) (j 9) outcomes.Frozen) []
    ∷ by_coord (rows.Delivered (p 1)) []
    ∷ by_proc 1 (rows.Taken (p 1) (j 10) true false) []
    ∷ by_proc 1 (rows.Finished (p 1) (j 10) outcomes.Activated) []
    ∷ by_coord (rows.Delivered (p 1)) []
    ∷ by_proc 1 (rows.Taken (p 1) (j 11) true false) []
    ∷ by_proc 1 (rows.Finished (p 1) (j 11) outcomes.Updated) []
    ∷ by_coord (rows.Delivered (p 1)) []
    ∷ by_proc 1 (rows.Taken (p 1) (j 12) true false) []
    ∷ by_proc 1 (rows.Finished (p 1) (j 12) outcomes.Updated) []
    ∷ by_coord (rows.Delivered (p 1)) []
    ∷ by_ui (rows.Accepted (r 5) None (requests.Go (negsuc 0))) (rows.Started (r 5) (Some (t 0)) ∷ sent 13 1 0 5 (whys.Req (r 5)) tasks.Freeze ∷ sent 14 1 0 4 (whys.Req (r 5)) (tasks.Activate (e 0 4) (epoch 4) 2 0 None (codes "http://a.test/g")) ∷ [])
    ∷ by_proc 1 (rows.Taken (p 1) (j 13) true false) []
    ∷ by_proc 1 (rows.Finished (p 1) (j 13) outcomes.Frozen) []
    ∷ by_coord (rows.Delivered (p 1)) []
    ∷ by_proc 1 (rows.Taken (p 1) (j 14) true false) []
    ∷ by_proc 1 (rows.Finished (p 1) (j 14) outcomes.Activated) []
    ∷ by_coord (rows.Delivered (p 1)) (rows.Applied (r 5) (changes.Traverse (t 0)) ∷ sent 15 1 0 1 (whys.Req (r 5)) (tasks.Update 2 0) ∷ sent 16 1 0 2 (whys.Req (r 5)) (tasks.Update 2 0) ∷ [])
    ∷ by_proc 1 (rows.Taken (p 1) (j 15) true false) []
    ∷ by_proc 1 (rows.Finished (p 1) (j 15) outcomes.Updated) []
    ∷ by_coord (rows.Delivered (p 1)) []
    ∷ by_proc 1 (rows.Taken (p 1) (j 16) true false) []
    ∷ by_proc 1 (rows.Finished (p 1) (j 16) outcomes.Updated) []
    ∷ by_coord (rows.Delivered (p 1)) []
    ∷ by_ui (rows.Accepted (r 6) (Some (d 4)) (requests.Poke (n 2) (actions.Push (Some (codes "t")) None))) []
    ∷ by_proc 1 (made 1 6 4 4 (whats.Push (e 4 1) (Some (codes "t")) (codes "http://a.test/g"))) []
    ∷ by_ui (rows.Accepted (r 7) (Some (d 2)) (requests.Poke (n 1) (actions.Push (Some (codes "s")) None))) []
    ∷ by_proc 1 (made 1 7 2 1 (whats.Replace (e 0 2) (e 2 1) (Some (codes "s")) (codes "about:blank"))) []
    ∷ by_coord (rows.Delivered (p 1)) (rows.Applied (r 6) (changes.Push (n 2) (e 4 1) (s 4) (codes "http://a.test/g") (Some (codes "t"))) ∷ sent 17 1 0 2 (whys.Req (r 6)) tasks.Freeze ∷ [])
    ∷ by_coord (rows.Delivered (p 1)) (rows.Dropped (r 7) (drops.By (r 6)) ∷ [])
    ∷ []

pub dropped_by_what_took_another_entry_is_refused : IsLegal (log_of dropped_by_what_took_another_entry) → ⊥
unfolding url_on_literals is_web is_blank_url judged judged_parse read_against address_of url_of resolved with_fragment base_of fragment_of origin_text origin_of has_same_base is_rewritable events_of each_event after_opening AtEachEvent is_numbered opens is_formed is_once is_caused is_queued is_ordered is_checked ends_settled loads_end ends_told ends_stepped goes_in_time
dropped_by_what_took_another_entry_is_refused holds = false≢true holds.caused

-- A load of a new frame is dropped by a pending reload of another frame. by_last_step: without conjunct `changed_one_of r (way_of_request e q)`, `caused` would hold.
abbrev pub dropped_by_a_reload_of_another_frame : List Event
dropped_by_a_reload_of_another_frame =
    before 5 frames_asked_in_order
    ++ by_proc 1 (rows.Finished (p 1) (j 1) (outcomes.Populated None)) []
    ∷ by_coord (rows.Delivered (p 1)) (sent 2 1 0 2 (whys.Req (r 1)) (tasks.Activate (e 0 2) (epoch 1) 1 0 None (codes "about:blank")) ∷ [])
    ∷ by_proc 1 (rows.Taken (p 1) (j 2) true false) []
    ∷ by_proc 1 (rows.Finished (p 1) (j 2) outcomes.Activated) []
    ∷ by_coord (rows.Delivered (p 1)) []
    ∷ by_ui (rows.Accepted (r 2) None (requests.Reload (n 2))) (rows.Started (r 2) None ∷ rows.Applied (r 2) (changes.Reload (n 2)) ∷ sent 3 1 0 3 (whys.Req (r 2)) (tasks.Populate (n 2) (s 2) (codes "about:blank") true) ∷ [])
    ∷ by_ui (rows.Accepted (r 3) (Some (d 1)) (requests.Poke (n 0) (actions.AddFrame (n 1)))) []
    ∷ by_proc 1 (made 1 3 1 1 (whats.AddFrame (n 1))) []
    ∷ by_coord (rows.Delivered (p 1)) (rows.Applied (r 3) (changes.AddFrame (s 1) (n 1) (e 0 3) (s 3)) ∷ sent 4 1 0 4 (whys.Req (r 3)) (tasks.Populate (n 1) (s 3) (codes "about:blank") true) ∷ [])
    ∷ by_ui (rows.Accepted (r 4) None (requests.Load (n 1) modes.Auto (codes "http://a.test/f"))) (rows.Dropped (r 4) (drops.By (r 2)) ∷ [])
    ∷ []

pub dropped_by_a_reload_of_another_frame_is_refused : IsLegal (log_of dropped_by_a_reload_of_another_frame) → ⊥
unfolding url_on_literals is_web is_blank_url judged judged_parse read_against address_of url_of resolved with_fragment base_of fragment_of origin_text origin_of has_same_base is_rewritable events_of each_event after_opening AtEachEvent is_numbered opens is_formed is_once is_caused is_queued is_ordered is_checked ends_settled loads_end ends_told ends_stepped goes_in_time
dropped_by_a_reload_of_another_frame_is_refused holds = false≢true holds.caused

-- A load of the top, which stands, is dropped by a reload after which a frame doesn't stand yet. by_last_step: without test `not (stands e e.history.current nav)`, `caused` would hold.
abbrev pub dropped_where_it_stands : List Event
dropped_where_it_stands =
    before 10 push_beside_a_frame
    ++ by_ui (rows.Accepted (r 2) None (requests.Reload (n 0))) (rows.Started (r 2) None ∷ rows.Applied (r 2) (changes.Reload (n 0)) ∷ sent 3 1 0 3 (whys.Req (r 2)) (tasks.Populate (n 0) (s 1) (codes "http://a.test/") false) ∷ [])
    ∷ by_proc 1 (rows.Taken (p 1) (j 3) true false) []
    ∷ by_proc 1 (rows.Finished (p 1) (j 3) (outcomes.Populated None)) []
    ∷ by_coord (rows.Delivered (p 1)) (sent 4 1 0 1 (whys.Req (r 2)) tasks.Discard ∷ sent 5 1 0 2 (whys.Req (r 2)) tasks.Discard ∷ sent 6 1 0 3 (whys.Req (r 2)) (tasks.Activate (e 0 1) (epoch 2) 1 0 None (codes "http://a.test/")) ∷ sent 7 1 0 4 (whys.Req (r 2)) (tasks.Populate (n 1) (s 2) (codes "about:blank") true) ∷ [])
    ∷ by_proc 1 (rows.Taken (p 1) (j 4) true false) []
    ∷ by_proc 1 (rows.Finished (p 1) (j 4) outcomes.Discarded) []
    ∷ by_coord (rows.Delivered (p 1)) []
    ∷ by_proc 1 (rows.Taken (p 1) (j 5) true false) []
    ∷ by_proc 1 (rows.Finished (p 1) (j 5) outcomes.Discarded) []
    ∷ by_coord (rows.Delivered (p 1)) []
    ∷ by_proc 1 (rows.Taken (p 1) (j 6) true false) []
    ∷ by_proc 1 (rows.Finished (p 1) (j 6) outcomes.Activated) []
    ∷ by_coord (rows.Delivered (p 1)) []
    ∷ by_ui (rows.Accepted (r 3) None (requests.Load (n 0) modes.Auto (codes "http://a.test/x"))) (rows.Dropped (r 3) (drops.By (r 2)) ∷ [])
    ∷ []

pub dropped_where_it_stands_is_refused : IsLegal (log_of dropped_where_it_stands) → ⊥
unfolding url_on_literals is_web is_blank_url judged judged_parse read_against address_of url_of resolved with_fragment base_of fragment_of origin_text origin_of has_same_base is_rewritable events_of each_event after_opening AtEachEvent is_numbered opens is_formed is_once is_caused is_queued is_ordered is_checked ends_settled loads_end ends_told ends_stepped goes_in_time
dropped_where_it_stands_is_refused holds = false≢true holds.caused

-- A fragment load is dropped for a death whose report waits, in an event that takes another report. takes_death: is_death: were equation 2 true, `caused` would hold.
abbrev pub gone_before_the_death_is_told : List Event
gone_before_the_death_is_told =
    before 20 fragment_beside_a_reload
    ++ by_ui (rows.Accepted (r 3) None (requests.Load (n 0) modes.Auto (codes "http://a.test/#x"))) (sent 6 1 0 1 (whys.Req (r 3)) (tasks.DoFragment (r 3) modes.Auto (codes "http://a.test/#x")) ∷ [])
    ∷ by_ui (rows.Accepted (r 4) (Some (d 3)) (requests.Poke (n 1) (actions.Push (Some (codes "s")) None))) []
    ∷ by_proc 2 (made 2 4 3 2 (whats.Push (e 3 1) (Some (codes "s")) (codes "http://b.test/f"))) []
    ∷ by_ui (rows.Killed (p 1) (x 1)) []
    ∷ by_coord (rows.Delivered (p 2)) (rows.Dropped (r 3) (drops.Gone (x 1)) ∷ [])
    ∷ []

pub gone_before_the_death_is_told_is_refused : IsLegal (log_of gone_before_the_death_is_told) → ⊥
unfolding url_on_literals is_web is_blank_url judged judged_parse read_against address_of url_of resolved with_fragment base_of fragment_of origin_text origin_of has_same_base is_rewritable events_of each_event after_opening AtEachEvent is_numbered opens is_formed is_once is_caused is_queued is_ordered is_checked ends_settled loads_end ends_told ends_stepped goes_in_time
gone_before_the_death_is_told_is_refused holds = false≢true holds.caused

-- A fragment load is dropped for a death whose report waits, in an event that takes that of another death. takes_death: is_death: were equation 1 true, `caused` would hold.
abbrev pub gone_at_another_death : List Event
gone_at_another_death =
    before 3 death_of_a_fragment_order
    ++ by_ui (rows.Killed (p 2) (x 2)) []
    ∷ by_coord (rows.Delivered (p 2)) (rows.Dropped (r 1) (drops.Gone (x 1)) ∷ [])
    ∷ []

pub gone_at_another_death_is_refused : IsLegal (log_of gone_at_another_death) → ⊥
unfolding url_on_literals is_web is_blank_url judged judged_parse read_against address_of url_of resolved with_fragment base_of fragment_of origin_text origin_of has_same_base is_rewritable events_of each_event after_opening AtEachEvent is_numbered opens is_formed is_once is_caused is_queued is_ordered is_checked ends_settled loads_end ends_told ends_stepped goes_in_time
gone_at_another_death_is_refused holds = false≢true holds.caused

-- A reload that hasn't begun is dropped for a death above its frame. is_begun_unapplied: without conjunct `q.is_started`, `caused` would hold.
abbrev pub waiting_reload_is_gone : List Event
waiting_reload_is_gone =
    before 21 fragment_beside_a_reload
    ++ by_ui (rows.Accepted (r 4) None (requests.Reload (n 1))) []
    ∷ by_ui (rows.Killed (p 1) (x 1)) []
    ∷ by_coord (rows.Delivered (p 1)) (rows.Dropped (r 4) (drops.Gone (x 1)) ∷ [])
    ∷ []

pub waiting_reload_is_gone_is_refused : IsLegal (log_of waiting_reload_is_gone) → ⊥
unfolding url_on_literals is_web is_blank_url judged judged_parse read_against address_of url_of resolved with_fragment base_of fragment_of origin_text origin_of has_same_base is_rewritable events_of each_event after_opening AtEachEvent is_numbered opens is_formed is_once is_caused is_queued is_ordered is_checked ends_settled loads_end ends_told ends_stepped goes_in_time
waiting_reload_is_gone_is_refused holds = false≢true holds.caused

-- A load of a frame is dropped for a death of its own process, while the document above lives. is_bereft_above: without test `is_taken_by e death`, `caused` would hold.
abbrev pub load_gone_with_its_parent_alive : List Event
load_gone_with_its_parent_alive =
    before 11 fragment_above_a_load
    ++ by_ui (rows.Killed (p 2) (x 1)) []
    ∷ by_coord (rows.Delivered (p 2)) (rows.Dropped (r 2) (drops.Gone (x 1)) ∷ [])
    ∷ []

pub load_gone_with_its_parent_alive_is_refused : IsLegal (log_of load_gone_with_its_parent_alive) → ⊥
unfolding url_on_literals is_web is_blank_url judged judged_parse read_against address_of url_of resolved with_fragment base_of fragment_of origin_text origin_of has_same_base is_rewritable events_of each_event after_opening AtEachEvent is_numbered opens is_formed is_once is_caused is_queued is_ordered is_checked ends_settled loads_end ends_told ends_stepped goes_in_time
load_gone_with_its_parent_alive_is_refused holds = false≢true holds.caused

-- A fragment load is dropped for a death of another process. load_is_gone: without test `is_taken_by (end_of p row) death`, `caused` would hold.
abbrev pub fragment_gone_with_another_process : List Event
fragment_gone_with_another_process =
    by_start (rows.Opened (e 0 1) (s 1) (d 1) (p 1) None (codes "http://a.test/")) []
    ∷ by_ui (rows.Accepted (r 1) None (requests.Load (n 0) modes.Auto (codes "http://a.test/#x"))) (sent 1 1 0 1 (whys.Req (r 1)) (tasks.DoFragment (r 1) modes.Auto (codes "http://a.test/#x")) ∷ [])
    ∷ by_ui (rows.Killed (p 2) (x 1)) []
    ∷ by_coord (rows.Delivered (p 2)) (rows.Dropped (r 1) (drops.Gone (x 1)) ∷ [])
    ∷ []

pub fragment_gone_with_another_process_is_refused : IsLegal (log_of fragment_gone_with_another_process) → ⊥
unfolding url_on_literals is_web is_blank_url judged judged_parse read_against address_of url_of resolved with_fragment base_of fragment_of origin_text origin_of has_same_base is_rewritable events_of each_event after_opening AtEachEvent is_numbered opens is_formed is_once is_caused is_queued is_ordered is_checked ends_settled loads_end ends_told ends_stepped goes_in_time
fragment_gone_with_another_process_is_refused holds = false≢true holds.caused

-- The traversal of a frame's document is dropped for a death above. load_is_gone: without conjunct `is_load q.what || is_reload q.what`, `caused` would hold.
abbrev pub traversal_is_gone : List Event
traversal_is_gone =
    before 33 removal_and_push_of_two_processes
    ++ by_ui (rows.Accepted (r 4) (Some (d 4)) (requests.Poke (n 1) (actions.Go (negsuc 0)))) []
    ∷ by_proc 2 (made 2 4 4 3 (whats.Go (negsuc 0))) []
    ∷ by_coord (rows.Delivered (p 2)) (rows.Started (r 4) (Some (t 0)) ∷ sent 10 2 0 4 (whys.Req (r 4)) tasks.Freeze ∷ sent 11 2 0 3 (whys.Req (r 4)) (tasks.Activate (e 0 3) (epoch 4) 2 0 None (codes "http://b.test/f")) ∷ [])
    ∷ by_ui (rows.Killed (p 1) (x 1)) []
    ∷ by_coord (rows.Delivered (p 1)) (rows.Dropped (r 4) (drops.Gone (x 1)) ∷ [])
    ∷ []

pub traversal_is_gone_is_refused : IsLegal (log_of traversal_is_gone) → ⊥
unfolding url_on_literals is_web is_blank_url judged judged_parse read_against address_of url_of resolved with_fragment base_of fragment_of origin_text origin_of has_same_base is_rewritable events_of each_event after_opening AtEachEvent is_numbered opens is_formed is_once is_caused is_queued is_ordered is_checked ends_settled loads_end ends_told ends_stepped goes_in_time
traversal_is_gone_is_refused holds = false≢true holds.caused

-- Two answers to stay in one event, and one drop. is_stayed_duly: stays: were equation 1 true, `caused` would hold.
abbrev pub stay_of_one_answers_for_another : List Event
stay_of_one_answers_for_another =
    by_start (rows.Opened (e 0 1) (s 1) (d 1) (p 1) (Some 1) (codes "http://a.test/")) []
    ∷ by_ui (rows.Accepted (r 1) None (requests.Load (n 0) modes.Auto (codes "http://a.test/1"))) (rows.Started (r 1) None ∷ sent 1 1 0 1 (whys.Req (r 1)) (tasks.Ask 1 leavings.Load) ∷ [])
    ∷ by_proc 1 (rows.Taken (p 1) (j 1) true false) []
    ∷ by_proc 1 (rows.Finished (p 1) (j 1) (outcomes.Asked verdicts.Prompt)) []
    ∷ by_coord (rows.Delivered (p 1)) (rows.Prompted (r 1) (d 1) ∷ [])
    ∷ by_ui (rows.Accepted (r 2) None (requests.Load (n 0) modes.Auto (codes "http://a.test/2"))) (rows.Dropped (r 1) (drops.By (r 2)) ∷ rows.Started (r 2) None ∷ sent 2 1 0 1 (whys.Req (r 2)) (tasks.Ask 1 leavings.Load) ∷ [])
    ∷ by_ui (rows.Answered (r 1) true) (rows.Answered (r 2) true ∷ rows.Dropped (r 1) drops.Stay ∷ [])
    ∷ []

pub stay_of_one_answers_for_another_is_refused : IsLegal (log_of stay_of_one_answers_for_another) → ⊥
unfolding url_on_literals is_web is_blank_url judged judged_parse read_against address_of url_of resolved with_fragment base_of fragment_of origin_text origin_of has_same_base is_rewritable events_of each_event after_opening AtEachEvent is_numbered opens is_formed is_once is_caused is_queued is_ordered is_checked ends_settled loads_end ends_told ends_stepped goes_in_time
stay_of_one_answers_for_another_is_refused holds = false≢true holds.caused

-- What a frame made is dropped for the death of its own document, though it was another death that put the frame to sleep. same_why: were equation 2 true, `caused` would hold.
abbrev pub gone_by_a_later_death : List Event
gone_by_a_later_death =
    before 34 death_above_what_a_frame_made
    ++ by_ui (rows.Killed (p 1) (x 2)) []
    ∷ by_coord (rows.Delivered (p 1)) (rows.Dropped (r 4) (drops.Gone (x 2)) ∷ [])
    ∷ []

pub gone_by_a_later_death_is_refused : IsLegal (log_of gone_by_a_later_death) → ⊥
unfolding url_on_literals is_web is_blank_url judged judged_parse read_against address_of url_of resolved with_fragment base_of fragment_of origin_text origin_of has_same_base is_rewritable events_of each_event after_opening AtEachEvent is_numbered opens is_formed is_once is_caused is_queued is_ordered is_checked ends_settled loads_end ends_told ends_stepped goes_in_time
gone_by_a_later_death_is_refused holds = false≢true holds.caused

-- A poke outlives the death of its document, and is dropped for it at another death. poke_is_gone: kills: were equation 1 true, `caused` would hold.
abbrev pub poke_dropped_at_another_death : List Event
poke_dropped_at_another_death =
    by_start (rows.Opened (e 0 1) (s 1) (d 1) (p 1) None (codes "http://a.test/")) []
    ∷ by_ui (rows.Accepted (r 1) (Some (d 1)) (requests.Poke (n 0) (actions.Push (Some (codes "s")) None))) []
    ∷ by_ui (rows.Killed (p 1) (x 1)) []
    ∷ by_ui (rows.Killed (p 2) (x 2)) (rows.Dropped (r 1) (drops.Gone (x 1)) ∷ [])
    ∷ []

pub poke_dropped_at_another_death_is_refused : IsLegal (log_of poke_dropped_at_another_death) → ⊥
unfolding url_on_literals is_web is_blank_url judged judged_parse read_against address_of url_of resolved with_fragment base_of fragment_of origin_text origin_of has_same_base is_rewritable events_of each_event after_opening AtEachEvent is_numbered opens is_formed is_once is_caused is_queued is_ordered is_checked ends_settled loads_end ends_told ends_stepped goes_in_time
poke_dropped_at_another_death_is_refused holds = false≢true holds.caused

-- A traversal of the user names a document, and is dropped as that dies. poke_is_gone: without conjunct `is_poke q.what`, `caused` would hold.
abbrev pub traversal_of_the_user_with_a_dead_document : List Event
traversal_of_the_user_with_a_dead_document =
    by_start (rows.Opened (e 0 1) (s 1) (d 1) (p 1) None (codes "http://a.test/")) []
    ∷ by_ui (rows.Accepted (r 1) (Some (d 1)) (requests.Go (pos 5))) []
    ∷ by_ui (rows.Killed (p 1) (x 1)) (rows.Dropped (r 1) (drops.Gone (x 1)) ∷ [])
    ∷ []

pub traversal_of_the_user_with_a_dead_document_is_refused : IsLegal (log_of traversal_of_the_user_with_a_dead_document) → ⊥
unfolding url_on_literals is_web is_blank_url judged judged_parse read_against address_of url_of resolved with_fragment base_of fragment_of origin_text origin_of has_same_base is_rewritable events_of each_event after_opening AtEachEvent is_numbered opens is_formed is_once is_caused is_queued is_ordered is_checked ends_settled loads_end ends_told ends_stepped goes_in_time
traversal_of_the_user_with_a_dead_document_is_refused holds = false≢true holds.caused

-- The user is asked for a document that wants no prompt, and stays. is_stay: wanted_prompt: without conjunct `holds is_prompt asking.verdict`, `caused` would hold.
abbrev pub stay_for_one_that_wants_no_prompt : List Event
stay_for_one_that_wants_no_prompt =
    by_start (rows.Opened (e 0 1) (s 1) (d 1) (p 1) (Some 0) (codes "http://a.test/")) []
    ∷ by_ui (rows.Accepted (r 1) None (requests.Load (n 0) modes.Auto (codes "http://a.test/1"))) (rows.Started (r 1) None ∷ sent 1 1 0 1 (whys.Req (r 1)) (tasks.Ask 0 leavings.Load) ∷ [])
    ∷ by_proc 1 (rows.Taken (p 1) (j 1) true false) []
    ∷ by_proc 1 (rows.Finished (p 1) (j 1) (outcomes.Asked verdicts.Leave)) []
    ∷ by_coord (rows.Delivered (p 1)) (rows.Prompted (r 1) (d 1) ∷ [])
    ∷ by_ui (rows.Answered (r 1) true) (rows.Dropped (r 1) drops.Stay ∷ [])
    ∷ []

pub stay_for_one_that_wants_no_prompt_is_refused : IsLegal (log_of stay_for_one_that_wants_no_prompt) → ⊥
unfolding url_on_literals is_web is_blank_url judged judged_parse read_against address_of url_of resolved with_fragment base_of fragment_of origin_text origin_of has_same_base is_rewritable events_of each_event after_opening AtEachEvent is_numbered opens is_formed is_once is_caused is_queued is_ordered is_checked ends_settled loads_end ends_told ends_stepped goes_in_time
stay_for_one_that_wants_no_prompt_is_refused holds = false≢true holds.caused

-- Of two documents one wants a prompt; the user is asked for the other one, and stays. is_stay: wanted_prompt: without conjunct `asking.doc.0 == doc.0`, `caused` would hold.
abbrev pub stay_for_another_document : List Event
stay_for_another_document =
    by_start (rows.Opened (e 0 1) (s 1) (d 1) (p 1) (Some 1) (codes "http://a.test/")) []
    ∷ by_ui (rows.Accepted (r 1) (Some (d 1)) (requests.Poke (n 0) (actions.AddFrame (n 1)))) []
    ∷ by_proc 1 (made 1 1 1 1 (whats.AddFrame (n 1))) []
    ∷ by_coord (rows.Delivered (p 1)) (rows.Applied (r 1) (changes.AddFrame (s 1) (n 1) (e 0 2) (s 2)) ∷ sent 1 1 0 2 (whys.Req (r 1)) (tasks.Populate (n 1) (s 2) (codes "about:blank") true) ∷ [])
    ∷ by_proc 1 (rows.Taken (p 1) (j 1) true false) []
    ∷ by_proc 1 (rows.Finished (p 1) (j 1) (outcomes.Populated (Some 0))) []
    ∷ by_coord (rows.Delivered (p 1)) (sent 2 1 0 2 (whys.Req (r 1)) (tasks.Activate (e 0 2) (epoch 1) 1 0 None (codes "about:blank")) ∷ [])
    ∷ by_proc 1 (rows.Taken (p 1) (j 2) true false) []
    ∷ by_proc 1 (rows.Finished (p 1) (j 2) outcomes.Activated) []
    ∷ by_coord (rows.Delivered (p 1)) []
    ∷ by_ui (rows.Accepted (r 2) None (requests.Load (n 0) modes.Auto (codes "http://a.test/1"))) (rows.Started (r 2) None ∷ sent 3 1 0 1 (whys.Req (r 2)) (tasks.Ask 1 leavings.Load) ∷ sent 4 1 0 2 (whys.Req (r 2)) (tasks.Ask 0 leavings.Load) ∷ [])
    ∷ by_proc 1 (rows.Taken (p 1) (j 3) true false) []
    ∷ by_proc 1 (rows.Finished (p 1) (j 3) (outcomes.Asked verdicts.Prompt)) []
    ∷ by_coord (rows.Delivered (p 1)) []
    ∷ by_proc 1 (rows.Taken (p 1) (j 4) true false) []
    ∷ by_proc 1 (rows.Finished (p 1) (j 4) (outcomes.Asked verdicts.Leave)) []
    ∷ by_coord (rows.Delivered (p 1)) (rows.Prompted (r 2) (d 2) ∷ [])
    ∷ by_ui (rows.Answered (r 2) true) (rows.Dropped (r 2) drops.Stay ∷ [])
    ∷ []

pub stay_for_another_document_is_refused : IsLegal (log_of stay_for_another_document) → ⊥
unfolding url_on_literals is_web is_blank_url judged judged_parse read_against address_of url_of resolved with_fragment base_of fragment_of origin_text origin_of has_same_base is_rewritable events_of each_event after_opening AtEachEvent is_numbered opens is_formed is_once is_caused is_queued is_ordered is_checked ends_settled loads_end ends_told ends_stepped goes_in_time
stay_for_another_document_is_refused holds = false≢true holds.caused
