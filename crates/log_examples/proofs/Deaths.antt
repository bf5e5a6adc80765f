-- Legal logs: deaths.
-- A log is its events: those before one of another log, since one, or between two, and its own.
use Rattle.std.proofs.Common.{pos, negsuc, true, false, List, [], ◌∷◌, ◌++◌, codes, refl, Some, None}
use Rattle.url.proofs.OnLiterals.{url_on_literals}
use Rattle.address.specs.Addresses.{is_web, is_blank_url, judged, judged_parse, read_against, address_of, url_of, resolved, with_fragment, base_of, fragment_of, origin_text, origin_of, has_same_base, is_rewritable}
use Rattle.log_model.specs.declared.action.Action.TheVariants as actions
use Rattle.log_model.specs.declared.change.Change.TheVariants as changes
use Rattle.log_model.specs.declared.handler.LeaveCause.TheVariants as leavings
use Rattle.log_model.specs.declared.job.Task.TheVariants as tasks
use Rattle.log_model.specs.declared.job.Why.TheVariants as whys
use Rattle.log_model.specs.declared.made.What.TheVariants as whats
use Rattle.log_model.specs.declared.outcome.Cause.TheVariants as drops
use Rattle.log_model.specs.declared.outcome.Denial.TheVariants as denials
use Rattle.log_model.specs.declared.outcome.Outcome.TheVariants as outcomes
use Rattle.log_model.specs.declared.request.Mode.TheVariants as modes
use Rattle.log_model.specs.declared.request.Request.TheVariants as requests
use Rattle.log_model.specs.declared.row_kind.RowKind.TheVariants as rows
use Rattle.log_model.specs.Events.{events_of, each_event, after_opening, AtEachEvent}
use Rattle.log_model.specs.Formed.{is_numbered}
use Rattle.log_model.specs.Legal.{IsLegal, opens, is_formed, is_once, is_caused, is_queued, is_ordered, is_checked, ends_settled}
use Rattle.log_model.specs.LoadsEndInTime.{LoadsEndInTime, loads_end}
use Rattle.log_model.specs.ActsAtOnce.{ActsAtOnce, ends_told, ends_stepped, goes_in_time}
use Rattle.log_model.specs.Suits.{Suits}
use Rattle.log_model.specs.declared.header.Header.{Header}
use Rattle.log_examples.specs.Rows.{n, s, r, p, t, x, d, j, e, epoch, sent, made}
use Rattle.log_examples.specs.Logs.{Event, by_start, by_ui, by_coord, by_proc, log_of, before, plain_settings}
use Rattle.log_examples.proofs.Pushes.{one_push, push_beside_a_frame}
use Rattle.log_examples.proofs.Interleavings.{held_back_push}
use Rattle.log_examples.proofs.Loads.{two_processes, fragment_above_a_load, fragment_beside_a_reload}
use Rattle.log_examples.proofs.Removals.{removal_and_push_of_two_processes}
use Rattle.log_examples.proofs.Prompts.{frames_asked_in_order}

-- An order to a dead incarnation is void.
abbrev pub void_order : List Event
void_order =
    before 3 one_push
    ++ by_ui (rows.Killed (p 1) (x 1)) []
    ∷ by_coord (rows.Delivered (p 1)) (rows.Applied (r 1) (changes.Push (n 0) (e 1 1) (s 1) (codes "http://a.test/1") (Some (codes "s"))) ∷ sent 1 1 0 1 (whys.Req (r 1)) (tasks.Update 2 1) ∷ [])
    ∷ by_proc 1 (rows.Taken (p 1) (j 1) false false) []
    ∷ by_coord (rows.Delivered (p 1)) []
    ∷ []

pub void_order_is_legal : IsLegal (log_of void_order)
unfolding url_on_literals is_web is_blank_url judged judged_parse read_against address_of url_of resolved with_fragment base_of fragment_of origin_text origin_of has_same_base is_rewritable events_of each_event after_opening AtEachEvent is_numbered opens is_formed is_once is_caused is_queued is_ordered is_checked ends_settled loads_end ends_told ends_stepped goes_in_time
void_order_is_legal = record { opened = refl; numbered = refl; formed = refl; once = refl; caused = refl; queued = refl; ordered = refl; checked = refl; settled = refl }

pub void_order_ends_loads : LoadsEndInTime (log_of void_order)
unfolding url_on_literals is_web is_blank_url judged judged_parse read_against address_of url_of resolved with_fragment base_of fragment_of origin_text origin_of has_same_base is_rewritable events_of each_event after_opening AtEachEvent is_numbered opens is_formed is_once is_caused is_queued is_ordered is_checked ends_settled loads_end ends_told ends_stepped goes_in_time
void_order_ends_loads = refl

pub void_order_acts_at_once : ActsAtOnce (log_of void_order)
unfolding url_on_literals is_web is_blank_url judged judged_parse read_against address_of url_of resolved with_fragment base_of fragment_of origin_text origin_of has_same_base is_rewritable events_of each_event after_opening AtEachEvent is_numbered opens is_formed is_once is_caused is_queued is_ordered is_checked ends_settled loads_end ends_told ends_stepped goes_in_time
void_order_acts_at_once = record { told = refl; stepped = refl; in_time = refl }

pub void_order_suits : Suits plain_settings (log_of void_order)
unfolding url_on_literals is_web is_blank_url judged judged_parse read_against address_of url_of resolved with_fragment base_of fragment_of origin_text origin_of has_same_base is_rewritable events_of each_event after_opening AtEachEvent is_numbered opens is_formed is_once is_caused is_queued is_ordered is_checked ends_settled loads_end ends_told ends_stepped goes_in_time
void_order_suits = record { opened = refl; placed = refl; kept = refl }

-- A death in one of two processes.
abbrev pub one_of_two_processes_dies : List Event
one_of_two_processes_dies =
    before 33 removal_and_push_of_two_processes
    ++ by_ui (rows.Killed (p 1) (x 1)) []
    ∷ by_coord (rows.Delivered (p 1)) (sent 10 2 0 3 (whys.Death (x 1)) tasks.Discard ∷ sent 11 2 0 4 (whys.Death (x 1)) tasks.Discard ∷ [])
    ∷ by_proc 2 (rows.Taken (p 2) (j 10) true false) []
    ∷ by_proc 2 (rows.Finished (p 2) (j 10) outcomes.Discarded) []
    ∷ by_coord (rows.Delivered (p 2)) []
    ∷ by_proc 2 (rows.Taken (p 2) (j 11) true false) []
    ∷ by_proc 2 (rows.Finished (p 2) (j 11) outcomes.Discarded) []
    ∷ by_coord (rows.Delivered (p 2)) []
    ∷ []

abbrev pub one_of_two_processes_dies_header : Header
one_of_two_processes_dies_header = record { keep = 3; sites = record { origin = codes "http://b.test"; proc = p 2 } ∷ []; pages = []; first = codes "http://a.test/" }

pub one_of_two_processes_dies_is_legal : IsLegal (log_of one_of_two_processes_dies)
unfolding url_on_literals is_web is_blank_url judged judged_parse read_against address_of url_of resolved with_fragment base_of fragment_of origin_text origin_of has_same_base is_rewritable events_of each_event after_opening AtEachEvent is_numbered opens is_formed is_once is_caused is_queued is_ordered is_checked ends_settled loads_end ends_told ends_stepped goes_in_time
one_of_two_processes_dies_is_legal = record { opened = refl; numbered = refl; formed = refl; once = refl; caused = refl; queued = refl; ordered = refl; checked = refl; settled = refl }

pub one_of_two_processes_dies_ends_loads : LoadsEndInTime (log_of one_of_two_processes_dies)
unfolding url_on_literals is_web is_blank_url judged judged_parse read_against address_of url_of resolved with_fragment base_of fragment_of origin_text origin_of has_same_base is_rewritable events_of each_event after_opening AtEachEvent is_numbered opens is_formed is_once is_caused is_queued is_ordered is_checked ends_settled loads_end ends_told ends_stepped goes_in_time
one_of_two_processes_dies_ends_loads = refl

pub one_of_two_processes_dies_acts_at_once : ActsAtOnce (log_of one_of_two_processes_dies)
unfolding url_on_literals is_web is_blank_url judged judged_parse read_against address_of url_of resolved with_fragment base_of fragment_of origin_text origin_of has_same_base is_rewritable events_of each_event after_opening AtEachEvent is_numbered opens is_formed is_once is_caused is_queued is_ordered is_checked ends_settled loads_end ends_told ends_stepped goes_in_time
one_of_two_processes_dies_acts_at_once = record { told = refl; stepped = refl; in_time = refl }

pub one_of_two_processes_dies_suits : Suits one_of_two_processes_dies_header (log_of one_of_two_processes_dies)
unfolding url_on_literals is_web is_blank_url judged judged_parse read_against address_of url_of resolved with_fragment base_of fragment_of origin_text origin_of has_same_base is_rewritable events_of each_event after_opening AtEachEvent is_numbered opens is_formed is_once is_caused is_queued is_ordered is_checked ends_settled loads_end ends_told ends_stepped goes_in_time
one_of_two_processes_dies_suits = record { opened = refl; placed = refl; kept = refl }

-- A lost navigable is reloaded.
abbrev pub reload_after_a_death : List Event
reload_after_a_death =
    one_of_two_processes_dies
    ++ by_ui (rows.Accepted (r 4) None (requests.Go (negsuc 0))) (rows.Started (r 4) (Some (t 0)) ∷ rows.Applied (r 4) (changes.Traverse (t 0)) ∷ [])
    ∷ by_ui (rows.Accepted (r 5) None (requests.Reload (n 0))) (rows.Started (r 5) None ∷ rows.Applied (r 5) (changes.Reload (n 0)) ∷ sent 12 1 1 5 (whys.Req (r 5)) (tasks.Populate (n 0) (s 1) (codes "http://a.test/") false) ∷ [])
    ∷ by_proc 1 (rows.Taken (p 1) (j 12) true false) []
    ∷ by_proc 1 (rows.Finished (p 1) (j 12) (outcomes.Populated None)) []
    ∷ by_coord (rows.Delivered (p 1)) (sent 13 1 1 5 (whys.Req (r 5)) (tasks.Activate (e 0 1) (epoch 2) 2 0 None (codes "http://a.test/")) ∷ sent 14 2 0 6 (whys.Req (r 5)) (tasks.Populate (n 1) (s 3) (codes "http://b.test/f") false) ∷ [])
    ∷ by_proc 2 (rows.Taken (p 2) (j 14) true false) []
    ∷ by_proc 2 (rows.Finished (p 2) (j 14) (outcomes.Populated None)) []
    ∷ by_coord (rows.Delivered (p 2)) (sent 15 2 0 6 (whys.Req (r 5)) (tasks.Activate (e 0 3) (epoch 4) 2 0 None (codes "http://b.test/f")) ∷ [])
    ∷ by_proc 1 (rows.Taken (p 1) (j 13) true false) []
    ∷ by_proc 1 (rows.Finished (p 1) (j 13) outcomes.Activated) []
    ∷ by_coord (rows.Delivered (p 1)) []
    ∷ by_proc 2 (rows.Taken (p 2) (j 15) true false) []
    ∷ by_proc 2 (rows.Finished (p 2) (j 15) outcomes.Activated) []
    ∷ by_coord (rows.Delivered (p 2)) []
    ∷ []

abbrev pub reload_after_a_death_header : Header
reload_after_a_death_header = record { keep = 3; sites = record { origin = codes "http://b.test"; proc = p 2 } ∷ []; pages = []; first = codes "http://a.test/" }

pub reload_after_a_death_is_legal : IsLegal (log_of reload_after_a_death)
unfolding url_on_literals is_web is_blank_url judged judged_parse read_against address_of url_of resolved with_fragment base_of fragment_of origin_text origin_of has_same_base is_rewritable events_of each_event after_opening AtEachEvent is_numbered opens is_formed is_once is_caused is_queued is_ordered is_checked ends_settled loads_end ends_told ends_stepped goes_in_time
reload_after_a_death_is_legal = record { opened = refl; numbered = refl; formed = refl; once = refl; caused = refl; queued = refl; ordered = refl; checked = refl; settled = refl }

pub reload_after_a_death_ends_loads : LoadsEndInTime (log_of reload_after_a_death)
unfolding url_on_literals is_web is_blank_url judged judged_parse read_against address_of url_of resolved with_fragment base_of fragment_of origin_text origin_of has_same_base is_rewritable events_of each_event after_opening AtEachEvent is_numbered opens is_formed is_once is_caused is_queued is_ordered is_checked ends_settled loads_end ends_told ends_stepped goes_in_time
reload_after_a_death_ends_loads = refl

pub reload_after_a_death_acts_at_once : ActsAtOnce (log_of reload_after_a_death)
unfolding url_on_literals is_web is_blank_url judged judged_parse read_against address_of url_of resolved with_fragment base_of fragment_of origin_text origin_of has_same_base is_rewritable events_of each_event after_opening AtEachEvent is_numbered opens is_formed is_once is_caused is_queued is_ordered is_checked ends_settled loads_end ends_told ends_stepped goes_in_time
reload_after_a_death_acts_at_once = record { told = refl; stepped = refl; in_time = refl }

pub reload_after_a_death_suits : Suits reload_after_a_death_header (log_of reload_after_a_death)
unfolding url_on_literals is_web is_blank_url judged judged_parse read_against address_of url_of resolved with_fragment base_of fragment_of origin_text origin_of has_same_base is_rewritable events_of each_event after_opening AtEachEvent is_numbered opens is_formed is_once is_caused is_queued is_ordered is_checked ends_settled loads_end ends_told ends_stepped goes_in_time
reload_after_a_death_suits = record { opened = refl; placed = refl; kept = refl }

-- A death settles questions, and drops a reload and a load.
abbrev pub questions_of_the_dead : List Event
questions_of_the_dead =
    before 10 frames_asked_in_order
    ++ by_ui (rows.Accepted (r 2) (Some (d 2)) (requests.Poke (n 2) (actions.AddFrame (n 3)))) []
    ∷ by_proc 1 (made 1 2 2 1 (whats.AddFrame (n 3))) []
    ∷ by_coord (rows.Delivered (p 1)) (rows.Applied (r 2) (changes.AddFrame (s 2) (n 3) (e 0 3) (s 3)) ∷ sent 3 1 0 3 (whys.Req (r 2)) (tasks.Populate (n 3) (s 3) (codes "about:blank") true) ∷ [])
    ∷ by_proc 1 (rows.Taken (p 1) (j 3) true false) []
    ∷ by_proc 1 (rows.Finished (p 1) (j 3) (outcomes.Populated (Some 1))) []
    ∷ by_coord (rows.Delivered (p 1)) (sent 4 1 0 3 (whys.Req (r 2)) (tasks.Activate (e 0 3) (epoch 1) 1 0 None (codes "about:blank")) ∷ [])
    ∷ by_proc 1 (rows.Taken (p 1) (j 4) true false) []
    ∷ by_proc 1 (rows.Finished (p 1) (j 4) outcomes.Activated) []
    ∷ by_coord (rows.Delivered (p 1)) []
    ∷ by_ui (rows.Accepted (r 3) None (requests.Reload (n 3))) (rows.Started (r 3) None ∷ sent 5 1 0 3 (whys.Req (r 3)) (tasks.Ask 1 leavings.Reload) ∷ [])
    ∷ by_ui (rows.Killed (p 1) (x 1)) []
    ∷ by_ui (rows.Accepted (r 4) None (requests.Load (n 3) modes.Auto (codes "http://b.test/p0"))) (rows.Started (r 4) None ∷ sent 6 1 0 3 (whys.Req (r 4)) (tasks.Ask 1 leavings.Load) ∷ [])
    ∷ by_proc 1 (rows.Taken (p 1) (j 5) false false) []
    ∷ by_coord (rows.Delivered (p 1)) (rows.Dropped (r 3) (drops.Gone (x 1)) ∷ rows.Dropped (r 4) (drops.Gone (x 1)) ∷ [])
    ∷ by_proc 1 (rows.Taken (p 1) (j 6) false false) []
    ∷ []

abbrev pub questions_of_the_dead_header : Header
questions_of_the_dead_header = record { keep = 3; sites = []; pages = record { base = codes "about:blank"; slot = 1 } ∷ []; first = codes "http://a.test/" }

pub questions_of_the_dead_is_legal : IsLegal (log_of questions_of_the_dead)
unfolding url_on_literals is_web is_blank_url judged judged_parse read_against address_of url_of resolved with_fragment base_of fragment_of origin_text origin_of has_same_base is_rewritable events_of each_event after_opening AtEachEvent is_numbered opens is_formed is_once is_caused is_queued is_ordered is_checked ends_settled loads_end ends_told ends_stepped goes_in_time
questions_of_the_dead_is_legal = record { opened = refl; numbered = refl; formed = refl; once = refl; caused = refl; queued = refl; ordered = refl; checked = refl; settled = refl }

pub questions_of_the_dead_ends_loads : LoadsEndInTime (log_of questions_of_the_dead)
unfolding url_on_literals is_web is_blank_url judged judged_parse read_against address_of url_of resolved with_fragment base_of fragment_of origin_text origin_of has_same_base is_rewritable events_of each_event after_opening AtEachEvent is_numbered opens is_formed is_once is_caused is_queued is_ordered is_checked ends_settled loads_end ends_told ends_stepped goes_in_time
questions_of_the_dead_ends_loads = refl

pub questions_of_the_dead_acts_at_once : ActsAtOnce (log_of questions_of_the_dead)
unfolding url_on_literals is_web is_blank_url judged judged_parse read_against address_of url_of resolved with_fragment base_of fragment_of origin_text origin_of has_same_base is_rewritable events_of each_event after_opening AtEachEvent is_numbered opens is_formed is_once is_caused is_queued is_ordered is_checked ends_settled loads_end ends_told ends_stepped goes_in_time
questions_of_the_dead_acts_at_once = record { told = refl; stepped = refl; in_time = refl }

pub questions_of_the_dead_suits : Suits questions_of_the_dead_header (log_of questions_of_the_dead)
unfolding url_on_literals is_web is_blank_url judged judged_parse read_against address_of url_of resolved with_fragment base_of fragment_of origin_text origin_of has_same_base is_rewritable events_of each_event after_opening AtEachEvent is_numbered opens is_formed is_once is_caused is_queued is_ordered is_checked ends_settled loads_end ends_told ends_stepped goes_in_time
questions_of_the_dead_suits = record { opened = refl; placed = refl; kept = refl }

-- A death above a loading frame drops its load.
abbrev pub load_below_a_lost_navigable : List Event
load_below_a_lost_navigable =
    before 11 fragment_above_a_load
    ++ by_ui (rows.Killed (p 1) (x 1)) []
    ∷ by_coord (rows.Delivered (p 1)) (rows.Dropped (r 2) (drops.Gone (x 1)) ∷ [])
    ∷ by_proc 2 (rows.Taken (p 2) (j 3) true false) []
    ∷ by_proc 2 (rows.Finished (p 2) (j 3) (outcomes.Populated None)) []
    ∷ by_coord (rows.Delivered (p 2)) (sent 4 2 0 3 (whys.Req (r 2)) tasks.Discard ∷ [])
    ∷ by_proc 2 (rows.Taken (p 2) (j 4) true false) []
    ∷ by_proc 2 (rows.Finished (p 2) (j 4) outcomes.Discarded) []
    ∷ by_coord (rows.Delivered (p 2)) []
    ∷ []

abbrev pub load_below_a_lost_navigable_header : Header
load_below_a_lost_navigable_header = record { keep = 3; sites = record { origin = codes "http://b.test"; proc = p 2 } ∷ []; pages = []; first = codes "http://a.test/" }

pub load_below_a_lost_navigable_is_legal : IsLegal (log_of load_below_a_lost_navigable)
unfolding url_on_literals is_web is_blank_url judged judged_parse read_against address_of url_of resolved with_fragment base_of fragment_of origin_text origin_of has_same_base is_rewritable events_of each_event after_opening AtEachEvent is_numbered opens is_formed is_once is_caused is_queued is_ordered is_checked ends_settled loads_end ends_told ends_stepped goes_in_time
load_below_a_lost_navigable_is_legal = record { opened = refl; numbered = refl; formed = refl; once = refl; caused = refl; queued = refl; ordered = refl; checked = refl; settled = refl }

pub load_below_a_lost_navigable_ends_loads : LoadsEndInTime (log_of load_below_a_lost_navigable)
unfolding url_on_literals is_web is_blank_url judged judged_parse read_against address_of url_of resolved with_fragment base_of fragment_of origin_text origin_of has_same_base is_rewritable events_of each_event after_opening AtEachEvent is_numbered opens is_formed is_once is_caused is_queued is_ordered is_checked ends_settled loads_end ends_told ends_stepped goes_in_time
load_below_a_lost_navigable_ends_loads = refl

pub load_below_a_lost_navigable_acts_at_once : ActsAtOnce (log_of load_below_a_lost_navigable)
unfolding url_on_literals is_web is_blank_url judged judged_parse read_against address_of url_of resolved with_fragment base_of fragment_of origin_text origin_of has_same_base is_rewritable events_of each_event after_opening AtEachEvent is_numbered opens is_formed is_once is_caused is_queued is_ordered is_checked ends_settled loads_end ends_told ends_stepped goes_in_time
load_below_a_lost_navigable_acts_at_once = record { told = refl; stepped = refl; in_time = refl }

pub load_below_a_lost_navigable_suits : Suits load_below_a_lost_navigable_header (log_of load_below_a_lost_navigable)
unfolding url_on_literals is_web is_blank_url judged judged_parse read_against address_of url_of resolved with_fragment base_of fragment_of origin_text origin_of has_same_base is_rewritable events_of each_event after_opening AtEachEvent is_numbered opens is_formed is_once is_caused is_queued is_ordered is_checked ends_settled loads_end ends_told ends_stepped goes_in_time
load_below_a_lost_navigable_suits = record { opened = refl; placed = refl; kept = refl }

-- A reload is ready while the target has changed.
abbrev pub reload_whose_target_changes : List Event
reload_whose_target_changes =
    before 33 removal_and_push_of_two_processes
    ++ by_ui (rows.Accepted (r 4) None (requests.Reload (n 1))) (rows.Started (r 4) None ∷ rows.Applied (r 4) (changes.Reload (n 1)) ∷ sent 10 2 0 5 (whys.Req (r 4)) (tasks.Populate (n 1) (s 4) (codes "http://b.test/g") false) ∷ [])
    ∷ by_ui (rows.Killed (p 1) (x 1)) []
    ∷ by_coord (rows.Delivered (p 1)) (sent 11 2 0 3 (whys.Death (x 1)) tasks.Discard ∷ sent 12 2 0 4 (whys.Death (x 1)) tasks.Discard ∷ [])
    ∷ by_proc 2 (rows.Taken (p 2) (j 10) true false) []
    ∷ by_proc 2 (rows.Finished (p 2) (j 10) (outcomes.Populated None)) []
    ∷ by_coord (rows.Delivered (p 2)) []
    ∷ by_proc 2 (rows.Taken (p 2) (j 11) true false) []
    ∷ by_proc 2 (rows.Finished (p 2) (j 11) outcomes.Discarded) []
    ∷ by_coord (rows.Delivered (p 2)) []
    ∷ by_proc 2 (rows.Taken (p 2) (j 12) true false) []
    ∷ by_proc 2 (rows.Finished (p 2) (j 12) outcomes.Discarded) []
    ∷ by_coord (rows.Delivered (p 2)) []
    ∷ by_ui (rows.Accepted (r 5) None (requests.Go (negsuc 0))) (rows.Started (r 5) (Some (t 0)) ∷ rows.Applied (r 5) (changes.Traverse (t 0)) ∷ [])
    ∷ by_ui (rows.Accepted (r 6) None (requests.Reload (n 0))) (rows.Started (r 6) None ∷ rows.Applied (r 6) (changes.Reload (n 0)) ∷ sent 13 1 1 6 (whys.Req (r 6)) (tasks.Populate (n 0) (s 1) (codes "http://a.test/") false) ∷ [])
    ∷ by_proc 1 (rows.Taken (p 1) (j 13) true false) []
    ∷ by_proc 1 (rows.Finished (p 1) (j 13) (outcomes.Populated None)) []
    ∷ by_coord (rows.Delivered (p 1)) (sent 14 1 1 6 (whys.Req (r 6)) (tasks.Activate (e 0 1) (epoch 2) 2 0 None (codes "http://a.test/")) ∷ sent 15 2 0 7 (whys.Req (r 4)) (tasks.Populate (n 1) (s 3) (codes "http://b.test/f") false) ∷ [])
    ∷ by_proc 2 (rows.Taken (p 2) (j 15) true false) []
    ∷ by_proc 2 (rows.Finished (p 2) (j 15) (outcomes.Populated None)) []
    ∷ by_coord (rows.Delivered (p 2)) (sent 16 2 0 7 (whys.Req (r 4)) (tasks.Activate (e 0 3) (epoch 4) 2 0 None (codes "http://b.test/f")) ∷ [])
    ∷ by_proc 1 (rows.Taken (p 1) (j 14) true false) []
    ∷ by_proc 1 (rows.Finished (p 1) (j 14) outcomes.Activated) []
    ∷ by_coord (rows.Delivered (p 1)) []
    ∷ by_proc 2 (rows.Taken (p 2) (j 16) true false) []
    ∷ by_proc 2 (rows.Finished (p 2) (j 16) outcomes.Activated) []
    ∷ by_coord (rows.Delivered (p 2)) []
    ∷ by_ui (rows.Accepted (r 7) None (requests.Go (pos 1))) (rows.Started (r 7) (Some (t 1)) ∷ sent 17 2 0 7 (whys.Req (r 7)) tasks.Freeze ∷ sent 18 2 0 5 (whys.Req (r 7)) (tasks.Activate (e 0 4) (epoch 5) 2 1 None (codes "http://b.test/g")) ∷ [])
    ∷ by_proc 2 (rows.Taken (p 2) (j 17) true false) []
    ∷ by_proc 2 (rows.Finished (p 2) (j 17) outcomes.Frozen) []
    ∷ by_coord (rows.Delivered (p 2)) []
    ∷ by_proc 2 (rows.Taken (p 2) (j 18) true false) []
    ∷ by_proc 2 (rows.Finished (p 2) (j 18) outcomes.Activated) []
    ∷ by_coord (rows.Delivered (p 2)) (rows.Applied (r 7) (changes.Traverse (t 1)) ∷ sent 19 1 1 6 (whys.Req (r 7)) (tasks.Update 2 1) ∷ [])
    ∷ by_proc 1 (rows.Taken (p 1) (j 19) true false) []
    ∷ by_proc 1 (rows.Finished (p 1) (j 19) outcomes.Updated) []
    ∷ by_coord (rows.Delivered (p 1)) []
    ∷ []

abbrev pub reload_whose_target_changes_header : Header
reload_whose_target_changes_header = record { keep = 3; sites = record { origin = codes "http://b.test"; proc = p 2 } ∷ []; pages = []; first = codes "http://a.test/" }

pub reload_whose_target_changes_is_legal : IsLegal (log_of reload_whose_target_changes)
unfolding url_on_literals is_web is_blank_url judged judged_parse read_against address_of url_of resolved with_fragment base_of fragment_of origin_text origin_of has_same_base is_rewritable events_of each_event after_opening AtEachEvent is_numbered opens is_formed is_once is_caused is_queued is_ordered is_checked ends_settled loads_end ends_told ends_stepped goes_in_time
reload_whose_target_changes_is_legal = record { opened = refl; numbered = refl; formed = refl; once = refl; caused = refl; queued = refl; ordered = refl; checked = refl; settled = refl }

pub reload_whose_target_changes_ends_loads : LoadsEndInTime (log_of reload_whose_target_changes)
unfolding url_on_literals is_web is_blank_url judged judged_parse read_against address_of url_of resolved with_fragment base_of fragment_of origin_text origin_of has_same_base is_rewritable events_of each_event after_opening AtEachEvent is_numbered opens is_formed is_once is_caused is_queued is_ordered is_checked ends_settled loads_end ends_told ends_stepped goes_in_time
reload_whose_target_changes_ends_loads = refl

pub reload_whose_target_changes_acts_at_once : ActsAtOnce (log_of reload_whose_target_changes)
unfolding url_on_literals is_web is_blank_url judged judged_parse read_against address_of url_of resolved with_fragment base_of fragment_of origin_text origin_of has_same_base is_rewritable events_of each_event after_opening AtEachEvent is_numbered opens is_formed is_once is_caused is_queued is_ordered is_checked ends_settled loads_end ends_told ends_stepped goes_in_time
reload_whose_target_changes_acts_at_once = record { told = refl; stepped = refl; in_time = refl }

pub reload_whose_target_changes_suits : Suits reload_whose_target_changes_header (log_of reload_whose_target_changes)
unfolding url_on_literals is_web is_blank_url judged judged_parse read_against address_of url_of resolved with_fragment base_of fragment_of origin_text origin_of has_same_base is_rewritable events_of each_event after_opening AtEachEvent is_numbered opens is_formed is_once is_caused is_queued is_ordered is_checked ends_settled loads_end ends_told ends_stepped goes_in_time
reload_whose_target_changes_suits = record { opened = refl; placed = refl; kept = refl }

-- A death takes a poke that waits.
abbrev pub poke_of_a_dead_document : List Event
poke_of_a_dead_document =
    by_start (rows.Opened (e 0 1) (s 1) (d 1) (p 1) None (codes "http://a.test/")) []
    ∷ by_ui (rows.Accepted (r 1) (Some (d 1)) (requests.Poke (n 0) (actions.Push (Some (codes "s")) (Some (codes "/1"))))) []
    ∷ by_ui (rows.Killed (p 1) (x 1)) (rows.Dropped (r 1) (drops.Gone (x 1)) ∷ [])
    ∷ by_coord (rows.Delivered (p 1)) []
    ∷ []

pub poke_of_a_dead_document_is_legal : IsLegal (log_of poke_of_a_dead_document)
unfolding url_on_literals is_web is_blank_url judged judged_parse read_against address_of url_of resolved with_fragment base_of fragment_of origin_text origin_of has_same_base is_rewritable events_of each_event after_opening AtEachEvent is_numbered opens is_formed is_once is_caused is_queued is_ordered is_checked ends_settled loads_end ends_told ends_stepped goes_in_time
poke_of_a_dead_document_is_legal = record { opened = refl; numbered = refl; formed = refl; once = refl; caused = refl; queued = refl; ordered = refl; checked = refl; settled = refl }

pub poke_of_a_dead_document_ends_loads : LoadsEndInTime (log_of poke_of_a_dead_document)
unfolding url_on_literals is_web is_blank_url judged judged_parse read_against address_of url_of resolved with_fragment base_of fragment_of origin_text origin_of has_same_base is_rewritable events_of each_event after_opening AtEachEvent is_numbered opens is_formed is_once is_caused is_queued is_ordered is_checked ends_settled loads_end ends_told ends_stepped goes_in_time
poke_of_a_dead_document_ends_loads = refl

pub poke_of_a_dead_document_acts_at_once : ActsAtOnce (log_of poke_of_a_dead_document)
unfolding url_on_literals is_web is_blank_url judged judged_parse read_against address_of url_of resolved with_fragment base_of fragment_of origin_text origin_of has_same_base is_rewritable events_of each_event after_opening AtEachEvent is_numbered opens is_formed is_once is_caused is_queued is_ordered is_checked ends_settled loads_end ends_told ends_stepped goes_in_time
poke_of_a_dead_document_acts_at_once = record { told = refl; stepped = refl; in_time = refl }

pub poke_of_a_dead_document_suits : Suits plain_settings (log_of poke_of_a_dead_document)
unfolding url_on_literals is_web is_blank_url judged judged_parse read_against address_of url_of resolved with_fragment base_of fragment_of origin_text origin_of has_same_base is_rewritable events_of each_event after_opening AtEachEvent is_numbered opens is_formed is_once is_caused is_queued is_ordered is_checked ends_settled loads_end ends_told ends_stepped goes_in_time
poke_of_a_dead_document_suits = record { opened = refl; placed = refl; kept = refl }

-- A death of the document above drops what a frame made.
abbrev pub death_above_a_frame : List Event
death_above_a_frame =
    before 20 fragment_beside_a_reload
    ++ by_ui (rows.Accepted (r 3) (Some (d 3)) (requests.Poke (n 1) (actions.Push (Some (codes "s")) (Some (codes "/g"))))) []
    ∷ by_proc 2 (made 2 3 3 2 (whats.Push (e 3 1) (Some (codes "s")) (codes "http://b.test/g"))) []
    ∷ by_ui (rows.Killed (p 1) (x 1)) []
    ∷ by_coord (rows.Delivered (p 1)) (sent 6 2 0 3 (whys.Death (x 1)) tasks.Discard ∷ [])
    ∷ by_coord (rows.Delivered (p 2)) (rows.Dropped (r 3) (drops.Gone (x 1)) ∷ [])
    ∷ by_proc 2 (rows.Taken (p 2) (j 6) true false) []
    ∷ by_proc 2 (rows.Finished (p 2) (j 6) outcomes.Discarded) []
    ∷ by_coord (rows.Delivered (p 2)) []
    ∷ []

abbrev pub death_above_a_frame_header : Header
death_above_a_frame_header = record { keep = 3; sites = record { origin = codes "http://b.test"; proc = p 2 } ∷ []; pages = []; first = codes "http://a.test/" }

pub death_above_a_frame_is_legal : IsLegal (log_of death_above_a_frame)
unfolding url_on_literals is_web is_blank_url judged judged_parse read_against address_of url_of resolved with_fragment base_of fragment_of origin_text origin_of has_same_base is_rewritable events_of each_event after_opening AtEachEvent is_numbered opens is_formed is_once is_caused is_queued is_ordered is_checked ends_settled loads_end ends_told ends_stepped goes_in_time
death_above_a_frame_is_legal = record { opened = refl; numbered = refl; formed = refl; once = refl; caused = refl; queued = refl; ordered = refl; checked = refl; settled = refl }

pub death_above_a_frame_ends_loads : LoadsEndInTime (log_of death_above_a_frame)
unfolding url_on_literals is_web is_blank_url judged judged_parse read_against address_of url_of resolved with_fragment base_of fragment_of origin_text origin_of has_same_base is_rewritable events_of each_event after_opening AtEachEvent is_numbered opens is_formed is_once is_caused is_queued is_ordered is_checked ends_settled loads_end ends_told ends_stepped goes_in_time
death_above_a_frame_ends_loads = refl

pub death_above_a_frame_acts_at_once : ActsAtOnce (log_of death_above_a_frame)
unfolding url_on_literals is_web is_blank_url judged judged_parse read_against address_of url_of resolved with_fragment base_of fragment_of origin_text origin_of has_same_base is_rewritable events_of each_event after_opening AtEachEvent is_numbered opens is_formed is_once is_caused is_queued is_ordered is_checked ends_settled loads_end ends_told ends_stepped goes_in_time
death_above_a_frame_acts_at_once = record { told = refl; stepped = refl; in_time = refl }

pub death_above_a_frame_suits : Suits death_above_a_frame_header (log_of death_above_a_frame)
unfolding url_on_literals is_web is_blank_url judged judged_parse read_against address_of url_of resolved with_fragment base_of fragment_of origin_text origin_of has_same_base is_rewritable events_of each_event after_opening AtEachEvent is_numbered opens is_formed is_once is_caused is_queued is_ordered is_checked ends_settled loads_end ends_told ends_stepped goes_in_time
death_above_a_frame_suits = record { opened = refl; placed = refl; kept = refl }

-- A frame is lost, and its document above is not.
abbrev pub death_of_a_frame : List Event
death_of_a_frame =
    before 22 death_above_a_frame
    ++ by_ui (rows.Killed (p 2) (x 1)) []
    ∷ by_coord (rows.Delivered (p 2)) (rows.Applied (r 3) (changes.Push (n 1) (e 3 1) (s 3) (codes "http://b.test/g") (Some (codes "s"))) ∷ sent 6 1 0 1 (whys.Req (r 3)) (tasks.Update 2 1) ∷ sent 7 2 0 3 (whys.Req (r 3)) (tasks.Update 2 1) ∷ [])
    ∷ by_coord (rows.Delivered (p 2)) []
    ∷ by_proc 1 (rows.Taken (p 1) (j 6) true false) []
    ∷ by_proc 1 (rows.Finished (p 1) (j 6) outcomes.Updated) []
    ∷ by_coord (rows.Delivered (p 1)) []
    ∷ by_proc 2 (rows.Taken (p 2) (j 7) false false) []
    ∷ by_ui (rows.Accepted (r 4) None (requests.Reload (n 1))) (rows.Started (r 4) None ∷ rows.Applied (r 4) (changes.Reload (n 1)) ∷ sent 8 2 1 4 (whys.Req (r 4)) (tasks.Populate (n 1) (s 3) (codes "http://b.test/g") false) ∷ [])
    ∷ by_proc 2 (rows.Taken (p 2) (j 8) true false) []
    ∷ by_proc 2 (rows.Finished (p 2) (j 8) (outcomes.Populated None)) []
    ∷ by_coord (rows.Delivered (p 2)) (sent 9 2 1 4 (whys.Req (r 4)) (tasks.Activate (e 3 1) (epoch 3) 2 1 (Some (codes "s")) (codes "http://b.test/g")) ∷ [])
    ∷ by_proc 2 (rows.Taken (p 2) (j 9) true false) []
    ∷ by_proc 2 (rows.Finished (p 2) (j 9) outcomes.Activated) []
    ∷ by_coord (rows.Delivered (p 2)) []
    ∷ []

abbrev pub death_of_a_frame_header : Header
death_of_a_frame_header = record { keep = 3; sites = record { origin = codes "http://b.test"; proc = p 2 } ∷ []; pages = []; first = codes "http://a.test/" }

pub death_of_a_frame_is_legal : IsLegal (log_of death_of_a_frame)
unfolding url_on_literals is_web is_blank_url judged judged_parse read_against address_of url_of resolved with_fragment base_of fragment_of origin_text origin_of has_same_base is_rewritable events_of each_event after_opening AtEachEvent is_numbered opens is_formed is_once is_caused is_queued is_ordered is_checked ends_settled loads_end ends_told ends_stepped goes_in_time
death_of_a_frame_is_legal = record { opened = refl; numbered = refl; formed = refl; once = refl; caused = refl; queued = refl; ordered = refl; checked = refl; settled = refl }

pub death_of_a_frame_ends_loads : LoadsEndInTime (log_of death_of_a_frame)
unfolding url_on_literals is_web is_blank_url judged judged_parse read_against address_of url_of resolved with_fragment base_of fragment_of origin_text origin_of has_same_base is_rewritable events_of each_event after_opening AtEachEvent is_numbered opens is_formed is_once is_caused is_queued is_ordered is_checked ends_settled loads_end ends_told ends_stepped goes_in_time
death_of_a_frame_ends_loads = refl

pub death_of_a_frame_acts_at_once : ActsAtOnce (log_of death_of_a_frame)
unfolding url_on_literals is_web is_blank_url judged judged_parse read_against address_of url_of resolved with_fragment base_of fragment_of origin_text origin_of has_same_base is_rewritable events_of each_event after_opening AtEachEvent is_numbered opens is_formed is_once is_caused is_queued is_ordered is_checked ends_settled loads_end ends_told ends_stepped goes_in_time
death_of_a_frame_acts_at_once = record { told = refl; stepped = refl; in_time = refl }

pub death_of_a_frame_suits : Suits death_of_a_frame_header (log_of death_of_a_frame)
unfolding url_on_literals is_web is_blank_url judged judged_parse read_against address_of url_of resolved with_fragment base_of fragment_of origin_text origin_of has_same_base is_rewritable events_of each_event after_opening AtEachEvent is_numbered opens is_formed is_once is_caused is_queued is_ordered is_checked ends_settled loads_end ends_told ends_stepped goes_in_time
death_of_a_frame_suits = record { opened = refl; placed = refl; kept = refl }

-- A death drops a load whose fragment order waits.
abbrev pub death_of_a_fragment_order : List Event
death_of_a_fragment_order =
    by_start (rows.Opened (e 0 1) (s 1) (d 1) (p 1) None (codes "http://a.test/")) []
    ∷ by_ui (rows.Accepted (r 1) None (requests.Load (n 0) modes.Auto (codes "http://a.test/#x"))) (sent 1 1 0 1 (whys.Req (r 1)) (tasks.DoFragment (r 1) modes.Auto (codes "http://a.test/#x")) ∷ [])
    ∷ by_ui (rows.Killed (p 1) (x 1)) []
    ∷ by_proc 1 (rows.Taken (p 1) (j 1) false false) []
    ∷ by_coord (rows.Delivered (p 1)) (rows.Dropped (r 1) (drops.Gone (x 1)) ∷ [])
    ∷ []

pub death_of_a_fragment_order_is_legal : IsLegal (log_of death_of_a_fragment_order)
unfolding url_on_literals is_web is_blank_url judged judged_parse read_against address_of url_of resolved with_fragment base_of fragment_of origin_text origin_of has_same_base is_rewritable events_of each_event after_opening AtEachEvent is_numbered opens is_formed is_once is_caused is_queued is_ordered is_checked ends_settled loads_end ends_told ends_stepped goes_in_time
death_of_a_fragment_order_is_legal = record { opened = refl; numbered = refl; formed = refl; once = refl; caused = refl; queued = refl; ordered = refl; checked = refl; settled = refl }

pub death_of_a_fragment_order_ends_loads : LoadsEndInTime (log_of death_of_a_fragment_order)
unfolding url_on_literals is_web is_blank_url judged judged_parse read_against address_of url_of resolved with_fragment base_of fragment_of origin_text origin_of has_same_base is_rewritable events_of each_event after_opening AtEachEvent is_numbered opens is_formed is_once is_caused is_queued is_ordered is_checked ends_settled loads_end ends_told ends_stepped goes_in_time
death_of_a_fragment_order_ends_loads = refl

pub death_of_a_fragment_order_acts_at_once : ActsAtOnce (log_of death_of_a_fragment_order)
unfolding url_on_literals is_web is_blank_url judged judged_parse read_against address_of url_of resolved with_fragment base_of fragment_of origin_text origin_of has_same_base is_rewritable events_of each_event after_opening AtEachEvent is_numbered opens is_formed is_once is_caused is_queued is_ordered is_checked ends_settled loads_end ends_told ends_stepped goes_in_time
death_of_a_fragment_order_acts_at_once = record { told = refl; stepped = refl; in_time = refl }

pub death_of_a_fragment_order_suits : Suits plain_settings (log_of death_of_a_fragment_order)
unfolding url_on_literals is_web is_blank_url judged judged_parse read_against address_of url_of resolved with_fragment base_of fragment_of origin_text origin_of has_same_base is_rewritable events_of each_event after_opening AtEachEvent is_numbered opens is_formed is_once is_caused is_queued is_ordered is_checked ends_settled loads_end ends_told ends_stepped goes_in_time
death_of_a_fragment_order_suits = record { opened = refl; placed = refl; kept = refl }

-- A process dies twice.
abbrev pub two_deaths : List Event
two_deaths =
    before 3 poke_of_a_dead_document
    ++ by_ui (rows.Killed (p 1) (x 2)) []
    ∷ by_coord (rows.Delivered (p 1)) []
    ∷ by_coord (rows.Delivered (p 1)) []
    ∷ by_ui (rows.Accepted (r 2) None (requests.Reload (n 0))) (rows.Started (r 2) None ∷ rows.Applied (r 2) (changes.Reload (n 0)) ∷ sent 1 1 2 2 (whys.Req (r 2)) (tasks.Populate (n 0) (s 1) (codes "http://a.test/") false) ∷ [])
    ∷ by_proc 1 (rows.Taken (p 1) (j 1) true false) []
    ∷ by_proc 1 (rows.Finished (p 1) (j 1) (outcomes.Populated None)) []
    ∷ by_coord (rows.Delivered (p 1)) (sent 2 1 2 2 (whys.Req (r 2)) (tasks.Activate (e 0 1) (epoch 2) 1 0 None (codes "http://a.test/")) ∷ [])
    ∷ by_proc 1 (rows.Taken (p 1) (j 2) true false) []
    ∷ by_proc 1 (rows.Finished (p 1) (j 2) outcomes.Activated) []
    ∷ by_coord (rows.Delivered (p 1)) []
    ∷ []

pub two_deaths_is_legal : IsLegal (log_of two_deaths)
unfolding url_on_literals is_web is_blank_url judged judged_parse read_against address_of url_of resolved with_fragment base_of fragment_of origin_text origin_of has_same_base is_rewritable events_of each_event after_opening AtEachEvent is_numbered opens is_formed is_once is_caused is_queued is_ordered is_checked ends_settled loads_end ends_told ends_stepped goes_in_time
two_deaths_is_legal = record { opened = refl; numbered = refl; formed = refl; once = refl; caused = refl; queued = refl; ordered = refl; checked = refl; settled = refl }

pub two_deaths_ends_loads : LoadsEndInTime (log_of two_deaths)
unfolding url_on_literals is_web is_blank_url judged judged_parse read_against address_of url_of resolved with_fragment base_of fragment_of origin_text origin_of has_same_base is_rewritable events_of each_event after_opening AtEachEvent is_numbered opens is_formed is_once is_caused is_queued is_ordered is_checked ends_settled loads_end ends_told ends_stepped goes_in_time
two_deaths_ends_loads = refl

pub two_deaths_acts_at_once : ActsAtOnce (log_of two_deaths)
unfolding url_on_literals is_web is_blank_url judged judged_parse read_against address_of url_of resolved with_fragment base_of fragment_of origin_text origin_of has_same_base is_rewritable events_of each_event after_opening AtEachEvent is_numbered opens is_formed is_once is_caused is_queued is_ordered is_checked ends_settled loads_end ends_told ends_stepped goes_in_time
two_deaths_acts_at_once = record { told = refl; stepped = refl; in_time = refl }

pub two_deaths_suits : Suits plain_settings (log_of two_deaths)
unfolding url_on_literals is_web is_blank_url judged judged_parse read_against address_of url_of resolved with_fragment base_of fragment_of origin_text origin_of has_same_base is_rewritable events_of each_event after_opening AtEachEvent is_numbered opens is_formed is_once is_caused is_queued is_ordered is_checked ends_settled loads_end ends_told ends_stepped goes_in_time
two_deaths_suits = record { opened = refl; placed = refl; kept = refl }

-- A process dies with an order in hand.
abbrev pub death_with_an_order_in_hand : List Event
death_with_an_order_in_hand =
    before 5 one_push
    ++ by_ui (rows.Killed (p 1) (x 1)) []
    ∷ by_coord (rows.Delivered (p 1)) []
    ∷ by_ui (rows.Accepted (r 2) None (requests.Reload (n 0))) (rows.Started (r 2) None ∷ rows.Applied (r 2) (changes.Reload (n 0)) ∷ sent 2 1 1 2 (whys.Req (r 2)) (tasks.Populate (n 0) (s 1) (codes "http://a.test/1") false) ∷ [])
    ∷ by_proc 1 (rows.Taken (p 1) (j 2) true false) []
    ∷ by_proc 1 (rows.Finished (p 1) (j 2) (outcomes.Populated None)) []
    ∷ by_coord (rows.Delivered (p 1)) (sent 3 1 1 2 (whys.Req (r 2)) (tasks.Activate (e 1 1) (epoch 2) 2 1 (Some (codes "s")) (codes "http://a.test/1")) ∷ [])
    ∷ by_proc 1 (rows.Taken (p 1) (j 3) true false) []
    ∷ by_proc 1 (rows.Finished (p 1) (j 3) outcomes.Activated) []
    ∷ by_coord (rows.Delivered (p 1)) []
    ∷ []

pub death_with_an_order_in_hand_is_legal : IsLegal (log_of death_with_an_order_in_hand)
unfolding url_on_literals is_web is_blank_url judged judged_parse read_against address_of url_of resolved with_fragment base_of fragment_of origin_text origin_of has_same_base is_rewritable events_of each_event after_opening AtEachEvent is_numbered opens is_formed is_once is_caused is_queued is_ordered is_checked ends_settled loads_end ends_told ends_stepped goes_in_time
death_with_an_order_in_hand_is_legal = record { opened = refl; numbered = refl; formed = refl; once = refl; caused = refl; queued = refl; ordered = refl; checked = refl; settled = refl }

pub death_with_an_order_in_hand_ends_loads : LoadsEndInTime (log_of death_with_an_order_in_hand)
unfolding url_on_literals is_web is_blank_url judged judged_parse read_against address_of url_of resolved with_fragment base_of fragment_of origin_text origin_of has_same_base is_rewritable events_of each_event after_opening AtEachEvent is_numbered opens is_formed is_once is_caused is_queued is_ordered is_checked ends_settled loads_end ends_told ends_stepped goes_in_time
death_with_an_order_in_hand_ends_loads = refl

pub death_with_an_order_in_hand_acts_at_once : ActsAtOnce (log_of death_with_an_order_in_hand)
unfolding url_on_literals is_web is_blank_url judged judged_parse read_against address_of url_of resolved with_fragment base_of fragment_of origin_text origin_of has_same_base is_rewritable events_of each_event after_opening AtEachEvent is_numbered opens is_formed is_once is_caused is_queued is_ordered is_checked ends_settled loads_end ends_told ends_stepped goes_in_time
death_with_an_order_in_hand_acts_at_once = record { told = refl; stepped = refl; in_time = refl }

pub death_with_an_order_in_hand_suits : Suits plain_settings (log_of death_with_an_order_in_hand)
unfolding url_on_literals is_web is_blank_url judged judged_parse read_against address_of url_of resolved with_fragment base_of fragment_of origin_text origin_of has_same_base is_rewritable events_of each_event after_opening AtEachEvent is_numbered opens is_formed is_once is_caused is_queued is_ordered is_checked ends_settled loads_end ends_told ends_stepped goes_in_time
death_with_an_order_in_hand_suits = record { opened = refl; placed = refl; kept = refl }

-- A reload is refused as a document above is known dead.
abbrev pub reload_that_cannot_begin : List Event
reload_that_cannot_begin =
    before 10 push_beside_a_frame
    ++ by_ui (rows.Accepted (r 2) None (requests.Reload (n 1))) (rows.Started (r 2) None ∷ rows.Applied (r 2) (changes.Reload (n 1)) ∷ sent 3 1 0 3 (whys.Req (r 2)) (tasks.Populate (n 1) (s 2) (codes "about:blank") true) ∷ [])
    ∷ by_ui (rows.Killed (p 1) (x 1)) []
    ∷ by_coord (rows.Delivered (p 1)) []
    ∷ by_ui (rows.Accepted (r 3) None (requests.Reload (n 1))) (rows.Refused (r 3) denials.NoDocument ∷ [])
    ∷ by_proc 1 (rows.Taken (p 1) (j 3) false false) []
    ∷ []

pub reload_that_cannot_begin_is_legal : IsLegal (log_of reload_that_cannot_begin)
unfolding url_on_literals is_web is_blank_url judged judged_parse read_against address_of url_of resolved with_fragment base_of fragment_of origin_text origin_of has_same_base is_rewritable events_of each_event after_opening AtEachEvent is_numbered opens is_formed is_once is_caused is_queued is_ordered is_checked ends_settled loads_end ends_told ends_stepped goes_in_time
reload_that_cannot_begin_is_legal = record { opened = refl; numbered = refl; formed = refl; once = refl; caused = refl; queued = refl; ordered = refl; checked = refl; settled = refl }

pub reload_that_cannot_begin_ends_loads : LoadsEndInTime (log_of reload_that_cannot_begin)
unfolding url_on_literals is_web is_blank_url judged judged_parse read_against address_of url_of resolved with_fragment base_of fragment_of origin_text origin_of has_same_base is_rewritable events_of each_event after_opening AtEachEvent is_numbered opens is_formed is_once is_caused is_queued is_ordered is_checked ends_settled loads_end ends_told ends_stepped goes_in_time
reload_that_cannot_begin_ends_loads = refl

pub reload_that_cannot_begin_acts_at_once : ActsAtOnce (log_of reload_that_cannot_begin)
unfolding url_on_literals is_web is_blank_url judged judged_parse read_against address_of url_of resolved with_fragment base_of fragment_of origin_text origin_of has_same_base is_rewritable events_of each_event after_opening AtEachEvent is_numbered opens is_formed is_once is_caused is_queued is_ordered is_checked ends_settled loads_end ends_told ends_stepped goes_in_time
reload_that_cannot_begin_acts_at_once = record { told = refl; stepped = refl; in_time = refl }

pub reload_that_cannot_begin_suits : Suits plain_settings (log_of reload_that_cannot_begin)
unfolding url_on_literals is_web is_blank_url judged judged_parse read_against address_of url_of resolved with_fragment base_of fragment_of origin_text origin_of has_same_base is_rewritable events_of each_event after_opening AtEachEvent is_numbered opens is_formed is_once is_caused is_queued is_ordered is_checked ends_settled loads_end ends_told ends_stepped goes_in_time
reload_that_cannot_begin_suits = record { opened = refl; placed = refl; kept = refl }

-- A frame dies, and the document above it.
abbrev pub deaths_of_a_frame_and_its_parent : List Event
deaths_of_a_frame_and_its_parent =
    before 21 removal_and_push_of_two_processes
    ++ by_ui (rows.Killed (p 2) (x 1)) []
    ∷ by_ui (rows.Killed (p 1) (x 2)) []
    ∷ by_coord (rows.Delivered (p 1)) (sent 7 2 0 3 (whys.Death (x 2)) tasks.Discard ∷ rows.Dropped (r 3) (drops.Gone (x 2)) ∷ [])
    ∷ by_proc 2 (rows.Taken (p 2) (j 6) false false) []
    ∷ by_coord (rows.Delivered (p 2)) []
    ∷ by_proc 2 (rows.Taken (p 2) (j 7) false false) []
    ∷ []

abbrev pub deaths_of_a_frame_and_its_parent_header : Header
deaths_of_a_frame_and_its_parent_header = record { keep = 3; sites = record { origin = codes "http://b.test"; proc = p 2 } ∷ []; pages = []; first = codes "http://a.test/" }

pub deaths_of_a_frame_and_its_parent_is_legal : IsLegal (log_of deaths_of_a_frame_and_its_parent)
unfolding url_on_literals is_web is_blank_url judged judged_parse read_against address_of url_of resolved with_fragment base_of fragment_of origin_text origin_of has_same_base is_rewritable events_of each_event after_opening AtEachEvent is_numbered opens is_formed is_once is_caused is_queued is_ordered is_checked ends_settled loads_end ends_told ends_stepped goes_in_time
deaths_of_a_frame_and_its_parent_is_legal = record { opened = refl; numbered = refl; formed = refl; once = refl; caused = refl; queued = refl; ordered = refl; checked = refl; settled = refl }

pub deaths_of_a_frame_and_its_parent_ends_loads : LoadsEndInTime (log_of deaths_of_a_frame_and_its_parent)
unfolding url_on_literals is_web is_blank_url judged judged_parse read_against address_of url_of resolved with_fragment base_of fragment_of origin_text origin_of has_same_base is_rewritable events_of each_event after_opening AtEachEvent is_numbered opens is_formed is_once is_caused is_queued is_ordered is_checked ends_settled loads_end ends_told ends_stepped goes_in_time
deaths_of_a_frame_and_its_parent_ends_loads = refl

pub deaths_of_a_frame_and_its_parent_acts_at_once : ActsAtOnce (log_of deaths_of_a_frame_and_its_parent)
unfolding url_on_literals is_web is_blank_url judged judged_parse read_against address_of url_of resolved with_fragment base_of fragment_of origin_text origin_of has_same_base is_rewritable events_of each_event after_opening AtEachEvent is_numbered opens is_formed is_once is_caused is_queued is_ordered is_checked ends_settled loads_end ends_told ends_stepped goes_in_time
deaths_of_a_frame_and_its_parent_acts_at_once = record { told = refl; stepped = refl; in_time = refl }

pub deaths_of_a_frame_and_its_parent_suits : Suits deaths_of_a_frame_and_its_parent_header (log_of deaths_of_a_frame_and_its_parent)
unfolding url_on_literals is_web is_blank_url judged judged_parse read_against address_of url_of resolved with_fragment base_of fragment_of origin_text origin_of has_same_base is_rewritable events_of each_event after_opening AtEachEvent is_numbered opens is_formed is_once is_caused is_queued is_ordered is_checked ends_settled loads_end ends_told ends_stepped goes_in_time
deaths_of_a_frame_and_its_parent_suits = record { opened = refl; placed = refl; kept = refl }

-- A death behind a held back push.
abbrev pub death_behind_a_held_back_push : List Event
death_behind_a_held_back_push =
    before 42 held_back_push
    ++ by_ui (rows.Accepted (r 7) (Some (d 1)) (requests.Poke (n 0) (actions.AddFrame (n 2)))) []
    ∷ by_proc 1 (made 1 6 1 2 (whats.Push (e 1 2) (Some (codes "s")) (codes "http://a.test/2"))) []
    ∷ by_proc 1 (made 1 7 1 2 (whats.AddFrame (n 2))) []
    ∷ by_coord (rows.Delivered (p 1)) []
    ∷ by_coord (rows.Delivered (p 1)) []
    ∷ by_coord (rows.Delivered (p 1)) []
    ∷ by_ui (rows.Killed (p 1) (x 1)) []
    ∷ by_proc 1 (rows.Taken (p 1) (j 11) false false) []
    ∷ by_coord (rows.Delivered (p 1)) (rows.Applied (r 5) (changes.Traverse (t 0)) ∷ rows.Dropped (r 6) (drops.Gone (x 1)) ∷ rows.Dropped (r 7) (drops.Gone (x 1)) ∷ [])
    ∷ []

pub death_behind_a_held_back_push_is_legal : IsLegal (log_of death_behind_a_held_back_push)
unfolding url_on_literals is_web is_blank_url judged judged_parse read_against address_of url_of resolved with_fragment base_of fragment_of origin_text origin_of has_same_base is_rewritable events_of each_event after_opening AtEachEvent is_numbered opens is_formed is_once is_caused is_queued is_ordered is_checked ends_settled loads_end ends_told ends_stepped goes_in_time
death_behind_a_held_back_push_is_legal = record { opened = refl; numbered = refl; formed = refl; once = refl; caused = refl; queued = refl; ordered = refl; checked = refl; settled = refl }

pub death_behind_a_held_back_push_ends_loads : LoadsEndInTime (log_of death_behind_a_held_back_push)
unfolding url_on_literals is_web is_blank_url judged judged_parse read_against address_of url_of resolved with_fragment base_of fragment_of origin_text origin_of has_same_base is_rewritable events_of each_event after_opening AtEachEvent is_numbered opens is_formed is_once is_caused is_queued is_ordered is_checked ends_settled loads_end ends_told ends_stepped goes_in_time
death_behind_a_held_back_push_ends_loads = refl

pub death_behind_a_held_back_push_acts_at_once : ActsAtOnce (log_of death_behind_a_held_back_push)
unfolding url_on_literals is_web is_blank_url judged judged_parse read_against address_of url_of resolved with_fragment base_of fragment_of origin_text origin_of has_same_base is_rewritable events_of each_event after_opening AtEachEvent is_numbered opens is_formed is_once is_caused is_queued is_ordered is_checked ends_settled loads_end ends_told ends_stepped goes_in_time
death_behind_a_held_back_push_acts_at_once = record { told = refl; stepped = refl; in_time = refl }

pub death_behind_a_held_back_push_suits : Suits plain_settings (log_of death_behind_a_held_back_push)
unfolding url_on_literals is_web is_blank_url judged judged_parse read_against address_of url_of resolved with_fragment base_of fragment_of origin_text origin_of has_same_base is_rewritable events_of each_event after_opening AtEachEvent is_numbered opens is_formed is_once is_caused is_queued is_ordered is_checked ends_settled loads_end ends_told ends_stepped goes_in_time
death_behind_a_held_back_push_suits = record { opened = refl; placed = refl; kept = refl }

-- A document is made into an incarnation whose death is not known.
abbrev pub document_made_by_the_dead : List Event
document_made_by_the_dead =
    by_start (rows.Opened (e 0 1) (s 1) (d 1) (p 1) None (codes "http://a.test/")) []
    ∷ by_ui (rows.Accepted (r 1) None (requests.Load (n 0) modes.Auto (codes "http://b.test/1"))) (rows.Started (r 1) None ∷ sent 1 2 0 2 (whys.Req (r 1)) (tasks.Populate (n 0) (s 2) (codes "http://b.test/1") false) ∷ [])
    ∷ by_ui (rows.Killed (p 2) (x 1)) []
    ∷ by_proc 2 (rows.Taken (p 2) (j 1) false false) []
    ∷ by_coord (rows.Delivered (p 2)) (sent 2 2 1 3 (whys.Req (r 1)) (tasks.Populate (n 0) (s 2) (codes "http://b.test/1") false) ∷ [])
    ∷ by_proc 2 (rows.Taken (p 2) (j 2) true false) []
    ∷ by_proc 2 (rows.Finished (p 2) (j 2) (outcomes.Populated None)) []
    ∷ by_coord (rows.Delivered (p 2)) (rows.Applied (r 1) (changes.Push (n 0) (e 0 2) (s 2) (codes "http://b.test/1") None) ∷ sent 3 1 0 1 (whys.Req (r 1)) tasks.Freeze ∷ sent 4 2 1 3 (whys.Req (r 1)) (tasks.Activate (e 0 2) (epoch 2) 2 1 None (codes "http://b.test/1")) ∷ [])
    ∷ by_proc 1 (rows.Taken (p 1) (j 3) true false) []
    ∷ by_proc 1 (rows.Finished (p 1) (j 3) outcomes.Frozen) []
    ∷ by_coord (rows.Delivered (p 1)) []
    ∷ by_proc 2 (rows.Taken (p 2) (j 4) true false) []
    ∷ by_proc 2 (rows.Finished (p 2) (j 4) outcomes.Activated) []
    ∷ by_coord (rows.Delivered (p 2)) []
    ∷ by_ui (rows.Accepted (r 2) None (requests.Load (n 0) modes.Auto (codes "http://b.test/2"))) (rows.Started (r 2) None ∷ sent 5 2 1 4 (whys.Req (r 2)) (tasks.Populate (n 0) (s 3) (codes "http://b.test/2") false) ∷ [])
    ∷ by_proc 2 (rows.Taken (p 2) (j 5) true false) []
    ∷ by_proc 2 (rows.Finished (p 2) (j 5) (outcomes.Populated None)) []
    ∷ by_coord (rows.Delivered (p 2)) (rows.Applied (r 2) (changes.Push (n 0) (e 0 3) (s 3) (codes "http://b.test/2") None) ∷ sent 6 2 1 3 (whys.Req (r 2)) tasks.Freeze ∷ sent 7 2 1 4 (whys.Req (r 2)) (tasks.Activate (e 0 3) (epoch 3) 3 2 None (codes "http://b.test/2")) ∷ [])
    ∷ by_proc 2 (rows.Taken (p 2) (j 6) true false) []
    ∷ by_proc 2 (rows.Finished (p 2) (j 6) outcomes.Frozen) []
    ∷ by_coord (rows.Delivered (p 2)) []
    ∷ by_proc 2 (rows.Taken (p 2) (j 7) true false) []
    ∷ by_proc 2 (rows.Finished (p 2) (j 7) outcomes.Activated) []
    ∷ by_coord (rows.Delivered (p 2)) []
    ∷ []

abbrev pub document_made_by_the_dead_header : Header
document_made_by_the_dead_header = record { keep = 3; sites = record { origin = codes "http://b.test"; proc = p 2 } ∷ []; pages = []; first = codes "http://a.test/" }

pub document_made_by_the_dead_is_legal : IsLegal (log_of document_made_by_the_dead)
unfolding url_on_literals is_web is_blank_url judged judged_parse read_against address_of url_of resolved with_fragment base_of fragment_of origin_text origin_of has_same_base is_rewritable events_of each_event after_opening AtEachEvent is_numbered opens is_formed is_once is_caused is_queued is_ordered is_checked ends_settled loads_end ends_told ends_stepped goes_in_time
document_made_by_the_dead_is_legal = record { opened = refl; numbered = refl; formed = refl; once = refl; caused = refl; queued = refl; ordered = refl; checked = refl; settled = refl }

pub document_made_by_the_dead_ends_loads : LoadsEndInTime (log_of document_made_by_the_dead)
unfolding url_on_literals is_web is_blank_url judged judged_parse read_against address_of url_of resolved with_fragment base_of fragment_of origin_text origin_of has_same_base is_rewritable events_of each_event after_opening AtEachEvent is_numbered opens is_formed is_once is_caused is_queued is_ordered is_checked ends_settled loads_end ends_told ends_stepped goes_in_time
document_made_by_the_dead_ends_loads = refl

pub document_made_by_the_dead_acts_at_once : ActsAtOnce (log_of document_made_by_the_dead)
unfolding url_on_literals is_web is_blank_url judged judged_parse read_against address_of url_of resolved with_fragment base_of fragment_of origin_text origin_of has_same_base is_rewritable events_of each_event after_opening AtEachEvent is_numbered opens is_formed is_once is_caused is_queued is_ordered is_checked ends_settled loads_end ends_told ends_stepped goes_in_time
document_made_by_the_dead_acts_at_once = record { told = refl; stepped = refl; in_time = refl }

pub document_made_by_the_dead_suits : Suits document_made_by_the_dead_header (log_of document_made_by_the_dead)
unfolding url_on_literals is_web is_blank_url judged judged_parse read_against address_of url_of resolved with_fragment base_of fragment_of origin_text origin_of has_same_base is_rewritable events_of each_event after_opening AtEachEvent is_numbered opens is_formed is_once is_caused is_queued is_ordered is_checked ends_settled loads_end ends_told ends_stepped goes_in_time
document_made_by_the_dead_suits = record { opened = refl; placed = refl; kept = refl }

-- A death takes the loaded document above a frame of another process, and what the frame made is dropped.
abbrev pub death_above_what_a_frame_made : List Event
death_above_what_a_frame_made =
    before 11 two_processes
    ++ by_ui (rows.Accepted (r 2) (Some (d 2)) (requests.Poke (n 0) (actions.AddFrame (n 1)))) []
    ∷ by_proc 2 (made 2 2 2 2 (whats.AddFrame (n 1))) []
    ∷ by_coord (rows.Delivered (p 2)) (rows.Applied (r 2) (changes.AddFrame (s 2) (n 1) (e 0 3) (s 3)) ∷ sent 4 2 0 3 (whys.Req (r 2)) (tasks.Populate (n 1) (s 3) (codes "about:blank") true) ∷ [])
    ∷ by_proc 2 (rows.Taken (p 2) (j 4) true false) []
    ∷ by_proc 2 (rows.Finished (p 2) (j 4) (outcomes.Populated None)) []
    ∷ by_coord (rows.Delivered (p 2)) (sent 5 2 0 3 (whys.Req (r 2)) (tasks.Activate (e 0 3) (epoch 1) 2 1 None (codes "about:blank")) ∷ [])
    ∷ by_proc 2 (rows.Taken (p 2) (j 5) true false) []
    ∷ by_proc 2 (rows.Finished (p 2) (j 5) outcomes.Activated) []
    ∷ by_coord (rows.Delivered (p 2)) []
    ∷ by_ui (rows.Accepted (r 3) None (requests.Load (n 1) modes.Auto (codes "http://a.test/f"))) (rows.Started (r 3) None ∷ sent 6 1 0 4 (whys.Req (r 3)) (tasks.Populate (n 1) (s 4) (codes "http://a.test/f") false) ∷ [])
    ∷ by_proc 1 (rows.Taken (p 1) (j 6) true false) []
    ∷ by_proc 1 (rows.Finished (p 1) (j 6) (outcomes.Populated None)) []
    ∷ by_coord (rows.Delivered (p 1)) (rows.Applied (r 3) (changes.Replace (n 1) (e 0 3) (e 0 4) (s 4) (codes "http://a.test/f") None) ∷ sent 7 2 0 3 (whys.Req (r 3)) tasks.Discard ∷ sent 8 1 0 4 (whys.Req (r 3)) (tasks.Activate (e 0 4) (epoch 2) 2 1 None (codes "http://a.test/f")) ∷ [])
    ∷ by_proc 2 (rows.Taken (p 2) (j 7) true false) []
    ∷ by_proc 2 (rows.Finished (p 2) (j 7) outcomes.Discarded) []
    ∷ by_coord (rows.Delivered (p 2)) []
    ∷ by_proc 1 (rows.Taken (p 1) (j 8) true false) []
    ∷ by_proc 1 (rows.Finished (p 1) (j 8) outcomes.Activated) []
    ∷ by_coord (rows.Delivered (p 1)) []
    ∷ by_ui (rows.Accepted (r 4) (Some (d 4)) (requests.Poke (n 1) (actions.Push (Some (codes "s")) None))) []
    ∷ by_proc 1 (made 1 4 4 2 (whats.Push (e 4 1) (Some (codes "s")) (codes "http://a.test/f"))) []
    ∷ by_ui (rows.Killed (p 2) (x 1)) []
    ∷ by_coord (rows.Delivered (p 2)) (sent 9 1 0 4 (whys.Death (x 1)) tasks.Discard ∷ [])
    ∷ by_coord (rows.Delivered (p 1)) (rows.Dropped (r 4) (drops.Gone (x 1)) ∷ [])
    ∷ []

abbrev pub death_above_what_a_frame_made_header : Header
death_above_what_a_frame_made_header = record { keep = 3; sites = record { origin = codes "http://b.test"; proc = p 2 } ∷ []; pages = []; first = codes "http://a.test/" }

pub death_above_what_a_frame_made_is_legal : IsLegal (log_of death_above_what_a_frame_made)
unfolding url_on_literals is_web is_blank_url judged judged_parse read_against address_of url_of resolved with_fragment base_of fragment_of origin_text origin_of has_same_base is_rewritable events_of each_event after_opening AtEachEvent is_numbered opens is_formed is_once is_caused is_queued is_ordered is_checked ends_settled loads_end ends_told ends_stepped goes_in_time
death_above_what_a_frame_made_is_legal = record { opened = refl; numbered = refl; formed = refl; once = refl; caused = refl; queued = refl; ordered = refl; checked = refl; settled = refl }

pub death_above_what_a_frame_made_ends_loads : LoadsEndInTime (log_of death_above_what_a_frame_made)
unfolding url_on_literals is_web is_blank_url judged judged_parse read_against address_of url_of resolved with_fragment base_of fragment_of origin_text origin_of has_same_base is_rewritable events_of each_event after_opening AtEachEvent is_numbered opens is_formed is_once is_caused is_queued is_ordered is_checked ends_settled loads_end ends_told ends_stepped goes_in_time
death_above_what_a_frame_made_ends_loads = refl

pub death_above_what_a_frame_made_acts_at_once : ActsAtOnce (log_of death_above_what_a_frame_made)
unfolding url_on_literals is_web is_blank_url judged judged_parse read_against address_of url_of resolved with_fragment base_of fragment_of origin_text origin_of has_same_base is_rewritable events_of each_event after_opening AtEachEvent is_numbered opens is_formed is_once is_caused is_queued is_ordered is_checked ends_settled loads_end ends_told ends_stepped goes_in_time
death_above_what_a_frame_made_acts_at_once = record { told = refl; stepped = refl; in_time = refl }

pub death_above_what_a_frame_made_suits : Suits death_above_what_a_frame_made_header (log_of death_above_what_a_frame_made)
unfolding url_on_literals is_web is_blank_url judged judged_parse read_against address_of url_of resolved with_fragment base_of fragment_of origin_text origin_of has_same_base is_rewritable events_of each_event after_opening AtEachEvent is_numbered opens is_formed is_once is_caused is_queued is_ordered is_checked ends_settled loads_end ends_told ends_stepped goes_in_time
death_above_what_a_frame_made_suits = record { opened = refl; placed = refl; kept = refl }

-- A load puts a frame to sleep, and a death takes the loaded document: what the frame made is dropped by the load.
abbrev pub death_above_a_sleeping_frame : List Event
death_above_a_sleeping_frame =
    before 10 push_beside_a_frame
    ++ by_ui (rows.Accepted (r 2) (Some (d 2)) (requests.Poke (n 1) (actions.Push (Some (codes "s")) None))) []
    ∷ by_proc 1 (made 1 2 2 1 (whats.Replace (e 0 2) (e 2 1) (Some (codes "s")) (codes "about:blank"))) []
    ∷ by_ui (rows.Accepted (r 3) None (requests.Load (n 0) modes.Auto (codes "http://b.test/"))) (rows.Started (r 3) None ∷ sent 3 2 0 3 (whys.Req (r 3)) (tasks.Populate (n 0) (s 3) (codes "http://b.test/") false) ∷ [])
    ∷ by_proc 2 (rows.Taken (p 2) (j 3) true false) []
    ∷ by_proc 2 (rows.Finished (p 2) (j 3) (outcomes.Populated None)) []
    ∷ by_coord (rows.Delivered (p 2)) (rows.Applied (r 3) (changes.Push (n 0) (e 0 3) (s 3) (codes "http://b.test/") None) ∷ sent 4 1 0 1 (whys.Req (r 3)) tasks.Freeze ∷ sent 5 1 0 2 (whys.Req (r 3)) tasks.Freeze ∷ sent 6 2 0 3 (whys.Req (r 3)) (tasks.Activate (e 0 3) (epoch 2) 2 1 None (codes "http://b.test/")) ∷ [])
    ∷ by_ui (rows.Killed (p 2) (x 1)) []
    ∷ by_coord (rows.Delivered (p 2)) []
    ∷ by_coord (rows.Delivered (p 1)) (rows.Dropped (r 2) (drops.By (r 3)) ∷ [])
    ∷ []

abbrev pub death_above_a_sleeping_frame_header : Header
death_above_a_sleeping_frame_header = record { keep = 3; sites = record { origin = codes "http://b.test"; proc = p 2 } ∷ []; pages = []; first = codes "http://a.test/" }

pub death_above_a_sleeping_frame_is_legal : IsLegal (log_of death_above_a_sleeping_frame)
unfolding url_on_literals is_web is_blank_url judged judged_parse read_against address_of url_of resolved with_fragment base_of fragment_of origin_text origin_of has_same_base is_rewritable events_of each_event after_opening AtEachEvent is_numbered opens is_formed is_once is_caused is_queued is_ordered is_checked ends_settled loads_end ends_told ends_stepped goes_in_time
death_above_a_sleeping_frame_is_legal = record { opened = refl; numbered = refl; formed = refl; once = refl; caused = refl; queued = refl; ordered = refl; checked = refl; settled = refl }

pub death_above_a_sleeping_frame_ends_loads : LoadsEndInTime (log_of death_above_a_sleeping_frame)
unfolding url_on_literals is_web is_blank_url judged judged_parse read_against address_of url_of resolved with_fragment base_of fragment_of origin_text origin_of has_same_base is_rewritable events_of each_event after_opening AtEachEvent is_numbered opens is_formed is_once is_caused is_queued is_ordered is_checked ends_settled loads_end ends_told ends_stepped goes_in_time
death_above_a_sleeping_frame_ends_loads = refl

pub death_above_a_sleeping_frame_acts_at_once : ActsAtOnce (log_of death_above_a_sleeping_frame)
unfolding url_on_literals is_web is_blank_url judged judged_parse read_against address_of url_of resolved with_fragment base_of fragment_of origin_text origin_of has_same_base is_rewritable events_of each_event after_opening AtEachEvent is_numbered opens is_formed is_once is_caused is_queued is_ordered is_checked ends_settled loads_end ends_told ends_stepped goes_in_time
death_above_a_sleeping_frame_acts_at_once = record { told = refl; stepped = refl; in_time = refl }

pub death_above_a_sleeping_frame_suits : Suits death_above_a_sleeping_frame_header (log_of death_above_a_sleeping_frame)
unfolding url_on_literals is_web is_blank_url judged judged_parse read_against address_of url_of resolved with_fragment base_of fragment_of origin_text origin_of has_same_base is_rewritable events_of each_event after_opening AtEachEvent is_numbered opens is_formed is_once is_caused is_queued is_ordered is_checked ends_settled loads_end ends_told ends_stepped goes_in_time
death_above_a_sleeping_frame_suits = record { opened = refl; placed = refl; kept = refl }
