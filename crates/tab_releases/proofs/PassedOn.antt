-- What is passed on of the crates below, for those above.
pub use Rattle.tab_takes.proofs.Denied.{refused_going}
pub use Rattle.tab_takes.proofs.ForCallers.{stand_arrives}
pub use Rattle.tab_takes.proofs.Opens.{run_leavers, show_causes, still_on}
pub use Rattle.tab_takes.proofs.PassedOn.{AreUpTo, IsBare, IsBegun, IsReachedAt, IsUnsettled, MayLeaveNav, StandOrBare, aim_is, all_of, all_once, bare_move, begun_as_it_was, begun_leaves, calm_unmoved, causes_on, done_tab, each_stands, ended_loads, ended_passed, ended_queue, ended_stand, ended_strays, fine, first_refused_tab, hand_tab, held_tab, its_report, joined_tab, leaves_then, left_blamed, live_then, load_accepted, load_accepted_flows, load_accepted_tab, loaded_never, may_leave_reads, may_leave_same, of_load, only_as, only_none, only_then, over_each, over_with, own_document, passed_is, queue_leaves, queue_left, queue_over, reached_at, reached_same, rest_blamed, rest_loads, rest_open, rest_stand, running_is, serve_on, cleared_put, served_put, served_quiet, stand_awake, stand_bare, stand_reached, stepped, steps_still, strayed_flows, strayed_tab, takers_on, turning_on, unheld_first, visited_same, waiting_first, waiting_on, waiting_passed, way_same, went, went_tab}
pub use Rattle.tab_takes.proofs.Ended.{load_back, look_back, ready_back, unloaded_back}
pub use Rattle.tab_takes.proofs.Opens.{new_of}
