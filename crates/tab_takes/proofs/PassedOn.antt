-- What is passed on of the crates below, for those above.
pub use Rattle.tab_rests.proofs.PassedOn.{AreUpTo, IsBare, IsBegun, IsReachedAt, IsUnsettled, MayLeaveNav, StandOrBare, aim_is, all_of, all_once, as_many, bare_move, begun_as_it_was, begun_leaves, calm_unmoved, causes_on, done_tab, each_stands, fine, first_refused_tab, hand_tab, held_tab, its_report, joined_tab, leaves_same, leaves_then, left_blamed, live_then, load_accepted, load_accepted_flows, load_accepted_tab, loaded_never, may_leave_reads, may_leave_same, of_load, only_as, only_none, only_then, over_each, over_with, own_document, passed_is, queue_leaves, queue_left, queue_over, reached_at, reached_same, run_leavers, running_is, serve_on, cleared_put, served_put, served_quiet, show_causes, stand_awake, stand_bare, stand_reached, steps_still, still_on, strayed_flows, strayed_tab, takers_on, turning_on, unheld_first, visited_same, waiting_first, waiting_on, waiting_passed, way_same, went, went_tab}
pub use Rattle.tab_doors.proofs.Works.{done_here, start_here}
pub use Rattle.tab_rests.proofs.Ended.{ended_loads, ended_passed, ended_queue, ended_stand, ended_strays}
pub use Rattle.tab_rests.proofs.Rests.{rest_blamed, rest_loads, rest_open, rest_stand}
pub use Rattle.tab_rests.proofs.Stepped.{stepped}
