-- What is passed on of the crates below, for those above.
pub use Rattle.tab_releases.proofs.Endings.{by_end, ends_parked}
pub use Rattle.tab_releases.proofs.PassedOn.{AreUpTo, IsBare, IsBegun, IsReachedAt, IsUnsettled, MayLeaveNav, StandOrBare, aim_is, all_of, all_once, bare_move, begun_as_it_was, begun_leaves, calm_unmoved, causes_on, done_tab, each_stands, fine, first_refused_tab, hand_tab, held_tab, its_report, joined_tab, leaves_then, live_then, load_accepted, load_accepted_flows, load_accepted_tab, load_back, loaded_never, look_back, may_leave_reads, may_leave_same, new_of, of_load, only_as, over_each, over_with, own_document, passed_is, queue_leaves, queue_over, reached_at, reached_same, ready_back, refused_going, running_is, serve_on, run_leavers, show_causes, still_on, stand_arrives, stand_awake, stand_bare, stand_reached, stepped, steps_still, strayed_flows, strayed_tab, takers_on, waiting_first, turning_on, unheld_first, unloaded_back, visited_same, way_same, went, went_tab, waiting_on}
pub use Rattle.tab_releases.proofs.Releases.{mades_same}
pub use Rattle.tab_turns.proofs.Turned.{course_of, out_alike}
pub use Rattle.tab_turns.proofs.Firsts.{none_asked}
