-- What is passed on of the crates below, for those above.
pub use Rattle.tab_begins.proofs.Afters.{KeepsAwake, MayServe, ParentsShown, TakersServe, aim_is, at_most_once, fresh, goes_on, stand_reached}
pub use Rattle.tab_begins.proofs.Begins.{IsBare, IsUnsettled, each_stands, loaded_never, run_leavers, serve_on, show_causes, still_on, takers_on}
pub use Rattle.tab_begins.proofs.PassedOn.{AreUpTo, HasSetOut, IsBegun, IsCarried, IsMadeAtHand, IsNoProcess, IsReachedAt, IsToTakeUp, KeepBegun, MayLeaveNav, absent_tab, added_going, added_tab, all_once, as_many, bare_move, bare_tab, begun_as_it_was, begun_leaves, causes_on, count_few, course_of, denied_tab, done_tab, dropped_going, fine, first_refused_tab, hand_tab, held_tab, its_report, joined_tab, kept_begun, load_accepted, load_accepted_flows, load_accepted_tab, may_leave_reads, may_leave_same, moved_is, new_state, new_to, none_at, of_load, only_as, only_none, only_then, out_off, over_each, over_with, passed_is, pushed_going, pushed_tab, reached_at, refused_going, removed_going, removed_tab, replaced_going, replaced_tab, running_is, sees, sent_out, cleared_put, served_put, served_quiet, stand_bare, steps_still, strayed_flows, strayed_tab, tab_placed, unbegun_leaves, unheld_first, visited_same, waiting_first, way_same, went, went_tab}
pub use Rattle.tab_begins.proofs.Queues.{leaves_same, leaves_then, queue_leaves, queue_left, queue_over}
pub use Rattle.tab_begins.proofs.Standings.{all_of, in_place, none_of}
pub use Rattle.tab_begins.proofs.Stood.{calm_unmoved}
pub use Rattle.tab_begins.proofs.Strays.{EntriesAreNoted, IsBlamed, IsStray, entered_in, held, in_table, leaving_none, listed_here}
pub use Rattle.tab_begins.proofs.Takes.{StandOrBare, reached_same, turning_on, waiting_on}
pub use Rattle.tab_begins.proofs.Traverses.{left_blamed, own_document}
pub use Rattle.tab_begins.proofs.Turnings.{waiting_passed}
pub use Rattle.tab_begins.proofs.Turns.{live_then, stand_awake}
