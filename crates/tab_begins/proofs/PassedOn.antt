-- What is passed on of the crates below, for those above.
pub use Rattle.tab_applies.proofs.Dones.{begun_as_it_was, causes_on}
pub use Rattle.tab_applies.proofs.Sees.{sees}
pub use Rattle.tab_one_pass.proofs.Calms.{only_as}
pub use Rattle.tab_one_pass.proofs.Dropped.{of_load, tab_placed}
pub use Rattle.tab_one_pass.proofs.Lefts.{MayLeaveNav, begun_leaves, may_leave_reads, may_leave_same, unbegun_leaves, way_same}
pub use Rattle.tab_one_pass.proofs.Moves.{over_each, over_with}
pub use Rattle.tab_one_pass.proofs.Opens.{visited_same}
pub use Rattle.tab_one_pass.proofs.PassedOn.{AreUpTo, IsCarried, IsMadeAtHand, IsNoProcess, IsToTakeUp, absent_tab, added_going, added_tab, aim_is, all_once, as_many, bare_move, bare_tab, count_few, denied_tab, done_tab, dropped_going, fine, first_refused_tab, hand_tab, held_tab, its_report, joined_tab, load_accepted, load_accepted_flows, load_accepted_tab, moved_is, new_state, new_to, none_at, only_none, only_then, passed_is, pushed_going, pushed_tab, refused_going, removed_going, removed_tab, replaced_going, replaced_tab, running_is, stand_bare, steps_still, strayed_flows, strayed_tab, unheld_first, went, went_tab}
pub use Rattle.tab_one_pass.proofs.Quiets.{served_quiet}
pub use Rattle.tab_one_pass.proofs.Wholes.{cleared_put, served_put}
pub use Rattle.tab_one_pass.proofs.Stands.{IsReachedAt, reached_at}
pub use Rattle.tab_turns.proofs.Turned.{HasSetOut, IsBegun, KeepBegun, course_of, kept_begun, out_off, sent_out, waiting_first, turning_on, waiting_on}
