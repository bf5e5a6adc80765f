-- What is passed on of the crates below, for those above.
pub use Rattle.tab_drops.proofs.ForCallers.{bare_move, load_applied, stand_bare, stand_reached, unheld_first}
pub use Rattle.tab_drops.proofs.Loads.{open_of, sole_load}
pub use Rattle.tab_drops.proofs.Turns.{below_back, each_stands, tied_load}
pub use Rattle.tab_serves.proofs.PassedOn.{AreUpTo, IsCarried, IsMadeAtHand, IsNoProcess, IsToTakeUp, absent_tab, added_going, added_tab, aim_is, all_once, as_many, at_most_once, bare_tab, count_few, denied_tab, done_tab, dropped_going, fine, first_refused_tab, fresh, hand_tab, held_tab, its_report, joined_tab, leaving_none, load_accepted, load_accepted_flows, load_accepted_tab, moved_is, new_state, new_to, no_load, none_at, passed_is, pushed_going, pushed_tab, refused_going, removed_going, removed_tab, replaced_going, replaced_tab, running_is, steps_still, strayed_flows, strayed_tab, went, went_tab}
pub use Rattle.tab_serves.proofs.Rounds.{only_none, only_then}
pub use Rattle.tab_sweeps.proofs.Bares.{own_document}
pub use Rattle.tab_sweeps.proofs.Founds.{held, in_table, listed_here}
