-- What is passed on of the crates below, for those above.
pub use Rattle.tab_passes.proofs.PassedOn.{IsUnheld, at_most_once, count_few, dropped_going, dropped_lasting, dropped_tab, unheld_end, unheld_hand, unheld_loads, way_unheld}
pub use Rattle.tab_passes.proofs.Aheads.{left_sends}
pub use Rattle.tab_passes.proofs.Aims.{moved_is, passed_is, running_is}
pub use Rattle.tab_passes.proofs.Freezings.{below_none}
pub use Rattle.tab_passes.proofs.Keeps.{kept_none, kept_then}
pub use Rattle.tab_passes.proofs.Leavings.{begun_leaving, leaving_none}
pub use Rattle.tab_passes.proofs.Lives.{listed_at}
pub use Rattle.tab_passes.proofs.Onlies.{only_as, only_none}
pub use Rattle.tab_passes.proofs.Sleepers.{below_same}
pub use Rattle.tab_passes.proofs.Sleeps.{has_number, up_past}
pub use Rattle.tab_passes.proofs.Stand.{depth_is}
