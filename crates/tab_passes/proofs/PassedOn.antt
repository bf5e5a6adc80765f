-- What is passed on of the crates below, for those above.
pub use Rattle.tab_facts.proofs.TabGoing.HeldUp.{applied_wishes}
pub use Rattle.tab_facts.proofs.TabGoing.PassedOn.{IsMakeOf, IsNoProcess, IsUnheld, IsUpAt, at_most_once, begun_tab, below_sleeps, dropped_lasting, dropped_tab, ended_tab, fresh, goes_of, joined_unheld, lives_first, load_pushed_tab, load_replaced_tab, make_tab, making_lasting, no_load, nowhere_tab, on_parent, pushed_lasting, refused_lasting, replaced_lasting, slept_placed, started_lasting, traversed_lasting, unheld_end, unheld_hand, unheld_loads, way_unheld}
pub use Rattle.tab_facts.proofs.TabGoing.Changes.{begun_going, pushed_going, replaced_going, traversed_going}
pub use Rattle.tab_facts.proofs.TabGoing.Counts.{applied_long, count_few}
pub use Rattle.tab_facts.proofs.TabGoing.Rows.{dropped_going, refused_going}
pub use Rattle.tab_facts.proofs.TabGoing.Steps.{pushed_steps, replaced_steps}
pub use Rattle.leave_facts.proofs.Bares.{alone_log, bare_accepted_duly, bare_alone_duly, bare_change_duly, bare_load_duly, bare_traversal_duly}
pub use Rattle.leave_facts.proofs.Carried.{AreLeftDuly, row_duly}
pub use Rattle.leave_facts.proofs.Events.{dropped_duly, duly_then, left_on, refused_duly, sent_duly}
pub use Rattle.leave_facts.proofs.Leavers.{IsMovedThere, leaver_below, leaver_beside, leaver_same, left_duly}
pub use Rattle.leave_facts.specs.Leaving.{IsFromAbove, IsGoing}
pub use Rattle.leave_facts.specs.Moved.{IsMoved}
