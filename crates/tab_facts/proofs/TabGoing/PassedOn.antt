-- What is passed on of the crates below, for those above.
pub use Rattle.tab_facts.proofs.Frame.Moves.{ServesNoneToBegin, goes_of}
pub use Rattle.tab_facts.proofs.Last.Applied.{pushed_lasting, replaced_lasting, traversed_lasting}
pub use Rattle.tab_facts.proofs.Last.Moved.{MayMove, slept_placed}
pub use Rattle.tab_facts.proofs.Last.Orders.{discarded_lasting, frozen_lasting, making_lasting, shown_lasting, told_lasting}
pub use Rattle.tab_facts.proofs.Last.Rows.{dropped_lasting, refused_lasting, started_lasting}
pub use Rattle.tab_facts.proofs.TabWhole.Above.{IsUpAt, below_sleeps, on_parent}
pub use Rattle.tab_facts.proofs.TabWhole.Beginning.{begun_tab, no_load}
pub use Rattle.tab_facts.proofs.TabWhole.Ending.{IsNoProcess, dropped_tab}
pub use Rattle.tab_facts.proofs.TabWhole.Fresh.{fresh}
pub use Rattle.tab_facts.proofs.TabWhole.Leaving.{discard_tab, freeze_tab}
pub use Rattle.tab_facts.proofs.TabWhole.Loaded.{load_pushed_tab, load_replaced_tab}
pub use Rattle.tab_facts.proofs.TabWhole.Making.{IsMakeOf, make_tab}
pub use Rattle.tab_facts.proofs.TabWhole.Refusing.{nowhere_tab}
pub use Rattle.tab_facts.proofs.TabWhole.Sending.{IsToMade, lives_first, sent_home}
pub use Rattle.tab_facts.proofs.TabWhole.Showing.{IsShowOf, show_tab}
pub use Rattle.tab_facts.proofs.TabWhole.Telling.{tell_tab}
pub use Rattle.tab_facts.proofs.TabWhole.Traversed.{ended_tab}
pub use Rattle.tab_facts.proofs.TabWhole.Where.{IsUnheld, at_most_once, joined_unheld, unheld_end, unheld_hand, unheld_loads, way_unheld}
