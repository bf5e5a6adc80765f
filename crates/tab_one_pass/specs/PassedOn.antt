-- What is passed on of the crates below, for those above.
pub use Rattle.tab_drops.specs.Dropping.{Drop, HasOnlyDropped, IsBelowNav, IsLoadApplied, StandOr, row_of_drop}
pub use Rattle.tab_serves.specs.PassedOn.{AreCounted, AreHeldUp, AreSteps, IsGoing, IsLeaving, IsTab, IsUpdateFor, MayCause, aim_in, at_hand, count_of, has_ended, length_index, show_why}
pub use Rattle.tab_drops.specs.Turns.{IsByLoad}
pub use Rattle.tab_serves.specs.Serving.{FreesVisited, HasOnly, InPass, IsOfWalk, IsPassing, IsServeFor, IsUp, KeepsUp}
pub use Rattle.tab_sweeps.specs.Sweeping.{AreBlamed, AreBlamedBy, IsBlamed, IsBlamedBy, IsSweepOf}
pub use Rattle.tab_passes.specs.Passing.{IsPassingIn}
