-- What is passed on of the crates below, for those above.
pub use Rattle.tab_applies.specs.PassedOn.{HasEnded, IsTurning, IsWaiting, MayHaveEnded, is_through}
pub use Rattle.tab_one_pass.specs.PassedOn.{AreBlamed, AreCounted, AreHeldUp, AreSteps, Drop, FreesVisited, HasOnly, HasOnlyDropped, InPass, IsBlamed, IsByLoad, IsGoing, IsOfWalk, IsPassing, IsPassingIn, IsServeFor, IsSweepOf, IsTab, IsUp, IsUpdateFor, KeepsUp, MayCause, aim_in, at_hand, count_of, has_ended, length_index, row_of_drop}
pub use Rattle.tab_one_pass.specs.Passing.{AreUnheld, DiscardsUnheld, EndsRun, HasClearedAll, HasClearedOut, HasGivenWay, HasOnlyDestroyed, HasOnlyDroppedBy, HasOnlySwept, HasPutOut, HasSent, HasServedAll, IsLeftStray, IsLoadOf, IsStray, KeepsLeftStrays, KeepsUnmoved, LeavesCalm, LeavesPass, MayPass, MayServe, MayServeAll, NoneStray, ParentsShown, SendsForStrays, TakersServe, WereStray, show_why}
pub use Rattle.tab_turns.specs.Ending.{HasRested}
