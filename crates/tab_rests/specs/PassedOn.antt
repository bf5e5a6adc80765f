-- What is passed on of the crates below, for those above.
pub use Rattle.tab_begins.specs.PassedOn.{AreCounted, AreHeldUp, AreSteps, AreUnheld, DiscardsUnheld, Drop, EndsRun, FreesVisited, HasClearedAll, HasClearedOut, HasEnded, HasGivenWay, HasOnly, HasOnlyDestroyed, HasOnlyDropped, HasOnlyDroppedBy, HasOnlySwept, HasPutOut, HasSent, HasServedAll, InPass, IsBlamed, IsByLoad, IsGoing, IsLeftStray, IsOfWalk, IsPassing, IsPassingIn, IsServeFor, IsStray, IsSweepOf, IsTab, IsTurning, IsUp, IsUpdateFor, IsWaiting, KeepsLeftStrays, KeepsUnmoved, KeepsUp, LeavesCalm, LeavesPass, MayHaveEnded, MayPass, MayServe, MayServeAll, NoneStray, ParentsShown, SendsForStrays, TakersServe, WereStray, aim_in, at_hand, count_of, has_ended, is_through, length_index, row_of_drop, show_why}
pub use Rattle.tab_begins.specs.Queueing.{AreBlamed, AreLeftStrays, AreStepsOf, AwaitTurns, CameTo, HasGrown, HasPassed, HasQueue, HasRested, HasStood, HaveJoined, IsAtRest, IsCalmFor, IsLoadApplied, IsOfTab, IsOfTurn, IsOpen, IsPassedOver, IsReadyLoadOf, IsToAsk, LeavesInNeed, LeavesQueue, LoadsLive, MayCause, MayFollow, MayStand, WaitsToAsk, delta_in, is_traverse}
pub use Rattle.tab_begins.specs.Taking.{IsLoadOf, KeepsMade, StandOrMove}
pub use Rattle.tab_begins.specs.declared.turn.Turn.{Turn}
pub use Rattle.tab_begins.specs.declared.turn.Turn.TheVariants.{Asks, Refused, Rests, Went}
