-- What is passed on of the crates below, for those above.
pub use Rattle.tab_rests.specs.PassedOn.{AreBlamed, AreCounted, AreHeldUp, AreLeftStrays, AreSteps, AreStepsOf, AreUnheld, Asks, AwaitTurns, CameTo, DiscardsUnheld, Drop, EndsRun, FreesVisited, HasClearedAll, HasClearedOut, HasEnded, HasGivenWay, HasGrown, HasOnly, HasOnlyDestroyed, HasOnlyDropped, HasOnlyDroppedBy, HasOnlySwept, HasPassed, HasPutOut, HasQueue, HasRested, HasSent, HasServedAll, HasStood, HaveJoined, InPass, IsAtRest, IsBlamed, IsByLoad, IsCalmFor, IsGoing, IsLeftStray, IsLoadApplied, IsLoadOf, IsOfTab, IsOfTurn, IsOfWalk, IsOpen, IsPassedOver, IsPassing, IsPassingIn, IsReadyLoadOf, IsServeFor, IsStray, IsSweepOf, IsTab, IsToAsk, IsTurning, IsUp, IsUpdateFor, IsWaiting, KeepsLeftStrays, KeepsUnmoved, KeepsMade, KeepsUp, LeavesCalm, LeavesInNeed, LeavesPass, LeavesQueue, LoadsLive, MayCause, MayFollow, MayHaveEnded, MayPass, MayServe, MayServeAll, MayStand, NoneStray, ParentsShown, Refused, Rests, SendsForStrays, StandOrMove, TakersServe, Turn, WaitsToAsk, Went, WereStray, aim_in, at_hand, count_of, delta_in, has_ended, is_through, is_traverse, length_index, row_of_drop, show_why}
pub use Rattle.tab_doors.specs.Working.{KeepsStore}
pub use Rattle.tab_rests.specs.Resting.{IsNoneDue}
