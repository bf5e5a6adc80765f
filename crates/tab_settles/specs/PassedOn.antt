-- What is passed on of the crates below, for those above.
pub use Rattle.tab_releases.specs.PassedOn.{AreBlamed, AreCounted, AreHeldUp, AreLeftStrays, AreSteps, AreStepsOf, AreUnheld, AwaitTurns, Drop, Ends, EndsAlone, HasNode, HasOnly, HasOnlyDropped, HasOnlySwept, HasPassed, HasPutOut, HasQueue, HasTaken, HaveJoined, InPass, IsBlamed, IsByItsOwn, IsForTaking, IsGoing, IsLeftStray, IsLoadOf, IsOfFragment, IsOfPoke, IsOfTab, IsOpen, IsPassing, IsReadyLoadOf, IsServeFor, IsStray, IsSweepOf, IsTab, IsToTake, IsUpdateFor, LeavesQueue, LoadsLive, MayCause, MayServe, MayStand, ParentsShown, StandOrMove, TakersServe, aim_in, at_hand, count_of, delta_in, has_ended, is_new_entry, is_traverse, judged_in, length_index, nav_found, row_of_drop, show_why}
pub use Rattle.tab_releases.specs.Releasing.{IsTaking, LoadsMadeOwn}
