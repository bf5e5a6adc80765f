-- What is passed on of the crates below, for those above.
pub use Rattle.tab_settles.specs.Offs.{LateKnown}
pub use Rattle.tab_settles.specs.PassedOn.{AreBlamed, AreHeldUp, AreLeftStrays, AreUnheld, Ends, EndsAlone, HasNode, HasQueue, HasTaken, InPass, IsBlamed, IsByItsOwn, IsGoing, IsLeftStray, IsLoadOf, IsOpen, IsPassing, IsReadyLoadOf, IsStray, IsTab, IsTaking, IsToTake, LeavesQueue, LoadsLive, LoadsMadeOwn, MayCause, MayServe, MayStand, ParentsShown, StandOrMove, TakersServe, is_new_entry, judged_in, show_why}
pub use Rattle.tab_settles.specs.Settling.{AsksFirst, HasPut, HasSettled, HoldsParked, IsMake, IsOfItsLoad, IsOver, IsQueueing, IsReady, IsReadyIn, IsSoundTask, IsTurning, IsWaiting, LeavesOff, MakesServe, MayRelease, MovedAreShown, NoneRunsWhileHeld, OrdersAreSound, moved_by}
