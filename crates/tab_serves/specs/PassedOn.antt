-- What is passed on of the crates below, for those above.
pub use Rattle.tab_walk.specs.PassedOn.{HasOnlyTold, IsToldMore, IsUpdateFor, MayServe, aim_in, length_index}
pub use Rattle.tab_walk.specs.Cutting.{IsLeaving}
pub use Rattle.tab_facts.specs.TabGoing.Going.{AreCounted, AreHeldUp, AreSteps, IsGoing, count_of, has_ended}
pub use Rattle.tab_passes.specs.Causes.{MayCause, show_why}
pub use Rattle.tab_facts.specs.TabWhole.Tab.{IsTab, at_hand}
