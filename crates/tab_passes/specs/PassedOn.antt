-- What is passed on of the crates below, for those above.
pub use Rattle.tab_facts.specs.TabGoing.PassedOn.{Wish, wish}
pub use Rattle.tab_facts.specs.TabGoing.Going.{AreSteps, IsTab, count_of, has_ended, has_ended as has_ended_}
