-- What is passed on of the crates below, for those above.
pub use Rattle.tab_passes.specs.PassedOn.{IsTab, count_of, has_ended}
pub use Rattle.tab_passes.specs.Causes.{MayServe}
pub use Rattle.tab_passes.specs.Leaving.{IsGoneAt, IsLeaving, left_then, without_all}
pub use Rattle.tab_passes.specs.Passing.{HasOnly, IsPassing, IsPassingIn}
pub use Rattle.tab_passes.specs.Sleepers.{is_below_in}
pub use Rattle.tab_passes.specs.Telling.{HasOnlyTold, IsToldMore, IsUpdateFor, length_index}
