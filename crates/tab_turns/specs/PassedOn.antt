-- What is passed on of the crates below, for those above.
pub use Rattle.tab_passes.specs.PassedOn.{AreSteps, has_ended}
pub use Rattle.tab_passes.specs.Passing.{InPass, IsPassing}
