-- What is passed on of the crates below, for those above.
pub use Rattle.world.specs.Open.{row_limit}
