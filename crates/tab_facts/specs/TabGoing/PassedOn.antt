-- What is passed on of the crates below, for those above.
pub use Rattle.tab_facts.specs.Frame.Lasting.{Wish, wish}
