-- What is passed on of the crates below, for those above.
pub use Rattle.tab_moves.specs.Making.{HasMade, is_new_by, make_why}
pub use Rattle.tab_moves.specs.Moving.{IsSince}
pub use Rattle.tab_moves.specs.Showing.{aim_in, need_in}
pub use Rattle.tab_moves.specs.PassedOn.{HasOnlyTold, IsPassing, IsTab, IsToldMore, IsUpdateFor, MayServe, length_index}
