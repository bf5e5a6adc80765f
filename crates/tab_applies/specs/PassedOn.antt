-- What is passed on of the crates below, for those above.
pub use Rattle.tab_turns.specs.Beginning.{HasGone, IsFirst, MayGoUnasked, WentTo, joined_then, step_by}
pub use Rattle.tab_turns.specs.Ending.{HasEnded, HasRested, MayHaveEnded, is_through}
pub use Rattle.tab_turns.specs.Turning.{IsTurning, IsWaiting, LeavesAlone}
