-- What is passed on of the crates below, for those above.
pub use Rattle.tab_turns.proofs.Firsts.{IsWaitingFirst, first_waits}
pub use Rattle.tab_turns.proofs.Standings.{stand_is}
pub use Rattle.tab_turns.proofs.Turned.{still_joined, turning_on, waiting_on}
