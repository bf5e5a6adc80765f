-- A traversal in the lists: another current step.
use Rattle.entry_store.proofs.Keeping.{IsKept-at, Fits-goal}

pub ruleset moved_laws = (IsKept-at, Fits-goal)
