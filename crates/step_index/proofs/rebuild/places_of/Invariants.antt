use Rattle.std.proofs.Common.{take}
use Rattle.step_index.specs.Noted.{AreNoted}
use Rattle.step_index.proofs.rebuild.places_of.Given as goal

abbrev pub invariant-loop-row : goal.invariant-loop-row
invariant-loop-row l = AreNoted l.noted.entries (take l.row-index l.rows)
