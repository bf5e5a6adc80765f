use Rattle.std.proofs.Common.{Some, false}
use Rattle.tab_walk.proofs.cutting.cut_at.Given as goal

abbrev pub ghost-discard : goal.ghost-discard
ghost-discard g a = record { pass = g.n.cut.pass; move = Some g.n.cut.move; docs = g.n.rest; sweeps = false }
