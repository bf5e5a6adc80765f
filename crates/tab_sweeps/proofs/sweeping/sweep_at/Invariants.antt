use Rattle.std.proofs.Common.{None, true}
use Rattle.tab_sweeps.proofs.sweeping.sweep_at.Given as goal

abbrev pub ghost-discard : goal.ghost-discard
ghost-discard g a = record { pass = g.n.pass; move = None; docs = g.n.docs; sweeps = true }
