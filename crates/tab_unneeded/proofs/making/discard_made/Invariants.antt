use Rattle.std.proofs.Common.{None, []}
use Rattle.tab_unneeded.proofs.making.discard_made.Given as goal
use Rattle.tab_unneeded.specs.Made.{pass_in}

abbrev pub ghost-discard : goal.ghost-discard
ghost-discard g a = record { pass = pass_in g.m; move = None; docs = []; sweeps = g.m.check.holds }
