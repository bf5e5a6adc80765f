use Rattle.std.proofs.Common.{[], false}
use Rattle.tab_evicts.proofs.below.discard_if.Given as goal
use Rattle.tab_evicts.specs.Evicting.{move_in}

abbrev pub ghost-discard : goal.ghost-discard
ghost-discard g a = record { pass = g.l.pass; move = move_in g.l; docs = []; sweeps = g.l.sweeps }
