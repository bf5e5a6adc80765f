use Rattle.std.proofs.Common.{Some, [], false}
use Rattle.tab_evicts.proofs.evicting.evict.Given as goal
use Rattle.tab_evicts.specs.Evicting.{letting_for}

abbrev pub ghost-discard : goal.ghost-discard
ghost-discard g a = record { pass = g.m.pass; move = Some g.m.move; docs = []; sweeps = false }

abbrev pub ghost-discard_below : goal.ghost-discard_below
ghost-discard_below g a = letting_for g.m
