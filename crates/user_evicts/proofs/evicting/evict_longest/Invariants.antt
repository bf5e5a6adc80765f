use Rattle.std.proofs.Common.{None}
use Rattle.user_evicts.proofs.evicting.evict_longest.Given as goal
use Rattle.user_evicts.specs.Evicting.{pass_in}

abbrev pub ghost-discard_evicted : goal.ghost-discard_evicted
ghost-discard_evicted g a = record { event = g.b.event; sweeps = g.b.check.holds }

abbrev pub ghost-discard_below : goal.ghost-discard_below
ghost-discard_below g a = record { pass = pass_in g.b; moved = None; sweeps = g.b.check.holds }
