use Rattle.std.proofs.Common.{true}
use Rattle.tab_drops.proofs.destroying.destroy_if.Given as goal

abbrev pub ghost-destroy_load : goal.ghost-destroy_load
ghost-destroy_load g a = record { event = g.p.event; sweeps = true }
