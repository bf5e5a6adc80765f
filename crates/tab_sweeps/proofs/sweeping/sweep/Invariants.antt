use Rattle.tab_sweeps.proofs.sweeping.sweep.Given as goal

abbrev pub ghost-sweep_each : goal.ghost-sweep_each
ghost-sweep_each g a = g.p
