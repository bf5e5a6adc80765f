use Rattle.tab_passes.proofs.leaving.discard.Given as goal

abbrev pub ghost-discard : goal.ghost-discard
ghost-discard g a = record { event = g.l.pass.event; move = g.l.move; sweeps = g.l.sweeps }
