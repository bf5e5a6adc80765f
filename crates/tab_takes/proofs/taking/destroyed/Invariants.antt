use Rattle.tab_takes.proofs.taking.destroyed.Given as goal

abbrev pub ghost-destroy : goal.ghost-destroy
ghost-destroy g a = g.i.pass.event
