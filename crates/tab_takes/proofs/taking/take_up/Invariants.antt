use Rattle.tab_takes.proofs.taking.take_up.Given as goal

abbrev pub ghost-apply : goal.ghost-apply
ghost-apply g a = g.i

abbrev pub ghost-denied : goal.ghost-denied
ghost-denied g a = g.i
