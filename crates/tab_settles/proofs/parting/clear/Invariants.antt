use Rattle.tab_settles.proofs.parting.clear.Given as goal

abbrev pub ghost-clear : goal.ghost-clear
ghost-clear g a = g.h.pass
