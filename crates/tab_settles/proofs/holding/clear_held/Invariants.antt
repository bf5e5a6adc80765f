use Rattle.tab_settles.proofs.holding.clear_held.Given as goal

abbrev pub ghost-clear_out : goal.ghost-clear_out
ghost-clear_out g a = g.h.pass
