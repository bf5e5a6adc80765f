use Rattle.tab_one_pass.proofs.passing.clear.Given as goal

abbrev pub ghost-give_way : goal.ghost-give_way
ghost-give_way g a = g.p

abbrev pub ghost-clear_out : goal.ghost-clear_out
ghost-clear_out g a = g.p
