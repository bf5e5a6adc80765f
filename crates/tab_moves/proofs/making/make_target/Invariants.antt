use Rattle.tab_moves.proofs.making.make_target.Given as goal

abbrev pub ghost-make : goal.ghost-make
ghost-make g a = g.p.event
