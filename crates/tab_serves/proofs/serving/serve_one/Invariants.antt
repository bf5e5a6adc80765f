use Rattle.tab_serves.proofs.serving.serve_one.Given as goal

abbrev pub ghost-move_to : goal.ghost-move_to
ghost-move_to g a = g.p

abbrev pub ghost-make_target : goal.ghost-make_target
ghost-make_target g a = g.p
