use Rattle.tab_takes.proofs.taking.moved.Given as goal

abbrev pub ghost-moved_by : goal.ghost-moved_by
ghost-moved_by g a = g.i
