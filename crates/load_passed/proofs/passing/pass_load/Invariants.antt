use Rattle.load_passed.proofs.passing.pass_load.Given as goal

abbrev pub ghost-make_load : goal.ghost-make_load
ghost-make_load g a = g.l.event
