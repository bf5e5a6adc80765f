use Rattle.load_doors.proofs.applying.apply_load.Given as goal

abbrev pub ghost-change : goal.ghost-change
ghost-change g a = g.a.event
