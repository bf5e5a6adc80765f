use Rattle.world.proofs.delivering.take.Given as goal

abbrev pub ghost-deliver : goal.ghost-deliver
ghost-deliver g a = g.d
