use Rattle.world.proofs.accepting.carry_out.Given as goal

abbrev pub ghost-request : goal.ghost-request
ghost-request g a = g.e
