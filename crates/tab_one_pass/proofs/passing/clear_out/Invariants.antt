use Rattle.tab_one_pass.proofs.passing.clear_out.Given as goal

abbrev pub ghost-sweep : goal.ghost-sweep
ghost-sweep g a = g.p

abbrev pub ghost-destroy_loads : goal.ghost-destroy_loads
ghost-destroy_loads g a = g.p
