use Rattle.tab_one_pass.proofs.passing.give_way.Given as goal

abbrev pub ghost-drop_moved : goal.ghost-drop_moved
ghost-drop_moved g a = g.p
