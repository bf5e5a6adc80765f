use Rattle.tab_drops.proofs.dropping.drop_if_moved.Given as goal

abbrev pub ghost-drop_one : goal.ghost-drop_one
ghost-drop_one g a = g.p
