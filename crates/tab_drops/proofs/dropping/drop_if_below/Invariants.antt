use Rattle.tab_drops.proofs.dropping.drop_if_below.Given as goal

abbrev pub ghost-drop_one : goal.ghost-drop_one
ghost-drop_one g a = g.p
