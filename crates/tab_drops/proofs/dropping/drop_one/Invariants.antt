use Rattle.tab_drops.proofs.dropping.drop_one.Given as goal

abbrev pub ghost-drop_load : goal.ghost-drop_load
ghost-drop_load g a = g.p.event
