use Rattle.tab_loads.proofs.cutting.cut_off.Given as goal

abbrev pub ghost-drop_new : goal.ghost-drop_new
ghost-drop_new g a = g.l.event
