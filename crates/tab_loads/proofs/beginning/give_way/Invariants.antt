use Rattle.tab_loads.proofs.beginning.give_way.Given as goal

abbrev pub ghost-drop_load : goal.ghost-drop_load
ghost-drop_load g a = g.l.event
