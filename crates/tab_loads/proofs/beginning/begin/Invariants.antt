use Rattle.tab_loads.proofs.beginning.begin.Given as goal

abbrev pub ghost-give_way : goal.ghost-give_way
ghost-give_way g a = g.l

abbrev pub ghost-replaces : goal.ghost-replaces
ghost-replaces g a = g.l.event

abbrev pub ghost-begin_load : goal.ghost-begin_load
ghost-begin_load g a = g.l.event

abbrev pub ghost-make_load : goal.ghost-make_load
ghost-make_load g a = g.l.event
