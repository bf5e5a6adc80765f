use Rattle.load_asked.proofs.beginning.ask_for_load.Given as goal

abbrev pub ghost-replaces : goal.ghost-replaces
ghost-replaces g a = g.l.event

abbrev pub ghost-begin_asking : goal.ghost-begin_asking
ghost-begin_asking g a = g.l.event
