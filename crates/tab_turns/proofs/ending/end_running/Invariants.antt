use Rattle.tab_turns.proofs.ending.end_running.Given as goal

abbrev pub ghost-end : goal.ghost-end
ghost-end g a = g.p.event
