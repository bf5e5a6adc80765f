use Rattle.tab_turns.proofs.beginning.begin_traversal.Given as goal

abbrev pub ghost-refuse : goal.ghost-refuse
ghost-refuse g a = g.p.event

abbrev pub ghost-begin : goal.ghost-begin
ghost-begin g a = g.p.event
