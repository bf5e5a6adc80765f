use Rattle.tab_passes.proofs.telling.tell_one.Given as goal

abbrev pub ghost-tell : goal.ghost-tell
ghost-tell g a = g.p.event
