use Rattle.tab_settles.proofs.turning.take_turn.Given as goal

abbrev pub ghost-finish : goal.ghost-finish
ghost-finish g a = g.p

abbrev pub ghost-begin : goal.ghost-begin
ghost-begin g a = g.p
