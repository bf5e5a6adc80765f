use Rattle.load_turns.proofs.turns.let_next.Given as goal

abbrev pub ghost-let_pass : goal.ghost-let_pass
ghost-let_pass g a = g.w
