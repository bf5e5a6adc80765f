use Rattle.load_checks.proofs.passing.let_pass.Given as goal

abbrev pub ghost-pass_asked : goal.ghost-pass_asked
ghost-pass_asked g a = record { stage = g.w; load = a.load }
