use Rattle.tab_one_pass.proofs.passing.serve_and_tell.Given as goal

abbrev pub ghost-serve_all : goal.ghost-serve_all
ghost-serve_all g a = g.p

abbrev pub ghost-tell_all : goal.ghost-tell_all
ghost-tell_all g a = g.p
