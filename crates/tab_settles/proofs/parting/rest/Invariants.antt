use Rattle.tab_settles.proofs.parting.rest.Given as goal

abbrev pub ghost-serve_and_tell : goal.ghost-serve_and_tell
ghost-serve_and_tell g a = g.h.pass
