use Rattle.tab_settles.proofs.holding.rest_held.Given as goal

abbrev pub ghost-serve_and_tell : goal.ghost-serve_and_tell
ghost-serve_and_tell g a = g.h.pass
