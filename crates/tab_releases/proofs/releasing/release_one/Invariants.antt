use Rattle.tab_releases.proofs.releasing.release_one.Given as goal

abbrev pub ghost-take : goal.ghost-take
ghost-take g a = g.p
