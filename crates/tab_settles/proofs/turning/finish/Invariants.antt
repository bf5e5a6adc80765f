use Rattle.tab_settles.proofs.turning.finish.Given as goal

abbrev pub ghost-end_running : goal.ghost-end_running
ghost-end_running g a = g.p

abbrev pub ghost-release : goal.ghost-release
ghost-release g a = g.p
