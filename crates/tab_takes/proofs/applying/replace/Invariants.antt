use Rattle.tab_takes.proofs.applying.replace.Given as goal

abbrev pub ghost-replace : goal.ghost-replace
ghost-replace g a = g.i.pass.event
