use Rattle.tab_takes.proofs.taking.denied.Given as goal

abbrev pub ghost-deny : goal.ghost-deny
ghost-deny g a = g.i.pass.event
