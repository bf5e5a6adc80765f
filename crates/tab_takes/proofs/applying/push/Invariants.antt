use Rattle.tab_takes.proofs.applying.push.Given as goal

abbrev pub ghost-push : goal.ghost-push
ghost-push g a = g.i.pass.event
