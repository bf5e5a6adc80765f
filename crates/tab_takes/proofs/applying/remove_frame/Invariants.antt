use Rattle.tab_takes.proofs.applying.remove_frame.Given as goal

abbrev pub ghost-remove_frame : goal.ghost-remove_frame
ghost-remove_frame g a = g.i.pass.event
