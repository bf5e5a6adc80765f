use Rattle.tab_takes.proofs.applying.add_frame.Given as goal

abbrev pub ghost-add_frame : goal.ghost-add_frame
ghost-add_frame g a = g.i.pass.event
