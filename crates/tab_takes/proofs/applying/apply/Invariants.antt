use Rattle.tab_takes.proofs.applying.apply.Given as goal

abbrev pub ghost-push : goal.ghost-push
ghost-push g a = g.i

abbrev pub ghost-replace : goal.ghost-replace
ghost-replace g a = g.i

abbrev pub ghost-add_frame : goal.ghost-add_frame
ghost-add_frame g a = g.i

abbrev pub ghost-remove_frame : goal.ghost-remove_frame
ghost-remove_frame g a = g.i
