use Rattle.tab_takes.proofs.taking.moved_by.Given as goal

abbrev pub ghost-drop_moved : goal.ghost-drop_moved
ghost-drop_moved g a = g.i.pass.event
