use Rattle.tab_begins.proofs.taking.take_load.Given as goal

abbrev pub ghost-apply_ready : goal.ghost-apply_ready
ghost-apply_ready g a = g.r

abbrev pub ghost-drop_below : goal.ghost-drop_below
ghost-drop_below g a = g.r.pass
