use Rattle.tab_doors.proofs.tables.Tables.add_frame.Given as goal

abbrev pub ghost-make_change : goal.ghost-make_change
ghost-make_change g a = g.e
