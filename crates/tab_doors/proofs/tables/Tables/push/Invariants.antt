use Rattle.tab_doors.proofs.tables.Tables.push.Given as goal

abbrev pub ghost-change : goal.ghost-change
ghost-change g a = g.e
