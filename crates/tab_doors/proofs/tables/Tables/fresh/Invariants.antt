use Rattle.tab_doors.proofs.tables.Tables.fresh.Given as goal

abbrev pub ghost-note_first : goal.ghost-note_first
ghost-note_first a = a.tables.now.kept.keep
