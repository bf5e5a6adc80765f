-- What the tables tell of a document that was just made: whether its state is needed.
-- HTML Standard, "attempt to populate the history entry's document"; that a document of no entry is discarded is this project's own.
use Rattle.log_model.specs.Equal.{holds}
use Rattle.std.specs.Prelude.{Bool, is_some}
use Rattle.tab_doors.specs.Ties.{nav_in}
use Rattle.tab_doors.specs.declared.tables.Tables.{Tables}
use Rattle.tab_ids.specs.declared.DocId.{DocId}
use Rattle.tab_ids.specs.declared.NavId.{NavId}
use Rattle.tab_ids.specs.declared.StateId.{StateId}
use Rattle.tab_sweeps.specs.Sweeping.{unneeded_in}

-- the state of the document has neither an entry nor the ongoing load of the document's navigable
abbrev pub is_unneeded_in : Tables → DocId → StateId → Bool
is_unneeded_in t doc state = holds (λ (nav : NavId). is_some (unneeded_in t nav state)) (nav_in t.whose.entries doc)
