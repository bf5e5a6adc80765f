-- A document that no navigable is awake on doesn't run, once the orders that come to it are done; but within an event, where a document is left, those that ran below it are still to be frozen or discarded.
-- HTML Standard, "active document", "Documents" ("fully active"), "apply the history step" and "destroy a document"; orders on their way, and freezing, are this project's own.
use Rattle.std.specs.Prelude.{◌≡◌, true, false, List, [], Some}
use Rattle.tab_ids.specs.declared.DocId.{DocId}
use Rattle.log_model.specs.Equal.{has_doc}
use Rattle.log_model.specs.Seen.{Seen, Document, desk_of, document_of}
use Rattle.seen_facts.specs.Rest.Resting.{IsUnshown, is_resting, will_run}

-- each document that no navigable is awake on rests, but for these
abbrev pub RestBut : List DocId → Seen → Type 0
RestBut docs s =
    (doc : DocId) (d : Document) → document_of s doc ≡ Some d → IsUnshown s doc → has_doc docs doc ≡ false → is_resting (will_run (desk_of s d.proc) d) ≡ true

-- each does: so it is between two events
abbrev pub AllRest : Seen → Type 0
AllRest s = RestBut [] s
