-- That entries of a document's state are its navigable's, of the entries that a change brings.
-- HTML Standard, "Session history entries" ("document state"); the exact form is this project's own.
use Rattle.std.specs.Prelude.{◌≡◌, Some}
use Rattle.tab_ids.specs.declared.DocId.{DocId}
use Rattle.tab_ids.specs.declared.NavId.{NavId}
use Rattle.tab_ids.specs.declared.StateId.{StateId}
use Rattle.log_model.specs.declared.change.Change.{Change}
use Rattle.log_model.specs.declared.change.Change.TheVariants as changes
use Rattle.log_model.specs.Seen.{Seen, Document, document_of}

-- each document of the state is the navigable's
abbrev pub AreOwned : Seen → NavId → StateId → Type 0
AreOwned s nav state = (doc : DocId) (d : Document) → document_of s doc ≡ Some d → state ≡ d.state → nav ≡ d.nav

-- so they are where the change brings an entry of a document state
abbrev pub BringsOwned : Seen → Change → Type 0
BringsOwned s (changes.Push nav entry state address memo) = AreOwned s nav state
BringsOwned s (changes.Replace nav over entry state address memo) = AreOwned s nav state
BringsOwned s (changes.AddFrame owner nav entry state) = AreOwned s nav state
BringsOwned s _ = Unit {0}
