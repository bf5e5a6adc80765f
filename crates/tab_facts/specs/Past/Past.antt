-- What is true between two rows of the documents of a navigable: but for the one that it was shown last, each is under epochs before its own, with all that comes to it and all that it made.
-- HTML Standard, "apply the history step"; epochs are this project's own.
use Rattle.seen_facts.specs.Coord.Epochs.{IsWithin}
use Rattle.seen_facts.specs.Entry.Entries.{waiting}
use Rattle.log_model.specs.Seen.{Document, Place, Seen, desk_of, document_of, place_of}
use Rattle.log_model.specs.declared.made.Made.{Made}
use Rattle.std.specs.Prelude.{List, Some, pred, ◌≡◌, ◌⊎◌}
use Rattle.tab_ids.specs.declared.DocId.{DocId}

-- with these at hand of what documents made
abbrev pub ArePast : List Made → Seen → Type 0
ArePast hand s =
    (doc : DocId) (d : Document) (place : Place) → document_of s doc ≡ Some d → place_of s d.nav ≡ Some place → (place.last ≡ Some doc) ⊎ IsWithin (waiting s hand) (desk_of s d.proc) d (pred place.epoch.0)
