-- The documents that are left as an order puts navigables to sleep, or shows one another document.
-- HTML Standard, "active document" and "apply the history step"; which navigables fall asleep is this project's own.
use Rattle.std.specs.Prelude.{List, [], ◌∷◌, None, filter_map, if◌then◌else◌}
use Rattle.std.specs.Option.{option_map_or}
use Rattle.tab_ids.specs.declared.DocId.{DocId}
use Rattle.tab_ids.specs.declared.NavId.{NavId}
use Rattle.log_model.specs.AfterPlaces.{sleepers_below, sleepers_with, without_doc}
use Rattle.log_model.specs.History.{has_nav}
use Rattle.log_model.specs.Places.{awake_document}
use Rattle.log_model.specs.Seen.{Seen, Place, place_of}

-- the documents that these navigables are awake on
abbrev pub shown_by : List NavId → List Place → List DocId
shown_by navs places =
    filter_map (λ (place : Place). if has_nav navs place.nav then awake_document place else None) places

-- those that are left as the document is frozen or discarded: of who falls asleep with it, but the document itself
abbrev pub left_below : Seen → DocId → List DocId
left_below s doc = without_doc doc (shown_by (sleepers_with s doc) s.places)

-- those that are left as the navigable is shown the document: the one that it showed, and of who falls asleep for it
abbrev pub left_for : Seen → DocId → NavId → List DocId
left_for s doc nav =
    without_doc doc (shown_by (nav ∷ option_map_or (sleepers_below s doc) (place_of s nav) []) s.places)
