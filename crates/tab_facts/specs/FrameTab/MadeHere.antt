-- Where what was made was made.
-- This project's own; HTML Standard, "URL and history update steps".
use Rattle.log_model.specs.Seen.{Seen, Document, Place, awake, document_of, place_of}
use Rattle.log_model.specs.declared.made.Made.{Made}
use Rattle.std.specs.Prelude.{◌≡◌, true, ◌==◌, Some}

-- where it was made: its document's navigable is awake on it, under the epoch in which it was made
pub record IsMadeHere (s : Seen) (made : Made) (d : Document) : Type 0 where
  pub found : document_of s made.doc ≡ Some d
  pub place : Place
  pub placed : place_of s d.nav ≡ Some place
  pub wakes : place.status ≡ awake made.doc
  pub under : (made.epoch.0 == place.epoch.0) ≡ true
