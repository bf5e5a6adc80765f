-- What is true between two rows of each document that is kept for traversal, and of the document that each navigable was shown last.
-- HTML Standard, "Documents kept for traversal" (the back/forward cache): a document that was left, is not fully active and may be shown again; that they stand in the order in which they were left is this project's own.
use Rattle.std.specs.Prelude.{◌≡◌, Bool, true, false, ◌==◌, List, filter_map, Option, Some, option_map}
use Rattle.tab_ids.specs.declared.DocId.{DocId}
use Rattle.tab_ids.specs.declared.NavId.{NavId}
use Rattle.tab_ids.specs.declared.StateId.{StateId}
use Rattle.log_model.specs.Equal.{holds}
use Rattle.log_model.specs.Seen.{Seen, Document, Place, place_in, place_of}
use Rattle.seen_facts.specs.Hang.Members.{Has}
use Rattle.seen_facts.specs.Home.Homes.{document_in}
use Rattle.seen_facts.specs.Coord.Apart.{AreApart}

-- a document that is made, of the navigable
pub record IsMadeFor (documents : List Document) (nav : NavId) (doc : DocId) : Type 0 where
  pub d : Document
  pub found : document_in documents doc ≡ Some d
  pub nav_is : d.nav.0 ≡ nav.0
  pub ready : d.is_ready ≡ true

-- the place shows that the document is the one that its navigable was shown last
abbrev pub is_last : DocId → Place → Bool
is_last doc place = holds (λ (last : DocId). last.0 == doc.0) place.last

-- a document that is kept: it is made and there, and its navigable was shown another one since
pub record IsKeptDoc (documents : List Document) (places : List Place) (doc : DocId) : Type 0 where
  pub d : Document
  pub found : document_in documents doc ≡ Some d
  pub ready : d.is_ready ≡ true
  pub undiscarded : d.is_discarded ≡ false
  pub unknown : d.is_known_dead ≡ false
  pub place : Place
  pub placed : place_in places d.nav ≡ Some place
  pub left : is_last doc place ≡ false

-- all of it: of each kept document, which are kept once, and of the one that each navigable was shown last
pub record AreKeptDocs (s : Seen) : Type 0 where
  pub each : (doc : DocId) → Has s.kept doc → IsKeptDoc s.documents s.places doc
  pub apart : AreApart (λ (doc : DocId). doc.0) s.kept
  pub lasts : (nav : NavId) (place : Place) (doc : DocId) → place_of s nav ≡ Some place → place.last ≡ Some doc → IsMadeFor s.documents nav doc

-- the document state of a document, and those of the kept ones, the one left last in front
abbrev pub state_in : List Document → DocId → Option StateId
state_in documents doc = option_map (λ (d : Document). d.state) (document_in documents doc)

abbrev pub kept_states : Seen → List StateId
kept_states s = filter_map (state_in s.documents) s.kept
