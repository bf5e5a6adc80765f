-- What is true of every log: the document that a navigable was shown last was shown to it, and so was each document that is kept for traversal, to some navigable; and the document states on which a navigable and those above it hang follow one another.
-- HTML Standard, "Documents kept for traversal" (the back/forward cache): a document is kept once it was active, and left; "Child navigables" and "Nested histories".
use Rattle.seen_facts.specs.Hang.Members.{Has}
use Rattle.log_model.specs.Equal.{has_doc}
use Rattle.log_model.specs.Seen.{Place, Seen, place_in}
use Rattle.std.specs.Prelude.{List, Some, [], true, ◌∷◌, ◌≡◌}
use Rattle.tab_ids.specs.declared.DocId.{DocId}
use Rattle.tab_ids.specs.declared.NavId.{NavId}
use Rattle.tab_ids.specs.declared.StateId.{StateId}

-- the document that each navigable was shown last was shown to it
abbrev pub LastWereShown : List Place → Type 0
LastWereShown places =
    (nav : NavId) (place : Place) (doc : DocId) → place_in places nav ≡ Some place → place.last ≡ Some doc → has_doc place.ever_awake doc ≡ true

-- the document was shown to a navigable
pub record WasEverShown (places : List Place) (doc : DocId) : Type 0 where
  pub nav : NavId
  pub place : Place
  pub placed : place_in places nav ≡ Some place
  pub ever : has_doc place.ever_awake doc ≡ true

-- a navigable hangs on its own document state, and then on those of its parent
pub record IsOwnedAs (places : List Place) (place : Place) (parent : NavId) : Type 0 where
  pub up : Place
  pub there : place_in places parent ≡ Some up
  pub owner : StateId
  pub owners : place.owners ≡ owner ∷ up.owners

-- so does each, but for the top, which hangs on none
pub record OwnersFollow (places : List Place) : Type 0 where
  pub child : (nav : NavId) (place : Place) (parent : NavId) (others : List NavId) → place_in places nav ≡ Some place → place.above ≡ parent ∷ others → IsOwnedAs places place parent
  pub top : (nav : NavId) (place : Place) → place_in places nav ≡ Some place → place.above ≡ [] → place.owners ≡ []

-- all of it
pub record WereShown (s : Seen) : Type 0 where
  pub lasts : LastWereShown s.places
  pub kept : (doc : DocId) → Has s.kept doc → WasEverShown s.places doc
  pub owned : OwnersFollow s.places
