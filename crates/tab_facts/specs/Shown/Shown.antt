-- What is true between two rows of the documents that navigables were ever shown, of document states, of ongoing loads, and of where the orders of documents lead.
-- HTML Standard, "Session history entries" ("document state") and "ongoing navigation"; what was ever shown, and orders, are this project's own.
use Rattle.std.specs.Prelude.{◌≡◌, true, Some}
use Rattle.tab_ids.specs.declared.DocId.{DocId}
use Rattle.tab_ids.specs.declared.NavId.{NavId}
use Rattle.tab_ids.specs.declared.ReqId.{ReqId}
use Rattle.log_model.specs.Equal.{has_doc}
use Rattle.seen_facts.specs.Load.Loading.{Look, is_ongoing, look_of}
use Rattle.log_model.specs.Seen.{Seen, Document, Place, awake, document_of, place_of}
use Rattle.log_model.specs.declared.request.Mode.{Mode}
use Rattle.log_model.specs.declared.request.Request.TheVariants as requests
use Rattle.std.specs.Prelude.{List, ℕ}
use Rattle.seen_facts.specs.Doc.Docs.{HasPlace}
use Rattle.tab_facts.specs.FrameWhole.Beside.{EachIsViewed}

-- the document of a number is there
pub record HasDocument (s : Seen) (doc : DocId) : Type 0 where
  pub document : Document
  pub found : document_of s doc ≡ Some document

-- each document that a navigable was ever shown is there
abbrev pub EverShownAreThere : Seen → Type 0
EverShownAreThere s =
    (nav : NavId) (place : Place) (doc : DocId) → place_of s nav ≡ Some place → has_doc place.ever_awake doc ≡ true → HasDocument s doc

-- a navigable that is awake on a document was shown it
abbrev pub AwakeWereShown : Seen → Type 0
AwakeWereShown s =
    (nav : NavId) (place : Place) (doc : DocId) → place_of s nav ≡ Some place → place.status ≡ awake doc → has_doc place.ever_awake doc ≡ true

-- the documents of one state are of one navigable
abbrev pub StatesAreOfOne : Seen → Type 0
StatesAreOfOne s =
    (doc other : DocId) (d e : Document) → document_of s doc ≡ Some d → document_of s other ≡ Some e → d.state ≡ e.state → d.nav ≡ e.nav

-- the navigable of an ongoing load is there
abbrev pub LoadsArePlaced : Seen → Type 0
LoadsArePlaced s =
    (req : ReqId) (l : Look) (nav : NavId) (mode : Mode) (address : List ℕ) → look_of s req ≡ Some l → is_ongoing l ≡ true → l.what ≡ requests.Load nav mode address → HasPlace s.places nav

-- all of it; and the orders of each document that isn't discarded lead to a view
pub record AreShown (s : Seen) : Type 0 where
  pub there : EverShownAreThere s
  pub ever : AwakeWereShown s
  pub of_one : StatesAreOfOne s
  pub placed : LoadsArePlaced s
  pub viewed : EachIsViewed s
