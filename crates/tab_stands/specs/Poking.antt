-- The document that a poke of a navigable reaches.
-- HTML Standard, "active document"; what a poke reaches is this project's own.
use Rattle.log_model.specs.Formed.{poked_document, running_documents}
use Rattle.log_model.specs.History.{has_row}
use Rattle.log_model.specs.Seen.{Document, Seen, document_of}
use Rattle.std.specs.Prelude.{List, Some, true, ◌∷◌, ◌≡◌}
use Rattle.tab_ids.specs.declared.DocId.{DocId}
use Rattle.tab_ids.specs.declared.NavId.{NavId}

-- the navigable has an entry, its documents that run are these, and the poke reaches the one of the number, which is its own
pub record ReachesOne (s : Seen) (nav : NavId) (doc : DocId) : Type 0 where
  pub row : has_row nav s.history.rows ≡ true
  pub first : Document
  pub others : List Document
  pub run : running_documents s nav ≡ first ∷ others
  pub d : Document
  pub reaches : poked_document s nav ≡ Some d
  pub nr : d.nr ≡ doc
  pub found : document_of s doc ≡ Some d
  pub nav_is : d.nav ≡ nav
