-- The views of the documents, by document: one that isn't there has none.
-- This project's own.
use Rattle.std.specs.Prelude.{◌≡◌, ◌+◌, ◌<◌, ◌^◌, ◌==◌, Bool, List, Option, None, Some, if◌then◌else◌}
use Rattle.std.specs.Map.{lookup}
use Rattle.tab_ids.specs.declared.DocId.{DocId}
use Rattle.log_model.specs.declared.made.Made.{Made}
use Rattle.log_model.specs.declared.request.Poke.{Poke}
use Rattle.log_model.specs.Views.{View, made_by, made_for, after_made}

-- the key is the document
abbrev pub is_doc : DocId → DocId → Bool
is_doc doc key = doc.0 == key.0

-- the view of a document
abbrev pub view_at : List (DocId × View) → DocId → Option View
view_at views doc = lookup (is_doc doc) views

-- the view of one document becomes this, and no other's changes
abbrev pub Becomes : DocId → View → List (DocId × View) → List (DocId × View) → Type 0
Becomes of view old new = (doc : DocId) → view_at new doc ≡ (if of.0 == doc.0 then Some view else view_at old doc)

-- the document is gone and has no view, and no other's changes
abbrev pub Goes : DocId → List (DocId × View) → List (DocId × View) → Type 0
Goes of old new = (doc : DocId) → view_at new doc ≡ (if of.0 == doc.0 then None else view_at old doc)

-- no view changes
abbrev pub Stays : List (DocId × View) → List (DocId × View) → Type 0
Stays old new = (doc : DocId) → view_at new doc ≡ view_at old doc

-- its numbers leave room for one entry more
pub record HasRoom (view : View) : Type 0 where
  pub index : view.index + 2 < 2 ^ 32
  pub numbered : view.numbered + 1 < 2 ^ 32

-- a document of this view made this of a poke
pub record Acts (view : View) (poke : Poke) (made : Made) (old new : List (DocId × View)) : Type 0 where
  pub what : made_by view poke.action ≡ Some made.what
  pub is : made ≡ made_for view poke.req made.what
  pub becomes : Becomes poke.doc (after_made view made.what) old new
