-- What a load that passes its unload check is: of a navigable that is there, without an outcome, and sent to no document; and a document state that was numbered, and is nothing's yet.
-- HTML Standard, "Beginning navigation" ("navigate") and "document state"; numbers of document states are this project's own.
use Rattle.std.specs.Prelude.{◌≡◌, ℕ, ◌≤◌, true, List, Some, None}
use Rattle.tab_ids.specs.declared.DocId.{DocId}
use Rattle.tab_ids.specs.declared.NavId.{NavId}
use Rattle.tab_ids.specs.declared.ReqId.{ReqId}
use Rattle.tab_ids.specs.declared.StateId.{StateId}
use Rattle.log_model.specs.declared.request.Mode.{Mode}
use Rattle.log_model.specs.declared.request.Request.TheVariants as requests
use Rattle.log_model.specs.declared.row.Row.{Row}
use Rattle.log_model.specs.Seen.{Asked, Document, Seen, request_of}
use Rattle.seen_facts.specs.Doc.Docs.{HasPlace}
use Rattle.seen_facts.specs.Hang.Members.{Has}
use Rattle.seen_facts.specs.Home.Homes.{document_in}
use Rattle.seen_facts.specs.Load.Loading.{Look, is_ongoing, look_of}

-- the request is a load of the navigable, which is there, it hasn't ended, and no document was sent to a fragment for it
pub record IsToPass (s : Seen) (req : ReqId) (q : Asked) (nav : NavId) (mode : Mode) (address : List ℕ) : Type 0 where
  pub there : request_of s req ≡ Some q
  pub what : q.what ≡ requests.Load nav mode address
  pub open_ : q.ending ≡ None
  pub placed : HasPlace s.places nav
  pub unsent : q.fragment ≡ None

-- the document state was numbered, and no entry, no document and no ongoing load has it
pub record IsFreshState (s : Seen) (state : StateId) : Type 0 where
  pub numbered : state.0 ≤ s.states
  pub unheld : (row : Row) → Has s.history.rows row → row.state.0 ≡ state.0 → ⊥
  pub undocumented : (doc : DocId) (d : Document) → document_in s.documents doc ≡ Some d → d.state.0 ≡ state.0 → ⊥
  pub free : (req : ReqId) (l : Look) → look_of s req ≡ Some l → is_ongoing l ≡ true → l.state ≡ Some state → ⊥
