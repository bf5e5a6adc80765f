-- A document that is to act on the first poke of its process.
-- This project's own.
use Rattle.std.specs.Prelude.{◌≡◌, true, slice_get, Some, None}
use Rattle.tab_ids.specs.declared.NavId.{NavId}
use Rattle.tab_ids.specs.declared.ProcId.{ProcId}
use Rattle.log_model.specs.declared.made.What.{What}
use Rattle.log_model.specs.declared.made.What.TheVariants as whats
use Rattle.log_model.specs.declared.request.Poke.{Poke}
use Rattle.log_model.specs.declared.request.Request.TheVariants as requests
use Rattle.log_model.specs.Views.{View}
use Rattle.log_model.specs.Seen.{Seen, Document, Asked, desk_of, document_of, request_of}

-- the first poke in the input of a process is of an open request of which nothing was made, and the document that it names runs in that process, with this view
pub record IsToAct (s : Seen) (proc : ProcId) (poke : Poke) (q : Asked) (nav : NavId) (d : Document) (view : View) : Type 0 where
  pub first : slice_get (desk_of s proc).input 0 ≡ Some poke
  pub asked : request_of s poke.req ≡ Some q
  pub unmade : q.made ≡ None
  pub unended : q.ending ≡ None
  pub asks : q.what ≡ requests.Poke nav poke.action
  pub named : q.doc ≡ Some view.doc
  pub there : document_of s view.doc ≡ Some d
  pub home : d.proc ≡ proc
  pub has : d.view ≡ Some view
  pub runs : view.running ≡ true

-- what was made is no edit: only an edit is applied in the event in which it is made
abbrev pub IsNoEdit : What → Type 0
IsNoEdit whats.Edit = ⊥
IsNoEdit _ = Unit {0}
