-- When what a document made is taken up where it is.
-- HTML Standard, "URL and history update steps", "create a new child navigable" and "destroy a child navigable"; what is held back is this project's own.
use Rattle.tab_facts.specs.Frame.Lasting.{IsLasting}
use Rattle.tab_facts.specs.FrameTab.MadeHere.{IsMadeHere}
use Rattle.tab_facts.specs.FrameWhole.FirstWaiting.{IsFirstWaiting}
use Rattle.tab_facts.specs.FrameWhole.Beside.{AreEverGiven}
use Rattle.tab_facts.specs.FrameWhole.Tab.{IsTab}
use Rattle.log_model.specs.History.{has_row}
use Rattle.log_model.specs.Once.{has_to_begin}
use Rattle.log_model.specs.Places.{is_traversal}
use Rattle.log_model.specs.Seen.{Asked, Document, Seen, request_of}
use Rattle.log_model.specs.declared.made.Made.{Made}
use Rattle.std.specs.Prelude.{List, None, Option, Some, [], false, true, ◌∷◌, ◌≡◌, ◌⊎◌}
use Rattle.tab_ids.specs.declared.ProcId.{ProcId}
use Rattle.tab_ids.specs.declared.ReqId.{ReqId}

-- it is at hand, or the first that is held back
abbrev pub IsWaitingHere : List Made → Seen → ReqId → Made → Type 0
IsWaitingHere hand s req made = ((hand ≡ made ∷ []) × (made.req ≡ req)) ⊎ ((rest : List ReqId) × (s.parked ≡ req ∷ rest))

-- it waits first, was made by the document that its navigable is awake on, under its epoch, and this navigable has an entry; its request doesn't begin
pub record IsToTakeUp (home : ProcId) (run : Option ReqId) (hand : List Made) (s : Seen) (made : Made) : Type 0 where
  pub tab : IsTab home run hand s
  pub ever : AreEverGiven s
  pub lasting : IsLasting s
  pub q : Asked
  pub there : request_of s made.req ≡ Some q
  pub makes : q.made ≡ Some made
  pub unstarted : q.is_started ≡ false
  pub rests : has_to_begin q.what ≡ false
  pub first : IsFirstWaiting hand s made.req made
  pub d : Document
  pub here : IsMadeHere s made d
  pub has : has_row d.nav s.history.rows ≡ true

-- the report is of an open request that pokes its document and asks for no traversal
pub record IsItsReport (s : Seen) (made : Made) : Type 0 where
  pub q : Asked
  pub there : request_of s made.req ≡ Some q
  pub makes : q.made ≡ Some made
  pub doc_is : q.doc ≡ Some made.doc
  pub open_ : q.ending ≡ None
  pub rests : is_traversal q.what ≡ false
