-- What is true between two events of a tab with any number of navigables, documents and processes, none of which has died: of one in which nothing is loaded or reloaded, and of one with loads.
-- HTML Standard, "apply the history step", "session history traversal queue", "Beginning navigation" ("ongoing navigation") and "Fragment navigations"; the exact form, and the premises on loads and deaths, are this project's own.
use Rattle.std.specs.Prelude.{◌≡◌, ◌⊎◌, true, false, [], Some, None}
use Rattle.tab_ids.specs.declared.DocId.{DocId}
use Rattle.tab_ids.specs.declared.NavId.{NavId}
use Rattle.tab_ids.specs.declared.ReqId.{ReqId}
use Rattle.tab_ids.specs.declared.StateId.{StateId}
use Rattle.log_model.specs.declared.job.Job.{Job}
use Rattle.log_model.specs.declared.row.Row.{Row}
use Rattle.log_model.specs.ActsAtOnce.{ends_told, ends_stepped}
use Rattle.log_model.specs.History.{has_state}
use Rattle.log_model.specs.Orders.{is_being_made, is_usable}
use Rattle.log_model.specs.Places.{is_load, is_traversal, is_ongoing_load, has_passed, passed_traversal}
use Rattle.log_model.specs.Queue.{is_step_under_way}
use Rattle.log_model.specs.Seen.{Seen, Desk, Document, Asked, Place, lost, document_of, place_of, request_in}
use Rattle.log_model.specs.Soundness.{IsSound}
use Rattle.seen_facts.specs.Coord.Flowing.{Flows}
use Rattle.seen_facts.specs.Coord.Leading.{orders_of_desk}
use Rattle.seen_facts.specs.Coord.Apart.{AreApart}
use Rattle.seen_facts.specs.Request.Whereabouts.{is_of_load, times_found, AreOnce}
use Rattle.seen_facts.specs.Hang.Hanging.{Hangs}
use Rattle.seen_facts.specs.Hang.Members.{Has}
use Rattle.seen_facts.specs.Walk.Serving.{AreServed}
use Rattle.seen_facts.specs.Home.Homes.{AreHomed}
use Rattle.seen_facts.specs.Transit.Waiting.{AreOnTheirWay}
use Rattle.seen_facts.specs.Rest.Resting.{EachRests}

-- the documents have numbers of their own, and the entries of a document's state are its navigable's
pub record AreKept (s : Seen) : Type 0 where
  pub numbered : AreApart (λ (d : Document). d.nr.0) s.documents
  pub whose : (doc : DocId) (d : Document) (row : Row) → document_of s doc ≡ Some d → Has s.history.rows row → row.state ≡ d.state → row.nav ≡ d.nav

-- nothing died; nothing is loaded, so that a document that is made and not discarded is of a state with entries; and a step that has begun is a traversal that has passed its check, for which alone a report is held back
pub record IsPlain (s : Seen) : Type 0 where
  pub alive : (doc : DocId) (d : Document) → document_of s doc ≡ Some d → d.dead_by ≡ None
  pub unknown : (doc : DocId) (d : Document) → document_of s doc ≡ Some d → d.is_known_dead ≡ false
  pub unlost : (nav : NavId) (place : Place) → place_of s nav ≡ Some place → place.status ≡ lost → ⊥
  pub swept : (doc : DocId) (d : Document) → document_of s doc ≡ Some d → d.is_ready ≡ true → d.is_discarded ≡ false → has_state d.state s.history.rows ≡ true
  pub no_loads : (req : ReqId) → is_of_load (request_in s.requests req) ≡ false
  pub steps : (req : ReqId) (q : Asked) → request_in s.requests req ≡ Some q → is_step_under_way q ≡ true → (is_traversal q.what ≡ true) × (has_passed s q ≡ true)
  pub unparked : passed_traversal s ≡ None → s.parked ≡ []

-- all of it, with nothing at hand
pub record IsComposed (s : Seen) : Type 0 where
  pub sound : IsSound s.history
  pub hangs : Hangs s
  pub homes : AreHomed s
  pub kept : AreKept s
  pub served : AreServed s
  pub ways : AreOnTheirWay s
  pub rests : EachRests s
  pub flows : Flows s
  pub once : AreOnce s []
  pub told : ends_told s ≡ true
  pub stepped : ends_stepped s ≡ true
  pub plain : IsPlain s

-- ---- a tab with loads

-- the document is of an ongoing load
pub record IsOfLoad (s : Seen) (d : Document) : Type 0 where
  pub req : ReqId
  pub q : Asked
  pub found : request_in s.requests req ≡ Some q
  pub ongoing : is_ongoing_load q ≡ true
  pub own : q.state ≡ Some d.state

-- a document of the load is there, or is being made
pub record HasLoadDocument (s : Seen) (q : Asked) : Type 0 where
  pub state : StateId
  pub own : q.state ≡ Some state
  pub doc : DocId
  pub d : Document
  pub found : document_of s doc ≡ Some d
  pub of_state : d.state ≡ state
  pub there : (is_usable d state ≡ true) ⊎ (is_being_made d ≡ true)

-- an order is on its way to some process, or in its hand
pub record IsOrdered (s : Seen) : Type 0 where
  pub desk : Desk
  pub there : Has s.desks desk
  pub job : Job
  pub ordered : Has (orders_of_desk desk) job

-- as in a tab without loads, but that a document that is made and not discarded may be of an ongoing load, each ongoing load has a document, and an open load that is found nowhere is ongoing, or an order is on its way
pub record IsPlainWithLoads (s : Seen) : Type 0 where
  pub alive : (doc : DocId) (d : Document) → document_of s doc ≡ Some d → d.dead_by ≡ None
  pub unknown : (doc : DocId) (d : Document) → document_of s doc ≡ Some d → d.is_known_dead ≡ false
  pub unlost : (nav : NavId) (place : Place) → place_of s nav ≡ Some place → place.status ≡ lost → ⊥
  pub swept : (doc : DocId) (d : Document) → document_of s doc ≡ Some d → d.is_ready ≡ true → d.is_discarded ≡ false → (has_state d.state s.history.rows ≡ true) ⊎ IsOfLoad s d
  pub loading : (req : ReqId) (q : Asked) → request_in s.requests req ≡ Some q → is_ongoing_load q ≡ true → HasLoadDocument s q
  pub trips : (req : ReqId) (q : Asked) → request_in s.requests req ≡ Some q → is_load q.what ≡ true → q.ending ≡ None → times_found req s.desks s.joined s.parked [] ≡ 0 → (is_ongoing_load q ≡ true) ⊎ IsOrdered s
  pub steps : (req : ReqId) (q : Asked) → request_in s.requests req ≡ Some q → is_step_under_way q ≡ true → (is_traversal q.what ≡ true) × (has_passed s q ≡ true)
  pub unparked : passed_traversal s ≡ None → s.parked ≡ []

-- all of it, with loads and with nothing at hand
pub record IsComposedWithLoads (s : Seen) : Type 0 where
  pub sound : IsSound s.history
  pub hangs : Hangs s
  pub homes : AreHomed s
  pub kept : AreKept s
  pub served : AreServed s
  pub ways : AreOnTheirWay s
  pub rests : EachRests s
  pub flows : Flows s
  pub once : AreOnce s []
  pub told : ends_told s ≡ true
  pub stepped : ends_stepped s ≡ true
  pub plain : IsPlainWithLoads s
