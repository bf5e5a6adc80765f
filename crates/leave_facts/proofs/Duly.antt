-- A document that a request leaves duly: why it does, that it does still once another row came, and that it may be left then.
use Rattle.std.proofs.Common.{◌≡◌, ℕ, Bool, true, false, List, Some, None, ap, refl, subst, sym, ◌∙◌, ◌&&◌, []}
use Rattle.std.specs.Prelude.{is_some}
use Rattle.tab_ids.specs.declared.DocId.{DocId}
use Rattle.tab_ids.specs.declared.NavId.{NavId}
use Rattle.tab_ids.specs.declared.ReqId.{ReqId}
use Rattle.tab_ids.specs.declared.Step.{Step}
use Rattle.log_model.specs.After.{after}
use Rattle.log_model.specs.Checks.{may_be_left, was_asked}
use Rattle.log_model.specs.Equal.{has_doc, holds, implies}
use Rattle.log_model.specs.Events.{Point}
use Rattle.log_model.specs.History.{has_nav, has_row, used_step_at}
use Rattle.log_model.specs.Places.{shower_of, way_of}
use Rattle.log_model.specs.Seen.{Asked, Document, Place, Seen, document_of, place_of, request_of}
use Rattle.log_model.specs.declared.row_kind.Actor.{Actor}
use Rattle.log_model.specs.declared.row_kind.RowKind.{RowKind}
use Rattle.leave_facts.proofs.Rows.{IsKeeping, LeavesAll, row_leaves}
use Rattle.leave_facts.proofs.Stays.{WasDocument, WasThere}
use Rattle.leave_facts.proofs.Unbegun.{AreNotedLate}
use Rattle.leave_facts.specs.Leaving.{AreAsked, BelowAsked, IsBelow, IsGoing, IsLeftDuly, stays_at}
use Rattle.std.proofs.lemmas.Option.{same_Some}

-- ---- why

-- a request that hasn't begun leaves each duly
pub late_duly : (s : Seen) (doc : DocId) (req : ReqId) (q : Asked) → request_of s req ≡ Some q → q.is_started ≡ false → IsLeftDuly s doc req
late_duly s doc req q at unbegun =
    record { asked = λ x d there began found awake handles. (let same : q ≡ x = same_Some _ _ (sym at ∙ there) in let never : true ≡ false = sym began ∙ ap (λ (y : Asked). y.is_started) (sym same) ∙ unbegun in absurd cc) }

-- a traversal whoever has an entry and doesn't stay where it goes
pub going_duly : (s : Seen) → AreAsked s → (doc : DocId) (d : Document) → document_of s doc ≡ Some d → has_row d.nav s.history.rows ≡ true → (req : ReqId) (q : Asked) (goal : Step) → IsGoing s req q goal → stays_at s.history.rows (used_step_at s.history.rows goal.0) d ≡ false → IsLeftDuly s doc req
going_duly s asked doc d there placed req q goal going leaves =
    record { asked = λ x y at began found awake handles. by_same x y (same_Some _ _ (sym going.found ∙ at)) (same_Some _ _ (sym there ∙ found)) awake handles }
  where
    by_same : (x : Asked) (y : Document) → q ≡ x → d ≡ y → has_doc x.awake_then doc ≡ true → is_some y.slot ≡ true → was_asked x doc ≡ true
    by_same x y qs ds awake handles =
        subst (λ (z : Asked). was_asked z doc ≡ true) qs
        (asked.leavers req q goal going doc d (record { found = there; awake = ap (λ (z : Asked). has_doc z.awake_then doc) qs ∙ awake; placed = placed }) (ap (λ (z : Document). is_some z.slot) ds ∙ handles) leaves)

-- a load or reload whoever is at or below its navigable
pub below_duly : (s : Seen) → BelowAsked s → (doc : DocId) (d : Document) → document_of s doc ≡ Some d → (req : ReqId) (q : Asked) (nav : NavId) → IsBelow s req q nav → (place : Place) → place_of s d.nav ≡ Some place → has_nav (way_of place) nav ≡ true → IsLeftDuly s doc req
below_duly s below doc d there req q nav is place at under =
    record { asked = λ x y found began at_doc awake handles. by_same x y (same_Some _ _ (sym is.found ∙ found)) (same_Some _ _ (sym there ∙ at_doc)) awake handles }
  where
    by_same : (x : Asked) (y : Document) → q ≡ x → d ≡ y → has_doc x.awake_then doc ≡ true → is_some y.slot ≡ true → was_asked x doc ≡ true
    by_same x y qs ds awake handles =
        subst (λ (z : Asked). was_asked z doc ≡ true) qs
        (below.each req q nav is doc d there (ap (λ (z : Asked). has_doc z.awake_then doc) qs ∙ awake) (ap (λ (z : Document). is_some z.slot) ds ∙ handles) place at under)

-- ---- once another row came

module _ (s : Seen) (event : ℕ) (actor : Actor) (kind : RowKind) (keeps : IsKeeping s kind) where
  abbrev then : Seen
  then = after s (record { event = event; actor = actor; row = kind })

  pub duly_still : (doc : DocId) (req : ReqId) → IsLeftDuly s doc req → IsLeftDuly then doc req
  duly_still doc req duly = record { asked = asked }
    where
      leaves : LeavesAll s event actor kind
      leaves = row_leaves s event actor kind keeps

      asked : (q : Asked) (d : Document) → request_of then req ≡ Some q → q.is_started ≡ true → document_of then doc ≡ Some d → has_doc q.awake_then doc ≡ true → is_some d.slot ≡ true → was_asked q doc ≡ true
      asked q d at began found awake handles =
          let was : WasThere s req q = leaves.requests.each req q at began in
          let before : has_doc was.old.awake_then doc ≡ true = ap (λ (docs : List DocId). has_doc docs doc) was.same.awake_then ∙ awake in
          let started : was.old.is_started ≡ true = was.same.started began in
          let document : WasDocument s doc d = leaves.documents.each doc d (record { req = req; q = was.old; found = was.found; started = started; awake = before }) found in
          was.same.asked doc (duly.asked was.old document.old was.found started document.found before (ap is_some document.slot ∙ handles))

-- ---- so it may be left

-- where the request is there, and so is the document
pub duly_left : (p : Point) → AreNotedLate p.now → (doc : DocId) (d : Document) (req : ReqId) (q : Asked) → request_of p.now req ≡ Some q → document_of p.now doc ≡ Some d → IsLeftDuly p.now doc req → may_be_left p doc req ≡ true
duly_left p late doc d req q at there duly = rw at (rw there (by_started q.is_started refl))
  where
    by_tests : (a b c e : Bool) → (a ≡ true → c ≡ true → e ≡ true) → implies (a && b && c) e ≡ true
    by_tests true true true e asks = asks refl refl
    by_tests true true false e asks = refl
    by_tests true false c e asks = refl
    by_tests false b c e asks = refl

    by_started : (b : Bool) → q.is_started ≡ b → implies (has_doc q.awake_then doc && is_some (shower_of p.start doc) && is_some d.slot) (was_asked q doc) ≡ true
    by_started true began =
        by_tests (has_doc q.awake_then doc) (is_some (shower_of p.start doc)) (is_some d.slot) (was_asked q doc) (λ awake handles. duly.asked q d at began there awake handles)
    by_started false unbegun =
        let none : q.awake_then ≡ [] = late.each req q at unbegun in rw none refl

-- or nobody was awake on it as the event began
pub unshown_left : (p : Point) (doc : DocId) (req : ReqId) (q : Asked) → request_of p.now req ≡ Some q → shower_of p.start doc ≡ None → may_be_left p doc req ≡ true
unshown_left p doc req q at none = rw at (rw none (by_awake (has_doc q.awake_then doc)))
  where
    by_awake : (a : Bool) → implies (a && false && holds (λ (d : Document). is_some d.slot) (document_of p.now doc)) (was_asked q doc) ≡ true
    by_awake true = refl
    by_awake false = refl
