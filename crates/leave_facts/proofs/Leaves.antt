-- A document that a request leaves may be left: it was asked, or had no need to be.
use Rattle.std.proofs.Common.{◌≡◌, Bool, true, false, ◌&&◌, [], Some, refl}
use Rattle.std.specs.Prelude.{is_some}
use Rattle.tab_ids.specs.declared.DocId.{DocId}
use Rattle.tab_ids.specs.declared.NavId.{NavId}
use Rattle.tab_ids.specs.declared.ReqId.{ReqId}
use Rattle.tab_ids.specs.declared.Step.{Step}
use Rattle.log_model.specs.Checks.{may_be_left, was_asked}
use Rattle.log_model.specs.Equal.{has_doc, implies}
use Rattle.log_model.specs.Events.{Point}
use Rattle.log_model.specs.History.{has_nav, has_row, used_step_at}
use Rattle.log_model.specs.Places.{shower_of, way_of}
use Rattle.log_model.specs.Seen.{Asked, Document, Place, document_of, place_of, request_of}
use Rattle.leave_facts.specs.Leaving.{AreAsked, IsGoing, IsLoading, WasAwake, stays_at, BelowAsked, IsBelow}

-- where each document that is left, was awake and has a handler was asked, it may be left
left_so : (p : Point) (doc : DocId) (req : ReqId) (q : Asked) (d : Document) → request_of p.now req ≡ Some q → document_of p.now doc ≡ Some d → (has_doc q.awake_then doc ≡ true → is_some d.slot ≡ true → was_asked q doc ≡ true) → may_be_left p doc req ≡ true
left_so p doc req q d found there asked =
    rw found (rw there (by_tests (has_doc q.awake_then doc) (is_some (shower_of p.start doc)) (is_some d.slot) (was_asked q doc) asked))
  where
    by_tests : (a b c e : Bool) → (a ≡ true → c ≡ true → e ≡ true) → implies (a && b && c) e ≡ true
    by_tests true true true e asks = asks refl refl
    by_tests true true false e asks = refl
    by_tests true false c e asks = refl
    by_tests false b c e asks = refl

module _ (p : Point) (asked : AreAsked p.now) (doc : DocId) (d : Document) (there : document_of p.now doc ≡ Some d) (placed : has_row d.nav p.now.history.rows ≡ true) where
  awake_then : (q : Asked) → has_doc q.awake_then doc ≡ true → WasAwake p.now q doc d
  awake_then q awake = record { found = there; awake = awake; placed = placed }

  -- one that doesn't stay where the traversal goes may be left for it
  pub left_going : (req : ReqId) (q : Asked) (goal : Step) → IsGoing p.now req q goal → stays_at p.now.history.rows (used_step_at p.now.history.rows goal.0) d ≡ false → may_be_left p doc req ≡ true
  left_going req q goal is leaves =
      left_so p doc req q d is.found there (λ awake handles. asked.leavers req q goal is doc d (awake_then q awake) handles leaves)

  -- one of a navigable that is the load's, or below it, may be left for the load
  pub left_loading : (req : ReqId) (q : Asked) (nav : NavId) → IsLoading p.now req q nav → (place : Place) → place_of p.now d.nav ≡ Some place → has_nav (way_of place) nav ≡ true → may_be_left p doc req ≡ true
  left_loading req q nav is place at below =
      left_so p doc req q d is.found there (λ awake handles. asked.loads req q nav is doc d (awake_then q awake) handles place at below)

-- one of a navigable that is a load's or reload's, or below it, may be left for that, also once its change is applied
pub left_below : (p : Point) → BelowAsked p.now → (doc : DocId) (d : Document) → document_of p.now doc ≡ Some d → (req : ReqId) (q : Asked) (nav : NavId) → IsBelow p.now req q nav → (place : Place) → place_of p.now d.nav ≡ Some place → has_nav (way_of place) nav ≡ true → may_be_left p doc req ≡ true
left_below p asked doc d there req q nav is place at below =
    left_so p doc req q d is.found there (λ awake handles. asked.each req q nav is doc d there awake handles place at below)

-- a request that hasn't begun may leave any: no navigable is noted as awake for it
pub left_unbegun : (p : Point) (doc : DocId) (req : ReqId) (q : Asked) → request_of p.now req ≡ Some q → q.awake_then ≡ [] → may_be_left p doc req ≡ true
left_unbegun p doc req q found none = rw found (rw none refl)
