-- Whom a load or a reload leaves was asked for it, also once its change is applied: each document with a handler, at or below its navigable, on which a navigable was awake as it began.
use Rattle.std.proofs.Common.{◌≡◌, true, List, Some, ap, ◌∙◌}
use Rattle.std.specs.Prelude.{is_some}
use Rattle.tab_ids.specs.declared.DocId.{DocId}
use Rattle.tab_ids.specs.declared.NavId.{NavId}
use Rattle.tab_ids.specs.declared.ReqId.{ReqId}
use Rattle.log_model.specs.Checks.{was_asked}
use Rattle.log_model.specs.Equal.{has_doc}
use Rattle.log_model.specs.History.{has_nav}
use Rattle.log_model.specs.Places.{way_of}
use Rattle.log_model.specs.Seen.{Asked, Document, Place, Seen, document_of, place_of}
use Rattle.leave_facts.specs.Leaving.{LoadsAsked, leaves_nav, IsBelow, BelowAsked}
use Rattle.leave_facts.proofs.Stays.{DocumentsStay, IsAwakeFor, PlacesStay, RequestsStay, WasDocument, WasPlace, WasThere, has_started}

-- so it was for each load that is under way
pub below_loads : (s : Seen) → BelowAsked s → LoadsAsked s
below_loads s asked req q nav is doc d awake handles place at below =
    asked.each req q nav (record { found = is.found; started = has_started q is.going; leaves = ap leaves_nav is.loads }) doc d awake.found awake.awake handles place at below

-- of a request that was there, it stays so, where documents and places stay
pub one_below : (s t : Seen) → DocumentsStay s t → PlacesStay s t → BelowAsked s → (req : ReqId) (q : Asked) (nav : NavId) → IsBelow t req q nav → WasThere s req q → (doc : DocId) (d : Document) → document_of t doc ≡ Some d → has_doc q.awake_then doc ≡ true → is_some d.slot ≡ true → (place : Place) → place_of t d.nav ≡ Some place → has_nav (way_of place) nav ≡ true → was_asked q doc ≡ true
one_below s t documents places asked req q nav is was doc d found awake handles place at below =
    was.same.asked doc (asked.each req was.old nav (record { found = was.found; started = was.same.started is.started; leaves = ap leaves_nav was.same.what ∙ is.leaves }) doc old.old old.found awake_old (ap is_some old.slot ∙ handles) there.old there.found (ap (λ (l : List NavId). has_nav l nav) there.way ∙ below))
  where
    awake_old : has_doc was.old.awake_then doc ≡ true
    awake_old = ap (λ (docs : List DocId). has_doc docs doc) was.same.awake_then ∙ awake

    for : IsAwakeFor s doc
    for =
        record { req = req; q = was.old; found = was.found; started = was.same.started is.started; awake = awake_old }

    old : WasDocument s doc d
    old = documents.each doc d for found

    there : WasPlace s old.old.nav place
    there = places.each doc old.old for old.found place (ap (λ (n : NavId). place_of t n) old.nav ∙ at)

-- where requests stay as well, it stays so of all
pub below_stays : (s t : Seen) → RequestsStay s t → DocumentsStay s t → PlacesStay s t → BelowAsked s → BelowAsked t
below_stays s t requests documents places asked =
    record { each = λ req q nav is doc d found awake handles place at below. one_below s t documents places asked req q nav is (requests.each req q is.found is.started) doc d found awake handles place at below }
