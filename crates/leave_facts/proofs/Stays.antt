-- Whom requests leave was asked for them still, where requests, documents, places and the history stay as far as that reads them.
use Rattle.std.proofs.Common.{◌≡◌, ℕ, Bool, true, false, ◌&&◌, List, Some, refl, sym, ap, ◌∙◌}
use Rattle.std.specs.Prelude.{is_none, is_some}
use Rattle.std.proofs.lemmas.Bool.{and_parts}
use Rattle.tab_ids.specs.declared.DocId.{DocId}
use Rattle.tab_ids.specs.declared.NavId.{NavId}
use Rattle.tab_ids.specs.declared.ReqId.{ReqId}
use Rattle.tab_ids.specs.declared.StateId.{StateId}
use Rattle.tab_ids.specs.declared.Step.{Step}
use Rattle.log_model.specs.declared.row.Row.{Row}
use Rattle.log_model.specs.Checks.{was_asked}
use Rattle.log_model.specs.Equal.{has_doc}
use Rattle.log_model.specs.History.{History, has_nav, has_row, used_step_at}
use Rattle.log_model.specs.Places.{is_shown, is_traversal, is_under_way, targets_state, way_of}
use Rattle.log_model.specs.Seen.{Asked, Document, Place, Seen, document_of, place_of, request_of}
use Rattle.leave_facts.specs.Leaving.{AllStay, AreAsked, IsGoing, IsLoading, LeaversAsked, LoadsAsked, WasAwake, stays_at}

-- ---- what stays

-- a request asks for what the other one did, has begun and is under way only if that one had and was, and whom that one asked it asked
pub record IsAskedAs (old q : Asked) : Type 0 where
  pub what : old.what ≡ q.what
  pub goal : old.goal ≡ q.goal
  pub awake_then : old.awake_then ≡ q.awake_then
  pub started : q.is_started ≡ true → old.is_started ≡ true
  pub going : is_under_way q ≡ true → is_under_way old ≡ true
  pub asked : (doc : DocId) → was_asked old doc ≡ true → was_asked q doc ≡ true

-- the request was there so
pub record WasThere (s : Seen) (req : ReqId) (q : Asked) : Type 0 where
  pub old : Asked
  pub found : request_of s req ≡ Some old
  pub same : IsAskedAs old q

-- each request that has begun was there so
pub record RequestsStay (s t : Seen) : Type 0 where
  pub each : (req : ReqId) (q : Asked) → request_of t req ≡ Some q → q.is_started ≡ true → WasThere s req q

-- a navigable was awake on the document as a request began
pub record IsAwakeFor (s : Seen) (doc : DocId) : Type 0 where
  pub req : ReqId
  pub q : Asked
  pub found : request_of s req ≡ Some q
  pub started : q.is_started ≡ true
  pub awake : has_doc q.awake_then doc ≡ true

-- no navigable was
pub record IsUnawake (s : Seen) (doc : DocId) : Type 0 where
  pub none : (req : ReqId) (q : Asked) → request_of s req ≡ Some q → q.is_started ≡ true → has_doc q.awake_then doc ≡ false

-- so there is no such request
pub unawake : (s : Seen) (doc : DocId) → IsUnawake s doc → IsAwakeFor s doc → ⊥
unawake s doc un for =
    let never : true ≡ false = sym for.awake ∙ un.none for.req for.q for.found for.started in cc

-- the document was there, of the same navigable and document state, and with the same handler
pub record WasDocument (s : Seen) (doc : DocId) (d : Document) : Type 0 where
  pub old : Document
  pub found : document_of s doc ≡ Some old
  pub nav : old.nav ≡ d.nav
  pub state : old.state ≡ d.state
  pub slot : old.slot ≡ d.slot

-- each document on which a navigable was awake as a request began was there so
pub record DocumentsStay (s t : Seen) : Type 0 where
  pub each : (doc : DocId) (d : Document) → IsAwakeFor s doc → document_of t doc ≡ Some d → WasDocument s doc d

-- the navigable's place was there, below those
pub record WasPlace (s : Seen) (nav : NavId) (place : Place) : Type 0 where
  pub old : Place
  pub found : place_of s nav ≡ Some old
  pub way : way_of old ≡ way_of place

-- each place of the navigable of such a document was there so
pub record PlacesStay (s t : Seen) : Type 0 where
  pub each : (doc : DocId) (d : Document) → IsAwakeFor s doc → document_of s doc ≡ Some d → (place : Place) → place_of t d.nav ≡ Some place → WasPlace s d.nav place

-- at the step the navigable is shown, and its target there has the document state
abbrev pub stays_in : List Row → ℕ → NavId → StateId → Bool
stays_in rows step nav state = is_shown rows step nav && targets_state rows step nav state

-- a navigable with an entry had one
pub record RowsStay (s t : Seen) : Type 0 where
  pub each : (doc : DocId) (d : Document) → IsAwakeFor s doc → document_of s doc ≡ Some d → has_row d.nav t.history.rows ≡ true → has_row d.nav s.history.rows ≡ true

-- who stayed at the current step stays there, and who stayed where a traversal goes as well
pub record StepsStay (s t : Seen) : Type 0 where
  pub now : (nav : NavId) (state : StateId) → has_row nav s.history.rows ≡ true → has_row nav t.history.rows ≡ true → stays_in s.history.rows s.history.current nav state ≡ true → stays_in t.history.rows t.history.current nav state ≡ true
  pub there : (goal : ℕ) (nav : NavId) (state : StateId) → has_row nav s.history.rows ≡ true → has_row nav t.history.rows ≡ true → stays_in s.history.rows s.history.current nav state ≡ true → stays_in s.history.rows (used_step_at s.history.rows goal) nav state ≡ true → stays_in t.history.rows (used_step_at t.history.rows goal) nav state ≡ true

-- one that is under way has begun
pub has_started : (q : Asked) → is_under_way q ≡ true → q.is_started ≡ true
has_started q going = (and_parts q.is_started (is_none q.ending) going).0

-- no traversal is under way
pub record IsNoneGoing (s : Seen) : Type 0 where
  pub none : (req : ReqId) (q : Asked) (goal : Step) → IsGoing s req q goal → ⊥

-- ---- a request, and a document, there and before

module _ (s t : Seen) (documents : DocumentsStay s t) (rows : RowsStay s t) where
  -- a document is awake for a request as it was
  record WasAwakeFor (req : ReqId) (q : Asked) (doc : DocId) (d : Document) : Type 0 where
    at : WasThere s req q
    was : WasDocument s doc d
    for : IsAwakeFor s doc
    awake : WasAwake s at.old doc was.old

  was_awake : (req : ReqId) (q : Asked) → q.is_started ≡ true → WasThere s req q → (doc : DocId) (d : Document) → WasAwake t q doc d → WasAwakeFor req q doc d
  was_awake req q started at doc d awake =
      record { at = at; was = was; for = for; awake = record { found = was.found; awake = for.awake; placed = rows.each doc was.old for was.found (ap (λ (n : NavId). has_row n t.history.rows) was.nav ∙ awake.placed) } }
    where
      for : IsAwakeFor s doc
      for =
          record { req = req; q = at.old; found = at.found; started = at.same.started started; awake = ap (λ (docs : List DocId). has_doc docs doc) at.same.awake_then ∙ awake.awake }

      was : WasDocument s doc d
      was = documents.each doc d for awake.found

  was_going : (req : ReqId) (q : Asked) (goal : Step) → IsGoing t req q goal → (at : WasThere s req q) → IsGoing s req at.old goal
  was_going req q goal is at =
      record {
        found = at.found;
        going = at.same.going is.going;
        traverses = ap is_traversal at.same.what ∙ is.traverses;
        goal_is = at.same.goal ∙ is.goal_is;
      }

  was_loading : (req : ReqId) (q : Asked) (nav : NavId) → IsLoading t req q nav → (at : WasThere s req q) → IsLoading s req at.old nav
  was_loading req q nav is at =
      record {
        found = at.found;
        going = at.same.going is.going;
        mode = is.mode;
        address = is.address;
        loads = at.same.what ∙ is.loads;
      }

  -- ---- a load

  -- whom a load leaves that was there was asked for it still
  pub load_stays : PlacesStay s t → LoadsAsked s → (req : ReqId) (q : Asked) (nav : NavId) → IsLoading t req q nav → WasThere s req q → (doc : DocId) (d : Document) → WasAwake t q doc d → is_some d.slot ≡ true → (place : Place) → place_of t d.nav ≡ Some place → has_nav (way_of place) nav ≡ true → was_asked q doc ≡ true
  load_stays places asked req q nav is was doc d awake handles place found above =
      it.at.same.asked doc (asked req it.at.old nav (was_loading req q nav is it.at) doc it.was.old it.awake (ap is_some it.was.slot ∙ handles) at.old at.found (ap (λ (l : List NavId). has_nav l nav) at.way ∙ above))
    where
      it : WasAwakeFor req q doc d
      it = was_awake req q (has_started q is.going) was doc d awake

      at : WasPlace s it.was.old.nav place
      at = places.each doc it.was.old it.for it.was.found place (ap (λ (n : NavId). place_of t n) it.was.nav ∙ found)

  -- ---- a traversal

  module _ (steps : StepsStay s t) (all : AllStay s) (req : ReqId) (q : Asked) (goal : Step) (is : IsGoing t req q goal) (at : WasThere s req q) (doc : DocId) (d : Document) (awake : WasAwake t q doc d) where
    it : WasAwakeFor req q doc d
    it = was_awake req q (has_started q is.going) at doc d awake

    stayed : stays_in s.history.rows s.history.current d.nav d.state ≡ true
    stayed =
        ap (λ (n : NavId). stays_in s.history.rows s.history.current n d.state) (sym it.was.nav)
        ∙ ap (λ (st : StateId). stays_in s.history.rows s.history.current it.was.old.nav st) (sym it.was.state)
        ∙ all req it.at.old goal (was_going req q goal is it.at) doc it.was.old it.awake

    had_row : has_row d.nav s.history.rows ≡ true
    had_row = ap (λ (n : NavId). has_row n s.history.rows) (sym it.was.nav) ∙ it.awake.placed

    -- a document stays at the current step still
    pub one_stays : stays_at t.history.rows t.history.current d ≡ true
    one_stays = steps.now d.nav d.state had_row awake.placed stayed

    -- one that the traversal leaves was asked for it still
    pub leaver_stays : LeaversAsked s → is_some d.slot ≡ true → stays_at t.history.rows (used_step_at t.history.rows goal.0) d ≡ false → was_asked q doc ≡ true
    leaver_stays asked handles leaves =
        it.at.same.asked doc (asked req it.at.old goal (was_going req q goal is it.at) doc it.was.old it.awake (ap is_some it.was.slot ∙ handles) left)
      where
        left : stays_at s.history.rows (used_step_at s.history.rows goal.0) it.was.old ≡ false
        left =
            ap (λ (n : NavId). stays_in s.history.rows (used_step_at s.history.rows goal.0) n it.was.old.state) it.was.nav
            ∙ ap (λ (st : StateId). stays_in s.history.rows (used_step_at s.history.rows goal.0) d.nav st) it.was.state
            ∙ by_test (stays_in s.history.rows (used_step_at s.history.rows goal.0) d.nav d.state) refl
          where
            by_test : (b : Bool) → stays_in s.history.rows (used_step_at s.history.rows goal.0) d.nav d.state ≡ b → stays_in s.history.rows (used_step_at s.history.rows goal.0) d.nav d.state ≡ false
            by_test false e = e
            by_test true e =
                let never : true ≡ false = sym (steps.there goal.0 d.nav d.state had_row awake.placed stayed e) ∙ leaves in
                absurd cc

-- ---- all of it

-- where all of that stays, whom requests leave was asked for them still
pub asked_stays : (s t : Seen) → RequestsStay s t → DocumentsStay s t → PlacesStay s t → RowsStay s t → StepsStay s t → AreAsked s → AreAsked t
asked_stays s t requests documents places rows steps asked =
    record {
      stay = λ req q goal is doc d awake. one_stays s t documents rows steps asked.stay req q goal is (requests.each req q is.found (has_started q is.going)) doc d awake;
      leavers = λ req q goal is doc d awake handles leaves. leaver_stays s t documents rows steps asked.stay req q goal is (requests.each req q is.found (has_started q is.going)) doc d awake asked.leavers handles leaves;
      loads = λ req q nav is. load_stays s t documents rows places asked.loads req q nav is (requests.each req q is.found (has_started q is.going));
    }

-- where the history stays, so do those with entries
pub rows_same : (s t : Seen) → t.history ≡ s.history → RowsStay s t
rows_same s t same =
    record { each = λ doc d for found has. ap (λ (h : History). has_row d.nav h.rows) (sym same) ∙ has }

-- and so do those who stay at its steps
pub steps_same : (s t : Seen) → t.history ≡ s.history → StepsStay s t
steps_same s t same =
    record {
      now = λ nav state had has is. ap (λ (h : History). stays_in h.rows h.current nav state) same ∙ is;
      there = λ goal nav state had has now is. ap (λ (h : History). stays_in h.rows (used_step_at h.rows goal) nav state) same ∙ is;
    }

-- where requests, documents and places stay, and the history is the same, whom requests leave was asked for them still
pub asked_same : (s t : Seen) → t.history ≡ s.history → RequestsStay s t → DocumentsStay s t → PlacesStay s t → AreAsked s → AreAsked t
asked_same s t same requests documents places asked =
    asked_stays s t requests documents places (rows_same s t same) (steps_same s t same) asked

-- where no traversal is under way, and none was, only loads are to be looked at
pub asked_alone : (s t : Seen) → RequestsStay s t → DocumentsStay s t → PlacesStay s t → RowsStay s t → IsNoneGoing t → AreAsked s → AreAsked t
asked_alone s t requests documents places rows none asked =
    record {
      stay = λ req q goal is. absurd (none.none req q goal is);
      leavers = λ req q goal is. absurd (none.none req q goal is);
      loads = λ req q nav is. load_stays s t documents rows places asked.loads req q nav is (requests.each req q is.found (has_started q is.going));
    }
