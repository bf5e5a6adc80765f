-- What the rows of a traversal's turn leave, and what is known of the event in which they are put out.
use Rattle.tab_passes.specs.PassedOn.{Wish, wish}
use Rattle.seen_facts.specs.Asked.Asking.{ArePlain}
use Rattle.log_model.specs.Checks.{is_checked, may_go_on}
use Rattle.row_facts.specs.FrameRows.Lawful.{held_at_first}
use Rattle.log_model.specs.AfterRequests.{changes_history, without_req}
use Rattle.log_model.specs.Causes.{denial_at_acceptance}
use Rattle.log_model.specs.Equal.{has_req, holds, implies}
use Rattle.log_model.specs.Places.{has_passed, is_reload, is_traversal}
use Rattle.log_model.specs.Seen.{Asked, Seen, request_in, request_of}
use Rattle.log_model.specs.declared.job.Why.{Why}
use Rattle.log_model.specs.declared.row_kind.RowKind.{RowKind}
pub use Rattle.tab_passes.proofs.Goings.{goes_on}
pub use Rattle.tab_passes.proofs.Others.{out_off}
pub use Rattle.tab_passes.proofs.SetOuts.{IsBegun, KeepBegun, begun_as_it_was, begun_with, course_of, kept_begun, out_alike, sent_begun, sent_out, started_out}
pub use Rattle.tab_passes.specs.Causes.{HasSetOut}
use Rattle.tab_passes.specs.Causes.{MayCause}
use Rattle.seen_facts.proofs.Each.Courses.{was_asked, is_asked}
use Rattle.seen_facts.proofs.Request.Readers.{SameReads}
use Rattle.seen_facts.specs.Request.Cores.{Core, core, core_of}
use Rattle.seen_facts.specs.Request.Knowns.{AllOf, AreKnown, IsParked, is_go, req_itself}
use Rattle.log_model.specs.declared.made.What.{What}
use Rattle.std.proofs.lemmas.Bool.{eqb-true}
use Rattle.log_model.specs.declared.made.What.TheVariants as whats
use Rattle.seen_laws.specs.InEvent.{InEvent, now_of}
use Rattle.tab_doors.proofs.Uncut.{uncut_held}
use Rattle.std.proofs.Common.{Bool, List, None, Option, Some, [], ap, cond, false, inl, inr, length, not, refl, subst, sym, true, ℕ, ◌==◌, ◌||◌, ◌∙◌, ◌∷◌, ◌≡◌, ◌⊎◌}
use Rattle.std.specs.Prelude.{nat_lt}
use Rattle.tab_ids.specs.declared.ReqId.{ReqId}
use Rattle.tab_turns.specs.Turning.{IsTurning, IsWaiting, LeavesAlone}

-- ---- the causes of orders

pub causes_on : (s t : Seen) (run : Option ReqId) → ArePlain run t → SameReads wish s.requests t.requests → KeepBegun s.requests t.requests → (why : Why) → MayCause s why → MayCause t why
causes_on s t run plain same keep why may req is =
    record {
      goes = by_found (request_of s req) refl (may req is).goes;
      begun = kept_begun s t req keep (may req is).begun;
    }
  where
    by_found : (o : Option Asked) → request_of s req ≡ o → holds (λ (q : Asked). implies (is_checked q) (has_passed s q)) o ≡ true → may_go_on t req ≡ true
    by_found None e never = absurd cc
    by_found (Some q) e fine = (let now = is_asked wish s.requests t.requests same req q e in goes_on t run plain req now.0 now.1)

-- ---- such a row

pub record IsTurned (s t : Seen) : Type 0 where
  pub documents : t.documents ≡ s.documents
  pub places : t.places ≡ s.places
  pub rows_ : t.history.rows ≡ s.history.rows
  pub desks : t.desks ≡ s.desks
  pub kept : t.kept ≡ s.kept
  pub parked : t.parked ≡ s.parked
  pub wishes : SameReads wish s.requests t.requests
  pub begun : KeepBegun s.requests t.requests

module _ (s t : Seen) (turned : IsTurned s t) where
  pub alone_turned : (run : Option ReqId) → ArePlain run t → LeavesAlone s t
  alone_turned run plain =
      record {
        documents = turned.documents;
        places = turned.places;
        rows_ = turned.rows_;
        desks = turned.desks;
        kept = turned.kept;
        parked = turned.parked;
        wishes = turned.wishes;
        causes = causes_on s t run plain turned.wishes turned.begun;
      }

-- ---- what is known of the event

-- what was made of one that is held back changes the history, so it is no traversal
pub parked_rests : (q : Asked) (req : ReqId) → IsParked (core_of (Some q)) req → is_traversal q.what ≡ false
parked_rests q req p =
    let same : core q ≡ record { what = p.is.what; doc = p.is.doc; made = Some p.made; ending = None } = (let is : (let o : Option Core = Some (core q) in o) ≡ Some (record { what = p.is.what; doc = p.is.doc; made = Some p.made; ending = None }) = p.is.is in cc) in
    ap (λ (c : Core). is_traversal c.what) same
    ∙ first (is_traversal p.is.what) (is_reload p.is.what) (p.is.begins ∙ changes_none p.made.what p.changes)
  where
    first : (a b : Bool) → (a || b) ≡ false → a ≡ false
    first true b never = absurd cc
    first false b none = refl

    changes_none : (what : What) → changes_history what ≡ true → is_go what ≡ false
    changes_none (whats.Push entry memo address) is = refl
    changes_none (whats.Replace over entry memo address) is = refl
    changes_none (whats.AddFrame nav) is = refl
    changes_none (whats.RemoveFrame nav) is = refl
    changes_none (whats.Go delta) never = absurd cc
    changes_none whats.Edit never = absurd cc

all_rest : (s : Seen) (reqs : List ReqId) → AllOf IsParked req_itself s.requests reqs → (req : ReqId) (q : Asked) → has_req reqs req ≡ true → request_of s req ≡ Some q → is_traversal q.what ≡ false
all_rest s [] are req q never at = absurd cc
all_rest s (r ∷ reqs) are req q has at = by_test (r.0 == req.0) refl has (λ h. all_rest s reqs are.1 req q h at)
  where
    by_test : (b : Bool) → (r.0 == req.0) ≡ b → (b || has_req reqs req) ≡ true → (has_req reqs req ≡ true → is_traversal q.what ≡ false) → is_traversal q.what ≡ false
    by_test true is h more =
        let same : r ≡ req = ap (λ (n : ℕ). let x : ReqId = record { 0 = n } in x) (eqb-true r.0 req.0 is) in
        parked_rests q r (subst (λ (o : Option Asked). IsParked (core_of o) r) (ap (λ (x : ReqId). request_in s.requests x) same ∙ at) are.0)
    by_test false is h more = more h

-- it is so as the event's own row has come, where what joined isn't refused as it is accepted
pub waiting_first : (e : InEvent) → e.before ≡ [] → AreKnown (now_of e []) → ((req : ReqId) (q : Asked) → has_req (now_of e []).joined req ≡ true → request_of (now_of e []) req ≡ Some q → denial_at_acceptance e.start q.what ≡ None ⊎ (nat_lt (length e.start.requests) req.0 ≡ false)) → IsWaiting e []
waiting_first e uncut known early =
    record {
      parked = inl (uncut_held e uncut);
      apart = λ req q held at. all_rest (now_of e []) (now_of e []).parked known.parked req q (subst (λ (l : List ReqId). has_req l req ≡ true) (sym (uncut_held e uncut)) held) at;
      early = early;
    }

-- it stays so where nobody joins, requests ask as they did, and what is held back is as it was, or nothing is any more
pub waiting_on : (e : InEvent) (out more : List RowKind) → ((now_of e more).parked ≡ (now_of e out).parked) ⊎ ((now_of e more).parked ≡ []) → SameReads wish (now_of e out).requests (now_of e more).requests → ((req : ReqId) → has_req (now_of e more).joined req ≡ true → has_req (now_of e out).joined req ≡ true) → IsWaiting e out → IsWaiting e more
waiting_on e out more held same fewer waits =
    record {
      parked = by_held held waits.parked;
      apart = λ req q among at. (let w = was req q at in ap (λ (x : Wish). is_traversal x.what) (sym w.2) ∙ waits.apart req w.0 among w.1);
      early = λ req q joined at. (let w = was req q at in
          subst (λ (x : Wish). denial_at_acceptance e.start x.what ≡ None ⊎ (nat_lt (length e.start.requests) req.0 ≡ false)) w.2
          (waits.early req w.0 (fewer req joined) w.1));
    }
  where
    was : (req : ReqId) (q : Asked) → request_of (now_of e more) req ≡ Some q → (p : Asked) × (request_in (now_of e out).requests req ≡ Some p) × (wish p ≡ wish q)
    was req q at = was_asked wish (now_of e out).requests (now_of e more).requests same req q at

    by_held : ((now_of e more).parked ≡ (now_of e out).parked) ⊎ ((now_of e more).parked ≡ []) → ((now_of e out).parked ≡ held_at_first e) ⊎ ((now_of e out).parked ≡ []) → ((now_of e more).parked ≡ held_at_first e) ⊎ ((now_of e more).parked ≡ [])
    by_held (inr none) either = inr none
    by_held (inl as_it_was) (inl first) = inl (as_it_was ∙ first)
    by_held (inl as_it_was) (inr none) = inr (as_it_was ∙ none)

-- and steps may have their turns still
pub turning_on : (e : InEvent) (out more : List RowKind) → ((now_of e more).parked ≡ (now_of e out).parked) ⊎ ((now_of e more).parked ≡ []) → SameReads wish (now_of e out).requests (now_of e more).requests → ((req : ReqId) → has_req (now_of e more).joined req ≡ true → has_req (now_of e out).joined req ≡ true) → IsTurning e out → IsTurning e more
turning_on e out more held same fewer turning =
    record { waits = waiting_on e out more held same fewer turning.waits; free = turning.free }

-- so it is after such a row
pub turning_turned : (e : InEvent) (out more : List RowKind) (n : Seen) → now_of e more ≡ n → IsTurned (now_of e out) n → ((req : ReqId) → has_req n.joined req ≡ true → has_req (now_of e out).joined req ≡ true) → IsTurning e out → IsTurning e more
turning_turned e out more n is turned fewer turning =
    turning_on e out more (inl (ap (λ (s : Seen). s.parked) is ∙ turned.parked)) (subst (λ (s : Seen). SameReads wish (now_of e out).requests s.requests) (sym is) turned.wishes) (λ req joined. fewer req (ap (λ (s : Seen). has_req s.joined req) (sym is) ∙ joined)) turning

-- who is still there was there
pub still_joined : (gone req : ReqId) (reqs : List ReqId) → has_req (without_req gone reqs) req ≡ true → has_req reqs req ≡ true
still_joined gone req [] has = has
still_joined gone req (r ∷ reqs) has = by_tests (r.0 == gone.0) (r.0 == req.0) refl has (still_joined gone req reqs)
  where
    by_tests : (a b : Bool) → (r.0 == req.0) ≡ b → has_req (let l : List ReqId = cond (not a) (r ∷ without_req gone reqs) (without_req gone reqs) in l) req ≡ true → (has_req (without_req gone reqs) req ≡ true → has_req reqs req ≡ true) → (b || has_req reqs req) ≡ true
    by_tests a true e h more = refl
    by_tests true false e h more = more h
    by_tests false false e h more = more (sym (ap (λ (b : Bool). b || has_req (without_req gone reqs) req) e) ∙ h)
