-- All that holds between two rows holds after a request is refused or dropped by the coordinator, where it is no entry of a document that is shown.
use Rattle.seen_facts.proofs.Coord.Leadings.{doc_same}
use Rattle.seen_facts.proofs.Coord.Unread.{dropped_left, next, refused_left}
use Rattle.tab_facts.proofs.FrameTab.Ends.{IsToEnd, dropped_framed, refused_framed}
use Rattle.tab_facts.proofs.FrameTab.Skips.{IsNoEntry, IsPassed, made_in, without_made}
use Rattle.tab_facts.specs.FrameTab.Asking.{IsFrameRequest}
use Rattle.tab_facts.specs.FrameTab.Whole.{IsFrameTab}
use Rattle.tab_facts.proofs.FrameWhole.FlowsEnds.{dropped_if, refused_if}
use Rattle.tab_facts.specs.FrameWhole.Tab.{IsTab}
use Rattle.seen_facts.proofs.Hang.Rows.{left_hangs}
use Rattle.seen_facts.specs.Hang.Members.{Has}
use Rattle.seen_facts.proofs.Home.Rows.{left_rows}
use Rattle.seen_facts.specs.Home.Homes.{AreHomed, IsAtHome}
use Rattle.log_model.proofs.Refl.{nat_eq_refl}
use Rattle.log_model.specs.AfterRequests.{without_req}
use Rattle.log_model.specs.Causes.{denial_at_delivery}
use Rattle.log_model.specs.Equal.{has_req, holds}
use Rattle.log_model.specs.History.{has_row}
use Rattle.log_model.specs.Places.{is_awake, is_load, is_present}
use Rattle.log_model.specs.Seen.{Asked, Document, Place, Seen, document_of, place_of, request_in, request_of}
use Rattle.log_model.specs.declared.made.Made.{Made}
use Rattle.log_model.specs.declared.made.What.{What}
use Rattle.log_model.specs.declared.outcome.Cause.{Cause}
use Rattle.log_model.specs.declared.outcome.Denial.{Denial}
use Rattle.log_model.specs.declared.request.Request.{Request}
use Rattle.log_model.specs.declared.row_kind.Actor.{Actor}
use Rattle.seen_facts.specs.Each.Runs.{is_this}
use Rattle.seen_facts.proofs.Request.Endings.{dropped_once, due_small, off_desk, refused_once}
use Rattle.seen_facts.proofs.Request.KnownEnded.{dropped_known, refused_known}
use Rattle.seen_facts.specs.Request.Whereabouts.{AreOnce, is_of_load, times, times_at, times_due}
use Rattle.seen_facts.proofs.Rest.Kept.{left_kept}
use Rattle.seen_facts.proofs.Rest.Rows.{left_rests}
use Rattle.seen_laws.proofs.Keyed.{find_has}
use Rattle.seen_laws.proofs.Sums.{over}
use Rattle.std.proofs.Common.{Bool, List, None, Option, Some, [], ap, arith, cond, false, inl, inr, map, not, refl, subst, sym, true, ℕ, ◌&&◌, ◌+◌, ◌<◌, ◌==◌, ◌||◌, ◌∙◌, ◌∷◌, ◌≡◌, ◌⊎◌}
use Rattle.std.proofs.lemmas.Bool.{eqb-true}
use Rattle.std.specs.Prelude.{option_and_then}
use Rattle.tab_ids.specs.declared.DocId.{DocId}
use Rattle.tab_ids.specs.declared.NavId.{NavId}
use Rattle.tab_ids.specs.declared.ProcId.{ProcId}
use Rattle.tab_ids.specs.declared.ReqId.{ReqId}
use Rattle.seen_facts.proofs.Transit.Rows.{left_ways}
use Rattle.log_model.specs.declared.made.What.TheVariants as whats
use Rattle.log_model.specs.declared.request.Request.TheVariants as requests
use Rattle.log_model.specs.declared.row_kind.Actor.TheVariants as actors
use Rattle.log_model.specs.declared.row_kind.RowKind.TheVariants as rows

-- ---- where the request is

abbrev pub reqs_of : List Made → List ReqId
reqs_of hand = map (λ (made : Made). made.req) hand

-- the request is in the queue, held back, or at hand
abbrev pub IsCarried : List Made → Seen → ReqId → Type 0
IsCarried hand s req =
    (has_req s.joined req ≡ true) ⊎ ((has_req s.parked req ≡ true) ⊎ (has_req (reqs_of hand) req ≡ true))

pub some_times : (req : ReqId) (reqs : List ReqId) → has_req reqs req ≡ true → 0 < times req reqs
some_times req [] has = absurd cc
some_times req (r ∷ reqs) has = by_test (r.0 == req.0) has (some_times req reqs)
  where
    by_test : (b : Bool) → (b || has_req reqs req) ≡ true → (has_req reqs req ≡ true → 0 < times req reqs) → 0 < cond b 1 0 + times req reqs
    by_test true e more = omega arith
    by_test false e more = (let n : 0 < times req reqs = more e in omega (arith, n))

-- what is asked in such a tab is no load
pub no_load : (home : ProcId) (run : Option ReqId) (hand : List Made) (s : Seen) (req : ReqId) → IsFrameTab home run hand s → is_of_load (request_in s.requests req) ≡ false
no_load home run hand s req tab = by_found (request_in s.requests req) refl
  where
    by_what : (what : Request) → IsFrameRequest what → is_load what ≡ false
    by_what (requests.Go delta) is = refl
    by_what (requests.Poke nav action) is = refl
    by_what (requests.Reload nav) never = absurd never
    by_what (requests.Load nav mode address) never = absurd never

    by_found : (o : Option Asked) → request_in s.requests req ≡ o → is_of_load o ≡ false
    by_found None e = refl
    by_found (Some q) e = by_what q.what (tab.asked.each req q e).what

-- it is at no desk
pub carried_off : (home : ProcId) (run : Option ReqId) (hand : List Made) (s : Seen) (req : ReqId) → IsTab home run hand s → IsCarried hand s req → over (times_at req) s.desks ≡ 0
carried_off home run hand s req tab carried =
    off_desk s (reqs_of hand) req tab.once (no_load home run hand s req tab.framed) (by_place carried)
  where
    by_place : IsCarried hand s req → 0 < (times req s.joined + (times req s.parked + times req (reqs_of hand)))
    by_place (inl joined) = (let n : 0 < times req s.joined = some_times req s.joined joined in omega (arith, n))
    by_place (inr (inl parked)) = (let n : 0 < times req s.parked = some_times req s.parked parked in omega (arith, n))
    by_place (inr (inr held)) = (let n : 0 < times req (reqs_of hand) = some_times req (reqs_of hand) held in omega (arith, n))

-- what is at hand once what was made of the request isn't
pub reqs_without : (req : ReqId) (hand : List Made) → reqs_of (without_made req hand) ≡ without_req req (reqs_of hand)
reqs_without req [] = refl
reqs_without req (made ∷ hand) = by_test (made.req.0 == req.0) (reqs_without req hand)
  where
    by_test : (b : Bool) → reqs_of (without_made req hand) ≡ without_req req (reqs_of hand) → reqs_of (cond (not b) (made ∷ without_made req hand) (without_made req hand)) ≡ cond (not b) (made.req ∷ without_req req (reqs_of hand)) (without_req req (reqs_of hand))
    by_test true more = more
    by_test false more = ap (λ (l : List ReqId). made.req ∷ l) more

-- ---- what may go

-- what was made and isn't present is no entry of a document that is shown
pub absent_passed : (s : Seen) (made : Made) → AreHomed s → is_present s made ≡ false → IsPassed s made
absent_passed s made homes absent nav place doc placed wakes has under = absurd (let no_ : true ≡ false = sym present ∙ absent in cc)
  where
    split : (a b : Bool) → (a && b) ≡ true → (a ≡ true) × (b ≡ true)
    split true b e = (refl, e)
    split false b e = absurd cc

    docs : made.doc ≡ doc
    docs = doc_same made.doc doc (split (made.doc.0 == doc.0) (made.epoch.0 == place.epoch.0) under).0

    epochs : made.epoch.0 ≡ place.epoch.0
    epochs = eqb-true made.epoch.0 place.epoch.0 (split (made.doc.0 == doc.0) (made.epoch.0 == place.epoch.0) under).1

    at : IsAtHome s.documents place.nav doc
    at = (homes.homed nav place doc placed wakes).home

    its_nav : place.nav ≡ nav
    its_nav =
        ap (λ (n : ℕ). let x : NavId = record { 0 = n } in x) (find_has (λ (x : Place). x.nav.0) nav.0 s.places place placed)

    present : is_present s made ≡ true
    present =
        ap (λ (o : Option Document). holds (λ (d : Document). holds (λ (p : Place). is_awake p && p.epoch.0 == made.epoch.0) (place_of s d.nav)) o) (ap (λ (x : DocId). document_of s x) docs ∙ at.found)
        ∙ ap (λ (o : Option Place). holds (λ (p : Place). is_awake p && p.epoch.0 == made.epoch.0) o) (ap (λ (x : NavId). place_of s x) (at.nav_is ∙ its_nav) ∙ placed)
        ∙ ap (λ (b : Bool). b && place.epoch.0 == made.epoch.0) (let is : is_awake place ≡ true = rw wakes refl in is)
        ∙ ap (λ (n : ℕ). place.epoch.0 == n) epochs
        ∙ nat_eq_refl place.epoch.0

-- nor is what was made by a document whose navigable has no row
pub bare_passed : (s : Seen) (made : Made) (d : Document) → AreHomed s → document_of s made.doc ≡ Some d → has_row d.nav s.history.rows ≡ false → IsPassed s made
bare_passed s made d homes found bare nav place doc placed wakes has under =
    absurd (let no_ : true ≡ false = sym has ∙ (ap (λ (n : NavId). has_row n s.history.rows) (sym same) ∙ bare) in cc)
  where
    docs : made.doc ≡ doc
    docs = doc_same made.doc doc (first (made.doc.0 == doc.0) (made.epoch.0 == place.epoch.0) under)
      where
        first : (a b : Bool) → (a && b) ≡ true → a ≡ true
        first true b e = refl
        first false b e = absurd cc

    at : IsAtHome s.documents place.nav doc
    at = (homes.homed nav place doc placed wakes).home

    same : d.nav ≡ place.nav
    same =
        let both : Some at.document ≡ Some d = sym at.found ∙ (ap (λ (x : DocId). document_of s x) (sym docs) ∙ found) in
        let one : at.document ≡ d = cc in
        ap (λ (x : Document). x.nav) (sym one) ∙ at.nav_is

-- a reason to refuse what was made is a new frame's, or that of one to be removed
pub denied_none : (s : Seen) (made : Made) (reason : Denial) → denial_at_delivery s made ≡ Some reason → IsNoEntry made.what
denied_none s made reason is = by_what made.what refl
  where
    by_what : (what : What) → made.what ≡ what → IsNoEntry what
    by_what (whats.Push entry memo address) e = (let none : denial_at_delivery s made ≡ None = rw e refl in let never : None ≡ Some reason = sym none ∙ is in absurd cc)
    by_what (whats.Replace over entry memo address) e = (let none : denial_at_delivery s made ≡ None = rw e refl in let never : None ≡ Some reason = sym none ∙ is in absurd cc)
    by_what (whats.AddFrame nav) e = tt
    by_what (whats.RemoveFrame nav) e = tt
    by_what (whats.Go delta) e = tt
    by_what whats.Edit e = tt

-- what is at hand of the request is what was made of it
abbrev pub IsItsHand : List Made → ReqId → Made → Type 0
IsItsHand hand req made = (other : Made) → Has hand other → (other.req.0 == req.0) ≡ true → other ≡ made

-- what was made of a request may go
pub made_ends : (run : Option ReqId) (hand : List Made) (s : Seen) (req : ReqId) (q : Asked) (made : Made) → is_this run req ≡ false → request_of s req ≡ Some q → q.made ≡ Some made → IsItsHand hand req made → IsPassed s made → IsToEnd run hand s req
made_ends run hand s req q made other there makes its passed =
    record {
      other = other;
      held = λ r m same parked of.
          (let req_is : r ≡ req = ap (λ (n : ℕ). let x : ReqId = record { 0 = n } in x) (eqb-true r.0 req.0 same) in
          let is : made_in s.requests req ≡ Some made = ap (λ (o : Option Asked). option_and_then (λ (x : Asked). x.made) o) there ∙ makes in
          let both : Some made ≡ Some m = sym is ∙ (ap (λ (x : ReqId). made_in s.requests x) (sym req_is) ∙ of) in
          let same_made_ : made ≡ m = cc in
          subst (IsPassed s) same_made_ passed);
      at_hand = λ m has same. subst (IsPassed s) (sym (its m has same)) passed;
    }

-- a request that is in the queue is neither held back nor at hand
pub joined_ends : (home : ProcId) (run : Option ReqId) (hand : List Made) (s : Seen) (req : ReqId) → IsTab home run hand s → is_this run req ≡ false → has_req s.joined req ≡ true → IsToEnd run hand s req
joined_ends home run hand s req tab other joined =
    record {
      other = other;
      held = λ r m same parked of. absurd (none_parked (subst (λ (x : ReqId). has_req s.parked x ≡ true) (req_is r same) parked));
      at_hand = λ m has same. absurd (none_held (has_held hand m has same));
    }
  where
    req_is : (r : ReqId) → (r.0 == req.0) ≡ true → r ≡ req
    req_is r same = ap (λ (n : ℕ). let x : ReqId = record { 0 = n } in x) (eqb-true r.0 req.0 same)

    once : over (times_at req) s.desks + (times req s.joined + (times req s.parked + times req (reqs_of hand))) ≡ times_due (request_in s.requests req)
    once = tab.once req (no_load home run hand s req tab.framed)

    small : times_due (request_in s.requests req) < 2
    small = due_small (request_in s.requests req)

    low : over (times_at req) s.desks + (times req s.joined + (times req s.parked + times req (reqs_of hand))) < 2
    low = subst (λ (n : ℕ). n < 2) (sym once) small

    none_parked : has_req s.parked req ≡ true → ⊥
    none_parked has = omega (arith, low, some_times req s.joined joined, some_times req s.parked has)

    none_held : has_req (reqs_of hand) req ≡ true → ⊥
    none_held has = omega (arith, low, some_times req s.joined joined, some_times req (reqs_of hand) has)

    has_held : (mades : List Made) (m : Made) → Has mades m → (m.req.0 == req.0) ≡ true → has_req (reqs_of mades) req ≡ true
    has_held [] m has same = absurd has
    has_held (x ∷ mades) m (inl is) same = (let one : (x.req.0 == req.0) ≡ true = ap (λ (y : Made). y.req.0 == req.0) is ∙ same in rw one refl)
    has_held (x ∷ mades) m (inr has) same = rw (has_held mades m has same) (either (x.req.0 == req.0))
      where
        either : (b : Bool) → (b || true) ≡ true
        either true = refl
        either false = refl

-- ---- the rows

module _ (home : ProcId) (run : Option ReqId) (hand : List Made) (s : Seen) (event : ℕ) (tab : IsTab home run hand s) (req : ReqId) (end : IsToEnd run hand s req) (carried : IsCarried hand s req) where
  off : over (times_at req) s.desks ≡ 0
  off = carried_off home run hand s req tab carried

  pub refused_tab : (reason : Denial) → IsTab home run (without_made req hand) (next s event actors.Coord (rows.Refused req reason))
  refused_tab reason =
      record {
        framed = refused_framed home run hand s tab.framed req end event reason;
        sound = tab.sound;
        hangs = left_hangs s event actors.Coord tab.hangs (rows.Refused req reason) tt;
        homes = left_rows s event actors.Coord tab.homes (rows.Refused req reason) tt;
        kept = left_kept s event actors.Coord tab.kept (rows.Refused req reason) tt;
        ways = left_ways s event actors.Coord tab.ways (rows.Refused req reason) (refused_left s event actors.Coord req reason) refl refl;
        rests = left_rests s event actors.Coord tab.rests (rows.Refused req reason) (refused_left s event actors.Coord req reason) refl refl refl;
        flows = refused_if s event run hand req end actors.Coord reason tab.flows;
        once = subst (λ (l : List ReqId). AreOnce (next s event actors.Coord (rows.Refused req reason)) l) (sym (reqs_without req hand)) (refused_once s (reqs_of hand) event req reason (λ loads. off) tab.once);
        known = refused_known s event req off tab.known reason;
      }

  pub dropped_tab : (actor : Actor) (cause : Cause) → IsTab home run (without_made req hand) (next s event actor (rows.Dropped req cause))
  dropped_tab actor cause =
      record {
        framed = dropped_framed home run hand s tab.framed req end event actor cause;
        sound = tab.sound;
        hangs = left_hangs s event actor tab.hangs (rows.Dropped req cause) tt;
        homes = left_rows s event actor tab.homes (rows.Dropped req cause) tt;
        kept = left_kept s event actor tab.kept (rows.Dropped req cause) tt;
        ways = left_ways s event actor tab.ways (rows.Dropped req cause) (dropped_left s event actor req cause) refl refl;
        rests = left_rests s event actor tab.rests (rows.Dropped req cause) (dropped_left s event actor req cause) refl refl refl;
        flows = dropped_if s event run hand req end actor cause tab.flows;
        once = subst (λ (l : List ReqId). AreOnce (next s event actor (rows.Dropped req cause)) l) (sym (reqs_without req hand)) (dropped_once s (reqs_of hand) event req actor cause (λ loads. off) tab.once);
        known = dropped_known s event req off tab.known actor cause;
      }
