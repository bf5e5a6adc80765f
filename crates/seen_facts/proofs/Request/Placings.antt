-- Where each request is, as one is accepted, something is made of it, or the report of that is delivered.
use Rattle.std.proofs.Common.{◌≡◌, ℕ, ◌+◌, Bool, true, false, ◌==◌, List, [], ◌∷◌, ◌++◌, drop, length, Option, Some, None, refl, sym, ap, ◌∙◌, subst, arith}
use Rattle.std.specs.Prelude.{filter_map, slice_get, if◌then◌else◌}
use Rattle.std.proofs.lemmas.Bool.Decides.{nat_tests}
use Rattle.std.proofs.lemmas.List.Elements.{filter_map-append}
use Rattle.tab_ids.specs.declared.DocId.{DocId}
use Rattle.tab_ids.specs.declared.NavId.{NavId}
use Rattle.tab_ids.specs.declared.ProcId.{ProcId}
use Rattle.tab_ids.specs.declared.ReqId.{ReqId}
use Rattle.log_model.specs.declared.action.Action.{Action}
use Rattle.log_model.specs.declared.made.Made.{Made}
use Rattle.log_model.specs.declared.made.Report.{Report}
use Rattle.log_model.specs.declared.made.Report.TheVariants as reports
use Rattle.log_model.specs.declared.made.What.{What}
use Rattle.log_model.specs.declared.made.What.TheVariants as whats
use Rattle.log_model.specs.declared.request.Poke.{Poke}
use Rattle.log_model.specs.declared.request.Request.{Request}
use Rattle.log_model.specs.declared.request.Request.TheVariants as requests
use Rattle.log_model.specs.declared.row_kind.Actor.{Actor}
use Rattle.log_model.specs.declared.row_kind.RowKind.TheVariants as rows
use Rattle.log_model.specs.Seen.{Seen, Document, Desk, Asked, document_of, desk_of, desk_in, request_in}
use Rattle.log_model.specs.After.{on_desk, desk_made, desks_made, desk_delivered, follows_finished, new_request, reports_made}
use Rattle.log_model.specs.AfterRequests.{on_request, made_of_report, joined_delivered, is_held_back}
use Rattle.seen_laws.specs.Acting.{IsNoEdit}
use Rattle.seen_laws.proofs.Sums.{over, over_on}
use Rattle.seen_facts.proofs.Coord.Held.{on_alike}
use Rattle.seen_facts.proofs.Coord.OneMade.{reported}
use Rattle.seen_facts.proofs.Coord.Unread.{next}
use Rattle.seen_facts.specs.Request.Whereabouts.{times, poked, answered_by, times_at, times_found, times_due, is_of_load, AreOnce}
use Rattle.seen_facts.proofs.Request.Cores.{delivered_cores}
use Rattle.seen_facts.proofs.Request.LookUps.{one_more, none_before, others_before}
use Rattle.seen_facts.proofs.Request.Times.{times_append}
use Rattle.seen_facts.proofs.Request.Onces.{SameDues, SameTimes, once_moved, once_again, one_desk}

-- once where the numbers are the same, else not
abbrev pub one_if : ReqId → ReqId → ℕ
one_if req r = if req.0 == r.0 then 1 else 0

-- ---- a request is accepted

-- the next request is at one place
pub accepted_once : (s t : Seen) (hand hand_ : List ReqId) (req : ReqId) (doc : Option DocId) (what : Request) → req.0 ≡ length s.requests + 1 → t.requests ≡ s.requests ++ new_request req doc what ∷ [] → ((r : ReqId) → times_found r t.desks t.joined t.parked hand_ ≡ times_found r s.desks s.joined s.parked hand + one_if req r) → AreOnce s hand → AreOnce t hand_
accepted_once s t hand hand_ req doc what nr requests times_ each r no_load =
    by_number (req.0 == r.0) refl
  where
    q : Asked
    q = new_request req doc what

    by_number : (b : Bool) → (req.0 == r.0) ≡ b → times_found r t.desks t.joined t.parked hand_ ≡ times_due (request_in t.requests r)
    by_number true e =
        let same : req ≡ r = (let n : req.0 ≡ r.0 = grind (arith, nat_tests, e) in ap (λ (i : ℕ). let x : ReqId = record { 0 = i } in x) n) in
        let none : request_in s.requests r ≡ None = subst (λ (x : ReqId). request_in s.requests x ≡ None) same (none_before s.requests q req nr) in
        let here : request_in t.requests r ≡ Some q = ap (λ (l : List Asked). request_in l r) requests ∙ subst (λ (x : ReqId). request_in (s.requests ++ q ∷ []) x ≡ Some q) same (one_more s.requests q req nr) in
        let was : times_found r s.desks s.joined s.parked hand ≡ 0 = each r (rw none refl) ∙ rw none refl in
        let due : times_due (request_in t.requests r) ≡ 1 = rw here refl in
        let one : one_if req r ≡ 1 = rw e refl in
        omega (arith, times_ r, was, due, one)
    by_number false e =
        let there : request_in t.requests r ≡ request_in s.requests r = ap (λ (l : List Asked). request_in l r) requests ∙ others_before s.requests q req nr r e in
        let was : times_found r s.desks s.joined s.parked hand ≡ times_due (request_in s.requests r) = each r (ap is_of_load (sym there) ∙ no_load) in
        let due : times_due (request_in t.requests r) ≡ times_due (request_in s.requests r) = ap times_due there in
        let one : one_if req r ≡ 0 = rw e refl in
        omega (arith, times_ r, was, due, one)

-- a desk with a poke more
abbrev with_poke : Poke → Desk → Desk
with_poke poke desk = record desk { input = desk.input ++ poke ∷ [] }

poked_more : (poke : Poke) (r : ReqId) (pokes : List Poke) → times r (poked (pokes ++ poke ∷ [])) ≡ times r (poked pokes) + one_if poke.req r
poked_more poke r [] = omega arith
poked_more poke r (p ∷ pokes) = omega (arith, poked_more poke r pokes)

module _ (s : Seen) (hand : List ReqId) (event : ℕ) (actor : Actor) (req : ReqId) (nr : req.0 ≡ length s.requests + 1) where
  -- a traversal joins the queue
  pub go_once : (delta : _) → AreOnce s hand → AreOnce (next s event actor (rows.Accepted req None (requests.Go delta))) hand
  go_once delta each =
      accepted_once s (next s event actor (rows.Accepted req None (requests.Go delta))) hand hand req None (requests.Go delta) nr refl
      (λ r. let more : times r (s.joined ++ req ∷ []) ≡ times r s.joined + (one_if req r + 0) = times_append r s.joined (req ∷ []) in omega (arith, more)) each

  -- a poke joins the input of its document's process
  pub poke_once : (doc : DocId) (d : Document) (nav : NavId) (action : Action) → document_of s doc ≡ Some d → AreOnce s hand → AreOnce (next s event actor (rows.Accepted req (Some doc) (requests.Poke nav action))) hand
  poke_once doc d nav action found each =
      accepted_once s (next s event actor (rows.Accepted req (Some doc) (requests.Poke nav action))) hand hand req (Some doc) (requests.Poke nav action) nr refl counted each
    where
      counted : (r : ReqId) → times_found r (next s event actor (rows.Accepted req (Some doc) (requests.Poke nav action))).desks s.joined s.parked hand ≡ times_found r s.desks s.joined s.parked hand + one_if req r
      counted r =
          rw found (let more : over (times_at r) (on_desk d.proc (with_poke (record { req = req; doc = doc; action = action })) s.desks) + times_at r (desk_in s.desks d.proc) ≡ over (times_at r) s.desks + times_at r (with_poke (record { req = req; doc = doc; action = action }) (desk_in s.desks d.proc)) = over_on (times_at r) (with_poke (record { req = req; doc = doc; action = action })) s.desks d.proc refl in
          let one : times r (poked ((desk_in s.desks d.proc).input ++ record { req = req; doc = doc; action = action } ∷ [])) ≡ times r (poked (desk_in s.desks d.proc).input) + one_if req r = poked_more (record { req = req; doc = doc; action = action }) r (desk_in s.desks d.proc).input in
          omega (arith, more, one))

  -- a poke that reaches no document is at hand
  pub stray_once : (nav : NavId) (action : Action) → AreOnce s hand → AreOnce (next s event actor (rows.Accepted req None (requests.Poke nav action))) (req ∷ hand)
  stray_once nav action each =
      accepted_once s (next s event actor (rows.Accepted req None (requests.Poke nav action))) hand (req ∷ hand) req None (requests.Poke nav action) nr refl
      (λ r. omega arith) each

-- ---- something is made of a request

-- what was made of a request doesn't tell whether it is open
made_dues : (asked : List Asked) (made : Made) → SameDues asked (on_request made.req (λ q. record q { made = Some made }) asked)
made_dues asked made =
    record {
      loads = λ r. on_alike is_of_load asked made.req (λ q. record q { made = Some made }) r (λ q. refl);
      dues = λ r. on_alike times_due asked made.req (λ q. record q { made = Some made }) r (λ q. refl);
    }

-- the first poke of an input
pub first_poked : (r : ReqId) (pokes : List Poke) (poke : Poke) → slice_get pokes 0 ≡ Some poke → times r (poked pokes) ≡ one_if poke.req r + times r (poked (drop 1 pokes))
first_poked r [] poke first = cc
first_poked r (p ∷ pokes) poke first = let same : p ≡ poke = cc in rw same refl

module _ (s : Seen) (hand : List ReqId) (event : ℕ) (actor : Actor) (proc : ProcId) (made : Made) (poke : Poke) (first : slice_get (desk_of s proc).input 0 ≡ Some poke) (of_poke : poke.req ≡ made.req) (is : IsNoEdit made.what) (anew : follows_finished s (record { event = event; actor = actor; row = rows.Made proc made }) ≡ false) where
  -- a document makes something of its first poke, which a report then tells of
  pub made_once : AreOnce s hand → AreOnce (next s event actor (rows.Made proc made)) hand
  made_once each =
      once_moved s (next s event actor (rows.Made proc made)) hand hand (made_dues s.requests made)
      (one_desk s (next s event actor (rows.Made proc made)) hand proc (desk_made made) (ap (λ (b : Bool). on_desk proc (desks_made b made) s.desks) anew) counted refl refl) each
    where
      told : filter_map made_of_report (desk_made made (desk_of s proc)).reports ≡ filter_map made_of_report (desk_of s proc).reports ++ made ∷ []
      told =
          ap (λ (waiting : List Report). filter_map made_of_report waiting) (reported (desk_of s proc).reports made made.what is)
          ∙ filter_map-append made_of_report (desk_of s proc).reports (reports.Made made ∷ [])

      one_told : (r : ReqId) (mades : List Made) → times r (answered_by (mades ++ made ∷ [])) ≡ times r (answered_by mades) + one_if made.req r
      one_told r [] = omega arith
      one_told r (m ∷ mades) = omega (arith, one_told r mades)

      counted : (r : ReqId) → times_at r (desk_made made (desk_of s proc)) ≡ times_at r (desk_of s proc)
      counted r =
          let all : times r (answered_by (filter_map made_of_report (desk_made made (desk_of s proc)).reports)) ≡ times r (answered_by (filter_map made_of_report (desk_of s proc).reports)) + one_if made.req r = ap (λ (l : List Made). times r (answered_by l)) told ∙ one_told r (filter_map made_of_report (desk_of s proc).reports) in
          let was : times r (poked (desk_of s proc).input) ≡ one_if made.req r + times r (poked (drop 1 (desk_of s proc).input)) = first_poked r (desk_of s proc).input poke first ∙ ap (λ (q : ReqId). one_if q r + times r (poked (drop 1 (desk_of s proc).input))) of_poke in
          omega (arith, all, was)

-- it edits itself, which no report tells of: its request is at hand
module _ (s : Seen) (hand : List ReqId) (event : ℕ) (actor : Actor) (proc : ProcId) (made : Made) (poke : Poke) (first : slice_get (desk_of s proc).input 0 ≡ Some poke) (of_poke : poke.req ≡ made.req) (is : made.what ≡ whats.Edit) (anew : follows_finished s (record { event = event; actor = actor; row = rows.Made proc made }) ≡ false) where
  abbrev pub once_edited : Seen
  once_edited = next s event actor (rows.Made proc made)

  pub edited_once : AreOnce s hand → AreOnce once_edited (made.req ∷ hand)
  edited_once each =
      once_moved s once_edited hand (made.req ∷ hand) (made_dues s.requests made) counted each
    where
      desks : once_edited.desks ≡ on_desk proc (desk_made made) s.desks
      desks = ap (λ (b : Bool). on_desk proc (desks_made b made) s.desks) anew

      untold : (desk_made made (desk_of s proc)).reports ≡ (desk_of s proc).reports
      untold = ap (λ (w : What). reports_made (desk_of s proc).reports made w) is

      less : (r : ReqId) → times_at r (desk_of s proc) ≡ one_if made.req r + times_at r (desk_made made (desk_of s proc))
      less r =
          let was : times r (poked (desk_of s proc).input) ≡ one_if made.req r + times r (poked (drop 1 (desk_of s proc).input)) = first_poked r (desk_of s proc).input poke first ∙ ap (λ (q : ReqId). one_if q r + times r (poked (drop 1 (desk_of s proc).input))) of_poke in
          let same : times r (answered_by (filter_map made_of_report (desk_made made (desk_of s proc)).reports)) ≡ times r (answered_by (filter_map made_of_report (desk_of s proc).reports)) = ap (λ (l : List Report). times r (answered_by (filter_map made_of_report l))) untold in
          omega (arith, was, same)

      counted : SameTimes s hand once_edited (made.req ∷ hand)
      counted r =
          let more : over (times_at r) (on_desk proc (desk_made made) s.desks) + times_at r (desk_of s proc) ≡ over (times_at r) s.desks + times_at r (desk_made made (desk_of s proc)) = over_on (times_at r) (desk_made made) s.desks proc refl in
          let now_ : over (times_at r) once_edited.desks ≡ over (times_at r) (on_desk proc (desk_made made) s.desks) = ap (λ (l : List Desk). over (times_at r) l) desks in
          omega (arith, more, now_, less r)

-- ---- a report is delivered

-- a report that tells of nothing made
pub untold_once : (s : Seen) (hand : List ReqId) (event : ℕ) (actor : Actor) (proc : ProcId) (report : Report) → slice_get (desk_of s proc).reports 0 ≡ Some report → made_of_report report ≡ None → AreOnce s hand → AreOnce (next s event actor (rows.Delivered proc)) hand
untold_once s hand event actor proc report first none each =
    once_again s (next s event actor (rows.Delivered proc)) hand hand (delivered_cores (slice_get (desk_of s proc).reports 0) s.requests)
    (one_desk s (next s event actor (rows.Delivered proc)) hand proc desk_delivered refl (λ r. ap (λ (n : ℕ). times r (poked (desk_of s proc).input) + n) (ap (λ (l : List Made). times r (answered_by l)) (less (desk_of s proc).reports first))) (rw first (rw none refl)) (rw first (rw none refl))) each
  where
    less : (waiting : List Report) → slice_get waiting 0 ≡ Some report → filter_map made_of_report (drop 1 waiting) ≡ filter_map made_of_report waiting
    less [] is = cc
    less (x ∷ waiting) is = let same : x ≡ report = cc in rw same (rw none refl)

-- it is no traversal that a document asks for
abbrev pub IsNoGo : What → Type 0
IsNoGo (whats.Go delta) = ⊥
IsNoGo _ = Unit {0}

module _ (s : Seen) (hand : List ReqId) (event : ℕ) (actor : Actor) (proc : ProcId) (report : Report) (made : Made) (first : slice_get (desk_of s proc).reports 0 ≡ Some report) (tells : made_of_report report ≡ Some made) where
  abbrev pub once_delivered : Seen
  once_delivered = next s event actor (rows.Delivered proc)

  -- the report is gone from its desk
  less_told : (r : ReqId) → over (times_at r) (on_desk proc desk_delivered s.desks) + one_if made.req r ≡ over (times_at r) s.desks
  less_told r =
      let more : over (times_at r) (on_desk proc desk_delivered s.desks) + times_at r (desk_of s proc) ≡ over (times_at r) s.desks + times_at r (desk_delivered (desk_of s proc)) = over_on (times_at r) desk_delivered s.desks proc refl in
      let told : times r (answered_by (filter_map made_of_report (desk_of s proc).reports)) ≡ one_if made.req r + times r (answered_by (filter_map made_of_report (drop 1 (desk_of s proc).reports))) = one_less (desk_of s proc).reports first in
      omega (arith, more, told)
    where
      one_less : (waiting : List Report) → slice_get waiting 0 ≡ Some report → times r (answered_by (filter_map made_of_report waiting)) ≡ one_if made.req r + times r (answered_by (filter_map made_of_report (drop 1 waiting)))
      one_less [] is = cc
      one_less (x ∷ waiting) is = let same : x ≡ report = cc in rw same (rw tells refl)

  -- a traversal that a document asks for joins the queue
  pub go_delivered_once : (delta : _) → made.what ≡ whats.Go delta → AreOnce s hand → AreOnce once_delivered hand
  go_delivered_once delta is each =
      once_again s once_delivered hand hand (delivered_cores (slice_get (desk_of s proc).reports 0) s.requests) counted each
    where
      queued : once_delivered.joined ≡ s.joined ++ made.req ∷ []
      queued = rw first (rw tells (rw is refl))

      unheld : once_delivered.parked ≡ s.parked
      unheld = rw first (rw tells (rw is refl))

      counted : SameTimes s hand once_delivered hand
      counted r =
          let one : times r (s.joined ++ made.req ∷ []) ≡ times r s.joined + (one_if made.req r + 0) = times_append r s.joined (made.req ∷ []) in
          rw queued (rw unheld (omega (arith, less_told r, one)))

  pub unqueued : IsNoGo made.what → once_delivered.joined ≡ s.joined
  unqueued is = rw first (rw tells (by_what made.what refl is))
    where
      by_what : (what : What) → made.what ≡ what → IsNoGo what → joined_delivered s.joined (Some made) ≡ s.joined
      by_what (whats.Go delta) e is_ = elim is_ [ ]
      by_what (whats.Push entry memo address) e is_ = rw e refl
      by_what (whats.Replace over_ entry memo address) e is_ = rw e refl
      by_what (whats.AddFrame nav) e is_ = rw e refl
      by_what (whats.RemoveFrame nav) e is_ = rw e refl
      by_what whats.Edit e is_ = rw e refl

  -- what is held back
  pub held_once : IsNoGo made.what → is_held_back s made ≡ true → AreOnce s hand → AreOnce once_delivered hand
  held_once is held each =
      once_again s once_delivered hand hand (delivered_cores (slice_get (desk_of s proc).reports 0) s.requests) counted each
    where
      parked_ : once_delivered.parked ≡ s.parked ++ made.req ∷ []
      parked_ = rw first (rw tells (rw held refl))

      counted : SameTimes s hand once_delivered hand
      counted r =
          let one : times r (s.parked ++ made.req ∷ []) ≡ times r s.parked + (one_if made.req r + 0) = times_append r s.parked (made.req ∷ []) in
          rw (unqueued is) (rw parked_ (omega (arith, less_told r, one)))

  -- and else it is at hand
  pub at_hand_once : IsNoGo made.what → is_held_back s made ≡ false → AreOnce s hand → AreOnce once_delivered (made.req ∷ hand)
  at_hand_once is held each =
      once_again s once_delivered hand (made.req ∷ hand) (delivered_cores (slice_get (desk_of s proc).reports 0) s.requests) counted each
    where
      parked_ : once_delivered.parked ≡ s.parked
      parked_ = rw first (rw tells (rw held refl))

      counted : SameTimes s hand once_delivered (made.req ∷ hand)
      counted r = rw (unqueued is) (rw parked_ (omega (arith, less_told r)))
