-- Where each request is, as one ends: it is nowhere any more.
use Rattle.std.proofs.Common.{◌≡◌, ℕ, ◌+◌, ◌<◌, Bool, true, false, cond, ◌==◌, List, drop, Option, Some, None, refl, sym, ap, ◌∙◌, subst, arith}
use Rattle.std.specs.Prelude.{slice_get, option_map}
use Rattle.std.proofs.lemmas.Bool.Decides.{nat_tests}
use Rattle.tab_ids.specs.declared.ProcId.{ProcId}
use Rattle.tab_ids.specs.declared.EntryId.{EntryId}
use Rattle.tab_ids.specs.declared.ReqId.{ReqId}
use Rattle.log_model.specs.declared.change.Change.{Change}
use Rattle.log_model.specs.declared.outcome.Cause.{Cause}
use Rattle.log_model.specs.declared.outcome.Denial.{Denial}
use Rattle.log_model.specs.declared.outcome.Ending.{Ending}
use Rattle.log_model.specs.declared.outcome.Ending.TheVariants as endings
use Rattle.log_model.specs.declared.request.Poke.{Poke}
use Rattle.log_model.specs.declared.row_kind.Actor.{Actor}
use Rattle.log_model.specs.declared.row_kind.Actor.TheVariants as actors
use Rattle.log_model.specs.declared.row_kind.RowKind.TheVariants as rows
use Rattle.log_model.specs.Seen.{Seen, Desk, Asked, desk_of, request_in}
use Rattle.log_model.specs.After.{on_desk, ended}
use Rattle.log_model.specs.AfterRequests.{on_request, without_req, entries_taken}
use Rattle.seen_laws.proofs.Sums.{over, over_on}
use Rattle.seen_facts.proofs.Coord.Held.{on_alike, on_else}
use Rattle.seen_facts.proofs.Coord.Unread.{next}
use Rattle.seen_facts.specs.Request.Whereabouts.{times, poked, times_at, times_found, times_due, is_of_load, AreOnce}
use Rattle.seen_facts.proofs.Request.LookUps.{on_itself}
use Rattle.seen_facts.proofs.Request.Times.{desk_same, itself, without_it, without_other, dropped_it, dropped_other}
use Rattle.seen_facts.proofs.Request.Placings.{one_if, first_poked}

-- it is to be at one place at most
pub due_small : (o : Option Asked) → times_due o < 2
due_small None = omega arith
due_small (Some q) = by_test _
  where
    by_test : (b : Bool) → cond b 1 0 < 2
    by_test true = omega arith
    by_test false = omega arith

-- a request that was in the queue, held back or at hand is at no desk
pub off_desk : (s : Seen) (hand : List ReqId) (req : ReqId) → AreOnce s hand → is_of_load (request_in s.requests req) ≡ false → 0 < (times req s.joined + (times req s.parked + times req hand)) → over (times_at req) s.desks ≡ 0
off_desk s hand req each no_load there =
    by_due (times_due (request_in s.requests req)) (each req no_load) (due_small (request_in s.requests req))
  where
    by_due : (n : ℕ) → times_found req s.desks s.joined s.parked hand ≡ n → n < 2 → over (times_at req) s.desks ≡ 0
    by_due n once small = omega (arith, once, small, there)

-- what a row that ends a request shows: the others are as they were, it has ended, and it is nowhere
pub record IsEndOf (s t : Seen) (hand : List ReqId) (req : ReqId) : Type 0 where
  pub others : (r : ReqId) → (r.0 == req.0) ≡ false → request_in t.requests r ≡ request_in s.requests r
  pub ended : times_due (request_in t.requests req) ≡ 0
  pub joined : t.joined ≡ without_req req s.joined
  pub parked : t.parked ≡ without_req req s.parked
  pub desks : (r : ReqId) → (r.0 == req.0) ≡ false → over (times_at r) t.desks ≡ over (times_at r) s.desks
  pub off : is_of_load (request_in t.requests req) ≡ false → over (times_at req) t.desks ≡ 0

pub ended_once : (s t : Seen) (hand : List ReqId) (req : ReqId) → IsEndOf s t hand req → AreOnce s hand → AreOnce t (without_req req hand)
ended_once s t hand req end_ each r no_load =
    by_number (r.0 == req.0) refl
  where
    by_number : (b : Bool) → (r.0 == req.0) ≡ b → times_found r t.desks t.joined t.parked (without_req req hand) ≡ times_due (request_in t.requests r)
    by_number true e =
        let same : req ≡ r = (let n : req.0 ≡ r.0 = grind (arith, nat_tests, e) in ap (λ (i : ℕ). let x : ReqId = record { 0 = i } in x) n) in
        let none : times_found req t.desks t.joined t.parked (without_req req hand) ≡ 0 = rw end_.joined (rw end_.parked (omega (arith, without_it req s.joined, without_it req s.parked, without_it req hand, end_.off (subst (λ (x : ReqId). is_of_load (request_in t.requests x) ≡ false) (sym same) no_load)))) in
        subst (λ (x : ReqId). times_found x t.desks t.joined t.parked (without_req req hand) ≡ times_due (request_in t.requests x)) same (none ∙ sym end_.ended)
    by_number false e =
        let there : request_in t.requests r ≡ request_in s.requests r = end_.others r e in
        let was : times_found r s.desks s.joined s.parked hand ≡ times_due (request_in s.requests r) = each r (ap is_of_load (sym there) ∙ no_load) in
        let due : times_due (request_in t.requests r) ≡ times_due (request_in s.requests r) = ap times_due there in
        rw end_.joined (rw end_.parked (omega (arith, was, due, end_.desks r e, without_other req r s.joined e, without_other req r s.parked e, without_other req r hand e)))

-- ---- the requests

ended_due : (asked : List Asked) (req : ReqId) (ending : Ending) → times_due (request_in (ended asked req ending) req) ≡ 0
ended_due asked req ending =
    ap times_due (on_itself asked req (λ q. record q { ending = Some ending })) ∙ by_found (request_in asked req)
  where
    by_found : (o : Option Asked) → times_due (option_map (λ (q : Asked). let x : Asked = record q { ending = Some ending } in x) o) ≡ 0
    by_found None = refl
    by_found (Some q) = refl

ended_load : (asked : List Asked) (req : ReqId) (ending : Ending) → is_of_load (request_in (ended asked req ending) req) ≡ is_of_load (request_in asked req)
ended_load asked req ending =
    ap is_of_load (on_itself asked req (λ q. record q { ending = Some ending })) ∙ by_found (request_in asked req)
  where
    by_found : (o : Option Asked) → is_of_load (option_map (λ (q : Asked). let x : Asked = record q { ending = Some ending } in x) o) ≡ is_of_load o
    by_found None = refl
    by_found (Some q) = refl

abbrev with_change : Change → Asked → Asked
with_change change q = record q { change = Some change }

abbrev took_all : List EntryId → Asked → Asked
took_all entries q = record q { took = entries }

module _ (s : Seen) (hand : List ReqId) (event : ℕ) (req : ReqId) where
  abbrev applied_ : List Asked
  applied_ = ended s.requests req endings.Applied

  -- the request is at no desk
  abbrev pub IsOffDesk : Type 0
  IsOffDesk = is_of_load (request_in s.requests req) ≡ false → over (times_at req) s.desks ≡ 0

  pub refused_once : (reason : Denial) → IsOffDesk → AreOnce s hand → AreOnce (next s event actors.Coord (rows.Refused req reason)) (without_req req hand)
  refused_once reason off each =
      ended_once s (next s event actors.Coord (rows.Refused req reason)) hand req (record {
        others = λ r apart. on_else s.requests req _ r apart;
        ended = ended_due s.requests req (endings.Refused reason);
        joined = refl;
        parked = refl;
        desks = λ r apart. refl;
        off = λ no_load. off (sym (ended_load s.requests req (endings.Refused reason)) ∙ no_load);
      }) each

  -- the same, as a request is accepted
  pub denied_once : (reason : Denial) → IsOffDesk → AreOnce s hand → AreOnce (next s event actors.Ui (rows.Refused req reason)) (without_req req hand)
  denied_once reason off each =
      ended_once s (next s event actors.Ui (rows.Refused req reason)) hand req (record {
        others = λ r apart. on_else s.requests req _ r apart;
        ended = ended_due s.requests req (endings.Refused reason);
        joined = refl;
        parked = refl;
        desks = λ r apart. refl;
        off = λ no_load. off (sym (ended_load s.requests req (endings.Refused reason)) ∙ no_load);
      }) each

  pub dropped_once : (actor : Actor) (cause : Cause) → IsOffDesk → AreOnce s hand → AreOnce (next s event actor (rows.Dropped req cause)) (without_req req hand)
  dropped_once actor cause off each =
      ended_once s (next s event actor (rows.Dropped req cause)) hand req (record {
        others = λ r apart. on_else s.requests req _ r apart;
        ended = ended_due s.requests req (endings.Dropped cause);
        joined = refl;
        parked = refl;
        desks = λ r apart. dropped_other req r s.desks apart;
        off = λ no_load. dropped_it req s.desks (off (sym (ended_load s.requests req (endings.Dropped cause)) ∙ no_load));
      }) each

  pub applied_once : (actor : Actor) (change : Change) → IsOffDesk → AreOnce s hand → AreOnce (next s event actor (rows.Applied req change)) (without_req req hand)
  applied_once actor change off each =
      ended_once s (next s event actor (rows.Applied req change)) hand req (record {
        others = λ r apart. on_else (on_request req (with_change change) applied_) req (took_all (entries_taken s.history change)) r apart ∙ (on_else applied_ req (with_change change) r apart ∙ on_else s.requests req _ r apart);
        ended = told times_due (λ q. refl) (λ q. refl) ∙ ended_due s.requests req endings.Applied;
        joined = refl;
        parked = refl;
        desks = λ r apart. refl;
        off = λ no_load. off (sym (told is_of_load (λ q. refl) (λ q. refl) ∙ ended_load s.requests req endings.Applied) ∙ no_load);
      }) each
    where
      told : {B : Type 0} (read : Option Asked → B) → ((q : Asked) → read (Some (took_all (entries_taken s.history change) q)) ≡ read (Some q)) → ((q : Asked) → read (Some (with_change change q)) ≡ read (Some q)) → read (request_in (on_request req (took_all (entries_taken s.history change)) (on_request req (with_change change) applied_)) req) ≡ read (request_in applied_ req)
      told read first second =
          on_alike read (on_request req (with_change change) applied_) req (took_all (entries_taken s.history change)) req first
          ∙ on_alike read applied_ req (with_change change) req second

-- a process refuses its first poke
module _ (s : Seen) (hand : List ReqId) (event : ℕ) (proc : ProcId) (req : ReqId) (reason : Denial) (poke : Poke) (first : slice_get (desk_of s proc).input 0 ≡ Some poke) (of_poke : poke.req ≡ req) where
  abbrev less : Desk → Desk
  less desk = record desk { input = drop 1 desk.input }

  less_poked : (r : ReqId) → times_at r (desk_of s proc) ≡ one_if req r + times_at r (less (desk_of s proc))
  less_poked r =
      let was : times r (poked (desk_of s proc).input) ≡ one_if req r + times r (poked (drop 1 (desk_of s proc).input)) = first_poked r (desk_of s proc).input poke first ∙ ap (λ (q : ReqId). one_if q r + times r (poked (drop 1 (desk_of s proc).input))) of_poke in
      omega (arith, was)

  pub poke_refused_once : AreOnce s hand → AreOnce (next s event (actors.Proc proc) (rows.Refused req reason)) (without_req req hand)
  poke_refused_once each =
      ended_once s (next s event (actors.Proc proc) (rows.Refused req reason)) hand req (record {
        others = λ r apart. on_else s.requests req _ r apart;
        ended = ended_due s.requests req (endings.Refused reason);
        joined = refl;
        parked = refl;
        desks = λ r apart. (let none : one_if req r ≡ 0 = (let other : (req.0 == r.0) ≡ false = grind (arith, nat_tests, apart) in rw other refl) in desk_same r less s.desks proc (omega (arith, none, less_poked r)));
        off = λ no_load. nowhere (sym (ended_load s.requests req (endings.Refused reason)) ∙ no_load);
      }) each
    where
      nowhere : is_of_load (request_in s.requests req) ≡ false → over (times_at req) (on_desk proc less s.desks) ≡ 0
      nowhere no_load =
          let one : one_if req req ≡ 1 = rw (itself req) refl in
          let more : over (times_at req) (on_desk proc less s.desks) + times_at req (desk_of s proc) ≡ over (times_at req) s.desks + times_at req (less (desk_of s proc)) = over_on (times_at req) less s.desks proc refl in
          let small : times_due (request_in s.requests req) < 2 = due_small (request_in s.requests req) in
          omega (arith, one, more, less_poked req, each req no_load, small)
