-- Where each load is, as a request ends: one that was on its way, held back or at hand is nowhere any more, and the others stay.
use Rattle.std.proofs.Common.{◌≡◌, ℕ, ◌+◌, ◌<◌, Bool, true, false, cond, ◌&&◌, ◌==◌, List, ◌∷◌, drop, Option, Some, None, refl, sym, ap, ◌∙◌, arith}
use Rattle.std.specs.Prelude.{slice_get, option_map}
use Rattle.tab_ids.specs.declared.EntryId.{EntryId}
use Rattle.tab_ids.specs.declared.ProcId.{ProcId}
use Rattle.tab_ids.specs.declared.ReqId.{ReqId}
use Rattle.log_model.specs.declared.change.Change.{Change}
use Rattle.log_model.specs.declared.outcome.Cause.{Cause}
use Rattle.log_model.specs.declared.outcome.Denial.{Denial}
use Rattle.log_model.specs.declared.outcome.Ending.{Ending}
use Rattle.log_model.specs.declared.outcome.Ending.TheVariants as endings
use Rattle.log_model.specs.declared.request.Poke.{Poke}
use Rattle.log_model.specs.declared.row_kind.Actor.{Actor}
use Rattle.log_model.specs.declared.row_kind.Actor.TheVariants as actors
use Rattle.log_model.specs.declared.row_kind.RowKind.TheVariants as rows
use Rattle.log_model.specs.Seen.{Seen, Desk, Asked, desk_of, request_in, request_of}
use Rattle.log_model.specs.After.{ended}
use Rattle.log_model.specs.AfterRequests.{on_request, without_req, entries_taken}
use Rattle.log_model.specs.Places.{is_load, is_ongoing_load}
use Rattle.seen_laws.proofs.Sums.{over}
use Rattle.seen_facts.proofs.Coord.Held.{on_alike, on_else}
use Rattle.seen_facts.proofs.Coord.Unread.{next}
use Rattle.seen_facts.specs.Request.Whereabouts.{times, poked, times_at, times_found, times_due, is_of_load}
use Rattle.seen_facts.proofs.Request.Endings.{due_small}
use Rattle.seen_facts.proofs.Request.LookUps.{on_itself}
use Rattle.seen_facts.proofs.Request.Placings.{one_if, first_poked}
use Rattle.seen_facts.proofs.Request.Times.{desk_same, without_it, without_other, dropped_it, dropped_other}
use Rattle.seen_facts.specs.LoadWhereabouts.Whereabouts.{waits_to_fragment, times_on_way, times_of_load, AreLoadsOnce}
use Rattle.seen_facts.proofs.LoadWhereabouts.Counts.{but_one, one_other, one_itself}

-- ---- a load that is elsewhere is at no desk

-- the request is at no desk, if it is a load
abbrev pub IsOffDesk : Seen → ReqId → Type 0
IsOffDesk s req = is_of_load (request_in s.requests req) ≡ true → over (times_at req) s.desks ≡ 0

pub other_off : (s : Seen) (req : ReqId) → is_of_load (request_in s.requests req) ≡ false → IsOffDesk s req
other_off s req other load = let no_ : false ≡ true = sym other ∙ load in absurd cc

module _ (s : Seen) (hand : List ReqId) (req : ReqId) (each : AreLoadsOnce s hand) where
  pub elsewhere_off : 0 < ((times req s.joined + (times req s.parked + times req hand)) + times_on_way (request_in s.requests req)) → IsOffDesk s req
  elsewhere_off there load = by_due (times_due (request_in s.requests req)) (each req load) (due_small (request_in s.requests req))
    where
      by_due : (n : ℕ) → times_of_load req s.requests s.desks s.joined s.parked hand ≡ n → n < 2 → over (times_at req) s.desks ≡ 0
      by_due n once few = omega (arith, once, few, there)

  -- held back
  pub parked_off : 0 < times req s.parked → IsOffDesk s req
  parked_off there = elsewhere_off (omega (arith, there))

  module _ (q : Asked) (found : request_of s req ≡ Some q) where
    -- begun, and not ended
    pub ongoing_off : is_ongoing_load q ≡ true → IsOffDesk s req
    ongoing_off ongoing =
        elsewhere_off (let one : 0 < times_on_way (request_in s.requests req) = rw found (rw ongoing (omega arith)) in omega (arith, one))

    -- its fragment order was sent
    pub waiting_off : waits_to_fragment q ≡ true → IsOffDesk s req
    waiting_off waits =
        elsewhere_off (let one : 0 < times_on_way (request_in s.requests req) = rw found (rw waits (omega arith)) in omega (arith, one))

-- at hand
pub at_hand_off : (s : Seen) (hand : List ReqId) (req : ReqId) → AreLoadsOnce s (req ∷ hand) → IsOffDesk s req
at_hand_off s hand req each =
    elsewhere_off s (req ∷ hand) req each (let one : one_if req req ≡ 1 = one_itself req in omega (arith, one))

-- ---- a request ends

-- what a row that ends a request shows: the others are as they were, it has ended, and it is at no desk, if it is a load
pub record IsOver (s t : Seen) (req : ReqId) : Type 0 where
  pub others : (r : ReqId) → (r.0 == req.0) ≡ false → request_in t.requests r ≡ request_in s.requests r
  pub ended : times_due (request_in t.requests req) ≡ 0
  pub still : times_on_way (request_in t.requests req) ≡ 0
  pub joined : t.joined ≡ without_req req s.joined
  pub parked : t.parked ≡ without_req req s.parked
  pub desks : (r : ReqId) → (r.0 == req.0) ≡ false → over (times_at r) t.desks ≡ over (times_at r) s.desks
  pub off : is_of_load (request_in t.requests req) ≡ true → over (times_at req) t.desks ≡ 0

pub over_loads : (s t : Seen) (hand : List ReqId) (req : ReqId) → IsOver s t req → AreLoadsOnce s hand → AreLoadsOnce t (without_req req hand)
over_loads s t hand req is each =
    but_one s t hand (without_req req hand) req (record { others = is.others; elsewhere = elsewhere; one = one }) each
  where
    elsewhere : (r : ReqId) → (r.0 == req.0) ≡ false → times_found r t.desks t.joined t.parked (without_req req hand) ≡ times_found r s.desks s.joined s.parked hand
    elsewhere r apart =
        rw is.joined (rw is.parked (omega (arith, is.desks r apart, without_other req r s.joined apart, without_other req r s.parked apart, without_other req r hand apart)))

    one : is_of_load (request_in t.requests req) ≡ true → times_of_load req t.requests t.desks t.joined t.parked (without_req req hand) ≡ times_due (request_in t.requests req)
    one load =
        let none : times_found req t.desks t.joined t.parked (without_req req hand) ≡ 0 = rw is.joined (rw is.parked (omega (arith, without_it req s.joined, without_it req s.parked, without_it req hand, is.off load))) in
        omega (arith, none, is.ended, is.still)

-- ---- the request then

module _ (asked : List Asked) (req : ReqId) (ending : Ending) where
  abbrev end_it : Asked → Asked
  end_it q = record q { ending = Some ending }

  now_ended : {B : Type 0} (read : Option Asked → B) → read (request_in (ended asked req ending) req) ≡ read (option_map end_it (request_in asked req))
  now_ended read = ap read (on_itself asked req end_it)

  pub ended_due : times_due (request_in (ended asked req ending) req) ≡ 0
  ended_due = now_ended times_due ∙ by_found (request_in asked req)
    where
      by_found : (o : Option Asked) → times_due (option_map end_it o) ≡ 0
      by_found None = refl
      by_found (Some q) = refl

  pub ended_still : times_on_way (request_in (ended asked req ending) req) ≡ 0
  ended_still = now_ended times_on_way ∙ by_found (request_in asked req)
    where
      by_tests : (a b : Bool) → cond ((a && false) && b) 1 0 + 0 ≡ 0
      by_tests true b = refl
      by_tests false b = refl

      by_found : (o : Option Asked) → times_on_way (option_map end_it o) ≡ 0
      by_found None = refl
      by_found (Some q) = by_tests q.is_started (is_load q.what)

  pub ended_load : is_of_load (request_in (ended asked req ending) req) ≡ is_of_load (request_in asked req)
  ended_load = now_ended is_of_load ∙ by_found (request_in asked req)
    where
      by_found : (o : Option Asked) → is_of_load (option_map end_it o) ≡ is_of_load o
      by_found None = refl
      by_found (Some q) = refl

-- ---- the rows

module _ (s : Seen) (hand : List ReqId) (event : ℕ) (req : ReqId) (off : IsOffDesk s req) (each : AreLoadsOnce s hand) where
  pub refused_loads : (reason : Denial) → AreLoadsOnce (next s event actors.Coord (rows.Refused req reason)) (without_req req hand)
  refused_loads reason =
      over_loads s (next s event actors.Coord (rows.Refused req reason)) hand req (record {
        others = λ r apart. on_else s.requests req _ r apart;
        ended = ended_due s.requests req (endings.Refused reason);
        still = ended_still s.requests req (endings.Refused reason);
        joined = refl;
        parked = refl;
        desks = λ r apart. refl;
        off = λ load. off (sym (ended_load s.requests req (endings.Refused reason)) ∙ load);
      }) each

  -- the same, as a request is accepted
  pub denied_loads : (reason : Denial) → AreLoadsOnce (next s event actors.Ui (rows.Refused req reason)) (without_req req hand)
  denied_loads reason =
      over_loads s (next s event actors.Ui (rows.Refused req reason)) hand req (record {
        others = λ r apart. on_else s.requests req _ r apart;
        ended = ended_due s.requests req (endings.Refused reason);
        still = ended_still s.requests req (endings.Refused reason);
        joined = refl;
        parked = refl;
        desks = λ r apart. refl;
        off = λ load. off (sym (ended_load s.requests req (endings.Refused reason)) ∙ load);
      }) each

  pub dropped_loads : (actor : Actor) (cause : Cause) → AreLoadsOnce (next s event actor (rows.Dropped req cause)) (without_req req hand)
  dropped_loads actor cause =
      over_loads s (next s event actor (rows.Dropped req cause)) hand req (record {
        others = λ r apart. on_else s.requests req _ r apart;
        ended = ended_due s.requests req (endings.Dropped cause);
        still = ended_still s.requests req (endings.Dropped cause);
        joined = refl;
        parked = refl;
        desks = λ r apart. dropped_other req r s.desks apart;
        off = λ load. dropped_it req s.desks (off (sym (ended_load s.requests req (endings.Dropped cause)) ∙ load));
      }) each

  abbrev with_change : Change → Asked → Asked
  with_change change q = record q { change = Some change }

  abbrev took_all : List EntryId → Asked → Asked
  took_all entries q = record q { took = entries }

  abbrev applied_ : List Asked
  applied_ = ended s.requests req endings.Applied

  pub applied_loads : (actor : Actor) (change : Change) → AreLoadsOnce (next s event actor (rows.Applied req change)) (without_req req hand)
  applied_loads actor change =
      over_loads s (next s event actor (rows.Applied req change)) hand req (record {
        others = λ r apart. on_else (on_request req (with_change change) applied_) req (took_all (entries_taken s.history change)) r apart ∙ (on_else applied_ req (with_change change) r apart ∙ on_else s.requests req _ r apart);
        ended = told times_due (λ q. refl) (λ q. refl) ∙ ended_due s.requests req endings.Applied;
        still = told times_on_way (λ q. refl) (λ q. refl) ∙ ended_still s.requests req endings.Applied;
        joined = refl;
        parked = refl;
        desks = λ r apart. refl;
        off = λ load. off (sym (told is_of_load (λ q. refl) (λ q. refl) ∙ ended_load s.requests req endings.Applied) ∙ load);
      }) each
    where
      told : {B : Type 0} (read : Option Asked → B) → ((q : Asked) → read (Some (took_all (entries_taken s.history change) q)) ≡ read (Some q)) → ((q : Asked) → read (Some (with_change change q)) ≡ read (Some q)) → read (request_in (on_request req (took_all (entries_taken s.history change)) (on_request req (with_change change) applied_)) req) ≡ read (request_in applied_ req)
      told read first second =
          on_alike read (on_request req (with_change change) applied_) req (took_all (entries_taken s.history change)) req first
          ∙ on_alike read applied_ req (with_change change) req second

-- a process refuses its first poke, which is no load
pub poke_refused_loads : (s : Seen) (hand : List ReqId) (event : ℕ) (proc : ProcId) (req : ReqId) (reason : Denial) (poke : Poke) → slice_get (desk_of s proc).input 0 ≡ Some poke → poke.req ≡ req → is_of_load (request_in s.requests req) ≡ false → AreLoadsOnce s hand → AreLoadsOnce (next s event (actors.Proc proc) (rows.Refused req reason)) (without_req req hand)
poke_refused_loads s hand event proc req reason poke first of_poke other each =
    over_loads s (next s event (actors.Proc proc) (rows.Refused req reason)) hand req (record {
      others = λ r apart. on_else s.requests req _ r apart;
      ended = ended_due s.requests req (endings.Refused reason);
      still = ended_still s.requests req (endings.Refused reason);
      joined = refl;
      parked = refl;
      desks = λ r apart. desk_same r less s.desks proc (same_at r apart);
      off = λ load. (let no_ : false ≡ true = sym other ∙ sym (ended_load s.requests req (endings.Refused reason)) ∙ load in absurd cc);
    }) each
  where
    less : Desk → Desk
    less desk = record desk { input = drop 1 desk.input }

    same_at : (r : ReqId) → (r.0 == req.0) ≡ false → times_at r (less (desk_of s proc)) ≡ times_at r (desk_of s proc)
    same_at r apart =
        let was : times r (poked (desk_of s proc).input) ≡ one_if req r + times r (poked (drop 1 (desk_of s proc).input)) = first_poked r (desk_of s proc).input poke first ∙ ap (λ (q : ReqId). one_if q r + times r (poked (drop 1 (desk_of s proc).input))) of_poke in
        omega (arith, was, one_other req r apart)
