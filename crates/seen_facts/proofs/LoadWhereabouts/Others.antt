-- The other requests stay where they are, as `request_facts` says it of them, over the rows of a load; so both facts have the same at hand.
use Rattle.std.proofs.Common.{◌≡◌, ℕ, ◌+◌, Bool, true, false, ◌==◌, List, ◌∷◌, length, Option, None, refl, sym, ap, ◌∙◌, arith}
use Rattle.tab_ids.specs.declared.NavId.{NavId}
use Rattle.tab_ids.specs.declared.ReqId.{ReqId}
use Rattle.tab_ids.specs.declared.Step.{Step}
use Rattle.log_model.specs.declared.job.Job.{Job}
use Rattle.log_model.specs.declared.request.Mode.{Mode}
use Rattle.log_model.specs.declared.request.Request.TheVariants as requests
use Rattle.log_model.specs.declared.row_kind.Actor.{Actor}
use Rattle.log_model.specs.declared.row_kind.RowKind.TheVariants as rows
use Rattle.log_model.specs.Seen.{Seen, request_in}
use Rattle.seen_facts.proofs.Coord.Unread.{next}
use Rattle.seen_facts.specs.Request.Whereabouts.{times_found, times_due, is_of_load, AreOnce}
use Rattle.seen_facts.proofs.Request.Onces.{started_once, sent_once}
use Rattle.seen_facts.proofs.Request.Placings.{accepted_once}
use Rattle.seen_facts.proofs.LoadWhereabouts.Counts.{one_other, req_same}

-- ---- a load may be at hand, or not

module _ (s : Seen) (hand : List ReqId) (req : ReqId) (load : is_of_load (request_in s.requests req) ≡ true) where
  -- another request isn't it
  apart : (r : ReqId) → is_of_load (request_in s.requests r) ≡ false → (r.0 == req.0) ≡ false
  apart r no_load = by_number (r.0 == req.0) refl
    where
      by_number : (b : Bool) → (r.0 == req.0) ≡ b → (r.0 == req.0) ≡ false
      by_number true e =
          let no_ : true ≡ false = sym load ∙ ap (λ (x : ReqId). is_of_load (request_in s.requests x)) (sym (req_same r req e)) ∙ no_load in
          absurd cc
      by_number false e = e

  pub load_at_hand : AreOnce s hand → AreOnce s (req ∷ hand)
  load_at_hand each r no_load = omega (arith, each r no_load, one_other req r (apart r no_load))

  pub load_not_at_hand : AreOnce s (req ∷ hand) → AreOnce s hand
  load_not_at_hand each r no_load =
      let was : times_found r s.desks s.joined s.parked (req ∷ hand) ≡ times_due (request_in s.requests r) = each r no_load in
      omega (arith, was, one_other req r (apart r no_load))

-- ---- the rows

-- a load is accepted: it is at hand
pub accepted_load_once : (s : Seen) (hand : List ReqId) (event : ℕ) (actor : Actor) (req : ReqId) → req.0 ≡ length s.requests + 1 → (nav : NavId) (mode : Mode) (address : List ℕ) → AreOnce s hand → AreOnce (next s event actor (rows.Accepted req None (requests.Load nav mode address))) (req ∷ hand)
accepted_load_once s hand event actor req nr nav mode address each =
    accepted_once s (next s event actor (rows.Accepted req None (requests.Load nav mode address))) hand (req ∷ hand) req None (requests.Load nav mode address) nr refl (λ r. omega arith) each

-- it begins
pub started_load_once : (s : Seen) (hand : List ReqId) (event : ℕ) (actor : Actor) (req : ReqId) (goal : Option Step) → is_of_load (request_in s.requests req) ≡ true → AreOnce s (req ∷ hand) → AreOnce (next s event actor (rows.Started req goal)) hand
started_load_once s hand event actor req goal load each =
    started_once s hand event actor req goal (load_not_at_hand s hand req load each)

-- its fragment order is sent
pub sent_fragment_once : (s : Seen) (hand : List ReqId) (event : ℕ) (actor : Actor) (job : Job) (req : ReqId) → is_of_load (request_in s.requests req) ≡ true → AreOnce s (req ∷ hand) → AreOnce (next s event actor (rows.Sent job)) hand
sent_fragment_once s hand event actor job req load each =
    sent_once s hand event actor job (load_not_at_hand s hand req load each)
