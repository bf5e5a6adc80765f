-- How often a load is anywhere, where a row changes one request or none.
use Rattle.std.proofs.Common.{◌≡◌, ℕ, ◌<◌, Bool, true, false, cond, ◌==◌, List, ◌∷◌, refl, sym, ap, ◌∙◌, subst, eqb-true, arith}
use Rattle.std.proofs.lemmas.Bool.Decides.{nat_tests}
use Rattle.tab_ids.specs.declared.ReqId.{ReqId}
use Rattle.log_model.specs.AfterRequests.{without_req}
use Rattle.log_model.specs.Seen.{Seen, request_in}
use Rattle.seen_facts.specs.Request.Whereabouts.{times_found, times_due, is_of_load}
use Rattle.seen_facts.proofs.Request.Onces.{SameTimes}
use Rattle.seen_facts.proofs.Request.Placings.{one_if}
use Rattle.seen_facts.proofs.Request.Times.{itself, without_other}
use Rattle.seen_facts.specs.LoadWhereabouts.Whereabouts.{times_on_way, times_of_load, AreLoadsOnce}
use Rattle.seen_facts.proofs.LoadWhereabouts.Trips.{SameTrips, load_alike, due_alike, ways_alike}

-- one where the test holds
abbrev pub count : Bool → ℕ
count b = cond b 1 0

pub few : (b : Bool) → count b < 2
few true = omega arith
few false = omega arith

-- ---- each request is read as it was

pub loads_again : (s t : Seen) (hand hand_ : List ReqId) → SameTrips s.requests t.requests → SameTimes s hand t hand_ → AreLoadsOnce s hand → AreLoadsOnce t hand_
loads_again s t hand hand_ trips same each r load =
    let was : times_of_load r s.requests s.desks s.joined s.parked hand ≡ times_due (request_in s.requests r) = each r (sym (load_alike (request_in t.requests r) (request_in s.requests r) (trips r)) ∙ load) in
    let due : times_due (request_in t.requests r) ≡ times_due (request_in s.requests r) = due_alike (request_in t.requests r) (request_in s.requests r) (trips r) in
    let way : times_on_way (request_in t.requests r) ≡ times_on_way (request_in s.requests r) = ways_alike (request_in t.requests r) (request_in s.requests r) (trips r) in
    omega (arith, was, due, way, same r)

-- ---- one request isn't

pub req_same : (a b : ReqId) → (a.0 == b.0) ≡ true → a ≡ b
req_same a b e = let n : a.0 ≡ b.0 = eqb-true a.0 b.0 e in ap (λ (i : ℕ). let x : ReqId = record { 0 = i } in x) n

-- another one isn't counted as it
pub one_other : (req r : ReqId) → (r.0 == req.0) ≡ false → one_if req r ≡ 0
one_other req r apart =
    let other : (req.0 == r.0) ≡ false = grind (arith, nat_tests, apart) in rw other refl

pub one_itself : (req : ReqId) → one_if req req ≡ 1
one_itself req = rw (itself req) refl

-- what a row shows that changes one request: the others are as they were, where they were, and the one is once, if it is a load
pub record IsButOne (s t : Seen) (hand hand_ : List ReqId) (req : ReqId) : Type 0 where
  pub others : (r : ReqId) → (r.0 == req.0) ≡ false → request_in t.requests r ≡ request_in s.requests r
  pub elsewhere : (r : ReqId) → (r.0 == req.0) ≡ false → times_found r t.desks t.joined t.parked hand_ ≡ times_found r s.desks s.joined s.parked hand
  pub one : is_of_load (request_in t.requests req) ≡ true → times_of_load req t.requests t.desks t.joined t.parked hand_ ≡ times_due (request_in t.requests req)

pub but_one : (s t : Seen) (hand hand_ : List ReqId) (req : ReqId) → IsButOne s t hand hand_ req → AreLoadsOnce s hand → AreLoadsOnce t hand_
but_one s t hand hand_ req is each r load = by_number (r.0 == req.0) refl
  where
    by_number : (b : Bool) → (r.0 == req.0) ≡ b → times_of_load r t.requests t.desks t.joined t.parked hand_ ≡ times_due (request_in t.requests r)
    by_number true e =
        let same : req ≡ r = sym (req_same r req e) in
        subst (λ (x : ReqId). times_of_load x t.requests t.desks t.joined t.parked hand_ ≡ times_due (request_in t.requests x)) same
        (is.one (subst (λ (x : ReqId). is_of_load (request_in t.requests x) ≡ true) (sym same) load))
    by_number false e =
        let there : request_in t.requests r ≡ request_in s.requests r = is.others r e in
        let was : times_of_load r s.requests s.desks s.joined s.parked hand ≡ times_due (request_in s.requests r) = each r (ap is_of_load (sym there) ∙ load) in
        let due : times_due (request_in t.requests r) ≡ times_due (request_in s.requests r) = ap times_due there in
        let way : times_on_way (request_in t.requests r) ≡ times_on_way (request_in s.requests r) = ap times_on_way there in
        omega (arith, was, due, way, is.elsewhere r e)

-- ---- a request that is no load may be at hand, or not

module _ (s : Seen) (hand : List ReqId) (req : ReqId) (no_load : is_of_load (request_in s.requests req) ≡ false) where
  never_load : {A : Type 0} → is_of_load (request_in s.requests req) ≡ true → A
  never_load load = let no_ : false ≡ true = sym no_load ∙ load in absurd cc

  pub at_hand_else : AreLoadsOnce s hand → AreLoadsOnce s (req ∷ hand)
  at_hand_else each =
      but_one s s hand (req ∷ hand) req (record {
        others = λ r apart. refl;
        elsewhere = λ r apart. (let none : one_if req r ≡ 0 = one_other req r apart in omega (arith, none));
        one = λ load. never_load load;
      }) each

  pub without_else : AreLoadsOnce s hand → AreLoadsOnce s (without_req req hand)
  without_else each =
      but_one s s hand (without_req req hand) req (record {
        others = λ r apart. refl;
        elsewhere = λ r apart. omega (arith, without_other req r hand apart);
        one = λ load. never_load load;
      }) each
