-- How often a request is in a list, and at the desks.
use Rattle.std.proofs.Common.{◌≡◌, ℕ, ◌+◌, Bool, true, false, cond, not, ◌||◌, ◌==◌, List, [], ◌∷◌, ◌++◌, map, refl, ap, ◌∙◌, arith}
use Rattle.std.specs.Prelude.{filter}
use Rattle.std.proofs.lemmas.Bool.Decides.{nat_tests}
use Rattle.tab_ids.specs.declared.ProcId.{ProcId}
use Rattle.tab_ids.specs.declared.ReqId.{ReqId}
use Rattle.log_model.specs.declared.request.Poke.{Poke}
use Rattle.log_model.specs.Equal.{has_req}
use Rattle.log_model.specs.Seen.{Desk, desk_in}
use Rattle.log_model.specs.After.{on_desk, desk_dropped}
use Rattle.log_model.specs.AfterRequests.{without_req}
use Rattle.seen_laws.proofs.Sums.{over, over_on}
use Rattle.seen_facts.specs.Request.Whereabouts.{times, poked, times_at}

pub times_append : (req : ReqId) (xs ys : List ReqId) → times req (xs ++ ys) ≡ times req xs + times req ys
times_append req [] ys = omega arith
times_append req (x ∷ xs) ys = omega (arith, times_append req xs ys)

-- a request that is taken out isn't there any more; the others stay
pub without_it : (req : ReqId) (xs : List ReqId) → times req (without_req req xs) ≡ 0
without_it req [] = refl
without_it req (x ∷ xs) = by_test (x.0 == req.0) refl (without_it req xs)
  where
    by_test : (b : Bool) → (x.0 == req.0) ≡ b → times req (without_req req xs) ≡ 0 → times req (cond (not b) (x ∷ without_req req xs) (without_req req xs)) ≡ 0
    by_test true e more = more
    by_test false e more = rw e (omega (arith, more))

pub without_other : (req r : ReqId) (xs : List ReqId) → (r.0 == req.0) ≡ false → times r (without_req req xs) ≡ times r xs
without_other req r [] apart = refl
without_other req r (x ∷ xs) apart = by_test (x.0 == req.0) refl (without_other req r xs apart)
  where
    by_test : (b : Bool) → (x.0 == req.0) ≡ b → times r (without_req req xs) ≡ times r xs → times r (cond (not b) (x ∷ without_req req xs) (without_req req xs)) ≡ cond (x.0 == r.0) 1 0 + times r xs
    by_test true e more =
        let other : (x.0 == r.0) ≡ false = grind (arith, nat_tests, e, apart) in rw other (omega (arith, more))
    by_test false e more = ap (λ (n : ℕ). cond (x.0 == r.0) 1 0 + n) more

-- what is there no time isn't in the list
pub times_none : (req : ReqId) (xs : List ReqId) → times req xs ≡ 0 → has_req xs req ≡ false
times_none req [] none = refl
times_none req (x ∷ xs) none = by_test (x.0 == req.0) none (λ rest. times_none req xs rest)
  where
    by_test : (b : Bool) → (cond b 1 0 + times req xs) ≡ 0 → (times req xs ≡ 0 → has_req xs req ≡ false) → (b || has_req xs req) ≡ false
    by_test true none_ more =
        let never : ⊥ = omega (arith, none_) in elim never [ ]
    by_test false none_ more = more (let rest : times req xs ≡ 0 = omega (arith, none_) in rest)

-- a request is itself
pub itself : (req : ReqId) → (req.0 == req.0) ≡ true
itself req = grind (arith, nat_tests)

-- ---- the desks

-- a desk that has the same requests
pub desk_same : (req : ReqId) (g : Desk → Desk) (desks : List Desk) (proc : ProcId) → times_at req (g (desk_in desks proc)) ≡ times_at req (desk_in desks proc) → over (times_at req) (on_desk proc g desks) ≡ over (times_at req) desks
desk_same req g desks proc same = omega (arith, same, over_on (times_at req) g desks proc refl)

-- a dropped poke leaves the inputs
dropped_pokes : (req : ReqId) (pokes : List Poke) → poked (filter (λ (poke : Poke). not (poke.req.0 == req.0)) pokes) ≡ without_req req (poked pokes)
dropped_pokes req [] = refl
dropped_pokes req (poke ∷ pokes) = by_test (poke.req.0 == req.0) (dropped_pokes req pokes)
  where
    by_test : (b : Bool) → poked (filter (λ (p : Poke). not (p.req.0 == req.0)) pokes) ≡ without_req req (poked pokes) → poked (cond (not b) (poke ∷ filter (λ (p : Poke). not (p.req.0 == req.0)) pokes) (filter (λ (p : Poke). not (p.req.0 == req.0)) pokes)) ≡ cond (not b) (poke.req ∷ without_req req (poked pokes)) (without_req req (poked pokes))
    by_test true more = more
    by_test false more = ap (λ (l : List ReqId). poke.req ∷ l) more

pub dropped_other : (req r : ReqId) (desks : List Desk) → (r.0 == req.0) ≡ false → over (times_at r) (map (desk_dropped req) desks) ≡ over (times_at r) desks
dropped_other req r [] apart = refl
dropped_other req r (desk ∷ desks) apart =
    let one : times r (poked (desk_dropped req desk).input) ≡ times r (poked desk.input) = ap (λ (l : List ReqId). times r l) (dropped_pokes req desk.input) ∙ without_other req r (poked desk.input) apart in
    omega (arith, one, dropped_other req r desks apart)

pub dropped_it : (req : ReqId) (desks : List Desk) → over (times_at req) desks ≡ 0 → over (times_at req) (map (desk_dropped req) desks) ≡ 0
dropped_it req [] none = refl
dropped_it req (desk ∷ desks) none =
    let one : times req (poked (desk_dropped req desk).input) ≡ 0 = ap (λ (l : List ReqId). times req l) (dropped_pokes req desk.input) ∙ without_it req (poked desk.input) in
    let rest : over (times_at req) desks ≡ 0 = omega (arith, none) in
    omega (arith, one, none, dropped_it req desks rest)
