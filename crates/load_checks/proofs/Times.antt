-- The requests of the loads in their checks, once one of them is taken out: each is as often as before, but for that one.
use Rattle.load_checks.specs.Stages.{reqs_of}
use Rattle.load_table.specs.Loads.{HasOneEach, cancelled, is_nav, is_of, ongoing_load}
use Rattle.load_table.specs.declared.load.Load.{Load}
use Rattle.seen_facts.specs.Request.Whereabouts.{times}
use Rattle.std.proofs.Common.{Bool, List, Some, [], ap, arith, cond, false, map, refl, sym, true, ◌∙◌, ◌∷◌, ◌≡◌}
use Rattle.std.proofs.lemmas.Bool.Decides.{nat_tests}
use Rattle.std.proofs.lemmas.Map.Keys.{IsDistinct-head, IsDistinct-tail}
use Rattle.std.specs.List.{AllByRecursion}
use Rattle.tab_ids.specs.declared.NavId.{NavId}
use Rattle.tab_ids.specs.declared.ReqId.{ReqId}

-- where none is of the navigable none is taken out
none_out : (nav first : NavId) (loads : List Load) → is_nav nav first ≡ true → AllByRecursion (λ (other : NavId). is_nav first other ≡ false) (map (λ (load : Load). load.nav) loads) → cancelled nav loads ≡ loads
none_out nav first [] same apart = refl
none_out nav first (load ∷ loads) same apart =
    let differs : is_nav nav load.nav ≡ false = (let far : is_nav first load.nav ≡ false = apart.0 in grind (arith, nat_tests, same, far)) in
    rw differs (ap (λ (l : List Load). load ∷ l) (none_out nav first loads same apart.1))

pub times_out : (nav : NavId) (loads : List Load) → HasOneEach loads → (load : Load) → ongoing_load nav loads ≡ Some load → (r : ReqId) → times r (load.req ∷ reqs_of (cancelled nav loads)) ≡ times r (reqs_of loads)
times_out nav [] each load at r = absurd cc
times_out nav (first ∷ loads) each load at r =
    by_nav (is_of nav first) refl at (times_out nav loads (IsDistinct-tail is_nav first.nav (map (λ (l : Load). l.nav) loads) each) load)
  where
    by_nav : (b : Bool) → is_of nav first ≡ b → cond b (Some first) (ongoing_load nav loads) ≡ Some load → (ongoing_load nav loads ≡ Some load → (r_ : ReqId) → times r_ (load.req ∷ reqs_of (cancelled nav loads)) ≡ times r_ (reqs_of loads)) → times r (load.req ∷ reqs_of (cancelled nav (first ∷ loads))) ≡ times r (reqs_of (first ∷ loads))
    by_nav true is here rest =
        let one : first ≡ load = cc in
        let none : cancelled nav loads ≡ loads = none_out nav first.nav loads is (IsDistinct-head is_nav first.nav (map (λ (l : Load). l.nav) loads) each) in
        rw is (ap (λ (l : List Load). times r (load.req ∷ reqs_of l)) none ∙ ap (λ (x : Load). times r (x.req ∷ reqs_of loads)) (sym one))
    by_nav false is here rest =
        let more : times r (load.req ∷ reqs_of (cancelled nav loads)) ≡ times r (reqs_of loads) = rest here r in
        rw is (swap more)
      where
        swap : times r (load.req ∷ reqs_of (cancelled nav loads)) ≡ times r (reqs_of loads) → times r (load.req ∷ first.req ∷ reqs_of (cancelled nav loads)) ≡ times r (first.req ∷ reqs_of loads)
        swap more = omega (arith, more)
