-- A fact of the requests of a list, where the requests or the list change.
use Rattle.std.proofs.Common.{◌≡◌, ℕ, ◌+◌, ◌≤◌, Bool, true, false, cond, ◌==◌, List, [], ◌∷◌, ◌++◌, drop, map, Option, Some, refl, sym, subst, arith}
use Rattle.std.specs.Prelude.{filter, slice_get}
use Rattle.std.proofs.lemmas.Bool.Decides.{nat_tests}
use Rattle.tab_ids.specs.declared.ProcId.{ProcId}
use Rattle.tab_ids.specs.declared.ReqId.{ReqId}
use Rattle.log_model.specs.Seen.{Desk, Asked, empty_desk, desk_in, request_in}
use Rattle.log_model.specs.After.{on_desk}
use Rattle.seen_laws.proofs.Desks.{desk_on_same, desk_on_other}
use Rattle.seen_laws.proofs.Sums.{over}
use Rattle.seen_facts.proofs.Coord.Leadings.{proc_same}
use Rattle.seen_facts.specs.Request.Whereabouts.{times}
use Rattle.seen_facts.specs.Request.Cores.{Core, core_of}
use Rattle.seen_facts.specs.Request.Knowns.{AllOf}
use Rattle.seen_facts.proofs.Request.Cores.{SameCores}

module _ {A : Type 0} (F : Option Core → A → Type 0) (req : A → ReqId) where
  -- the requests are the same
  pub all_same : (asked next : List Asked) (xs : List A) → SameCores asked next → AllOf F req asked xs → AllOf F req next xs
  all_same asked next [] cores all = all
  all_same asked next (x ∷ xs) cores (one, all) =
      (subst (λ (c : Option Core). F c x) (sym (cores (req x))) one, all_same asked next xs cores all)

  -- one request isn't, and it is none of these
  pub all_else : (asked next : List Asked) (r : ReqId) (xs : List A) → ((other : ReqId) → (other.0 == r.0) ≡ false → core_of (request_in next other) ≡ core_of (request_in asked other)) → times r (map req xs) ≡ 0 → AllOf F req asked xs → AllOf F req next xs
  all_else asked next r [] others none all = all
  all_else asked next r (x ∷ xs) others none (one, all) =
      by_number ((req x).0 == r.0) refl none (λ rest. all_else asked next r xs others rest all)
    where
      by_number : (b : Bool) → ((req x).0 == r.0) ≡ b → (cond b 1 0 + times r (map req xs)) ≡ 0 → (times r (map req xs) ≡ 0 → AllOf F req next xs) → F (core_of (request_in next (req x))) x × AllOf F req next xs
      by_number true e none_ more =
          let never : ⊥ = omega (arith, none_) in elim never [ ]
      by_number false e none_ more =
          (subst (λ (c : Option Core). F c x) (sym (others (req x) e)) one, more (let rest : times r (map req xs) ≡ 0 = omega (arith, none_) in rest))

  -- one more, and one less
  pub all_more : (asked : List Asked) (xs : List A) (x : A) → AllOf F req asked xs → F (core_of (request_in asked (req x))) x → AllOf F req asked (xs ++ x ∷ [])
  all_more asked [] x all one = (one, tt)
  all_more asked (y ∷ xs) x (first, all) one = (first, all_more asked xs x all one)

  pub all_less : (asked : List Asked) (xs : List A) → AllOf F req asked xs → AllOf F req asked (drop 1 xs)
  all_less asked [] all = all
  all_less asked (x ∷ xs) (one, all) = all

  pub all_kept : (asked : List Asked) (test : A → Bool) (xs : List A) → AllOf F req asked xs → AllOf F req asked (filter test xs)
  all_kept asked test [] all = all
  all_kept asked test (x ∷ xs) (one, all) = by_test (test x) (all_kept asked test xs all)
    where
      by_test : (b : Bool) → AllOf F req asked (filter test xs) → AllOf F req asked (cond b (x ∷ filter test xs) (filter test xs))
      by_test true more = (one, more)
      by_test false more = more

  -- the first of them
  pub all_first : (asked : List Asked) (xs : List A) (x : A) → slice_get xs 0 ≡ Some x → AllOf F req asked xs → F (core_of (request_in asked (req x))) x
  all_first asked [] x first all = cc
  all_first asked (y ∷ xs) x first (one, all) =
      let same : y ≡ x = cc in subst (λ (z : A). F (core_of (request_in asked (req z))) z) same one

-- ---- the desks

-- a fact of each desk, where one of them changes
pub each_desk : (F : Desk → Type 0) (g : Desk → Desk) (desks : List Desk) (p : ProcId) → ((desk : Desk) → (g desk).proc ≡ desk.proc) → F (g (desk_in desks p)) → ((proc : ProcId) → (p.0 == proc.0) ≡ false → F (desk_in desks proc)) → (proc : ProcId) → F (desk_in (on_desk p g desks) proc)
each_desk F g desks p keeps own others proc = by_process (p.0 == proc.0) refl
  where
    by_process : (b : Bool) → (p.0 == proc.0) ≡ b → F (desk_in (on_desk p g desks) proc)
    by_process true e =
        subst (λ (x : ProcId). F (desk_in (on_desk p g desks) x)) (proc_same p proc e) (subst F (sym (desk_on_same g desks p keeps)) own)
    by_process false e = subst F (sym (desk_on_other g desks p proc keeps e)) (others proc e)

-- one desk has no more than all of them
pub one_of_all : (f : Desk → ℕ) (desks : List Desk) (proc : ProcId) → f (empty_desk proc) ≡ 0 → f (desk_in desks proc) ≤ over f desks
one_of_all f [] proc none = omega (arith, none)
one_of_all f (desk ∷ desks) proc none = by_test (desk.proc.0 == proc.0) (one_of_all f desks proc none)
  where
    by_test : (b : Bool) → f (desk_in desks proc) ≤ over f desks → f (cond b desk (desk_in desks proc)) ≤ f desk + over f desks
    by_test true more = omega arith
    by_test false more = omega (arith, more)

-- nor have two of them
pub two_of_all : (f : Desk → ℕ) (desks : List Desk) (p proc : ProcId) → f (empty_desk p) ≡ 0 → f (empty_desk proc) ≡ 0 → (p.0 == proc.0) ≡ false → f (desk_in desks p) + f (desk_in desks proc) ≤ over f desks
two_of_all f [] p proc none none_ apart = omega (arith, none, none_)
two_of_all f (desk ∷ desks) p proc none none_ apart =
    by_tests (desk.proc.0 == p.0) (desk.proc.0 == proc.0) refl refl (one_of_all f desks p none) (one_of_all f desks proc none_) (two_of_all f desks p proc none none_ apart)
  where
    by_tests : (b c : Bool) → (desk.proc.0 == p.0) ≡ b → (desk.proc.0 == proc.0) ≡ c → f (desk_in desks p) ≤ over f desks → f (desk_in desks proc) ≤ over f desks → f (desk_in desks p) + f (desk_in desks proc) ≤ over f desks → f (cond b desk (desk_in desks p)) + f (cond c desk (desk_in desks proc)) ≤ f desk + over f desks
    by_tests true true d e one other more =
        let never : (p.0 == proc.0) ≡ true = grind (arith, nat_tests, d, e) in cc
    by_tests true false d e one other more = omega (arith, other)
    by_tests false true d e one other more = omega (arith, one)
    by_tests false false d e one other more = omega (arith, more)
