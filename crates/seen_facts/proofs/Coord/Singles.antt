-- The one item of a list that passes a test, where the items have numbers of their own.
pub use Rattle.seen_facts.specs.Coord.Apart.{AreApart}
use Rattle.std.proofs.Common.{◌≡◌, ℕ, suc, Bool, true, false, cond, ◌==◌, List, [], ◌∷◌, Option, Some, None, refl, sym, ap, ◌∙◌, subst, arith}
use Rattle.std.specs.Prelude.{filter, find, slice_get}
use Rattle.std.proofs.lemmas.Bool.Decides.{nat_tests}
use Rattle.log_model.proofs.Refl.{nat_eq_refl}

module _ {A : Type 0} (key : A → ℕ) (k : ℕ) (test : A → Bool) where
  -- only an item with the number passes
  abbrev pub PassAs : List A → Type 0
  PassAs xs = (i : ℕ) (x : A) → slice_get xs i ≡ Some x → test x ≡ true → key x ≡ k

  abbrev found : List A → Option A
  found xs = find (λ (x : A). key x == k) xs

  none_passes : (xs : List A) → found xs ≡ None → PassAs xs → filter test xs ≡ []
  none_passes [] none only = refl
  none_passes (x ∷ xs) none only = by_tests (key x == k) (test x) refl refl none (none_passes xs)
    where
      by_tests : (b c : Bool) → (key x == k) ≡ b → test x ≡ c → cond b (Some x) (found xs) ≡ None → (found xs ≡ None → PassAs xs → filter test xs ≡ []) → cond c (x ∷ filter test xs) (filter test xs) ≡ []
      by_tests true c e t none more = cc
      by_tests false true e t none more =
          let here : (key x == k) ≡ true = rw (only 0 x refl t) (nat_eq_refl k) in
          let no_ : true ≡ false = sym here ∙ e in cc
      by_tests false false e t none more = more none (λ i y there. only (suc i) y there)

  pub filter_one : (xs : List A) (x : A) → AreApart key xs → found xs ≡ Some x → test x ≡ true → PassAs xs → filter test xs ≡ x ∷ []
  filter_one [] x apart there passes only = cc
  filter_one (y ∷ xs) x apart there passes only = by_test (key y == k) refl there (filter_one xs x apart.1)
    where
      rest : PassAs xs
      rest i z there t = only (suc i) z there t

      by_test : (b : Bool) → (key y == k) ≡ b → cond b (Some y) (found xs) ≡ Some x → (found xs ≡ Some x → test x ≡ true → PassAs xs → filter test xs ≡ x ∷ []) → filter test (y ∷ xs) ≡ x ∷ []
      by_test true e f more =
          let same : y ≡ x = cc in
          let is : key y ≡ k = grind (arith, nat_tests, e) in
          let none : found xs ≡ None = subst (λ (n : ℕ). find (λ (z : A). key z == n) xs ≡ None) is apart.0 in
          let here : test y ≡ true = rw same passes in
          rw here (rw (none_passes xs none rest) (ap (λ (z : A). z ∷ []) same))
      by_test false e f more = by_here (test y) refl
        where
          by_here : (c : Bool) → test y ≡ c → cond c (y ∷ filter test xs) (filter test xs) ≡ x ∷ []
          by_here true t =
              let here : (key y == k) ≡ true = rw (only 0 y refl t) (nat_eq_refl k) in
              let no_ : true ≡ false = sym here ∙ e in cc
          by_here false t = more f passes rest
