-- Lists read by `get_elem?`: at the end of a longer list, and through a map.
use Rattle.std.proofs.Common.{◌≡◌, ◌⊎◌, ℕ, zero, suc, ◌+◌, ◌<◌, List, [], ◌∷◌, ◌++◌, map, set, length, sym, refl, ap, ◌∙◌, inl, inr, ⊎_elim, arith}
use mathlib.Core.Option.{some, some-injective, some-ne-none}
use lib.ListN.{get_elem?}
use lib.Seq.{map-set}
use Rattle.atomic_table.proofs.Lists.{set_again, at_map}

module _ {A : Type 0} where
  pub in_range : (l : List A) (i : ℕ) (a : A) → get_elem? l i ≡ some a → i < length l
  in_range [] i a e = absurd (some-ne-none a (sym e))
  in_range (x ∷ xs) zero a e = omega arith
  in_range (x ∷ xs) (suc i) a e = let h : i < length xs = in_range xs i a e in omega arith

  pub one : (l : List A) (i : ℕ) (a b : A) → get_elem? l i ≡ some a → get_elem? l i ≡ some b → a ≡ b
  one l i a b e f = some-injective a b (sym e ∙ f)

  pub at_end : (l : List A) (a b : A) (j : ℕ) → get_elem? (l ++ a ∷ []) j ≡ some b → (get_elem? l j ≡ some b) ⊎ ((j ≡ length l) × (a ≡ b))
  at_end [] a b zero e = inr (refl, some-injective a b e)
  at_end [] a b (suc j) e = absurd (some-ne-none b (sym e))
  at_end (x ∷ xs) a b zero e = inl e
  at_end (x ∷ xs) a b (suc j) e = ⊎_elim (λ t. inl t) (λ t. inr (ap suc t.0 ∙ omega arith, t.1)) (at_end xs a b j e)

  pub at_joined : (l m : List A) (j : ℕ) (b : A) → get_elem? (l ++ m) j ≡ some b → (get_elem? l j ≡ some b) ⊎ ((q : ℕ) × (j ≡ length l + q) × (get_elem? m q ≡ some b))
  at_joined [] m j b e = inr (j, omega arith, e)
  at_joined (x ∷ xs) m zero b e = inl e
  at_joined (x ∷ xs) m (suc j) b e = ⊎_elim (λ t. inl t) (λ t. inr (t.0, (let h : j ≡ length xs + t.0 = t.1 in omega arith), t.2)) (at_joined xs m j b e)

  pub at_rest : (l m : List A) (q : ℕ) (b : A) → get_elem? m q ≡ some b → get_elem? (l ++ m) (length l + q) ≡ some b
  at_rest [] m q b e = let h : length {A = A} [] + q ≡ q = omega arith in ap (get_elem? m) h ∙ e
  at_rest (x ∷ xs) m q b e = let h : length (x ∷ xs) + q ≡ suc (length xs + q) = omega arith in ap (get_elem? (x ∷ xs ++ m)) h ∙ at_rest xs m q b e

module _ {A B : Type 0} (f : A → B) where
  pub from_map : (l : List A) (i : ℕ) (b : B) → get_elem? (map f l) i ≡ some b → (a : A) × (get_elem? l i ≡ some a) × (f a ≡ b)
  from_map [] i b e = absurd (some-ne-none b (sym e))
  from_map (x ∷ xs) zero b e = (x, refl, some-injective (f x) b e)
  from_map (x ∷ xs) (suc i) b e = from_map xs i b e

  pub map_same : (l : List A) (i : ℕ) (v w : A) → get_elem? l i ≡ some v → f w ≡ f v → map f (set l i w) ≡ map f l
  map_same l i v w at e = map-set f l i w ∙ (ap (set (map f l) i) e ∙ set_again (map f l) i (f v) (at_map f l i v at))
