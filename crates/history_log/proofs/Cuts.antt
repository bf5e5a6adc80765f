-- A list cut at an index.
use Rattle.std.proofs.Common.{◌≡◌, ℕ, ◌+◌, ◌<◌, zero, suc, List, [], ◌∷◌, ◌++◌, length, get_or, take, drop, Option, Some, None, refl, ap, sym, ◌∙◌, arith, add-one, drop-cons}
use Rattle.std.specs.Prelude.{slice_get, IfSome}
use Rattle.std.proofs.Math.Seq.{take-suc}
use Rattle.std.proofs.lemmas.Option.{slice_get-get_or, get_or_from_slice_get}

pub cut_at : {A : Type 0} (xs : List A) (i : ℕ) (x : A) → i < length xs → x ≡ get_or xs i x → drop i xs ≡ x ∷ drop (i + 1) xs
cut_at {A} xs i x within is = rw add-one (drop-cons xs i x within ∙ ap (λ (y : A). y ∷ drop (suc i) xs) (sym is))

pub take_more : {A : Type 0} (xs : List A) (i : ℕ) (x : A) → i < length xs → x ≡ get_or xs i x → take (i + 1) xs ≡ take i xs ++ x ∷ []
take_more {A} xs i x within is = rw add-one (take-suc xs i x within ∙ ap (λ (y : A). take i xs ++ y ∷ []) (sym is))

pub get_at : {A : Type 0} (xs : List A) (i : ℕ) (x : A) → i < length xs → x ≡ get_or xs i x → slice_get xs i ≡ Some x
get_at {A} xs i x within is = slice_get-get_or xs i x within ∙ ap (λ (y : A). Some y) (sym is)

none_there : {A : Type 0} (xs : List A) (i : ℕ) → i < length xs → slice_get xs i ≡ None → ⊥
none_there [] i within at = omega arith
none_there (x ∷ xs) zero within at = cc
none_there (x ∷ xs) (suc i) within at = none_there xs i (omega arith) at

-- a list has an item at an index below its length
pub with_item : {A : Type 0} (xs : List A) (i : ℕ) (P : A → Type 0) (G : Type 0) → i < length xs → IfSome (slice_get xs i) P → ((x : A) → x ≡ get_or xs i x → P x → G) → G
with_item {A} xs i P G within some go = by_found (slice_get xs i) refl some
  where
    by_found : (found : Option A) → slice_get xs i ≡ found → IfSome found P → G
    by_found None at some_ = absurd (none_there xs i within at)
    by_found (Some x) at some_ = go x (sym (get_or_from_slice_get xs i x x at)) some_

-- what holds of the item holds of what is there
pub of_item : {A : Type 0} (xs : List A) (i : ℕ) (P : A → Type 0) (x : A) → i < length xs → x ≡ get_or xs i x → P x → IfSome (slice_get xs i) P
of_item {A} xs i P x within is holds = rw (get_at xs i x within is) holds

-- what holds of what is there holds of the item
pub at_item : {A : Type 0} (xs : List A) (i : ℕ) (P : A → Type 0) (x : A) → i < length xs → x ≡ get_or xs i x → IfSome (slice_get xs i) P → P x
at_item {A} xs i P x within is some = rw (get_at xs i x within is) at some
