-- A search along a list, from one index to the next.
use Rattle.std.proofs.Common.{◌≡◌, ℕ, ◌+◌, ◌<◌, Bool, true, false, List, ◌∷◌, Some, length, drop, take, ◌++◌, [], refl, add-one, drop-cons}
use Rattle.std.specs.Prelude.{slice_get}
use Rattle.std.specs.List.{find}
use Rattle.std.proofs.Math.Seq.{take-suc}
use Rattle.std.proofs.lemmas.Option.{slice_get_within, get_or_from_slice_get}

-- what is left from an index on begins with the element there
pub drop-slice_get : {A : Type 0} (xs : List A) (i : ℕ) (x : A) → slice_get xs i ≡ Some x → drop i xs ≡ x ∷ drop (i + 1) xs
drop-slice_get xs i x here =
    let within : i < length xs = slice_get_within xs i x here in
    rw (add-one, drop-cons xs i x within, get_or_from_slice_get xs i x x here) refl

-- the search from an index on ends at an element that passes
pub find-drop_here : {A : Type 0} (p : A → Bool) (xs : List A) (i : ℕ) (x : A) → slice_get xs i ≡ Some x → p x ≡ true → find p (drop i xs) ≡ Some x
find-drop_here p xs i x here passes = rw (drop-slice_get xs i x here, passes) refl

-- it goes on past one that doesn't
pub find-drop_past : {A : Type 0} (p : A → Bool) (xs : List A) (i : ℕ) (x : A) → slice_get xs i ≡ Some x → p x ≡ false → find p (drop (i + 1) xs) ≡ find p (drop i xs)
find-drop_past p xs i x here fails = rw (drop-slice_get xs i x here, fails) refl

-- one more element
pub take-slice_get : {A : Type 0} (xs : List A) (i : ℕ) (x : A) → slice_get xs i ≡ Some x → take (i + 1) xs ≡ take i xs ++ x ∷ []
take-slice_get xs i x here =
    let within : i < length xs = slice_get_within xs i x here in
    rw (add-one, take-suc xs i x within, get_or_from_slice_get xs i x x here) refl
