-- A part of a part.
use Rattle.std.proofs.Common.{◌≡◌, ℕ, ◌+◌, ◌-◌, ◌≤◌, List, length, take, drop, refl, sym, ◌∙◌, ap, subst, arith}
use Rattle.std.proofs.lemmas.List.{drop-take, take-take, drop-drop, length-take-le, length-drop}

-- its end is within the whole
pub within_whole : (xs : List ℕ) (a b t : ℕ) → a ≤ b → b ≤ length xs → t ≤ length (take (b - a) (drop a xs)) → a + t ≤ b
within_whole xs a b t order within short =
    let long : b - a ≤ length (drop a xs) = omega (arith, length-drop a xs) in
    omega (arith, length-take-le (b - a) (drop a xs) long)

-- it is the same part of the whole
pub part_of_part : (xs : List ℕ) (a b f t : ℕ) → a ≤ b → b ≤ length xs → f ≤ t → t ≤ length (take (b - a) (drop a xs))
    → take ((a + t) - (a + f)) (drop (a + f) xs) ≡ take (t - f) (drop f (take (b - a) (drop a xs)))
part_of_part xs a b f t order within inner short =
    let inside = within_whole xs a b t order within short in
    let parted : b - a ≡ f + (b - a - f) = omega (arith, inside, inner) in
    let shorter : t - f ≤ b - a - f = omega (arith, inside, inner) in
    let length_ : (a + t) - (a + f) ≡ t - f = omega arith in
    rw (parted, drop-take f (b - a - f) (drop a xs), take-take (t - f) (b - a - f) (drop f (drop a xs)) shorter, drop-drop f a xs, length_) refl
