-- Cutting a text at its first separator.
use Rattle.std.proofs.Common.{◌≡◌, ℕ, ◌+◌, ◌<◌, ◌≤◌, ◌==◌, List, [], length, take, drop, Bool, true, false, cond, Some, None, refl, subst, arith}
use Rattle.std.proofs.Math.Dec.{ltb}
use Rattle.std.specs.List.{position, position_or_len}
use Rattle.std.proofs.lemmas.Option.{cond_some}
use Rattle.std.proofs.lemmas.Bool.{ltb-true, ltb-false}
use Rattle.std.proofs.lemmas.List.{take_all, drop_all}
use Rattle.log_reading.specs.Words.{before, after}

is_false : (b : Bool) (x : ℕ) → cond b (Some x) None ≡ None → b ≡ false
is_false true x e = cc
is_false false x e = refl

-- where there is a separator, the text is cut there
pub record IsCutAt (separator : ℕ) (bytes : List ℕ) (at : ℕ) : Type 0 where
  pub inside : at < length bytes
  pub before : before separator bytes ≡ take at bytes
  pub after : after separator bytes ≡ drop (at + 1) bytes

pub cut_at : (separator : ℕ) (bytes : List ℕ) (at : ℕ) → position (λ b. b == separator) bytes ≡ Some at → IsCutAt separator bytes at
unfolding before after
cut_at separator bytes at found =
    let p = λ (b : ℕ). b == separator in
    let both = cond_some (ltb (position_or_len p bytes) (length bytes)) (position_or_len p bytes) at found in
    let inside : position_or_len p bytes < length bytes = ltb-true _ _ both.0 in
    subst (λ (i : ℕ). IsCutAt separator bytes i) both.1 (record { inside = inside; before = refl; after = refl })

-- where there is none, all of it stands before
pub record IsUncut (separator : ℕ) (bytes : List ℕ) : Type 0 where
  pub before : before separator bytes ≡ bytes
  pub after : after separator bytes ≡ []

pub cut_nowhere : (separator : ℕ) (bytes : List ℕ) → position (λ b. b == separator) bytes ≡ None → IsUncut separator bytes
unfolding before after
cut_nowhere separator bytes none =
    let p = λ (b : ℕ). b == separator in
    let outside : length bytes ≤ position_or_len p bytes = ltb-false _ _ (is_false _ _ none) in
    record { before = take_all (position_or_len p bytes) bytes outside; after = drop_all (position_or_len p bytes + 1) bytes (omega (arith, outside)) }
