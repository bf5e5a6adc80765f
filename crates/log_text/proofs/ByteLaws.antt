-- What a line and a count are after bytes.
use Rattle.std.proofs.Common.{ℕ, true, false, ◌≡◌, ◌≤◌, ◌<◌, ◌+◌, ◌++◌, ◌∷◌, [], List, length, take, drop, take-append-drop, take_all, inl, inr, fold, min, nat_lt, append-nil, append_assoc, arith, refl, ap, ◌∙◌, sym}
use Rattle.std.proofs.lemmas.Bool.{cases_lt}
use Rattle.std.proofs.lemmas.Bool.Decides.{nat_tests}
use Rattle.std.proofs.lemmas.List.{length-append, length-take}
use Rattle.std.proofs.lemmas.List.Folds.{fold_stays}
use Rattle.std.proofs.lemmas.List.Sums.{fold-append}
use Rattle.log_text.specs.Room.{Held, with_byte}
use Rattle.log_text.specs.Counting.{with_one}

-- bytes that are counted
pub counted : (count : ℕ) (xs : List ℕ) → count ≤ 18446744073709551615 → min (count + length xs) 18446744073709551615 ≡ fold with_one count xs
counted count [] small = omega (arith, small)
counted count (x ∷ xs) small = let rest = counted (with_one count x) xs (omega arith) in omega (arith, rest, small)

-- a line that is counted
pub counted_line : (line : List ℕ) → min (length line) 18446744073709551615 ≡ fold with_one 0 line
counted_line line = let whole = counted 0 line (omega arith) in omega (arith, whole)

-- one byte, for which there is room
written : (held : Held) (x : ℕ) → length held.text < held.room → with_byte held x ≡ record held { text = held.text ++ x ∷ [] }
written held x within = let test : nat_lt (length held.text) held.room ≡ true = grind (arith, nat_tests) in rw test refl

-- one byte, for which there is none
left_out : (held : Held) (x : ℕ) → length held.text ≡ held.room → with_byte held x ≡ held
left_out held x full = let test : nat_lt (length held.text) held.room ≡ false = grind (arith, nat_tests) in rw test refl

-- bytes for which there is room
pub fitting : (held : Held) (xs : List ℕ) → length held.text + length xs ≤ held.room → record held { text = held.text ++ xs } ≡ fold with_byte held xs
fitting held [] fits = ap (λ (t : List ℕ). record held { text = t }) (append-nil held.text)
fitting held (x ∷ xs) fits =
    let more = record held { text = held.text ++ x ∷ [] } in
    let rest = fitting more xs (omega (arith, length-append held.text (x ∷ []))) in
    ap (λ (t : List ℕ). record held { text = t }) (sym (append_assoc held.text (x ∷ []) xs)) ∙ rest ∙ ap (λ (h : Held). fold with_byte h xs) (sym (written held x (omega arith)))

-- the same, in two parts
pub fitting_both : (held : Held) (xs ys : List ℕ) → length held.text + length xs + length ys ≤ held.room → record held { text = held.text ++ xs ++ ys } ≡ fold with_byte held (xs ++ ys)
fitting_both held xs ys fits =
    ap (λ (t : List ℕ). record held { text = t }) (append_assoc held.text xs ys) ∙ fitting held (xs ++ ys) (omega (arith, length-append xs ys))

-- bytes of which a part fits
filling : (held : Held) (xs : List ℕ) (n : ℕ) → n ≤ length xs → length held.text + n ≡ held.room → record held { text = held.text ++ take n xs } ≡ fold with_byte held xs
filling held xs n part fits =
    let most = record held { text = held.text ++ take n xs } in
    let first = fitting held (take n xs) (omega (arith, length-take {A = ℕ})) in
    let full : (x : ℕ) → with_byte most x ≡ most = λ x. left_out most x (omega (arith, length-append held.text (take n xs), length-take {A = ℕ})) in
    sym (fold_stays with_byte most full (drop n xs)) ∙ ap (λ (h : Held). fold with_byte h (drop n xs)) first ∙ sym (fold-append with_byte held (take n xs) (drop n xs)) ∙ ap (fold with_byte held) (take-append-drop n xs)

-- as many bytes as there is room for
pub filled : (held : Held) (xs : List ℕ) (left n : ℕ) → left + length held.text ≡ held.room → n ≡ min left (length xs) → record held { text = held.text ++ take n xs } ≡ fold with_byte held xs
filled held xs left n is part = elim (cases_lt left (length xs)) [
  | inl some ↦ filling held xs n (omega (arith, part)) (omega (arith, part, is, some))
  | inr whole ↦ ap (λ (t : List ℕ). record held { text = held.text ++ t }) (take_all n xs (omega (arith, part, whole))) ∙ fitting held xs (omega (arith, is, whole))
]

-- a line for which there is room, where there was none
pub whole_line : (room : ℕ) (line : List ℕ) → length line ≤ room → record { room = room; text = line } ≡ fold with_byte (record { room = room; text = [] }) line
whole_line room line fits = fitting (record { room = room; text = [] }) line (omega (arith, fits))
