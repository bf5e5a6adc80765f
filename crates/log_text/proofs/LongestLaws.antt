-- The longest line of rows, one after the other.
use Rattle.std.specs.Prelude.{min}
use Rattle.std.proofs.Common.{All, subst, take_all, arith, ◌≡◌, ◌≤◌, ◌<◌, ◌+◌, length, take, get_or, List, ℕ}
use Rattle.std.proofs.lemmas.List.Elements.{All-more, All-weaker}
use Rattle.log_model.specs.declared.row_kind.LogRow.{LogRow}
use Rattle.log_text.specs.Lines.{line_of_row}

-- no line of these rows is longer, up to a bound
abbrev pub AreWithin : ℕ → List LogRow → Type 0
AreWithin most rows = All (λ row. min (length (line_of_row row)) 18446744073709551615 ≤ most) rows

-- the longest of one row more
pub longest_more : (rows : List LogRow) (i : ℕ) (row : LogRow) (old new : ℕ) → i < length rows → row ≡ get_or rows i row → AreWithin old (take i rows) → old ≤ new → min (length (line_of_row row)) 18446744073709551615 ≤ new → AreWithin new (take (i + 1) rows)
longest_more rows i row old new within is so_far longer fits =
    All-more (λ r. min (length (line_of_row r)) 18446744073709551615 ≤ new) rows i row within
    (All-weaker (λ r. min (length (line_of_row r)) 18446744073709551615 ≤ old) (λ r. min (length (line_of_row r)) 18446744073709551615 ≤ new) (λ r h. omega (arith, h, longer)) (take i rows) so_far)
    (subst (λ (r : LogRow). min (length (line_of_row r)) 18446744073709551615 ≤ new) is fits)

-- all rows
pub longest_all : (rows : List LogRow) (i most : ℕ) → length rows ≤ i → AreWithin most (take i rows) → AreWithin most rows
longest_all rows i most all so_far = subst (AreWithin most) (take_all i rows all) so_far
