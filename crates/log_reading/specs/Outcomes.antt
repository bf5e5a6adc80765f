-- What comes of reading a log's text: its rows, or the first line at fault.
-- This project's own.
use Rattle.std.specs.Prelude.{◌≡◌, ◌≢◌, ℕ, ◌+◌, ◌<◌, ◌≤◌, ◌==◌, Bool, true, List, [], ◌∷◌, ◌++◌, length, Result, MatchResult, if◌then◌else◌}
use Rattle.log_model.specs.declared.row_kind.LogRow.{LogRow}
use Rattle.log_text.specs.Lines.{line_of_row, log_text}
use Rattle.log_reading.specs.declared.error.LogTextError.{LogTextError}
use Rattle.log_reading.specs.declared.error.LogTextError.TheVariants as errors
use Rattle.log_reading.specs.Readable.{IsReadable, AreReadable}

-- how many lines begin in the bytes, where one begins at the first of them or not; the next begins after a line feed
abbrev pub lines_from : Bool → List ℕ → ℕ
lines_from begins [] = 0
lines_from begins (b ∷ bytes) = (if begins then 1 else 0) + lines_from (b == 10) bytes

-- how many lines there are, the last of which may have no end
abbrev pub line_count : List ℕ → ℕ
line_count bytes = lines_from true bytes

-- the bytes are the text of these rows, each of which its line spells, and there are not too many
pub record IsTextOf (bytes : List ℕ) (rows : List LogRow) : Type 0 where
  pub text : log_text rows ≡ bytes
  pub readable : AreReadable rows
  pub some : 0 < length rows
  pub few : length rows ≤ 2000000

-- the bytes don't begin with the line of a row: the first line spells none, or has no end
abbrev pub BeginsWithNoRow : List ℕ → Type 0
BeginsWithNoRow bytes = (row : LogRow) (more : List ℕ) → IsReadable row → bytes ≢ line_of_row row ++ more

-- the line of this number is the first that spells no row or has no end
pub record IsFirstFault (bytes : List ℕ) (line : ℕ) : Type 0 where
  pub rows : List LogRow
  pub rest : List ℕ
  pub readable : AreReadable rows
  pub before : length rows + 1 ≡ line
  pub cut : log_text rows ++ rest ≡ bytes
  pub some : rest ≢ []
  pub faulty : BeginsWithNoRow rest

-- the error's cause; an overflow of `url` and want of memory say nothing
abbrev pub IsFault : LogTextError → List ℕ → Type 0
IsFault errors.NoRows bytes = bytes ≡ []
IsFault errors.TooManyRows bytes = 2000000 < line_count bytes
IsFault (errors.BadLine line) bytes = (bytes ≢ []) × (line_count bytes ≤ 2000000) × IsFirstFault bytes line
IsFault (errors.UrlOverflow mark) bytes = Unit {0}
IsFault errors.OutOfMemory bytes = Unit {0}

-- the result is the rows that the bytes are the text of, or the error whose cause is there
abbrev pub Reads : Result (List LogRow) LogTextError → List ℕ → Type 0
Reads result bytes = MatchResult result (IsTextOf bytes) (λ error. IsFault error bytes)

-- the error may come of any text
abbrev pub IsFree : LogTextError → Type 0
IsFree (errors.UrlOverflow mark) = Unit {0}
IsFree errors.OutOfMemory = Unit {0}
IsFree _ = ⊥
