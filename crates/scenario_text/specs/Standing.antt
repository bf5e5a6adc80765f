-- Where a word stands in a line, or a line in a text.
-- This project's own.
use Rattle.std.specs.Prelude.{◌≡◌, ℕ, ◌+◌, ◌-◌, ◌≤◌, List, length, take, drop}
use Rattle.scenario_text.specs.declared.fields.Split.{Split}
use Rattle.scenario_text.specs.declared.share.StandingLine.{StandingLine}
use Rattle.scenario_text.specs.Words.{shown, split_words, words_of}

-- it stands there so that this many bytes follow
pub record Stands (line word : List ℕ) (after : ℕ) : Type 0 where
  pub within : length word + after ≤ length line
  pub is : take (length word) (drop (length line - after - length word) line) ≡ word

-- the line stands in its text
abbrev pub IsStanding : StandingLine → Type 0
IsStanding line = Stands line.text.now line.bytes.now line.after

-- the words are those of the line
pub record IsSplit (split : Split) (line : List ℕ) : Type 0 where
  pub word : split.word.now ≡ (split_words (words_of line)).0
  pub fields : shown split.fields ≡ (split_words (words_of line)).1
