-- The words of a line.
-- This project's own.
use Rattle.std.specs.Prelude.{ℕ, List, [], ◌∷◌}
use Rattle.scenario_text.specs.declared.fields.Fields as code
use Rattle.scenario_text.specs.declared.fields.Fields.TheVariants as shapes
use Rattle.scenario_text.specs.Pieces.{pieces}

-- the words of a line, which are parted by one space
abbrev pub words_of : List ℕ → List (List ℕ)
words_of line = pieces 32 line

-- the words after the first: as many as a line may have, or more
pub data Fields : Type 0 where
  zero : Fields
  one : List ℕ → Fields
  two : List ℕ → List ℕ → Fields
  three : List ℕ → List ℕ → List ℕ → Fields
  more : Fields

-- the first word, and those after it
abbrev pub split_words : List (List ℕ) → List ℕ × Fields
split_words [] = ([], zero)
split_words (word ∷ []) = (word, zero)
split_words (word ∷ a ∷ []) = (word, one a)
split_words (word ∷ a ∷ b ∷ []) = (word, two a b)
split_words (word ∷ a ∷ b ∷ c ∷ []) = (word, three a b c)
split_words (word ∷ a ∷ b ∷ c ∷ d ∷ others) = (word, more)

-- the words that the program holds
abbrev pub shown : code.Fields → Fields
shown shapes.Zero = zero
shown (shapes.One a) = one a.now
shown (shapes.Two a b) = two a.now b.now
shown (shapes.Three a b c) = three a.now b.now c.now
shown shapes.More = more
