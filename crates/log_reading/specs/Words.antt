-- The words of a line, parted by one space.
-- This project's own.
use Rattle.std.specs.Prelude.{ℕ, ◌==◌, List}
use Rattle.std.specs.List.{before_first, after_first}
use Rattle.log_reading.specs.declared.part.Part as code

-- what stands before the first separator; the whole text where there is none
unfoldable pub before : ℕ → List ℕ → List ℕ
before separator text = before_first (λ b. b == separator) text

-- what stands after it; nothing where there is none
unfoldable pub after : ℕ → List ℕ → List ℕ
after separator text = after_first (λ b. b == separator) text

-- the first word of a text, and what follows it
abbrev pub first_word : List ℕ → List ℕ
first_word text = before 32 text

abbrev pub after_word : List ℕ → List ℕ
after_word text = after 32 text

-- the name of what a row tells, and up to six words after it; one that isn't there is empty
pub record Part : Type 0 where
  pub name : List ℕ
  pub a : List ℕ
  pub b : List ℕ
  pub c : List ℕ
  pub d : List ℕ
  pub e : List ℕ
  pub f : List ℕ

-- the words that a text begins with
unfoldable pub part_of : List ℕ → Part
part_of text =
    let t1 = after_word text in
    let t2 = after_word t1 in
    let t3 = after_word t2 in
    let t4 = after_word t3 in
    let t5 = after_word t4 in
    let t6 = after_word t5 in
    record {
      name = first_word text;
      a = first_word t1;
      b = first_word t2;
      c = first_word t3;
      d = first_word t4;
      e = first_word t5;
      f = first_word t6;
    }

-- the words that the program holds
abbrev pub shown : code.Part → Part
shown part = record { name = part.name.now; a = part.a.now; b = part.b.now; c = part.c.now; d = part.d.now; e = part.e.now; f = part.f.now }
