-- The rows of a history put by navigable and then by step, as a report and a saved session list them.
-- This project's own.
use Rattle.std.specs.Prelude.{◌≡◌, Bool, ◌&&◌, ◌||◌, ◌==◌, nat_lt, List, [], ◌∷◌, if◌then◌else◌}
use Rattle.log_model.specs.declared.row.Row.{Row}
use Rattle.log_model.specs.History.{History}

-- the row stands before the other one: its navigable has the lower number, or is the same and its step is lower
abbrev pub is_before : Row → Row → Bool
is_before row other = nat_lt row.nav.0 other.nav.0 || (row.nav.0 == other.nav.0 && nat_lt row.step.0 other.step.0)

-- the rows in order, with one more in its place
abbrev pub with_row : Row → List Row → List Row
with_row row [] = row ∷ []
with_row row (first ∷ rows) =
    if is_before row first then row ∷ first ∷ rows else first ∷ with_row row rows

-- the rows, put by navigable and then by step
abbrev pub ordered : List Row → List Row
ordered [] = []
ordered (row ∷ rows) = with_row row (ordered rows)

-- two histories are the same but for the order of their rows
pub record SameHistory (one other : History) : Type 0 where
  pub rows : ordered one.rows ≡ ordered other.rows
  pub current : one.current ≡ other.current
  pub added : one.added ≡ other.added
