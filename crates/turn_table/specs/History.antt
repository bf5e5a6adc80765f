-- A history of turns, each the name of a seat, an event and a reply.
use Rattle.std.specs.Prelude.{◌≡◌, ℕ, List, [], ◌∷◌, length, filter, bytes_eq, nat_lt, if◌then◌else◌, Option, Some}
use Rattle.turn_table.specs.declared.view.Row.{Row}

module _ {E R : Type 0} where
  -- the turns of the seat with this name, each once, in their order
  abbrev pub turns_of : List ℕ → List (Row E R) → List (Row E R)
  turns_of name log = filter (λ row. bytes_eq row.seat name) log

  -- the longer of two beginnings of a history
  abbrev pub longer : List (Row E R) → List (Row E R) → List (Row E R)
  longer xs ys = if nat_lt (length xs) (length ys) then ys else xs

module _ {V E R : Type 0} (goes : V → E → R → V → Type 0) where
  -- from the first value each turn leads to the next value, and the last to the second
  abbrev pub Leads : V → List (Row E R) → V → Type 0
  Leads old [] new = old ≡ new
  Leads old (row ∷ log) new = (next : V) × goes old row.event row.reply next × Leads next log new

  -- the value stands for the history from the opening value
  abbrev pub StandsFor : Option V → List (Row E R) → V → Type 0
  StandsFor opening log value = (old : V) × (opening ≡ Some old) × Leads old log value
