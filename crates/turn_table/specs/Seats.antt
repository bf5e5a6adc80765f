-- What the calls of a `Turn` do to what a seat knows.
use Rattle.std.specs.Prelude.{◌≡◌, ◌≢◌, List, [], ◌∷◌, ◌++◌, Option, Some}
use mathlib.Core.List.{IsPrefix}
use Rattle.atomic_table.specs.declared.shared.Seat.{Seat}
use Rattle.turn_table.specs.declared.board.Held.{Held}
use Rattle.turn_table.specs.declared.view.Row.{Row}
use Rattle.turn_table.specs.declared.view.View.{View}
use Rattle.turn_table.specs.History.{longer, StandsFor}

module _ {V E R : Type 0} where
  -- what a seat knows: its name, the opening value, what it has seen, its own turns, and the names and turns of the seats that were joined into it
  abbrev pub view_of : Seat (Option (Held V E R)) (View V E R) → View V E R
  view_of place = place.me.0

  -- the first seat, which has seen nothing
  pub record IsNew (value : V) (v : View V E R) : Type 0 where
    pub name : v.name ≡ []
    pub opening : v.opening ≡ Some value
    pub seen : v.seen ≡ []
    pub own : v.own ≡ []
    pub kept : v.kept ≡ []

  -- the same seat: its name, the opening value and the seats that were joined into it stay
  abbrev pub IsSame : View V E R → View V E R → Type 0
  IsSame v w = (w.name ≡ v.name) × (w.opening ≡ v.opening) × (w.kept ≡ v.kept)

  -- one turn, made at a value that stands for the turns before, which begin with all that the seat had seen
  pub record IsTurn (goes : V → E → R → V → Type 0) (v : View V E R) (event : E) (reply : R) (w : View V E R) : Type 0 where
    pub before : List (Row E R)
    pub old : V
    pub new : V
    pub begins : IsPrefix v.seen before
    pub stands : StandsFor goes v.opening before old
    pub goes_on : goes old event reply new
    -- the history ends with this event and this reply, and the seat has seen it
    pub seen : w.seen ≡ before ++ record { seat = v.name; event = event; reply = reply } ∷ []
    pub own : w.own ≡ v.own ++ record { seat = v.name; event = event; reply = reply } ∷ []
    pub same : IsSame v w

  -- what the seat has seen, its own turns and those that it keeps are as before
  abbrev pub IsUnchanged : View V E R → View V E R → Type 0
  IsUnchanged v w = IsSame v w × (w.seen ≡ v.seen) × (w.own ≡ v.own)

  -- a seat that isn't the first, has seen the same and has no turns of its own
  pub record IsSplit (v : View V E R) (w : View V E R) : Type 0 where
    pub not_first : w.name ≢ []
    pub opening : w.opening ≡ v.opening
    pub seen : w.seen ≡ v.seen
    pub own : w.own ≡ []
    pub kept : w.kept ≡ []

  -- the seat has seen the longer of both, and keeps the other's own turns, and those that the other kept, beside its own
  pub record IsJoined (v other w : View V E R) : Type 0 where
    pub name : w.name ≡ v.name
    pub opening : w.opening ≡ v.opening
    pub own : w.own ≡ v.own
    pub seen : w.seen ≡ longer v.seen other.seen
    pub begins : IsPrefix v.seen w.seen × IsPrefix other.seen w.seen
    pub kept : w.kept ≡ v.kept ++ record { name = other.name; own = other.own } ∷ other.kept
