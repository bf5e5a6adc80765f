-- What each step changes in the view of the seat that makes it, and what it tells.
use Rattle.std.specs.Prelude.{◌≡◌, ◌≢◌, ℕ, ◌+◌, List, [], ◌∷◌, ◌++◌, length, Option, Some, None}
use mathlib.Core.Option.{some}
use mathlib.Core.List.{IsPrefix}
use lib.ListN.{get_elem?}
use Rattle.std.specs.declared.snapshot.Snapshot.{Snapshot}
use Rattle.atomic_table.specs.Table.{Me, Step}
use Rattle.turn_table.specs.declared.board.Held.{Held}
use Rattle.turn_table.specs.declared.view.Named.{Named}
use Rattle.turn_table.specs.declared.view.Row.{Row}
use Rattle.turn_table.specs.declared.view.View.{View}
use Rattle.turn_table.specs.History.{turns_of, StandsFor}
use Rattle.turn_table.specs.Rule.{entries, reach}

abbrev At : Type 0 → Type 0 → Type 0 → Type 0
At V E R = Step (Option (Held V E R))

abbrev Sat : Type 0 → Type 0 → Type 0 → Type 0
Sat V E R = Me (Option (Held V E R)) (View V E R)

-- what a seat has seen
pub record IsSound {V E R : Type 0} (for_first : E → Type 0) (v : View V E R) : Type 0 where
  -- the turns of the seat, and of each seat that was joined into it or into one that it took in, are that seat's own, each once, in its order
  pub turns : (p : ℕ) (e : Named E R) → get_elem? (entries v) p ≡ some e → turns_of e.name v.seen ≡ e.own
  -- the names of these seats differ
  pub differ : (p q : ℕ) (a b : Named E R) → get_elem? (entries v) p ≡ some a → get_elem? (entries v) q ≡ some b → a.name ≡ b.name → p ≡ q
  -- a turn for the first seat alone is a turn of the first seat
  pub firsts : (i : ℕ) (row : Row E R) → get_elem? v.seen i ≡ some row → for_first row.event → row.seat ≡ []

-- no ticket, no slot, and nothing that was met and not yet seen
abbrev pub IsResting : {V E R : Type 0} → (E → Type 0) → Me (Option (Held V E R)) (View V E R) → Type 0
IsResting for_first me = (me.1 ≡ []) × (me.0.stage ≡ 1) × (me.0.met ≡ []) × IsSound for_first me.0

module _ {V E R : Type 0} where
  -- the ticket is read
  abbrev pub stayed : At V E R → Sat V E R → ℕ → Sat V E R → Type 0
  stayed st m found n = n ≡ m

  abbrev pub drawn : View V E R → ℕ → View V E R
  drawn v number = record v { stage = 2; ticket = number }

  -- the ticket is drawn, where it is still the one that was read
  abbrev pub drew : At V E R → Sat V E R → ℕ → Sat V E R → Type 0
  drew st m found n = (found ≡ st.first → n ≡ (drawn m.0 found, m.1)) × (found ≢ st.first → n ≡ m)

  abbrev pub IsServed : (V → E → R → V → Type 0) → Sat V E R → ℕ → Sat V E R → Type 0
  IsServed goes m found n = (log : List (Row E R)) × (held : Held V E R)
      × (n ≡ (record m.0 { stage = 3; seen = log }, (0, Some held) ∷ [])) × IsPrefix m.0.seen log × (length log ≡ found) × StandsFor goes m.0.opening log held.value

  -- the load that finds the own ticket takes the value, and sees the whole history
  abbrev pub came : (V → E → R → V → Type 0) → At V E R → Sat V E R → ℕ → Sat V E R → Type 0
  came goes st m found n = (found ≡ m.0.ticket → IsServed goes m found n) × (found ≢ m.0.ticket → n ≡ m)

  abbrev pub added : View V E R → E → R → View V E R
  added v event reply = let row : Row E R = record { seat = v.name; event = event; reply = reply } in record v { stage = 1; ticket = 0; seen = v.seen ++ row ∷ []; own = v.own ++ row ∷ [] }

  -- the turn is in the history, and the value is given back
  abbrev pub ended : (E → Type 0) → At V E R → Sat V E R → ℕ → Sat V E R → Type 0
  ended for_first st m found n = (held : Held V E R) (event : Snapshot E) (reply : Snapshot R) → m.1 ≡ (0, Some held) ∷ [] → held.event ≡ Some event → held.reply ≡ Some reply
      → (n ≡ (added m.0 event.value reply.value, [])) × IsSound for_first (added m.0 event.value reply.value)

  -- the seat holds the value, which stands for all that it has seen
  abbrev pub IsReady : (V → E → R → V → Type 0) → Sat V E R → Type 0
  IsReady goes m = (m.0.stage ≡ 3) × (m.0.met ≡ []) × ((held : Held V E R) × (m.1 ≡ (0, Some held) ∷ []) × StandsFor goes m.0.opening m.0.seen held.value)

  -- the turn was made at a value that stands for all that was seen
  abbrev pub IsTurnMade : (V → E → R → V → Type 0) → (E → Type 0) → View V E R → E → R → Sat V E R → Type 0
  IsTurnMade goes for_first v event reply n = (n ≡ (added v event reply, [])) × IsSound for_first (added v event reply) × ((old new : V) × StandsFor goes v.opening v.seen old × goes old event reply new)

  abbrev pub after_meeting : View V E R → View V E R
  after_meeting v = record v { seen = reach v; met = [] }

  -- the seat has seen the longer of both
  abbrev pub met : (E → Type 0) → At V E R → Sat V E R → ℕ → Sat V E R → Type 0
  met for_first st m found n = (n ≡ (after_meeting m.0, m.1)) × IsPrefix m.0.seen (reach m.0) × IsPrefix m.0.met (reach m.0) × IsSound for_first (after_meeting m.0)

  -- the seat that is split
  abbrev pub left : View V E R → View V E R
  left v = record v { splits = v.splits + 1 }

  -- the new seat
  abbrev pub right : View V E R → View V E R
  right v = record { stage = 1; ticket = 0; name = v.name ++ v.splits ∷ []; splits = 0; opening = v.opening; seen = v.seen; met = []; own = []; kept = [] }

  -- the seat that takes the other in
  abbrev pub both : View V E R → View V E R → View V E R
  both v w = record v { met = w.seen; kept = v.kept ++ record { name = w.name; own = w.own } ∷ w.kept }

  abbrev pub spent : View V E R
  spent = record { stage = 0; ticket = 0; name = []; splits = 0; opening = None; seen = []; met = []; own = []; kept = [] }
