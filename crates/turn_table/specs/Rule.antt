-- The rule of the table: what holds between any two steps, of the words, the slot and all views.
-- Word 0 is the ticket that is served, word 1 the next ticket. The slot has the value.
use Rattle.std.specs.Prelude.{◌≡◌, ◌≢◌, ◌⊎◌, ℕ, zero, suc, ◌+◌, ◌<◌, ◌≤◌, List, [], ◌∷◌, ◌++◌, map, length, Option, Some}
use mathlib.Core.Option.{some, none}
use mathlib.Core.List.{IsPrefix}
use lib.ListN.{get_elem?}
use Rattle.atomic_table.specs.Table.{State}
use Rattle.turn_table.specs.declared.board.Held.{Held}
use Rattle.turn_table.specs.declared.view.Named.{Named}
use Rattle.turn_table.specs.declared.view.Row.{Row}
use Rattle.turn_table.specs.declared.view.View.{View}
use Rattle.turn_table.specs.History.{turns_of, longer, StandsFor}

-- a view with a ticket counts 1
abbrev pub ticket_count : ℕ → ℕ
ticket_count zero = 0
ticket_count (suc zero) = 0
ticket_count (suc (suc n)) = 1

-- how many views have a ticket, of the stage and the ticket of each
abbrev pub with_ticket : List (ℕ × ℕ) → ℕ
with_ticket [] = 0
with_ticket (x ∷ xs) = ticket_count x.0 + with_ticket xs

-- The tickets, of the stage and the ticket of each view: 2 is the stage of a view with a ticket, 3 of one that is served.
pub record AreTickets (serving ticket : ℕ) (xs : List (ℕ × ℕ)) : Type 0 where
  pub in_step : serving ≤ ticket
  -- the ticket that is served and the number of views with a ticket give the next ticket
  pub counted : serving + with_ticket xs ≡ ticket
  -- each number from the one that is served up to the next ticket is in exactly one view
  pub drawn : (k : ℕ) → serving ≤ k → k < ticket → (j : ℕ) × (x : ℕ × ℕ) × (get_elem? xs j ≡ some x) × (2 ≤ x.0) × (x.1 ≡ k)
  pub once : (i j : ℕ) (x y : ℕ × ℕ) → get_elem? xs i ≡ some x → get_elem? xs j ≡ some y → 2 ≤ x.0 → 2 ≤ y.0 → x.1 ≡ y.1 → i ≡ j
  pub between : (j : ℕ) (x : ℕ × ℕ) → get_elem? xs j ≡ some x → 2 ≤ x.0 → (serving ≤ x.1) × (x.1 < ticket)
  -- a view is served only where its ticket is
  pub served : (j : ℕ) (x : ℕ × ℕ) → get_elem? xs j ≡ some x → 3 ≤ x.0 → x.1 ≡ serving

-- the names that a view answers for, its own first, and how often it was split; a spent view has no name
pub record Tag : Type 0 where
  pub names : List (List ℕ)
  pub splits : ℕ

module _ {E R : Type 0} where
  pub record AreNames (log : List (Row E R)) (tags : List Tag) : Type 0 where
    -- the names of unspent views and the kept names differ
    pub differ : (i j p q : ℕ) (t u : Tag) (n : List ℕ) → get_elem? tags i ≡ some t → get_elem? tags j ≡ some u → get_elem? t.names p ≡ some n → get_elem? u.names q ≡ some n → (i ≡ j) × (p ≡ q)
    -- no name begins with an unspent view's name followed by a number that is at least that view's number of splits
    pub unsplit : (i j q k : ℕ) (t u : Tag) (own n rest : List ℕ) → get_elem? tags i ≡ some t → get_elem? tags j ≡ some u → get_elem? t.names 0 ≡ some own → t.splits ≤ k → get_elem? u.names q ≡ some n
        → n ≢ own ++ k ∷ rest
    -- each name in the history is one of these
    pub known : (i : ℕ) (row : Row E R) → get_elem? log i ≡ some row → (j : ℕ) × (t : Tag) × (p : ℕ) × (get_elem? tags j ≡ some t) × (get_elem? t.names p ≡ some row.seat)

abbrev pub unless_spent : {A : Type 0} → ℕ → List A → List A
unless_spent zero xs = []
unless_spent (suc n) xs = xs

module _ {V E R : Type 0} where
  -- each name that the view answers for, with the turns of that name: its own first, then those of the seats that were joined
  abbrev pub entries : View V E R → List (Named E R)
  entries v = unless_spent v.stage (record { name = v.name; own = v.own } ∷ v.kept)

  abbrev pub tag_of : View V E R → Tag
  tag_of v = record { names = map (λ e. e.name) (entries v); splits = v.splits }

  abbrev pub pass_of : View V E R → ℕ × ℕ
  pass_of v = (v.stage, v.ticket)

  -- what the seat has seen, or keeps from a seat that was joined
  abbrev pub reach : View V E R → List (Row E R)
  reach v = longer v.seen v.met

  -- what the rule says of an unspent view
  pub record IsView (first : V) (log : List (Row E R)) (v : View V E R) : Type 0 where
    pub opening : v.opening ≡ Some first
    pub seen : IsPrefix v.seen log
    pub met : IsPrefix v.met log
    -- a served view has seen the whole history
    pub served : 3 ≤ v.stage → v.seen ≡ log
    -- the turns of each of its names in the history are those that it has for it, and it has seen them
    pub turns : (p : ℕ) (e : Named E R) → get_elem? (entries v) p ≡ some e → (turns_of e.name log ≡ e.own) × (turns_of e.name (reach v) ≡ e.own)

  abbrev pub first_view : V → View V E R
  first_view x = record { stage = 1; ticket = 0; name = []; splits = 0; opening = Some x; seen = []; met = []; own = []; kept = [] }

module _ {V E R : Type 0} {S T : Type 0} (goes : V → E → R → V → Type 0) where
  -- no view is served, and the value that is at home stands for the history
  pub record IsHome (first : V) (log : List (Row E R)) (homes : List (mathlib.Core.Option.Option (Option (Held V S T)))) (views : List (View V E R)) : Type 0 where
    pub held : Held V S T
    pub home : homes ≡ some (Some held) ∷ []
    pub stands : StandsFor goes (Some first) log held.value
    pub none_served : (j : ℕ) (v : View V E R) → get_elem? views j ≡ some v → v.stage < 3

-- a view is served, and has the value
pub record IsOut {V E R H : Type 0} (homes : List (mathlib.Core.Option.Option H)) (views : List (View V E R)) : Type 0 where
  pub out : homes ≡ none ∷ []
  pub by : ℕ
  pub view : View V E R
  pub stands : get_elem? views by ≡ some view
  pub served : 3 ≤ view.stage

pub record IsKept {V E R : Type 0} (goes : V → E → R → V → Type 0) (for_first : E → Type 0) (first : V) (s : State (Option (Held V E R)) (View V E R)) : Type 0 where
  pub log : List (Row E R)
  pub serving : ℕ
  pub ticket : ℕ
  pub words : s.words ≡ serving ∷ ticket ∷ []
  pub bounded : ticket < 18446744073709551616
  -- the history has as many turns as the number of the ticket that is served
  pub long : length log ≡ serving
  pub tickets : AreTickets serving ticket (map pass_of s.views)
  pub names : AreNames log (map tag_of s.views)
  pub views : (j : ℕ) (v : View V E R) → get_elem? s.views j ≡ some v → 0 < v.stage → IsView first log v
  -- the view with the empty name is never spent; by `differ` it is the only one
  pub first_seat : (v : View V E R) × (get_elem? s.views 0 ≡ some v) × (0 < v.stage) × (v.name ≡ [])
  -- a turn for the first seat alone is a turn of the first seat
  pub firsts : (i : ℕ) (row : Row E R) → get_elem? log i ≡ some row → for_first row.event → row.seat ≡ []
  -- the value is at home exactly where no view is served
  pub slot : IsHome goes first log s.homes s.views ⊎ IsOut s.homes s.views
