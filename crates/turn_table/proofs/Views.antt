-- One view changes, and the rule stays.
use Rattle.std.proofs.Common.{◌≡◌, ◌≢◌, ◌⊎◌, ℕ, zero, suc, ◌<◌, ◌≤◌, List, [], ◌∷◌, map, set, get_or, sym, refl, ap, ◌∙◌, subst, inl, inr, ⊎_elim, arith, Option}
use mathlib.Core.Logic.{dite}
use mathlib.Core.Option.{some, none, some-injective, some-ne-none}
use mathlib.Core.Option as maybe
use native.Mathlib.Decide.{ℕ_discrete}
use lib.ListN.{get_elem?}
use lib.Seq.{set-get_or, map-set}
use Rattle.atomic_table.specs.Table.{State}
use Rattle.atomic_table.proofs.Lists.{at_set, set_here, set_else, set_again, at_map}
use Rattle.turn_table.specs.declared.board.Held.{Held}
use Rattle.turn_table.specs.declared.view.Named.{Named}
use Rattle.turn_table.specs.declared.view.Row.{Row}
use Rattle.turn_table.specs.declared.view.View.{View}
use Rattle.turn_table.specs.Rule.{AreTickets, AreNames, IsView, IsHome, IsOut, IsKept, tag_of, pass_of, entries, unless_spent}
use Rattle.turn_table.proofs.Lists.{in_range, one, map_same}

pub same_word : (ws : List ℕ) (i : ℕ) → set ws i (get_or ws i 0) ≡ ws
same_word ws i = set-get_or ws i 0

pub live : {A : Type 0} (n : ℕ) (xs : List A) → 0 < n → unless_spent n xs ≡ xs
live zero xs h = absurd (omega arith)
live (suc n) xs h = refl

abbrev pub name_of : {E R : Type 0} → Named E R → List ℕ
name_of e = e.name

module _ {V E R : Type 0} where
  pub entries_live : (v : View V E R) → 0 < v.stage → entries v ≡ record { name = v.name; own = v.own } ∷ v.kept
  entries_live v h = live v.stage (record { name = v.name; own = v.own } ∷ v.kept) h

  -- the first name of an unspent view is its own
  pub head : (v : View V E R) → 0 < v.stage → get_elem? (tag_of v).names 0 ≡ some v.name
  head v h = ap (λ (xs : List (Named E R)). get_elem? (map name_of xs) 0) (entries_live v h)

  pub entry_name : (v : View V E R) (p : ℕ) (e : Named E R) → get_elem? (entries v) p ≡ some e → get_elem? (tag_of v).names p ≡ some e.name
  entry_name v p e h = at_map name_of (entries v) p e h

module _ {V E R : Type 0} (goes : V → E → R → V → Type 0) (for_first : E → Type 0) (first : V) where
  abbrev pub St : Type 0
  St = State (Option (Held V E R)) (View V E R)

  abbrev pub Rule : St → Type 0
  Rule = IsKept goes for_first first

  pub serving_is : (s : St) (r : Rule s) → get_or s.words 0 0 ≡ r.serving
  serving_is s r = ap (λ (ws : List ℕ). get_or ws 0 0) r.words

  pub ticket_is : (s : St) (r : Rule s) → get_or s.words 1 0 ≡ r.ticket
  ticket_is s r = ap (λ (ws : List ℕ). get_or ws 1 0) r.words

  -- nothing changes
  pub same : (s : St) (r : Rule s) (i id : ℕ) (v : View V E R) → get_elem? s.views id ≡ some v → Rule record { words = set s.words i (get_or s.words i 0); homes = s.homes; views = set s.views id v }
  same s r i id v at = subst (λ (ws : List ℕ). Rule record { words = ws; homes = s.homes; views = set s.views id v }) (sym (set-get_or s.words i 0))
      (subst (λ (vs : List (View V E R)). Rule record { words = s.words; homes = s.homes; views = vs }) (sym (set_again s.views id v at)) r)

  -- a fact of every view, after one changed
  pub all_views : (K : ℕ → View V E R → Type 0) (vs : List (View V E R)) (id : ℕ) (w : View V E R) → K id w → ((j : ℕ) (x : View V E R) → j ≢ id → get_elem? vs j ≡ some x → K j x)
      → (j : ℕ) (x : View V E R) → get_elem? (set vs id w) j ≡ some x → K j x
  all_views K vs id w mine others j x e = ⊎_elim (λ (t : (j ≡ id) × (w ≡ x)). subst (λ (z : ℕ × View V E R). K z.0 z.1) (λ i. (sym t.0 i, t.1 i)) mine)
      (λ (t : (j ≢ id) × (get_elem? vs j ≡ some x)). others j x t.0 t.1) (at_set vs id j w x e)

  abbrev pub FirstSeat : List (View V E R) → Type 0
  FirstSeat vs = (v : View V E R) × (get_elem? vs 0 ≡ some v) × (0 < v.stage) × (v.name ≡ [])

  -- the first seat's view stays, where the changed view keeps its name
  pub first_stays : (vs : List (View V E R)) (id : ℕ) (v w : View V E R) → get_elem? vs id ≡ some v → FirstSeat vs → w.name ≡ v.name → 0 < w.stage → FirstSeat (set vs id w)
  first_stays vs id v w at f name live = dite (ℕ_discrete 0 id)
      (λ e. (w, ap (get_elem? (set vs id w)) e ∙ set_here vs id w (in_range vs id v at), live, name ∙ (ap (λ (z : View V E R). z.name) (one vs id v f.0 at (ap (get_elem? vs) (sym e) ∙ f.1)) ∙ f.3)))
      (λ n. (f.0, set_else vs id 0 w n ∙ f.1, f.2, f.3))

  -- a view that isn't served changes to one that isn't
  pub slot_stays : (log : List (Row E R)) (homes : List (maybe.Option (Option (Held V E R)))) (vs : List (View V E R)) (id : ℕ) (v w : View V E R) → get_elem? vs id ≡ some v → v.stage < 3 → w.stage < 3
      → IsHome goes first log homes vs ⊎ IsOut homes vs → IsHome goes first log homes (set vs id w) ⊎ IsOut homes (set vs id w)
  slot_stays log homes vs id v w at few few' (inl h) = inl record { held = h.held; home = h.home; stands = h.stands; none_served = all_views (λ j x. x.stage < 3) vs id w few' (λ j x n e. h.none_served j x e) }
  slot_stays log homes vs id v w at few few' (inr o) = inr record {
    out = o.out;
    by = o.by;
    view = o.view;
    stands = set_else vs id o.by w (λ e. let is : o.view ≡ v = one vs id o.view v (ap (get_elem? vs) (sym e) ∙ o.stands) at in let st : o.view.stage ≡ v.stage = ap (λ (z : View V E R). z.stage) is in let h : 3 ≤ o.view.stage = o.served in omega arith) ∙ o.stands;
    served = o.served;
  }

  -- one view changes, but neither the history nor a name
  pub moves : (s : St) (r : Rule s) (id : ℕ) (v w : View V E R) (ticket : ℕ) (homes : List (maybe.Option (Option (Held V E R)))) → get_elem? s.views id ≡ some v → 0 < w.stage → w.name ≡ v.name → tag_of w ≡ tag_of v
      → ticket < 18446744073709551616 → AreTickets r.serving ticket (set (map pass_of s.views) id (pass_of w)) → IsView first r.log w → IsHome goes first r.log homes (set s.views id w) ⊎ IsOut homes (set s.views id w)
      → Rule record { words = r.serving ∷ ticket ∷ []; homes = homes; views = set s.views id w }
  moves s r id v w ticket homes at unspent name tag small tickets view slot = record {
    log = r.log;
    serving = r.serving;
    ticket = ticket;
    words = refl;
    bounded = small;
    long = r.long;
    tickets = subst (AreTickets r.serving ticket) (sym (map-set pass_of s.views id w)) tickets;
    names = subst (AreNames r.log) (sym (map_same tag_of s.views id v w at tag)) r.names;
    views = all_views (λ j x. 0 < x.stage → IsView first r.log x) s.views id w (λ _. view) (λ j x n e. r.views j x e);
    first_seat = first_stays s.views id v w at r.first_seat name unspent;
    firsts = r.firsts;
    slot = slot;
  }
