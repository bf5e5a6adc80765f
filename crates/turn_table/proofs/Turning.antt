-- One whole turn, of what its steps tell.
use Rattle.std.proofs.Common.{◌≡◌, ℕ, ◌+◌, ◌≤◌, List, [], ◌∷◌, length, sym, ap, ◌∙◌, subst, arith, Option, Some, length-append}
use mathlib.Core.List.{IsPrefix}
use lib.ListN.{get_elem?}
use Rattle.atomic_table.specs.Table.{Me}
use Rattle.turn_table.specs.declared.board.Held.{Held}
use Rattle.turn_table.specs.declared.view.Named.{Named}
use Rattle.turn_table.specs.declared.view.Row.{Row}
use Rattle.turn_table.specs.declared.view.View.{View}
use Rattle.turn_table.specs.History.{turns_of, StandsFor}
use Rattle.turn_table.specs.Steps.{IsResting, IsSound, IsServed, IsReady, IsTurnMade, drawn, added}
use Rattle.turn_table.specs.Seats.{IsTurn}
use Rattle.turn_table.proofs.Histories.{few}
use Rattle.turn_table.proofs.Views.{entries_live}

module _ {V E R : Type 0} where
  -- a seat has no more turns of its own than it has seen
  pub fewer : (for_first : E → Type 0) (v : View V E R) → v.stage ≡ 1 → IsSound for_first v → length v.own ≤ length v.seen
  fewer for_first v one sound = let is : turns_of v.name v.seen ≡ v.own = sound.turns 0 (record { name = v.name; own = v.own }) (ap (λ (es : List (Named E R)). get_elem? es 0) (entries_live v (omega arith))) in
      let same : length (turns_of v.name v.seen) ≡ length v.own = ap (λ (l : List (Row E R)). length l) is in let h = few v.name v.seen in omega arith

module _ {V E R : Type 0} (goes : V → E → R → V → Type 0) (for_first : E → Type 0) (ticket : ℕ) (rested ticketed served : Me (Option (Held V E R)) (View V E R)) (drew : ticketed ≡ (drawn rested.0 ticket, rested.1)) where
  abbrev S : Type 0
  S = IsServed goes ticketed ticket served

  pub served_at : (s : S) → served ≡ (record rested.0 { stage = 3; ticket = ticket; seen = s.0 }, (0, Some s.1) ∷ [])
  served_at s = s.2 ∙ (λ i. (record (drew i).0 { stage = 3; seen = s.0 }, (0, Some s.1) ∷ []))

  pub ready : IsResting for_first rested → S → IsReady goes served
  ready rests s = let is = served_at s in
      (ap (λ m. m.0.stage) is, ap (λ m. m.0.met) is ∙ rests.2, (s.1, ap (λ m. m.1) is, subst (λ (x : Option V × List (Row E R)). StandsFor goes x.0 x.1 s.1.value) (λ i. ((ap (λ (m : Me (Option (Held V E R)) (View V E R)). m.0.opening) drew ∙ ap (λ (m : Me (Option (Held V E R)) (View V E R)). m.0.opening) (sym is)) i, ap (λ (m : Me (Option (Held V E R)) (View V E R)). m.0.seen) (sym is) i)) s.5))

  module _ (event : E) (reply : R) (ended : Me (Option (Held V E R)) (View V E R)) (rests : IsResting for_first rested) (s : S) (made : IsTurnMade goes for_first served.0 event reply ended) where
    ended_at : ended ≡ (added (record rested.0 { stage = 3; ticket = ticket; seen = s.0 }) event reply, [])
    ended_at = made.0 ∙ (λ i. (added (served_at s i).0 event reply, []))

    pub is_turn : IsTurn goes rested.0 event reply ended.0
    is_turn = record {
      before = s.0;
      old = made.2.0;
      new = made.2.1;
      begins = subst (λ (l : List (Row E R)). IsPrefix l s.0) (ap (λ (m : Me (Option (Held V E R)) (View V E R)). m.0.seen) drew) s.3;
      stands = subst (λ (m : Me (Option (Held V E R)) (View V E R)). StandsFor goes m.0.opening m.0.seen made.2.0) (served_at s) made.2.2;
      goes_on = made.2.3;
      seen = ap (λ m. m.0.seen) ended_at;
      own = ap (λ m. m.0.own) ended_at;
      same = (ap (λ m. m.0.name) ended_at, ap (λ m. m.0.opening) ended_at, ap (λ m. m.0.kept) ended_at);
    }

    pub rests_again : IsResting for_first ended
    rests_again = (ap (λ m. m.1) ended_at, ap (λ m. m.0.stage) ended_at, ap (λ m. m.0.met) ended_at ∙ rests.2, subst (IsSound for_first) (sym (ap (λ m. m.0) made.0)) made.1)

    pub seen_more : ticket + 1 ≡ length ended.0.seen
    seen_more = let h : length ended.0.seen ≡ length s.0 + 1 = ap (λ (m : Me (Option (Held V E R)) (View V E R)). length m.0.seen) ended_at ∙ length-append s.0 _ in let g : length s.0 ≡ ticket = s.4 in omega arith

    pub own_more : (mine : ℕ) → mine ≡ length rested.0.own → mine + 1 ≡ length ended.0.own
    own_more mine is = let h : length ended.0.own ≡ length rested.0.own + 1 = ap (λ (m : Me (Option (Held V E R)) (View V E R)). length m.0.own) ended_at ∙ length-append rested.0.own _ in omega arith

    pub own_fits : (mine : ℕ) → mine ≡ length rested.0.own → mine + 1 ≤ ticket + 1
    own_fits mine is = let h = fewer for_first ended.0 rests_again.1 rests_again.3 in let a = seen_more in let b = own_more mine is in omega arith
