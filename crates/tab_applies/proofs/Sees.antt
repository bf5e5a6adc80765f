-- Each navigable with an entry has one at the last step that there may be, before a change and after it, and has a place.
use Rattle.seen_facts.proofs.Hang.Forms.{IsPlaceOf, nav_is, place_there}
use Rattle.seen_facts.proofs.Hang.Members.{any_has, has_any as any_of}
use Rattle.seen_facts.proofs.Hang.Targets.{target_has, target_there}
use Rattle.seen_facts.specs.Hang.Members.{Has}
use Rattle.log_model.proofs.Refl.{nat_eq_refl}
use Rattle.log_model.specs.History.{applied, has_nav, has_row, is_of, target_entry}
use Rattle.log_model.specs.Seen.{Place, Seen, place_in}
use Rattle.log_model.specs.declared.change.Change.{Change}
use Rattle.log_model.specs.declared.made.Made.{Made}
use Rattle.log_model.specs.declared.row.Row.{Row}
use Rattle.log_model.specs.declared.row_kind.Actor.{Actor}
use Rattle.seen_facts.proofs.Coord.Unread.{next}
use Rattle.std.proofs.Common.{Bool, List, None, Option, Some, [], ap, arith, cond, false, map, refl, sym, true, ℕ, ◌==◌, ◌||◌, ◌∙◌, ◌∷◌, ◌≡◌, ◌≤◌}
use Rattle.std.specs.Prelude.{is_some}
use Rattle.tab_doors.specs.Dues.{SeesRows, has_any}
use Rattle.tab_turns.proofs.PassedOn.{applied_long}
use Rattle.tab_turns.proofs.Ends.{count_few}
use Rattle.tab_turns.proofs.Begins.{IsGoing}
use Rattle.tab_turns.specs.PassedOn.{AreSteps, has_ended}
use Rattle.tab_ids.specs.declared.NavId.{NavId}
use Rattle.tab_ids.specs.declared.ReqId.{ReqId}
use Rattle.log_model.specs.declared.row_kind.RowKind.TheVariants as rows

-- where each row's step is one that there may be
has_any_is : (rows_ : List Row) → ((row : Row) → Has rows_ row → row.step.0 ≤ 4294967295) → (nav : NavId) → has_row nav rows_ ≡ has_any rows_ nav
has_any_is rows_ low nav = by_row (has_row nav rows_) refl
  where
    never : (row : Row) → target_entry rows_ nav 4294967295 ≡ Some row → has_row nav rows_ ≡ true
    never row at =
        let t = target_has rows_ nav 4294967295 row at in
        any_of (is_of nav) rows_ row t.there (ap (λ (n : NavId). n.0 == nav.0) t.nav_is ∙ nat_eq_refl nav.0)

    by_target : has_row nav rows_ ≡ false → (o : Option Row) → target_entry rows_ nav 4294967295 ≡ o → is_some (target_entry rows_ nav 4294967295) ≡ false
    by_target none None at = ap is_some at
    by_target none (Some row) at = let no_ : false ≡ true = sym none ∙ never row at in absurd cc

    by_row : (b : Bool) → has_row nav rows_ ≡ b → has_row nav rows_ ≡ has_any rows_ nav
    by_row true is =
        let a = any_has (is_of nav) rows_ is in
        is ∙ sym (target_there rows_ nav 4294967295 a.it a.there (nav_is a.it.nav nav a.passes) (low a.it a.there))
    by_row false is = is ∙ sym (by_target is (target_entry rows_ nav 4294967295) refl)

-- who has a place is among those that do
placed_nav : (places : List Place) (nav : NavId) (place : Place) → place_in places nav ≡ Some place → has_nav (map (λ (p : Place). p.nav) places) nav ≡ true
placed_nav [] nav place at = absurd cc
placed_nav (p ∷ places) nav place at = by_test (p.nav.0 == nav.0) at (placed_nav places nav place)
  where
    by_test : (b : Bool) → (let o : Option Place = cond b (Some p) (place_in places nav) in o) ≡ Some place → (place_in places nav ≡ Some place → has_nav (map (λ (q : Place). q.nav) places) nav ≡ true) → (b || has_nav (map (λ (q : Place). q.nav) places) nav) ≡ true
    by_test true e more = refl
    by_test false e more = more e

module _ (run : Option ReqId) (loads : List ReqId) (hand : List Made) (s : Seen) (going : IsGoing run loads hand s) where
  placed : (other : NavId) → has_row other s.history.rows ≡ true → has_nav (map (λ (p : Place). p.nav) s.places) other ≡ true
  placed other has =
      let a = any_has (is_of other) s.history.rows has in
      let form = going.tab.hangs.rows.placed a.it a.there in
      let there : IsPlaceOf s.places a.it.nav form.form = place_there s.places a.it.nav form.form form.found in
      ap (λ (n : NavId). has_nav (map (λ (p : Place). p.nav) s.places) n) (sym (nav_is a.it.nav other a.passes)) ∙ placed_nav s.places a.it.nav there.place there.found

  -- so it is with a change after which steps came one by one
  pub sees : (event : ℕ) (actor : Actor) (req : ReqId) (change : Change) → AreSteps (next s event actor (rows.Applied req change)) → SeesRows s change
  sees event actor req change then_ =
      record {
        before = has_any_is s.history.rows (λ row has. let low = going.steps.rows_ row has in let few = count_few has_ended s.requests in let room = going.room in omega (arith, low, few, room));
        then_ = has_any_is (applied s.history change).rows (λ row has. let low = then_.rows_ row has in let few = count_few has_ended (next s event actor (rows.Applied req change)).requests in let long = applied_long s event actor req change in let room = going.room in omega (arith, low, few, long, room));
        placed = placed;
      }
