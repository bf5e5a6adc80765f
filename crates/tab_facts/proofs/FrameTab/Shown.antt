-- In a tab of frames a navigable is shown at a step, whichever it is, just where it has an entry.
use Rattle.std.proofs.Common.{◌≡◌, ℕ, zero, suc, ◌≤◌, Bool, true, false, cond, ◌||◌, ◌==◌, List, [], ◌∷◌, length, Option, Some, None, refl, sym, ap, ◌∙◌, subst, arith}
use Rattle.std.specs.Prelude.{find, option_map, option_and_then, if◌then◌else◌}
use Rattle.std.proofs.lemmas.Bool.Decides.{nat_tests}
use Rattle.tab_ids.specs.declared.NavId.{NavId}
use Rattle.tab_ids.specs.declared.StateId.{StateId}
use Rattle.log_model.specs.declared.row.Row.{Row}
use Rattle.log_model.specs.Equal.{holds}
use Rattle.log_model.specs.History.{is_of, has_row, owner_of, target_entry}
use Rattle.log_model.specs.Places.{holder_of, targets_state, way_up, is_shown, is_shown_within}
use Rattle.log_model.specs.Seen.{Seen, Place, place_of}
use Rattle.log_model.specs.Soundness.{IsSound}
use Rattle.log_model.proofs.Refl.{nat_eq_refl}
use Rattle.seen_facts.specs.Hang.AsPlaces.{IsHung, HangsAs, IsLink, IsChain}
use Rattle.seen_facts.specs.Hang.Forms.{forms_of}
use Rattle.seen_facts.specs.Hang.Hanging.{BeginsBy, IsPlaced, Hangs}
use Rattle.seen_facts.specs.Hang.Members.{Has}
use Rattle.seen_facts.proofs.Hang.Forms.{nav_is, place_there}
use Rattle.seen_facts.proofs.Hang.Hung.{is_hung, has_begun, hangs_as, place_chain}
use Rattle.seen_facts.proofs.Hang.Members.{Passing, any_has, has_any, find_has}
use Rattle.seen_facts.proofs.Hang.Targets.{IsTarget, target_has, target_there, some_is}
use Rattle.seen_laws.proofs.Keyed as keyed
use Rattle.tab_facts.specs.FrameTab.Numbers.{AreStated}

some_same : {A : Type 0} {a b : A} → (let o : Option A = Some a in o) ≡ Some b → a ≡ b
some_same e = cc

module _ (s : Seen) (sound : IsSound s.history) (hangs : Hangs s) (stated : AreStated s) (step : ℕ) where
  -- a navigable whose rows have the document state has it as its target
  holder_targets : (owner : StateId) (parent : NavId) → holder_of owner s.history.rows ≡ Some parent → targets_state s.history.rows step parent owner ≡ true
  holder_targets owner parent is = by_row (find (λ (row : Row). row.state.0 == owner.0) s.history.rows) refl is
    where
      by_row : (o : Option Row) → find (λ (row : Row). row.state.0 == owner.0) s.history.rows ≡ o → option_map (λ (row : Row). row.nav) o ≡ Some parent → targets_state s.history.rows step parent owner ≡ true
      by_row None e h = absurd cc
      by_row (Some row) e h =
          let f : Has s.history.rows row × ((row.state.0 == owner.0) ≡ true) = find_has (λ (r : Row). r.state.0 == owner.0) s.history.rows row e in
          let navs : row.nav ≡ parent = some_same h in
          let b : BeginsBy s.history.rows row.nav 0 = stated.begins row f.0 in
          let by : b.row.step.0 ≤ 0 = b.by in
          let t : (x : Row) × (target_entry s.history.rows parent step ≡ Some x) = some_is (target_entry s.history.rows parent step) (target_there s.history.rows parent step b.row b.there (b.nav_is ∙ navs) (omega (arith, by))) in
          let its : IsTarget s.history.rows parent step t.0 = target_has s.history.rows parent step t.0 t.1 in
          let state : t.0.state ≡ row.state = stated.one t.0 row its.there f.0 (its.nav_is ∙ sym navs) in
          ap (λ (o : Option Row). holds (λ (r : Row). r.state.0 == owner.0) o) t.1 ∙ ap (λ (n : StateId). n.0 == owner.0) state ∙ f.1

  -- a row of a holder
  holder_has : (owner : StateId) (parent : NavId) → holder_of owner s.history.rows ≡ Some parent → has_row parent s.history.rows ≡ true
  holder_has owner parent is = by_row (find (λ (row : Row). row.state.0 == owner.0) s.history.rows) refl is
    where
      by_row : (o : Option Row) → find (λ (row : Row). row.state.0 == owner.0) s.history.rows ≡ o → option_map (λ (row : Row). row.nav) o ≡ Some parent → has_row parent s.history.rows ≡ true
      by_row None e h = absurd cc
      by_row (Some row) e h =
          let f : Has s.history.rows row × ((row.state.0 == owner.0) ≡ true) = find_has (λ (r : Row). r.state.0 == owner.0) s.history.rows row e in
          let navs : row.nav ≡ parent = some_same h in
          has_any (is_of parent) s.history.rows row f.0 (subst (λ (n : NavId). (row.nav.0 == n.0) ≡ true) navs (nat_eq_refl row.nav.0))

  either : (a b : Bool) → b ≡ true → (a || b) ≡ true
  either true b e = refl
  either false b e = e

  found_nav : (nav : NavId) (place : Place) → place_of s nav ≡ Some place → place.nav ≡ nav
  found_nav nav place there =
      let n : place.nav.0 ≡ nav.0 = keyed.find_has (λ (p : Place). p.nav.0) nav.0 s.places place there in
      ap (λ (i : ℕ). let x : NavId = record { 0 = i } in x) n

  -- the top alone has none above it
  top_is : (nav : NavId) (place : Place) → place_of s nav ≡ Some place → place.above ≡ [] → (nav.0 == 0) ≡ true
  top_is nav place there is =
      let zero_ : place.nav.0 ≡ 0 = (hangs_as s sound hangs nav place there).top is in
      let same : nav.0 ≡ 0 = ap (λ (n : NavId). n.0) (sym (found_nav nav place there)) ∙ zero_ in
      grind (arith, nat_tests, same)

  -- going up leads to the top
  goes_up : (n : ℕ) (above : List NavId) (nav : NavId) (place : Place) → length above ≤ n → place_of s nav ≡ Some place → place.above ≡ above → IsChain s.places above → has_row nav s.history.rows ≡ true → is_shown_within n s.history.rows step (Some nav) ≡ true
  goes_up zero [] nav place long there is chain has = top_is nav place there is
  goes_up (suc n) [] nav place long there is chain has = rw (top_is nav place there is) refl
  goes_up zero (parent ∷ above) nav place long there is chain has = absurd (omega (arith, long))
  goes_up (suc n) (parent ∷ above) nav place long there is chain has =
      let a : Passing (is_of nav) s.history.rows = any_has (is_of nav) s.history.rows has in
      let hung : IsHung s.history.rows place parent = is_hung s sound hangs nav place there a.it a.there (nav_is a.it.nav nav a.passes ∙ sym (found_nav nav place there)) parent above is in
      let link : IsLink s.places parent above = chain.0 in
      let up : way_up s.history.rows step nav ≡ Some parent =
      ap (λ (o : Option StateId). option_and_then (λ owner. option_and_then (λ (p : NavId). if targets_state s.history.rows step p owner then Some p else None) (holder_of owner s.history.rows)) o) (ap (λ (x : NavId). owner_of x s.history.rows) (sym (found_nav nav place there)) ∙ hung.owner_is)
      ∙ ap (λ (o : Option NavId). option_and_then (λ (p : NavId). if targets_state s.history.rows step p hung.owner then Some p else None) o) hung.holder_is
      ∙ ap (λ (b : Bool). let o : Option NavId = cond b (Some parent) None in o) (holder_targets hung.owner parent hung.holder_is)
      in
      either (nav.0 == 0) (is_shown_within n s.history.rows step (way_up s.history.rows step nav))
      (ap (λ (o : Option NavId). is_shown_within n s.history.rows step o) up
      ∙ goes_up n above parent link.place (let less : length above ≤ n = omega (arith, long) in less) link.found link.above_is chain.1 (holder_has hung.owner parent hung.holder_is))

  pub shown_is : (nav : NavId) → is_shown s.history.rows step nav ≡ has_row nav s.history.rows
  shown_is nav = by_tests (is_shown s.history.rows step nav) (has_row nav s.history.rows) refl refl
    where
      there : has_row nav s.history.rows ≡ true → is_shown s.history.rows step nav ≡ true
      there has =
          let a : Passing (is_of nav) s.history.rows = any_has (is_of nav) s.history.rows has in
          let p : IsPlaced (forms_of s.places) a.it = hangs.rows.placed a.it a.there in
          let at = place_there s.places a.it.nav p.form p.found in
          let navs : a.it.nav ≡ nav = nav_is a.it.nav nav a.passes in
          let found : place_of s nav ≡ Some at.place = subst (λ (n : NavId). place_of s n ≡ Some at.place) navs at.found in
          let as_ : HangsAs s.history.rows at.place = hangs_as s sound hangs nav at.place found in
          let b : BeginsBy s.history.rows a.it.nav 0 = stated.begins a.it a.there in
          let deep : length at.place.above ≤ length s.history.rows = as_.rooted 0 (target_there s.history.rows at.place.nav 0 b.row b.there (b.nav_is ∙ navs ∙ sym (found_nav nav at.place found)) b.by) in
          goes_up (length s.history.rows) at.place.above nav at.place deep found refl (place_chain s sound hangs nav at.place found) has

      back : is_shown s.history.rows step nav ≡ true → has_row nav s.history.rows ≡ true
      back shown =
          let t : (x : Row) × (target_entry s.history.rows nav step ≡ Some x) = some_is (target_entry s.history.rows nav step) (has_begun s sound hangs step nav shown) in
          let its : IsTarget s.history.rows nav step t.0 = target_has s.history.rows nav step t.0 t.1 in
          has_any (is_of nav) s.history.rows t.0 its.there (subst (λ (n : NavId). (t.0.nav.0 == n.0) ≡ true) its.nav_is (nat_eq_refl t.0.nav.0))

      by_tests : (a b : Bool) → is_shown s.history.rows step nav ≡ a → has_row nav s.history.rows ≡ b → is_shown s.history.rows step nav ≡ has_row nav s.history.rows
      by_tests true b e f = e ∙ sym (back e)
      by_tests false true e f = there f ∙ sym f
      by_tests false false e f = e ∙ sym f
