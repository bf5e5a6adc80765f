-- Whom a walk through the tables reaches, as the log's places tell.
use Rattle.std.proofs.Common.{◌≡◌, ◌≢◌, ◌≤◌, ℕ, zero, suc, Bool, true, false, not, ◌&&◌, ◌||◌, List, [], ◌∷◌, length, Option, Some, None, refl, sym, ap, ◌∙◌, subst, arith}
use Rattle.std.specs.Prelude.{◌==◌, slice_get, is_some, if◌then◌else◌}
use Rattle.std.specs.List.{list_any}
use Rattle.std.proofs.Math.Bool.{and-false}
use Rattle.std.proofs.lemmas.Bool.{ne_eqb, eq-eqb}
use Rattle.tab_ids.specs.declared.NavId.{NavId}
use Rattle.tab_ids.specs.declared.StateId.{StateId}
use Rattle.log_model.specs.declared.row.Row.{Row}
use Rattle.log_model.specs.Equal.{holds}
use Rattle.log_model.specs.History.{target_entry, owner_of}
use Rattle.log_model.specs.Seen.{Place, place_in}
use Rattle.log_model.specs.Places as log
use Rattle.log_model.specs.Places.{holder_of, targets_state, is_shown_within, is_shown}
use Rattle.nav_tree.specs.declared.nav.Nav.{Nav}
use Rattle.nav_tree.specs.Tree.{Tree, nav_of}
use Rattle.apply_plan.specs.declared.reach.Reach.{Reach}
use Rattle.apply_plan.specs.Reaches.{leads_on, way_up, is_reached_within, is_reached}
use Rattle.apply_plan.specs.Order.{parent_in}
use Rattle.plan_laws.specs.Held.{AreAbove, IsKept, StandFor}
use Rattle.seen_facts.specs.Hang.AsPlaces.{IsHung, HangsAs, IsLink, IsChain}
use Rattle.plan_laws.proofs.Placed.{found_nav, each_found}

none_reached : (n : ℕ) (reach : Reach) (rows : List Row) (step : ℕ) (tree : Tree) → is_reached_within n reach rows step tree None ≡ false
none_reached zero reach rows step tree = refl
none_reached (suc n) reach rows step tree = refl

none_shown : (n : ℕ) (rows : List Row) (step : ℕ) → is_shown_within n rows step None ≡ false
none_shown zero rows step = refl
none_shown (suc n) rows step = refl

top_reached : (n : ℕ) (reach : Reach) (rows : List Row) (step : ℕ) (tree : Tree) (nav : NavId) → (nav.0 == 0) ≡ true → is_reached_within n reach rows step tree (Some nav) ≡ true
top_reached zero reach rows step tree nav e = e
top_reached (suc n) reach rows step tree nav e = rw e refl

top_shown : (n : ℕ) (rows : List Row) (step : ℕ) (nav : NavId) → (nav.0 == 0) ≡ true → is_shown_within n rows step (Some nav) ≡ true
top_shown zero rows step nav e = e
top_shown (suc n) rows step nav e = rw e refl

-- one that targets a document state has a target
targets_some : (rows : List Row) (step : ℕ) (nav : NavId) (state : StateId) → targets_state rows step nav state ≡ true → is_some (target_entry rows nav step) ≡ true
targets_some rows step nav state e = by_target (target_entry rows nav step) e
  where
    by_target : (o : Option Row) → holds (λ (row : Row). row.state.0 == state.0) o ≡ true → is_some o ≡ true
    by_target None e = let no_ : false ≡ true = e in cc
    by_target (Some row) e = refl

-- the parent that the tree keeps
parent_as : (tree : Tree) (nav parent : NavId) (fields : Nav) → nav_of nav tree ≡ Some fields → parent_in tree nav ≡ Some parent → fields.parent ≡ Some parent
parent_as tree nav parent fields there is = rw there at is

-- the walk goes on below all but those that stop it
abbrev pub GoesOn : Reach → (NavId → Bool) → List Row → ℕ → List Place → Tree → Type 0
GoesOn reach stops rows step places tree = (nav : NavId) (place : Place) → place_in places nav ≡ Some place → (kept : IsKept tree place) → leads_on reach rows step nav kept.fields ≡ not (stops nav)

module _ (reach : Reach) (stops : NavId → Bool) (rows : List Row) (step : ℕ) (places : List Place) (tree : Tree) (stand : StandFor rows places tree) (goes_on : GoesOn reach stops rows step places tree) where
  reached_as : (above : List NavId) (m k : ℕ) (nav : NavId) (place : Place) → place_in places nav ≡ Some place → place.above ≡ above → AreAbove tree nav above → IsChain places above → length above ≤ m → length above ≤ k → is_some (target_entry rows nav step) ≡ true → is_reached_within m reach rows step tree (Some nav) ≡ (is_shown_within k rows step (Some nav) && not (list_any stops above))
  reached_as [] m k nav place found above_is are chain low deep some =
      let number : nav.0 ≡ 0 = ap (λ (n : NavId). n.0) (sym (found_nav places nav place found)) ∙ (stand.hangs nav place found).top above_is in
      let top = eq-eqb nav.0 0 number in
      rw (top_reached m reach rows step tree nav top, top_shown k rows step nav top) refl
  reached_as (a ∷ above) zero k nav place found above_is are chain low deep some = absurd (omega (arith, low))
  reached_as (a ∷ above) (suc m) zero nav place found above_is are chain low deep some = absurd (omega (arith, deep))
  reached_as (a ∷ above) (suc m) (suc k) nav place found above_is are chain low deep some =
      rw (child, up_tree, up_log) (by_tests (targets_state rows step a hung.owner) (stops a) refl (λ t. reached_as above m k a link.place link.found link.above_is are.1 chain.1 (omega (arith, low)) (omega (arith, deep)) (targets_some rows step a hung.owner t)))
    where
      nav_is : place.nav ≡ nav
      nav_is = found_nav places nav place found

      hangs : HangsAs rows place
      hangs = stand.hangs nav place found

      child : (nav.0 == 0) ≡ false
      child = ne_eqb nav.0 0 (subst (λ (n : NavId). n.0 ≢ 0) nav_is (hangs.child a above above_is))

      hung : IsHung rows place a
      hung = hangs.hung step a above (subst (λ (n : NavId). is_some (target_entry rows n step) ≡ true) (sym nav_is) some) above_is

      mine : IsKept tree place
      mine = stand.kept nav place found

      there : nav_of nav tree ≡ Some mine.fields
      there = subst (λ (n : NavId). nav_of n tree ≡ Some mine.fields) nav_is mine.there

      link : IsLink places a above
      link = chain.0

      its : IsKept tree link.place
      its = stand.kept a link.place link.found

      its_there : nav_of a tree ≡ Some its.fields
      its_there = subst (λ (n : NavId). nav_of n tree ≡ Some its.fields) (found_nav places a link.place link.found) its.there

      its_leads : leads_on reach rows step a its.fields ≡ not (stops a)
      its_leads = goes_on a link.place link.found its

      up_tree : way_up reach rows step tree nav ≡ (if targets_state rows step a hung.owner && not (stops a) then Some a else None)
      up_tree = rw there (rw (parent_as tree nav a mine.fields there are.0, mine.owner ∙ hung.first) (rw its_there (rw its_leads refl)))

      up_log : log.way_up rows step nav ≡ (if targets_state rows step a hung.owner then Some a else None)
      up_log = rw (subst (λ (n : NavId). owner_of n rows ≡ Some hung.owner) nav_is hung.owner_is) (rw hung.holder_is refl)

      by_tests : (b c : Bool) → targets_state rows step a hung.owner ≡ b → (targets_state rows step a hung.owner ≡ true → is_reached_within m reach rows step tree (Some a) ≡ (is_shown_within k rows step (Some a) && not (list_any stops above))) → is_reached_within m reach rows step tree (if b && not c then Some a else None) ≡ (is_shown_within k rows step (if b then Some a else None) && not (c || list_any stops above))
      by_tests false c t more = rw (none_reached m reach rows step tree, none_shown k rows step) refl
      by_tests true true t more = rw (none_reached m reach rows step tree, and-false (is_shown_within k rows step (Some a))) refl
      by_tests true false t more = more t

  -- one with a target is reached exactly where it is shown and nothing above it stops the walk
  pub reached_is : (i : ℕ) (place : Place) → slice_get places i ≡ Some place → is_some (target_entry rows place.nav step) ≡ true → is_reached reach rows step tree place.nav ≡ (is_shown rows step place.nav && not (list_any stops place.above))
  reached_is i place there some =
      let here : place_in places place.nav ≡ Some place = each_found places stand.held.distinct i place there in
      rw some (reached_as place.above (length tree.navs) (length rows) place.nav place here refl (stand.held.above i place there) (stand.chains place.nav place here) (stand.held.depth i place there) ((stand.hangs place.nav place here).rooted step some) some)

  -- one without a target is neither reached nor shown
  pub unreached_is : (i : ℕ) (place : Place) → slice_get places i ≡ Some place → is_some (target_entry rows place.nav step) ≡ false → (is_reached reach rows step tree place.nav ≡ false) × (is_shown rows step place.nav ≡ false)
  unreached_is i place there none = (rw none refl, by_shown (is_shown rows step place.nav) refl)
    where
      here : place_in places place.nav ≡ Some place
      here = each_found places stand.held.distinct i place there

      by_shown : (c : Bool) → is_shown rows step place.nav ≡ c → c ≡ false
      by_shown false f = refl
      by_shown true f = let no_ : false ≡ true = sym none ∙ (stand.hangs place.nav place here).begun step f in cc

  -- in either case
  pub reach_is : (i : ℕ) (place : Place) → slice_get places i ≡ Some place → is_reached reach rows step tree place.nav ≡ (is_shown rows step place.nav && not (list_any stops place.above))
  reach_is i place there = by_target (is_some (target_entry rows place.nav step)) refl
    where
      by_target : (b : Bool) → is_some (target_entry rows place.nav step) ≡ b → is_reached reach rows step tree place.nav ≡ (is_shown rows step place.nav && not (list_any stops place.above))
      by_target true e = reached_is i place there e
      by_target false e = let un = unreached_is i place there e in un.0 ∙ rw un.1 refl
