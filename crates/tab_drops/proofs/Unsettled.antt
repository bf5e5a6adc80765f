-- Who is unsettled by the tables is so in the log, and the other way round; and who is below another one.
use Rattle.apply_plan.proofs.Walks.{up_none}
use Rattle.apply_plan.specs.Needs.{need_of}
use Rattle.apply_plan.specs.Order.{parent_in, rest}
use Rattle.apply_plan.specs.declared.need.Need.{Need}
use Rattle.seen_facts.proofs.Hang.Forms.{nav_is}
use Rattle.seen_facts.proofs.Hang.Hung.{place_chain}
use Rattle.seen_facts.proofs.Hang.Members.{any_has, find_has, has_any}
use Rattle.seen_facts.specs.Hang.AsPlaces.{IsChain}
use Rattle.seen_facts.specs.Hang.Members.{Has}
use Rattle.log_model.proofs.Refl.{nat_eq_refl}
use Rattle.log_model.specs.History.{has_nav}
use Rattle.log_model.specs.Places.{aim_of, is_below, is_shown, way_of}
use Rattle.log_model.specs.Seen.{Place, Seen, place_of}
use Rattle.log_model.specs.declared.row_kind.RowKind.{RowKind}
use Rattle.nav_tree.specs.Tree.{node_of}
use Rattle.nav_tree.specs.declared.node.Node.{Node}
use Rattle.plan_laws.proofs.NeedLaws.{needs_is}
use Rattle.seen_facts.proofs.Rest.Stands.{get_of}
use Rattle.seen_laws.specs.InEvent.{now_of}
use Rattle.std.proofs.Common.{Bool, List, None, Option, Some, [], ap, arith, false, length, not, refl, subst, suc, sym, true, zero, ℕ, ◌&&◌, ◌==◌, ◌||◌, ◌∙◌, ◌∷◌, ◌≡◌, ◌≤◌}
use Rattle.std.specs.List.{list_any}
use Rattle.std.specs.Option.{option_map_or}
use Rattle.std.specs.Prelude.{is_some, slice_get}
use Rattle.tab_doors.proofs.Holding.{its_node}
use Rattle.tab_doors.specs.Look.{look_of}
use Rattle.tab_doors.specs.Ties.{AreTied}
use Rattle.tab_doors.specs.declared.tables.Tables.{Tables}
use Rattle.tab_drops.specs.Dropping.{IsBelowNav, IsUnsettled}
use Rattle.tab_drops.proofs.Climbs.{needs_within}
use Rattle.tab_drops.specs.Ways.{any_needing_in, is_needing_in, is_unsettled_in}
use Rattle.tab_ids.specs.declared.NavId.{NavId}
use Rattle.tab_moves.proofs.Needing.{need_here, needs_it, stand_for}
use Rattle.tab_moves.specs.Showing.{need_in}
use Rattle.tab_moves.proofs.PassedOn.{below_same, depth_is}
use Rattle.tab_moves.specs.PassedOn.{IsPassing, is_below_in}
use Rattle.tab_moves.specs.Moving.{InPass}
use Rattle.seen_facts.proofs.Walk.Placed.{found_nav}
use Rattle.seen_facts.specs.Walk.Serving.{is_needing, is_stopping}
use Rattle.row_facts.specs.WalkRows.Since.{IsVisitedInNeed}

-- what a list of navigables has
pub into_navs : (navs : List NavId) (nav : NavId) → Has navs nav → has_nav navs nav ≡ true
into_navs navs nav there = has_any (λ (n : NavId). n.0 == nav.0) navs nav there (nat_eq_refl nav.0)

pub from_navs : (navs : List NavId) (nav : NavId) → has_nav navs nav ≡ true → Has navs nav
from_navs navs nav is =
    let its = any_has (λ (n : NavId). n.0 == nav.0) navs is in
    subst (λ (n : NavId). Has navs n) (nav_is its.it nav its.passes) its.there

module _ (p : InPass) (out : List RowKind) (t : Tables) (pass : IsPassing p out t) where
  abbrev s : Seen
  s = now_of p.event out

  -- ---- one navigable

  record IsVisitedAt (nav : NavId) : Type 0 where
    place : Place
    placed : place_of s nav ≡ Some place
    need : IsVisitedInNeed s place

  visited_by : (nav : NavId) → is_needing_in t nav ≡ true → IsVisitedAt nav
  visited_by nav is = by_need (need_in t nav) refl is
    where
      by_need : (o : Option Need) → need_in t nav ≡ o → is_some o ≡ true → IsVisitedAt nav
      by_need None at h = absurd cc
      by_need (Some need) at h =
          let it = (needs_it p out t pass nav need at).needing in
          record {
            place = it.place;
            placed = it.placed;
            need = record { shown = ap (λ (n : NavId). is_shown s.history.rows (aim_of s) n) it.nav_is ∙ it.shown; reached = it.reached; needs = it.needs };
          }

  needing_by : (nav : NavId) (place : Place) → place_of s nav ≡ Some place → IsVisitedInNeed s place → is_needing_in t nav ≡ true
  needing_by nav place placed need =
      let index = get_of s.places place (find_has (λ (q : Place). q.nav.0 == nav.0) s.places place placed).0 in
      let law = needs_is s.history.rows (aim_of s) s.places t.tree (stand_for p out t pass) index.0 place index.1 in
      ap (λ (o : Option Need). is_some o) (need_here p out t pass nav)
      ∙ ap (λ (n : NavId). is_some (need_of s.history.rows (aim_of s) t.tree n)) (sym (found_nav s.places nav place placed))
      ∙ law
      ∙ three (is_needing s.history.rows (aim_of s) place) (is_shown s.history.rows (aim_of s) place.nav) (list_any (is_stopping s.history.rows (aim_of s) s.places) place.above) need.needs need.shown need.reached
    where
      three : (a b c : Bool) → a ≡ true → b ≡ true → c ≡ false → (a && (b && not c)) ≡ true
      three true true false x y z = refl
      three false b c x y z = absurd cc
      three true false c x y z = absurd cc
      three true true true x y z = absurd cc

  -- ---- those above

  parent_is : (nav : NavId) (place : Place) → place_of s nav ≡ Some place → parent_in t.tree nav ≡ slice_get place.above 0
  parent_is nav place at = let h = its_node (look_of s t.running) t.tree nav place pass.work.holds.navs at in rw h.there h.tied.parent

  needs_way : (above : List NavId) (nav : NavId) (place : Place) (n : ℕ) → place_of s nav ≡ Some place → place.above ≡ above → IsChain s.places above → length above ≤ n → needs_within n t nav ≡ list_any (is_needing_in t) (nav ∷ above)
  needs_way [] nav place n at is chain low =
      ap (λ (l : List ℕ). any_needing_in t (nav.0 ∷ l)) (up_none n t.tree nav (parent_is nav place at ∙ ap (λ (l : List NavId). slice_get l 0) is))
  needs_way (parent ∷ others) nav place zero at is chain low = absurd (omega (arith, low))
  needs_way (parent ∷ others) nav place (suc n) at is chain low =
      ap (λ (o : Option NavId). any_needing_in t (nav.0 ∷ option_map_or (λ (up : NavId). up.0 ∷ rest n t.tree up) o [])) (parent_is nav place at ∙ ap (λ (l : List NavId). slice_get l 0) is)
      ∙ ap (λ (b : Bool). is_needing_in t nav || b) (needs_way others parent chain.0.place n chain.0.found chain.0.above_is chain.1 (omega (arith, low)))

  way_is : (nav : NavId) (place : Place) → place_of s nav ≡ Some place → is_unsettled_in t nav ≡ list_any (is_needing_in t) (way_of place)
  way_is nav place at =
      needs_way place.above nav place (length t.tree.navs) at refl (place_chain s pass.going.tab.sound pass.going.tab.hangs nav place at) (depth_is s t.running t pass.work.holds pass.going.tab.sound pass.going.tab.hangs nav place at)
      ∙ ap (λ (n : NavId). list_any (is_needing_in t) (n ∷ place.above)) (sym (found_nav s.places nav place at))

  -- none is above one that isn't there, which needs nothing
  no_parent : (nav : NavId) → place_of s nav ≡ None → parent_in t.tree nav ≡ None
  no_parent nav none =
      by_node (node_of nav t.tree) refl (subst (λ (o : Option Place). AreTied (look_of s t.running).documents (look_of s t.running).moved nav (node_of nav t.tree) o) none (pass.work.holds.navs.navs nav))
    where
      by_node : (o : Option Node) → node_of nav t.tree ≡ o → AreTied (look_of s t.running).documents (look_of s t.running).moved nav o None → parent_in t.tree nav ≡ None
      by_node None there tied = rw there refl
      by_node (Some node) there tied = absurd tied

  no_place : (nav : NavId) → place_of s nav ≡ None → is_unsettled_in t nav ≡ false
  no_place nav none = by_own (is_needing_in t nav) refl
    where
      by_own : (b : Bool) → is_needing_in t nav ≡ b → is_unsettled_in t nav ≡ false
      by_own false is =
          ap (λ (l : List ℕ). any_needing_in t (nav.0 ∷ l)) (up_none (length t.tree.navs) t.tree nav (no_parent nav none)) ∙ ap (λ (b : Bool). b || false) is
      by_own true is =
          let it = visited_by nav is in
          let never : None ≡ Some it.place = sym none ∙ it.placed in absurd cc

  -- ---- the navigable, and those above

  pub unsettled_by : (nav : NavId) → is_unsettled_in t nav ≡ true → IsUnsettled s nav
  unsettled_by nav is = by_place (place_of s nav) refl
    where
      by_place : (o : Option Place) → place_of s nav ≡ o → IsUnsettled s nav
      by_place None none = let never : false ≡ true = sym (no_place nav none) ∙ is in absurd cc
      by_place (Some place) placed =
          let its = any_has (is_needing_in t) (way_of place) (sym (way_is nav place placed) ∙ is) in
          let it = visited_by its.it its.passes in
          record { place = place; placed = placed; mover = its.it; on_way = into_navs (way_of place) its.it its.there; own = it.place; there = it.placed; need = it.need }

  pub unsettled_not : (nav : NavId) → is_unsettled_in t nav ≡ false → IsUnsettled s nav → ⊥
  unsettled_not nav is away =
      let needs : is_needing_in t away.mover ≡ true = needing_by away.mover away.own away.there away.need in
      let some : list_any (is_needing_in t) (way_of away.place) ≡ true = has_any (is_needing_in t) (way_of away.place) away.mover (from_navs (way_of away.place) away.mover away.on_way) needs in
      let never : false ≡ true = sym is ∙ way_is nav away.place away.placed ∙ some in absurd cc

  -- ---- below another one

  same_below : (top nav : NavId) (place : Place) → place_of s nav ≡ Some place → is_below_in t.tree top nav ≡ is_below top place
  same_below top nav place placed =
      ap (λ (n : NavId). is_below_in t.tree top n) (sym (found_nav s.places nav place placed))
      ∙ below_same s t.running t pass.work.holds pass.going.tab.sound pass.going.tab.hangs top place (find_has (λ (q : Place). q.nav.0 == nav.0) s.places place placed).0

  pub below_by : (top nav : NavId) → is_below_in t.tree top nav ≡ true → IsBelowNav s top nav
  below_by top nav is = by_place (place_of s nav) refl
    where
      no_below : place_of s nav ≡ None → is_below_in t.tree top nav ≡ false
      no_below none = ap (λ (l : List ℕ). list_any (λ (n : ℕ). n == top.0) l) (up_none (length t.tree.navs) t.tree nav (no_parent nav none))

      by_place : (o : Option Place) → place_of s nav ≡ o → IsBelowNav s top nav
      by_place None none = let never : false ≡ true = sym (no_below none) ∙ is in absurd cc
      by_place (Some place) placed =
          record { place = place; placed = placed; below = sym (same_below top nav place placed) ∙ is }

  pub below_not : (top nav : NavId) → is_below_in t.tree top nav ≡ false → IsBelowNav s top nav → ⊥
  below_not top nav is below =
      let never : false ≡ true = sym is ∙ same_below top nav below.place below.placed ∙ below.below in absurd cc
