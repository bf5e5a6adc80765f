-- The tables and the history stand for the places of the log.
use Rattle.tab_doors.specs.declared.tables.Tables.{Tables}  -- keep
use Rattle.plan_laws.specs.Held.{AreAbove, IsKept, StandFor}  -- keep
use Rattle.plan_laws.specs.Held as plan  -- keep
use Rattle.tab_doors.specs.Ties.{Holds, IsTied, status_of}  -- keep
use Rattle.nav_tree.specs.declared.status.NavStatus.TheVariants as kept  -- keep
use Rattle.seen_facts.proofs.Hang.Depths.{several, ways_differ}  -- keep
use Rattle.seen_facts.proofs.Hang.Hung.{hangs_as, place_chain, places_distinct}  -- keep
use Rattle.apply_plan.specs.Order.{parent_in}
use Rattle.tab_doors.proofs.Holding.{its_node}
use Rattle.tab_doors.specs.Look.{look_of, moved_by, sight}
use Rattle.seen_facts.proofs.Hang.Depths.{AreDifferent}
use Rattle.seen_facts.proofs.Hang.Forms.{form_there}
use Rattle.seen_facts.specs.Hang.AsPlaces.{IsChain}
use Rattle.seen_facts.specs.Hang.Forms.{form_of, forms_of}
use Rattle.seen_facts.specs.Hang.Hanging.{Hangs}
use Rattle.seen_facts.specs.Hang.Members.{Has}
use Rattle.log_model.specs.History.{has_nav, has_row}
use Rattle.log_model.specs.Seen.{Place, Seen, place_in}
use Rattle.log_model.specs.Soundness.{IsSound}
use Rattle.log_model.specs.declared.row.Row.{Row}
use Rattle.log_model.specs.declared.row_kind.RowKind.{RowKind}
use Rattle.nav_tree.specs.Tree.{nav_of, node_of}
use Rattle.nav_tree.specs.declared.node.Node.{Node}
use Rattle.nav_tree.specs.declared.status.NavStatus.{NavStatus}
use Rattle.tab_passes.specs.Passing.{InPass, IsPassing}
use Rattle.seen_laws.specs.InEvent.{now_of}
use Rattle.std.proofs.Common.{Bool, List, None, Option, Some, [], ap, arith, cond, false, inl, inr, length, map, refl, sym, true, ℕ, ◌==◌, ◌||◌, ◌∙◌, ◌∷◌, ◌≡◌, ◌≤◌}
use Rattle.std.proofs.lemmas.List.{length-map}
use Rattle.std.specs.Prelude.{option_map, slice_get}
use Rattle.tab_ids.specs.declared.NavId.{NavId}
use Rattle.tab_ids.specs.declared.ReqId.{ReqId}
use Rattle.seen_facts.proofs.Walk.Placed.{each_found, found_nav}

-- ---- navigables that differ aren't more than there are

-- an entry of the navigable, for counting
blank : NavId → Row
blank nav = record { nav = nav; step = record { 0 = 0 }; entry = record { maker = 0; nr = 0 }; state = record { 0 = 0 }; owner = None; address = []; memo = None }

blank_rows : (nav : NavId) (navs : List NavId) → has_row nav (map blank navs) ≡ has_nav navs nav
unfolding blank
blank_rows nav [] = refl
blank_rows nav (n ∷ navs) = ap (λ (b : Bool). (n.0 == nav.0) || b) (blank_rows nav navs)

fewer_navs : (navs all : List NavId) → AreDifferent navs → ((nav : NavId) → Has navs nav → has_nav all nav ≡ true) → length navs ≤ length all
fewer_navs navs all apart each =
    let few : length navs ≤ length (map blank all) = several navs (map blank all) apart (λ nav there. blank_rows nav all ∙ each nav there) in
    let same : length (map blank all) ≡ length all = length-map all blank in
    omega (arith, few, same)

-- ---- those above

place_named : (l : List Place) (nav : NavId) (place : Place) → place_in l nav ≡ Some place → has_nav (map (λ (p : Place). p.nav) l) nav ≡ true
place_named [] nav place at = cc
place_named (p ∷ l) nav place at = by_nav (p.nav.0 == nav.0) at (place_named l nav place)
  where
    by_nav : (b : Bool) → cond b (Some p) (place_in l nav) ≡ Some place → (place_in l nav ≡ Some place → has_nav (map (λ (q : Place). q.nav) l) nav ≡ true) → (b || has_nav (map (λ (q : Place). q.nav) l) nav) ≡ true
    by_nav true is more = refl
    by_nav false is more = more is

chain_named : (places : List Place) (above : List NavId) → IsChain places above → (nav : NavId) → Has above nav → has_nav (map (λ (p : Place). p.nav) places) nav ≡ true
chain_named places [] chain nav there = absurd there
chain_named places (first ∷ above) chain nav (inl same) = place_named places nav chain.0.place (ap (λ (n : NavId). place_in places n) (sym same) ∙ chain.0.found)
chain_named places (first ∷ above) chain nav (inr there) = chain_named places above chain.1 nav there

module _ (s : Seen) (run : Option ReqId) (t : Tables) (holds : Holds (look_of s run) t) (sound : IsSound s.history) (hangs : Hangs s) where
  record HasParent (nav : NavId) (place : Place) : Type 0 where
    node : Node
    there : node_of nav t.tree ≡ Some node
    tied : IsTied (map sight s.documents) (moved_by s.requests run) node place

  its : (nav : NavId) (place : Place) → place_in s.places nav ≡ Some place → HasParent nav place
  its nav place at = let h = its_node (look_of s run) t.tree nav place holds.navs at in record { node = h.node; there = h.there; tied = h.tied }

  parent_is : (nav : NavId) (place : Place) → place_in s.places nav ≡ Some place → parent_in t.tree nav ≡ slice_get place.above 0
  parent_is nav place at = let h = its nav place at in rw h.there h.tied.parent

  are_above : (nav : NavId) (place : Place) (above : List NavId) → place_in s.places nav ≡ Some place → place.above ≡ above → IsChain s.places above → AreAbove t.tree nav above
  are_above nav place [] at is chain = parent_is nav place at ∙ ap (λ (l : List NavId). slice_get l 0) is
  are_above nav place (parent ∷ above) at is chain = (parent_is nav place at ∙ ap (λ (l : List NavId). slice_get l 0) is, are_above parent chain.0.place above chain.0.found chain.0.above_is chain.1)

  counted : length s.places ≡ length t.tree.navs
  counted = sym (length-map s.places (λ (p : Place). p.nav)) ∙ ap length (sym holds.navs.order) ∙ length-map t.tree.navs (λ (e : NavId × Node). e.0)

  at_own : (i : ℕ) (place : Place) → slice_get s.places i ≡ Some place → place_in s.places place.nav ≡ Some place
  at_own i place at = each_found s.places (places_distinct s sound hangs) i place at

  pub depth_is : (nav : NavId) (place : Place) → place_in s.places nav ≡ Some place → length place.above ≤ length t.tree.navs
  depth_is nav place at =
      let few : length place.above ≤ length (map (λ (p : Place). p.nav) s.places) = fewer_navs place.above (map (λ (p : Place). p.nav) s.places) (ways_differ (forms_of s.places) place.above (hangs.woven.linked nav (form_of place) (form_there s.places nav place at))) (chain_named s.places place.above (place_chain s sound hangs nav place at)) in
      let long : length (map (λ (p : Place). p.nav) s.places) ≡ length s.places = length-map s.places (λ (p : Place). p.nav) in
      let same = counted in
      omega (arith, few, long, same)

  pub stands : StandFor s.history.rows s.places t.tree
  stands =
      record {
        held = record {
          order = holds.navs.order;
          distinct = places_distinct s sound hangs;
          above = λ i place at. are_above place.nav place place.above (at_own i place at) refl (place_chain s sound hangs place.nav place (at_own i place at));
          depth = λ i place at. depth_is place.nav place (at_own i place at);
        };
        kept = λ nav place at. kept_ nav place at (its nav place at);
        hangs = λ nav place at. hangs_as s sound hangs nav place at;
        chains = λ nav place at. place_chain s sound hangs nav place at;
      }
    where
      kept_ : (nav : NavId) (place : Place) → place_in s.places nav ≡ Some place → HasParent nav place → IsKept t.tree place
      kept_ nav place at h =
          record {
            fields = h.node.nav;
            there = ap (λ (n : NavId). nav_of n t.tree) (found_nav s.places nav place at) ∙ ap (λ (o : Option Node). option_map (λ (n : Node). n.nav) o) h.there;
            owner = h.tied.owner;
            status = status_same h.node.nav.status ∙ h.tied.status;
            given = h.tied.given;
            unmet = h.tied.unmet;
            stands = h.tied.stands;
          }
        where
          status_same : (st : NavStatus) → plan.status_of st ≡ status_of st
          status_same (kept.Awake doc) = refl
          status_same kept.Lost = refl
          status_same kept.Asleep = refl

pub stand_for : (p : InPass) (out : List RowKind) (t : Tables) → IsPassing p out t → StandFor (now_of p.event out).history.rows (now_of p.event out).places t.tree
stand_for p out t pass = stands (now_of p.event out) t.running t pass.work.holds pass.going.tab.sound pass.going.tab.hangs
