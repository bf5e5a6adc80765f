-- What a navigable needs in the tables, it needs in the log.
use Rattle.apply_plan.specs.Needs.{has_document, is_pending, need_for, need_of}
use Rattle.apply_plan.specs.Needs.{is_asleep, is_to_move}
use Rattle.apply_plan.specs.Reaches.{is_awake, is_reached, is_reached_within, way_up}
use Rattle.apply_plan.specs.declared.need.Need.{Need}
use Rattle.apply_plan.specs.declared.need.Need.TheVariants as needs
use Rattle.apply_plan.specs.declared.reach.Reach.TheVariants.{Visited}
use Rattle.seen_facts.proofs.Coord.Held.{fun_ext}
use Rattle.seen_facts.proofs.Hang.Members.{find_has}
use Rattle.seen_facts.proofs.Hang.Targets.{target_has}
use Rattle.log_model.specs.Equal.{holds}
use Rattle.log_model.specs.History.{History, row_of, same_entry, target_entry}
use Rattle.log_model.specs.Places.{aim_of, is_shown}
use Rattle.log_model.specs.Seen.{Place, Seen, place_of}
use Rattle.log_model.specs.declared.row.Row.{Row}
use Rattle.log_model.specs.declared.row_kind.RowKind.{RowKind}
use Rattle.nav_tree.specs.Tree.{Tree, document_of, nav_of, node_of}
use Rattle.nav_tree.specs.declared.nav.Nav.{Nav}
use Rattle.nav_tree.specs.declared.node.Node.{Node}
use Rattle.nav_tree.specs.declared.reload.ReloadPhase.{ReloadPhase}
use Rattle.nav_tree.specs.declared.reload.ReloadPhase.TheVariants as reloads
use Rattle.seen_facts.specs.Place.Standing.{IsStanding}
use Rattle.plan_laws.proofs.NeedLaws.{needs_is}
use Rattle.seen_facts.proofs.Rest.Stands.{get_of}
use Rattle.seen_laws.specs.InEvent.{now_of}
use Rattle.std.proofs.Common.{Bool, List, None, Option, Some, ap, false, length, map, not, refl, suc, sym, true, zero, ℕ, ◌&&◌, ◌==◌, ◌||◌, ◌∙◌, ◌≡◌}
use Rattle.std.specs.List.{list_any}
use Rattle.std.specs.Prelude.{if◌then◌else◌, is_some, option_and_then}
use Rattle.step_index.specs.Held.{history_held}
use Rattle.tab_doors.proofs.Histories.{held_target}
use Rattle.tab_doors.proofs.Holding.{IsThat, its_place}
use Rattle.tab_doors.specs.Look.{look_of, moved_by, sight}
use Rattle.tab_doors.specs.Ties.{IsTied}
use Rattle.tab_doors.specs.declared.tables.Tables.{Tables}
use Rattle.tab_ids.specs.declared.NavId.{NavId}
use Rattle.tab_ids.specs.declared.StateId.{StateId}
use Rattle.tab_moves.proofs.Ups.{held_row}
use Rattle.tab_moves.specs.Showing.{need_in}
use Rattle.tab_passes.proofs.Aims.{held_aim}
pub use Rattle.tab_passes.proofs.Aims.{aim_is}
pub use Rattle.tab_passes.proofs.Stand.{stand_for}
use Rattle.tab_passes.specs.Passing.{InPass, IsPassing, aim_in}
use Rattle.seen_facts.specs.Walk.Serving.{is_needing, is_stopping}

-- ---- a need reads the targets alone

abbrev way_by : (NavId → Option Row) → Tree → NavId → Option NavId
way_by target tree nav =
    option_and_then
    (λ (fields : Nav). option_and_then
    (λ (parent : NavId). option_and_then
    (λ (owner : StateId). option_and_then
    (λ (above : Nav). if holds (λ (row : Row). row.state.0 == owner.0) (target parent) && (is_awake above.status && holds (λ (row : Row). holds (same_entry row.entry) above.given) (target parent)) then Some parent else None)
    (nav_of parent tree))
    fields.owner)
    fields.parent)
    (nav_of nav tree)

abbrev need_by : (NavId → Option Row) → Bool → Tree → NavId → Option Need
need_by target within tree nav =
    option_and_then
    (λ (fields : Nav). option_and_then
    (λ (row : Row). if (is_asleep fields.status || is_pending fields.reload || not (holds (λ (r : Row). holds (same_entry r.entry) fields.given) (target nav))) && (is_some (target nav) && within) then Some (need_for tree nav fields row) else None)
    (target nav))
    (nav_of nav tree)

module _ (one other : List Row) (step : ℕ) (tree : Tree) (same : (nav : NavId) → target_entry one nav step ≡ target_entry other nav step) where
  targets : (let f : NavId → Option Row = λ nav. target_entry one nav step in f) ≡ (λ nav. target_entry other nav step)
  targets = fun_ext same

  way_same : (nav : NavId) → way_up Visited one step tree nav ≡ way_up Visited other step tree nav
  way_same nav = ap (λ (f : NavId → Option Row). way_by f tree nav) targets

  within_same : (n : ℕ) (o : Option NavId) → is_reached_within n Visited one step tree o ≡ is_reached_within n Visited other step tree o
  within_same zero None = refl
  within_same zero (Some nav) = refl
  within_same (suc n) None = refl
  within_same (suc n) (Some nav) =
      ap (λ (o : Option NavId). nav.0 == 0 || is_reached_within n Visited one step tree o) (way_same nav)
      ∙ ap (λ (b : Bool). nav.0 == 0 || b) (within_same n (way_up Visited other step tree nav))

  pub need_same : (nav : NavId) → need_of one step tree nav ≡ need_of other step tree nav
  need_same nav =
      ap (λ (f : NavId → Option Row). need_by f (is_reached_within (length tree.navs) Visited one step tree (Some nav)) tree nav) targets
      ∙ ap (λ (b : Bool). need_by (λ x. target_entry other x step) b tree nav) (within_same (length tree.navs) (Some nav))

-- ---- what it needs in the tables

module _ (p : InPass) (out : List RowKind) (t : Tables) (pass : IsPassing p out t) where
  abbrev s : Seen
  s = now_of p.event out

  abbrev held : History
  held = history_held t.store

  -- the aim of the tables is the log's
  pub aims : aim_in held t.running t.goal ≡ aim_of s
  aims = held_aim t.store s.history t.running t.goal pass.work.holds.history ∙ sym (aim_is s t.running pass.going.tab.asked t.goal pass.work.goal)

  -- the navigable needs something, and this is its target
  pub record IsNeeding (nav : NavId) : Type 0 where
    pub place : Place
    pub placed : place_of s nav ≡ Some place
    pub nav_is : place.nav ≡ nav
    pub node : Node
    pub there : node_of nav t.tree ≡ Some node
    pub tied : IsTied (map sight s.documents) (moved_by s.requests t.running) node place
    pub target : Row
    pub at : target_entry s.history.rows nav (aim_of s) ≡ Some target
    pub row_is : row_of target.entry held.rows ≡ Some target
    pub shown : is_shown s.history.rows (aim_of s) nav ≡ true
    pub reached : list_any (is_stopping s.history.rows (aim_of s) s.places) place.above ≡ false
    pub needs : is_needing s.history.rows (aim_of s) place ≡ true
    pub standing : IsStanding s place

  pub need_here : (nav : NavId) → need_in t nav ≡ need_of s.history.rows (aim_of s) t.tree nav
  need_here nav =
      ap (λ (step : ℕ). need_of held.rows step t.tree nav) aims
      ∙ need_same held.rows s.history.rows (aim_of s) t.tree (λ n. held_target t.store s.history pass.work.holds.history n (aim_of s)) nav

  -- what it needs is as its document is there
  pub record NeedsIt (nav : NavId) (need : Need) : Type 0 where
    pub needing : IsNeeding nav
    pub is : need ≡ (if is_some (document_of needing.target.state t.tree) then needs.Move nav needing.target.entry else needs.Populate nav needing.target.entry)

  idle : (reload : ReloadPhase) → is_pending reload ≡ false → reload ≡ reloads.Idle
  idle reloads.Idle e_ = refl
  idle reloads.Due e_ = absurd cc
  idle reloads.Ready e_ = absurd cc

  parts : (a b c : Bool) → (a && (b && not c)) ≡ true → (a ≡ true) × (b ≡ true) × (c ≡ false)
  parts true true false e_ = (refl, refl, refl)
  parts true true true e_ = absurd cc
  parts true false c e_ = absurd cc
  parts false b c e_ = absurd cc

  pub needs_it : (nav : NavId) (need : Need) → need_in t nav ≡ Some need → NeedsIt nav need
  needs_it nav need is_ = by_node (node_of nav t.tree) refl (sym (need_here nav) ∙ is_)
    where
      by_target : (node : Node) → node_of nav t.tree ≡ Some node → (o : Option Row) → target_entry s.history.rows nav (aim_of s) ≡ o → option_and_then (λ (row : Row). if is_to_move s.history.rows (aim_of s) nav node.nav && is_reached Visited s.history.rows (aim_of s) t.tree nav then Some (need_for t.tree nav node.nav row) else None) o ≡ Some need → need_of s.history.rows (aim_of s) t.tree nav ≡ Some need → NeedsIt nav need
      by_target node there None at h all = absurd cc
      by_target node there (Some row) at h all =
          let it : IsThat (look_of s t.running) nav node = its_place (look_of s t.running) t.tree nav node pass.work.holds.navs there in
          let index = get_of s.places it.place (find_has (λ (p : Place). p.nav.0 == nav.0) s.places it.place it.at).0 in
          let law = needs_is s.history.rows (aim_of s) s.places t.tree (stand_for p out t pass) index.0 it.place index.1 in
          let some : is_some (need_of s.history.rows (aim_of s) t.tree it.place.nav) ≡ true = ap (λ (n : NavId). is_some (need_of s.history.rows (aim_of s) t.tree n)) it.nav_is ∙ ap (λ (o : Option Need). is_some o) all in
          let three = parts (is_needing s.history.rows (aim_of s) it.place) (is_shown s.history.rows (aim_of s) it.place.nav) (list_any (is_stopping s.history.rows (aim_of s) s.places) it.place.above) (sym law ∙ some) in
          let standing_ : IsStanding s it.place = pass.going.tab.standing nav it.place it.at in
          let has = target_has s.history.rows nav (aim_of s) row at in
          let reload : node.nav.reload ≡ reloads.Idle = idle node.nav.reload (it.tied.unmet ∙ standing_.met) in
          record {
            needing = record {
              place = it.place;
              placed = it.at;
              nav_is = it.nav_is;
              node = node;
              there = there;
              tied = it.tied;
              target = row;
              at = at;
              row_is = held_row t.store s.history pass.work.holds.history pass.going.tab.sound row has.there;
              shown = ap (λ (n : NavId). is_shown s.history.rows (aim_of s) n) (sym it.nav_is) ∙ three.1;
              reached = three.2;
              needs = three.0;
              standing = standing_;
            };
            is = by_test (is_to_move s.history.rows (aim_of s) nav node.nav && is_reached Visited s.history.rows (aim_of s) t.tree nav) h ∙ by_reload reload;
          }
        where
          by_test : (b : Bool) → (let o : Option Need = if b then Some (need_for t.tree nav node.nav row) else None in o) ≡ Some need → need ≡ need_for t.tree nav node.nav row
          by_test true h = cc
          by_test false h = absurd cc

          by_reload : node.nav.reload ≡ reloads.Idle → need_for t.tree nav node.nav row ≡ (if is_some (document_of row.state t.tree) then needs.Move nav row.entry else needs.Populate nav row.entry)
          by_reload r = ap (λ (x : ReloadPhase). if has_document x (is_some (document_of row.state t.tree)) then needs.Move nav row.entry else needs.Populate nav row.entry) r

      by_node : (o : Option Node) → node_of nav t.tree ≡ o → need_of s.history.rows (aim_of s) t.tree nav ≡ Some need → NeedsIt nav need
      by_node None there h =
          let never : need_of s.history.rows (aim_of s) t.tree nav ≡ None = rw there refl in
          let no_ : None ≡ Some need = sym never ∙ h in absurd cc
      by_node (Some node) there h =
          let value : need_of s.history.rows (aim_of s) t.tree nav ≡ option_and_then (λ (row : Row). if is_to_move s.history.rows (aim_of s) nav node.nav && is_reached Visited s.history.rows (aim_of s) t.tree nav then Some (need_for t.tree nav node.nav row) else None) (target_entry s.history.rows nav (aim_of s)) = rw there refl in
          by_target node there (target_entry s.history.rows nav (aim_of s)) refl (sym value ∙ h) h
