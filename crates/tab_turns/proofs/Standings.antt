-- All stand in the tables where all stand in the log.
use Rattle.apply_plan.specs.Needs.{is_pending}
use Rattle.apply_plan.specs.Order.{made_in}
use Rattle.apply_plan.specs.Reaches.{is_lost, is_reached_within, way_up}
use Rattle.apply_plan.specs.Standing.{are_settled, has_arrived, stands_if_wanted}
use Rattle.apply_plan.specs.declared.reach.Reach.TheVariants.{Wanted}
use Rattle.seen_facts.proofs.Coord.Held.{fun_ext}
use Rattle.tab_doors.proofs.Histories.{held_target}
use Rattle.tab_doors.specs.declared.tables.Tables.{Tables}
use Rattle.log_model.specs.Equal.{holds}
use Rattle.log_model.specs.History.{same_entry, target_entry}
use Rattle.log_model.specs.Places.{all_stand}
use Rattle.log_model.specs.declared.row.Row.{Row}
use Rattle.log_model.specs.declared.row_kind.RowKind.{RowKind}
use Rattle.nav_tree.specs.Tree.{Tree, nav_of}
use Rattle.nav_tree.specs.declared.nav.Nav.{Nav}
use Rattle.tab_passes.proofs.Stand.{stand_for}
use Rattle.tab_passes.specs.Passing.{InPass, IsPassing}
use Rattle.plan_laws.proofs.StandLaws.{settled_is}
use Rattle.seen_laws.specs.InEvent.{now_of}
use Rattle.std.proofs.Common.{Bool, List, None, Option, Some, ap, cond, length, not, refl, suc, true, zero, ℕ, ◌&&◌, ◌==◌, ◌||◌, ◌∙◌, ◌≡◌}
use Rattle.std.specs.List.{list_all}
use Rattle.std.specs.Prelude.{is_some, option_and_then}
use Rattle.step_index.specs.Held.{history_held}
use Rattle.tab_ids.specs.declared.NavId.{NavId}
use Rattle.tab_ids.specs.declared.StateId.{StateId}

-- ---- who stands is read of the targets alone

abbrev way_by : (NavId → Option Row) → Tree → NavId → Option NavId
way_by target tree nav =
    option_and_then
    (λ (fields : Nav). option_and_then
    (λ (parent : NavId). option_and_then
    (λ (owner : StateId). option_and_then
    (λ (above : Nav). let o : Option NavId = cond (holds (λ (row : Row). row.state.0 == owner.0) (target parent) && not (is_lost above.status)) (Some parent) None in o)
    (nav_of parent tree))
    fields.owner)
    fields.parent)
    (nav_of nav tree)

abbrev stands_by : (NavId → Option Row) → Bool → Tree → NavId → Bool
stands_by target within tree nav =
    cond (is_some (target nav) && within)
    (holds (λ (fields : Nav). holds (λ (row : Row). holds (same_entry row.entry) fields.given) (target nav) && not (is_pending fields.reload) && has_arrived fields) (nav_of nav tree))
    true

module _ (one other : List Row) (step : ℕ) (tree : Tree) (same : (nav : NavId) → target_entry one nav step ≡ target_entry other nav step) where
  targets : (let f : NavId → Option Row = λ nav. target_entry one nav step in f) ≡ (λ nav. target_entry other nav step)
  targets = fun_ext same

  way_same : (nav : NavId) → way_up Wanted one step tree nav ≡ way_up Wanted other step tree nav
  way_same nav = ap (λ (f : NavId → Option Row). way_by f tree nav) targets

  within_same : (n : ℕ) (o : Option NavId) → is_reached_within n Wanted one step tree o ≡ is_reached_within n Wanted other step tree o
  within_same zero None = refl
  within_same zero (Some nav) = refl
  within_same (suc n) None = refl
  within_same (suc n) (Some nav) =
      ap (λ (o : Option NavId). nav.0 == 0 || is_reached_within n Wanted one step tree o) (way_same nav)
      ∙ ap (λ (b : Bool). nav.0 == 0 || b) (within_same n (way_up Wanted other step tree nav))

  stands_same : (nav : NavId) → stands_if_wanted one step tree nav ≡ stands_if_wanted other step tree nav
  stands_same nav =
      ap (λ (f : NavId → Option Row). stands_by f (is_reached_within (length tree.navs) Wanted one step tree (Some nav)) tree nav) targets
      ∙ ap (λ (b : Bool). stands_by (λ x. target_entry other x step) b tree nav) (within_same (length tree.navs) (Some nav))

  pub settled_same : are_settled one step tree ≡ are_settled other step tree
  settled_same = ap (λ (f : NavId → Bool). list_all f (made_in tree)) (fun_ext stands_same)

-- what the tables tell of a step is so in the log
pub stand_is : (p : InPass) (out : List RowKind) (t : Tables) → IsPassing p out t → (step : ℕ) → are_settled (history_held t.store).rows step t.tree ≡ all_stand (now_of p.event out) step
stand_is p out t pass step =
    settled_same (history_held t.store).rows (now_of p.event out).history.rows step t.tree (λ nav. held_target t.store (now_of p.event out).history pass.work.holds.history nav step)
    ∙ settled_is (now_of p.event out).history.rows step (now_of p.event out).places t.tree (stand_for p out t pass)
