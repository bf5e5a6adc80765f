-- Whom a traversal leaves is read of the targets alone, so in the store as in the log.
use Rattle.apply_plan.specs.Leaving.{leaving_in, leaving_of, stays_on, targets_document}
use Rattle.apply_plan.specs.Reaches.{is_awake, is_reached, is_reached_within, leads_on, way_up}
use Rattle.apply_plan.specs.declared.reach.Reach.TheVariants.{Shown, Visited, Wanted}
use Rattle.apply_plan.specs.declared.reach.Reach.{Reach}
use Rattle.apply_plan.specs.Order.{walk_of}
use Rattle.log_model.specs.Equal.{holds}
use Rattle.log_model.specs.History.{same_entry, target_entry}
use Rattle.log_model.specs.declared.row.Row.{Row}
use Rattle.nav_tree.specs.Tree.{Tree, document_of, nav_of}
use Rattle.nav_tree.specs.declared.nav.Nav.{Nav}
use Rattle.nav_tree.specs.declared.place.Place.{Place}
use Rattle.nav_tree.specs.declared.status.NavStatus.TheVariants.{Asleep, Awake, Lost}
use Rattle.nav_tree.specs.declared.status.NavStatus.{NavStatus}
use Rattle.seen_facts.proofs.Coord.Held.{fun_ext}
use Rattle.std.proofs.Common.{Bool, List, None, Option, Some, ap, filter_map, length, refl, suc, zero, ℕ, ◌&&◌, ◌==◌, ◌||◌, ◌∙◌, ◌≡◌}
use Rattle.std.specs.Prelude.{if◌then◌else◌, is_some, option_and_then}
use Rattle.tab_ids.specs.declared.DocId.{DocId}
use Rattle.tab_ids.specs.declared.NavId.{NavId}
use Rattle.tab_ids.specs.declared.StateId.{StateId}

-- the way up, by the targets and by where it leads on
abbrev way_by : (NavId → Option Row) → (NavId → Nav → Bool) → Tree → NavId → Option NavId
way_by target leads tree nav =
    option_and_then
    (λ (fields : Nav). option_and_then
    (λ (parent : NavId). option_and_then
    (λ (owner : StateId). option_and_then
    (λ (above : Nav). if holds (λ (row : Row). row.state.0 == owner.0) (target parent) && leads parent above then Some parent else None)
    (nav_of parent tree))
    fields.owner)
    fields.parent)
    (nav_of nav tree)

-- the document that is left, by which stay
abbrev left_by : (DocId → Bool) → NavStatus → Option DocId
left_by stays (Awake doc) = if stays doc then None else Some doc
left_by stays Lost = None
left_by stays Asleep = None

module _ (one other : List Row) (step : ℕ) (tree : Tree) (same : (nav : NavId) → target_entry one nav step ≡ target_entry other nav step) where
  leads_same : (reach : Reach) (nav : NavId) (fields : Nav) → leads_on reach one step nav fields ≡ leads_on reach other step nav fields
  leads_same Visited nav fields = ap (λ (o : Option Row). is_awake fields.status && holds (λ (row : Row). holds (same_entry row.entry) fields.given) o) (same nav)
  leads_same Wanted nav fields = refl
  leads_same Shown nav fields = refl

  way_same : (reach : Reach) (nav : NavId) → way_up reach one step tree nav ≡ way_up reach other step tree nav
  way_same reach nav =
      ap (λ (f : NavId → Option Row). way_by f (leads_on reach one step) tree nav) (fun_ext same)
      ∙ ap (λ (f : NavId → Nav → Bool). way_by (λ (n : NavId). target_entry other n step) f tree nav) (fun_ext (λ n. fun_ext (leads_same reach n)))

  within_same : (reach : Reach) (n : ℕ) (o : Option NavId) → is_reached_within n reach one step tree o ≡ is_reached_within n reach other step tree o
  within_same reach zero None = refl
  within_same reach zero (Some nav) = refl
  within_same reach (suc n) None = refl
  within_same reach (suc n) (Some nav) =
      ap (λ (o : Option NavId). nav.0 == 0 || is_reached_within n reach one step tree o) (way_same reach nav)
      ∙ ap (λ (b : Bool). nav.0 == 0 || b) (within_same reach n (way_up reach other step tree nav))

  -- the walk reaches the same navigables, whatever stops it
  pub reached_same : (reach : Reach) (nav : NavId) → is_reached reach one step tree nav ≡ is_reached reach other step tree nav
  reached_same reach nav =
      ap (λ (o : Option Row). is_some o && is_reached_within (length tree.navs) reach one step tree (Some nav)) (same nav)
      ∙ ap (λ (b : Bool). is_some (target_entry other nav step) && b) (within_same reach (length tree.navs) (Some nav))

  stays_same : (nav : NavId) (doc : DocId) → stays_on one step tree nav doc ≡ stays_on other step tree nav doc
  stays_same nav doc =
      ap (λ (o : Option Row). holds (λ (row : Row). holds (λ (place : Place). place.doc.0 == doc.0) (document_of row.state tree)) o && is_reached Shown one step tree nav) (same nav)
      ∙ ap (λ (b : Bool). targets_document other step tree nav doc && b) (reached_same Shown nav)

  left_same : (nav : NavId) → leaving_of one step tree nav ≡ leaving_of other step tree nav
  left_same nav = ap (λ (f : DocId → Bool). option_and_then (λ (fields : Nav). left_by f fields.status) (nav_of nav tree)) (fun_ext (stays_same nav))

  -- a traversal leaves the same documents
  pub leaving_same : leaving_in one step tree ≡ leaving_in other step tree
  leaving_same = ap (λ (f : NavId → Option DocId). filter_map f (walk_of tree)) (fun_ext left_same)
