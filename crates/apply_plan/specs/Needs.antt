-- What each navigable needs to be where a step has it.
-- HTML Standard, "Apply the history step"; that a document is made before it is shown, and that children wait for their parents, is this project's own.
use Rattle.std.specs.Prelude.{ℕ, Bool, true, false, not, ◌&&◌, ◌||◌, List, Option, Some, None, is_some, option_and_then, if◌then◌else◌}
use Rattle.tab_ids.specs.declared.NavId.{NavId}
use Rattle.log_model.specs.declared.row.Row.{Row}
use Rattle.log_model.specs.History.{target_entry}
use Rattle.nav_tree.specs.declared.nav.Nav.{Nav}
use Rattle.nav_tree.specs.declared.status.NavStatus.{NavStatus}
use Rattle.nav_tree.specs.declared.status.NavStatus.TheVariants.{Awake, Lost, Asleep}
use Rattle.nav_tree.specs.declared.reload.ReloadPhase.{ReloadPhase}
use Rattle.nav_tree.specs.declared.reload.ReloadPhase.TheVariants.{Idle, Due, Ready}
use Rattle.nav_tree.specs.Tree.{Tree, nav_of, document_of}
use Rattle.apply_plan.specs.declared.reach.Reach.TheVariants.{Visited}
use Rattle.apply_plan.specs.declared.need.Need.{Need}
use Rattle.apply_plan.specs.declared.need.Need.TheVariants.{Populate, Move}
use Rattle.apply_plan.specs.Reaches.{has_target, is_reached}

-- a navigable of this status presents nothing
abbrev pub is_asleep : NavStatus → Bool
is_asleep (Awake doc) = false
is_asleep Lost = false
is_asleep Asleep = true

-- a reload is pending
abbrev pub is_pending : ReloadPhase → Bool
is_pending Idle = false
is_pending Due = true
is_pending Ready = true

-- there is a document to show: the new one of a pending reload, once that is live; without a reload the live one of the target's document state
abbrev pub has_document : ReloadPhase → Bool → Bool
has_document Idle live = live
has_document Due live = false
has_document Ready live = true

-- the navigable is asleep, is to be reloaded, or wasn't given its target
abbrev pub is_to_move : List Row → ℕ → NavId → Nav → Bool
is_to_move rows step nav fields = is_asleep fields.status || is_pending fields.reload || not (has_target rows step nav fields)

-- to be shown the document of its target, where there is one; else that one is made
abbrev pub need_for : Tree → NavId → Nav → Row → Need
need_for tree nav fields row =
    if has_document fields.reload (is_some (document_of row.state tree)) then Move nav row.entry else Populate nav row.entry

-- what the navigable needs, where the walk visits it
abbrev pub need_of : List Row → ℕ → Tree → NavId → Option Need
need_of rows step tree nav = option_and_then (with_fields rows step tree nav) (nav_of nav tree)
  where
    with_fields : List Row → ℕ → Tree → NavId → Nav → Option Need
    with_fields rows step tree nav fields =
        option_and_then
        (λ (row : Row). if is_to_move rows step nav fields && is_reached Visited rows step tree nav then Some (need_for tree nav fields row) else None)
        (target_entry rows nav step)
