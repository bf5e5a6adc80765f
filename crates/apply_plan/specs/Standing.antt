-- Whether all navigables stand at a step.
-- This project's own: HTML Standard, "Apply the history step", waits until each changed navigable has told that it is done.
use Rattle.std.specs.Prelude.{ℕ, Bool, true, false, not, ◌&&◌, List, if◌then◌else◌}
use Rattle.std.specs.List.{list_all}
use Rattle.tab_ids.specs.declared.NavId.{NavId}
use Rattle.log_model.specs.declared.row.Row.{Row}
use Rattle.log_model.specs.Equal.{holds}
use Rattle.nav_tree.specs.declared.nav.Nav.{Nav}
use Rattle.nav_tree.specs.declared.status.NavStatus.{NavStatus}
use Rattle.nav_tree.specs.declared.status.NavStatus.TheVariants.{Awake, Lost, Asleep}
use Rattle.nav_tree.specs.Tree.{Tree, nav_of}
use Rattle.apply_plan.specs.declared.reach.Reach.TheVariants.{Wanted}
use Rattle.apply_plan.specs.Reaches.{has_target, is_reached}
use Rattle.apply_plan.specs.Needs.{is_pending}
use Rattle.apply_plan.specs.Order.{made_in}

-- the navigable is known lost, or awake and its last Activate is finished and told
abbrev pub has_arrived : Nav → Bool
has_arrived fields = arrived fields.status fields.stands
  where
    arrived : NavStatus → Bool → Bool
    arrived (Awake doc) told = told
    arrived Lost told = true
    arrived Asleep told = false

-- the navigable was given its target at the step, no reload of it is pending, and it has arrived
abbrev pub is_standing : List Row → ℕ → NavId → Nav → Bool
is_standing rows step nav fields = has_target rows step nav fields && not (is_pending fields.reload) && has_arrived fields

-- the navigable stands, where it is shown and none above it is known lost
abbrev pub stands_if_wanted : List Row → ℕ → Tree → NavId → Bool
stands_if_wanted rows step tree nav =
    if is_reached Wanted rows step tree nav then holds (is_standing rows step nav) (nav_of nav tree) else true

-- each navigable that is to stand at the step stands there
abbrev pub are_settled : List Row → ℕ → Tree → Bool
are_settled rows step tree = list_all (stands_if_wanted rows step tree) (made_in tree)
