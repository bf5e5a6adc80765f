-- Which navigables a walk from the top reaches, as the rows of a history and the table of navigables stand.
-- HTML Standard, "Navigables" and "Apply the history step". This project's own: known lost and asleep navigables, and that a walk goes on below a navigable only where that is awake on its target.
use Rattle.std.specs.Prelude.{ℕ, zero, suc, Bool, true, false, not, ◌&&◌, ◌||◌, ◌==◌, List, length, Option, Some, None, is_some, option_and_then, if◌then◌else◌}
use Rattle.tab_ids.specs.declared.NavId.{NavId}
use Rattle.log_model.specs.declared.row.Row.{Row}
use Rattle.log_model.specs.Equal.{holds}
use Rattle.log_model.specs.History.{same_entry, target_entry}
use Rattle.log_model.specs.Places.{targets_state}
use Rattle.nav_tree.specs.declared.nav.Nav.{Nav}
use Rattle.nav_tree.specs.declared.status.NavStatus.{NavStatus}
use Rattle.nav_tree.specs.declared.status.NavStatus.TheVariants.{Awake, Lost, Asleep}
use Rattle.nav_tree.specs.Tree.{Tree, nav_of}
use Rattle.apply_plan.specs.declared.reach.Reach.{Reach}
use Rattle.apply_plan.specs.declared.reach.Reach.TheVariants.{Visited, Wanted, Shown}

-- a navigable of this status presents a document
abbrev pub is_awake : NavStatus → Bool
is_awake (Awake doc) = true
is_awake Lost = false
is_awake Asleep = false

-- a navigable of this status is known lost
abbrev pub is_lost : NavStatus → Bool
is_lost (Awake doc) = false
is_lost Lost = true
is_lost Asleep = false

-- the navigable was given its target at the step
abbrev pub has_target : List Row → ℕ → NavId → Nav → Bool
has_target rows step nav fields =
    holds (λ (row : Row). holds (same_entry row.entry) fields.given) (target_entry rows nav step)

-- the walk goes on below the navigable
abbrev pub leads_on : Reach → List Row → ℕ → NavId → Nav → Bool
leads_on Visited rows step nav fields = is_awake fields.status && has_target rows step nav fields
leads_on Wanted rows step nav fields = not (is_lost fields.status)
leads_on Shown rows step nav fields = true

-- the navigable from which the walk comes down to this one: its parent, where the parent's target has the document state on which this one hangs, and the walk goes on below the parent
abbrev pub way_up : Reach → List Row → ℕ → Tree → NavId → Option NavId
way_up reach rows step tree nav = option_and_then (from_above reach rows step tree) (nav_of nav tree)
  where
    where_it_leads : Reach → List Row → ℕ → NavId → Bool → Nav → Option NavId
    where_it_leads reach rows step parent hangs above =
        if hangs && leads_on reach rows step parent above then Some parent else None

    from_above : Reach → List Row → ℕ → Tree → Nav → Option NavId
    from_above reach rows step tree fields =
        option_and_then
        (λ parent. option_and_then (λ owner. option_and_then (where_it_leads reach rows step parent (targets_state rows step parent owner)) (nav_of parent tree)) fields.owner)
        fields.parent

-- the top is reached by going up, in at most so many ways
abbrev pub is_reached_within : ℕ → Reach → List Row → ℕ → Tree → Option NavId → Bool
is_reached_within n reach rows step tree None = false
is_reached_within zero reach rows step tree (Some nav) = nav.0 == 0
is_reached_within (suc n) reach rows step tree (Some nav) =
    nav.0 == 0 || is_reached_within n reach rows step tree (way_up reach rows step tree nav)

-- the walk reaches the navigable, which has a target at the step
abbrev pub is_reached : Reach → List Row → ℕ → Tree → NavId → Bool
is_reached reach rows step tree nav =
    is_some (target_entry rows nav step) && is_reached_within (length tree.navs) reach rows step tree (Some nav)
