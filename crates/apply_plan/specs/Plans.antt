-- The next need of the walk.
-- HTML Standard, "Apply the history step"; the order of the walk is this project's own.
use Rattle.std.specs.Prelude.{ℕ, ◌==◌, List, [], ◌∷◌, Option, Some, None, if◌then◌else◌}
use Rattle.std.specs.Option.{option_map_or}
use Rattle.tab_ids.specs.declared.NavId.{NavId}
use Rattle.log_model.specs.declared.row.Row.{Row}
use Rattle.nav_tree.specs.Tree.{Tree}
use Rattle.apply_plan.specs.declared.reach.Reach.TheVariants.{Visited}
use Rattle.apply_plan.specs.declared.need.Need.{Need}
use Rattle.apply_plan.specs.Reaches.{is_reached}
use Rattle.apply_plan.specs.Needs.{need_of}
use Rattle.apply_plan.specs.Order.{walk_of}

-- the navigables that follow one
abbrev pub rest_after : NavId → List NavId → List NavId
rest_after last [] = []
rest_after last (nav ∷ navs) = if nav.0 == last.0 then navs else rest_after last navs

-- the need of the first navigable that has one
abbrev pub first_need : List Row → ℕ → Tree → List NavId → Option Need
first_need rows step tree [] = None
first_need rows step tree (nav ∷ navs) = option_map_or Some (need_of rows step tree nav) (first_need rows step tree navs)

-- the first need of the walk, of those that it visits after a navigable or of all; none after one that it doesn't visit
abbrev pub planned : List Row → ℕ → Tree → Option NavId → Option Need
planned rows step tree None = first_need rows step tree (walk_of tree)
planned rows step tree (Some last) =
    if is_reached Visited rows step tree last then first_need rows step tree (rest_after last (walk_of tree)) else None
