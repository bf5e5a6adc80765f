-- The walk through all navigables ever made: each before those below it, and children in the order of their numbers.
-- This project's own.
use Rattle.std.specs.Prelude.{Bool, true, false, ◌==◌, nat_lt, List, [], ◌∷◌, fold, if◌then◌else◌}
use Rattle.tab_ids.specs.declared.NavId.{NavId}
use Rattle.log_model.specs.Seen.{Place}
use Rattle.log_model.specs.Places.{way_of}

-- the list the other way round
abbrev pub backwards : List NavId → List NavId
backwards navs = fold (λ (done : List NavId) (nav : NavId). nav ∷ done) [] navs

-- the way from the top to the place's navigable
abbrev pub way_from_top : Place → List NavId
way_from_top place = backwards (way_of place)

-- one way comes before the other: compared number by number, and a beginning before the whole
abbrev pub is_way_before : List NavId → List NavId → Bool
is_way_before [] way = true
is_way_before (nav ∷ navs) [] = false
is_way_before (nav ∷ navs) (other ∷ others) =
    if nav.0 == other.0 then is_way_before navs others else nat_lt nav.0 other.0

-- the place put among places that are in the order of the walk
abbrev pub walk_with : Place → List Place → List Place
walk_with place [] = place ∷ []
walk_with place (first ∷ places) =
    if is_way_before (way_from_top place) (way_from_top first) then place ∷ first ∷ places
    else first ∷ walk_with place places

-- the places in the order of the walk
abbrev pub walk_of : List Place → List Place
walk_of [] = []
walk_of (place ∷ places) = walk_with place (walk_of places)
