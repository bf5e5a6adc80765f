-- The navigables in the order of a walk from the top down, as the table tells who is above whom: each before those below it, and children in the order of their numbers.
-- This project's own.
use Rattle.std.specs.Prelude.{ℕ, zero, suc, List, [], ◌∷◌, length, map, reverse, Option}
use Rattle.std.specs.BTreeMap.{insert_entry}
use Rattle.std.specs.Option.{option_and_then, option_map_or}
use Rattle.std.specs.Ordering.{nat_cmp}
use Rattle.std.specs.declared.cmp.Ordering.{Ordering}
use Rattle.std.specs.Global.{Vec}
use Rattle.std.specs.Cmp.Lexicographic.{slice_cmp}
use Rattle.tab_ids.specs.declared.NavId.{NavId}
use Rattle.nav_tree.specs.declared.nav.Nav.{Nav}
use Rattle.nav_tree.specs.declared.node.Node.{Node}
use Rattle.nav_tree.specs.Tree.{Tree, nav_of}

-- the navigable to which one was added
abbrev pub parent_in : Tree → NavId → Option NavId
parent_in tree nav = option_and_then (λ (n : Nav). n.parent) (nav_of nav tree)

-- ways are compared number by number, and a beginning comes before the whole
abbrev pub way_cmp : Vec ℕ → Vec ℕ → Ordering
way_cmp a b = slice_cmp nat_cmp a.items b.items

-- the numbers of those above it, the nearest first, at most so many
abbrev pub rest : ℕ → Tree → NavId → List ℕ
rest zero tree nav = []
rest (suc n) tree nav = option_map_or (λ (parent : NavId). parent.0 ∷ rest n tree parent) (parent_in tree nav) []

-- the numbers on the way from the top
abbrev pub way_in : Tree → NavId → List ℕ
way_in tree nav = reverse (nav.0 ∷ rest (length tree.navs) tree nav)

-- a map from ways, with each way as a list
abbrev pub keyed : List (Vec ℕ × NavId) → List (List ℕ × NavId)
keyed entries = map (λ (e : Vec ℕ × NavId). (e.0.items, e.1)) entries

-- the navigables put in the order of their ways
abbrev pub sorted_in : Tree → List NavId → List (List ℕ × NavId)
sorted_in tree [] = []
sorted_in tree (nav ∷ navs) = insert_entry (slice_cmp nat_cmp) (sorted_in tree navs) (way_in tree nav) nav

-- the navigables in the order of making
abbrev pub made_in : Tree → List NavId
made_in tree = map (λ (e : NavId × Node). e.0) tree.navs

-- the navigables in the order of the walk
abbrev pub walk_of : Tree → List NavId
walk_of tree = map (λ (e : List ℕ × NavId). e.1) (sorted_in tree (made_in tree))
