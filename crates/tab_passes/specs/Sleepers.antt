-- Who falls asleep with a document that is left, as the tables tell.
-- HTML Standard, "apply the history step"; "asleep" is this project's own.
use Rattle.apply_plan.specs.Needs.{is_asleep}  -- keep
use Rattle.apply_plan.specs.Order.{made_in, rest, walk_of}
use Rattle.log_model.specs.Equal.{holds}
use Rattle.nav_tree.specs.Tree.{Tree, nav_of}
use Rattle.nav_tree.specs.declared.nav.Nav.{Nav}
use Rattle.tab_passes.specs.Telling.{awake_on}
use Rattle.std.specs.List.{list_any}
use Rattle.std.specs.Option.{option_map_or}
use Rattle.std.specs.Prelude.{Bool, List, None, Option, [], filter, filter_map, find, if◌then◌else◌, length, not, option_and_then, ℕ, ◌&&◌, ◌==◌, ◌∷◌}
use Rattle.tab_ids.specs.declared.DocId.{DocId}
use Rattle.tab_ids.specs.declared.NavId.{NavId}

-- the navigable is awake on the document
abbrev pub wakes_on : Tree → DocId → NavId → Bool
wakes_on tree doc nav = holds (λ (n : Nav). holds (λ (d : DocId). d.0 == doc.0) (awake_on n.status)) (nav_of nav tree)

-- one of those above the navigable is this one
abbrev pub is_below_in : Tree → NavId → NavId → Bool
is_below_in tree top nav = list_any (λ (n : ℕ). n == top.0) (rest (length tree.navs) tree nav)

-- the navigable is below this one, and isn't asleep
abbrev pub falls_below : Tree → NavId → NavId → Bool
falls_below tree top nav = is_below_in tree top nav && not (holds (λ (n : Nav). is_asleep n.status) (nav_of nav tree))

-- who falls asleep with the document: who is awake on it, and who is below that one
abbrev pub sleepers_in : Tree → DocId → List NavId
sleepers_in tree doc = option_map_or (λ (nav : NavId). nav ∷ filter (falls_below tree nav) (made_in tree)) (find (wakes_on tree doc) (made_in tree)) []

-- ---- the documents below

-- the document that the navigable is awake on
abbrev pub doc_on : Tree → NavId → Option DocId
doc_on tree nav = option_and_then (λ (n : Nav). awake_on n.status) (nav_of nav tree)

-- the same, where it is below this one
abbrev pub doc_below : Tree → NavId → NavId → Option DocId
doc_below tree top nav = if is_below_in tree top nav then doc_on tree nav else None

-- of all that are below it, in the order of the walk
abbrev pub docs_below : Tree → NavId → List DocId
docs_below tree top = filter_map (doc_below tree top) (walk_of tree)
