-- The ongoing loads of all navigables, as a list: at most one of each navigable.
-- HTML Standard, "Navigables" (ongoing navigation) and "Beginning navigation" (a new navigation takes the place of the ongoing one). The phases are this project's own.
use Rattle.std.specs.Prelude.{◌≡◌, Bool, false, not, ◌==◌, List, [], ◌∷◌, map, filter, find, Option, if◌then◌else◌}
use Rattle.std.specs.List.{IsDistinct}
use Rattle.tab_ids.specs.declared.NavId.{NavId}
use Rattle.tab_ids.specs.declared.DocId.{DocId}
use Rattle.load_table.specs.declared.load.Load.{Load}
use Rattle.load_table.specs.declared.phase.Phase.{Phase}
use Rattle.load_table.specs.declared.phase.Phase.TheVariants.{Asking, Populating, Ready}

-- the same navigable
abbrev pub is_nav : NavId → NavId → Bool
is_nav a b = a.0 == b.0

-- the load is of the navigable
abbrev pub is_of : NavId → Load → Bool
is_of nav load = is_nav nav load.nav

-- the ongoing load of a navigable ("ongoing navigation")
abbrev pub ongoing_load : NavId → List Load → Option Load
ongoing_load nav loads = find (is_of nav) loads

-- no navigable has two
abbrev pub HasOneEach : List Load → Type 0
HasOneEach loads = IsDistinct is_nav (map (λ (load : Load). load.nav) loads)

-- each other navigable has the load that it had
abbrev pub KeepsOthers : NavId → List Load → List Load → Type 0
KeepsOthers nav old new = (other : NavId) → is_nav other nav ≡ false → ongoing_load other new ≡ ongoing_load other old

-- the loads once one has begun: it takes the place of its navigable's ongoing one, or comes last
abbrev pub begun : Load → List Load → List Load
begun load [] = load ∷ []
begun load (first ∷ loads) = if is_of load.nav first then load ∷ loads else first ∷ begun load loads

-- the loads without the navigable's, in their order
abbrev pub cancelled : NavId → List Load → List Load
cancelled nav loads = filter (λ load. not (is_of nav load)) loads

-- the load in another phase
abbrev pub in_phase : Phase → Load → Load
in_phase phase load = record load { phase = phase }

-- the loads where the first that passes a test has another phase
abbrev pub moved_on : (Load → Bool) → Phase → List Load → List Load
moved_on test phase [] = []
moved_on test phase (load ∷ loads) =
    if test load then in_phase phase load ∷ loads else load ∷ moved_on test phase loads

-- the phase is the making of the document
abbrev pub makes : DocId → Phase → Bool
makes doc Asking = false
makes doc (Populating made) = made.0 == doc.0
makes doc (Ready made) = false

-- the load waits for the document to be made
abbrev pub is_populating : DocId → Load → Bool
is_populating doc load = makes doc load.phase
