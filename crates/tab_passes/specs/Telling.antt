-- Who is to be told length and index, and who was.
-- HTML Standard, "update document for history step application".
use Rattle.nav_tree.specs.declared.status.NavStatus.TheVariants as kept  -- keep
use Rattle.log_model.specs.declared.job.Task.TheVariants as tasks  -- keep
use Rattle.log_model.specs.declared.row_kind.RowKind.TheVariants as rows  -- keep
use Rattle.log_model.specs.ActsAtOnce.{is_told}
use Rattle.log_model.specs.Equal.{holds, same_pair}
use Rattle.log_model.specs.History.{History, has_nav}
use Rattle.log_model.specs.Places.{aim_of, pair_in}
use Rattle.log_model.specs.Seen.{Place, Seen, place_of}
use Rattle.log_model.specs.declared.job.Task.{Task}
use Rattle.log_model.specs.declared.job.Why.{Why}
use Rattle.log_model.specs.declared.row_kind.RowKind.{RowKind}
use Rattle.nav_tree.specs.declared.nav.Nav.{Nav}
use Rattle.nav_tree.specs.declared.status.NavStatus.{NavStatus}
use Rattle.seen_laws.specs.InEvent.{now_of}
use Rattle.tab_doors.specs.Working.{KeepsStore}
use Rattle.tab_doors.specs.declared.tables.Tables.{Tables}
use Rattle.tab_passes.specs.Passing.{HasOnly, InPass, IsPassing, aim_in}
use Rattle.std.specs.Prelude.{Bool, List, None, Option, Some, false, if◌then◌else◌, length, option_and_then, option_map, slice_get, true, ℕ, ◌<◌, ◌≡◌}
use Rattle.tab_ids.specs.declared.DocId.{DocId}
use Rattle.tab_ids.specs.declared.NavId.{NavId}
use Rattle.tab_ids.specs.declared.ReqId.{ReqId}
use Rattle.tab_ids.specs.declared.StateId.{StateId}
use Rattle.tab_ids.specs.declared.Step.{Step}
use Rattle.seen_facts.specs.Walk.Serving.{IsMaking}

-- the document that a navigable is awake on
abbrev pub awake_on : NavStatus → Option DocId
awake_on (kept.Awake doc) = Some doc
awake_on kept.Lost = None
awake_on kept.Asleep = None

-- the step at which a navigable is to be told length and index: the aim where the traversal that runs has moved it
abbrev pub step_in : History → Option ReqId → Step → Bool → ℕ
step_in history run goal moved = if moved then aim_in history run goal else history.current

-- the pair, unless it was told it
abbrev pub if_new : Option (ℕ × ℕ) → ℕ × ℕ → Option (ℕ × ℕ)
if_new told pair = if holds (same_pair pair) told then None else Some pair

-- the document that is to be told, and what
abbrev pub untold_in : History → Option ReqId → Step → Nav → Option (DocId × (ℕ × ℕ))
untold_in history run goal nav =
    option_and_then (λ doc. option_map (λ pair. (doc, pair)) (if_new nav.told (pair_in history.rows (step_in history run goal nav.moved)))) (awake_on nav.status)

-- the order tells length and index
abbrev pub length_index : Task → Bool
length_index (tasks.Update length index) = true
length_index _ = false

-- the navigable, if it is awake, was told
abbrev pub IsToldAt : Seen → NavId → Type 0
IsToldAt s nav = (place : Place) → place_of s nav ≡ Some place → is_told s place ≡ true

-- all is where it was, and who was told is so still
pub record IsToldMore (s t : Seen) : Type 0 where
  pub places : t.places ≡ s.places
  pub history : t.history ≡ s.history
  pub requests : t.requests ≡ s.requests
  pub parked : t.parked ≡ s.parked
  pub aim : aim_of t ≡ aim_of s
  pub making : (state : StateId) → IsMaking s.documents state → IsMaking t.documents state
  pub still : (nav : NavId) → IsToldAt s nav → IsToldAt t nav

-- and so is the navigable now
pub record IsToldTurn (s t : Seen) (nav : NavId) : Type 0 where
  pub own : IsToldAt t nav
  pub more : IsToldMore s t

-- the first of a walk, this many, were told
abbrev pub AreToldUpTo : Seen → List NavId → ℕ → Type 0
AreToldUpTo s walk n = (k : ℕ) (nav : NavId) → k < n → slice_get walk k ≡ Some nav → IsToldAt s nav

-- the row is an order, for this, that tells a document length and index
abbrev pub IsUpdateFor : Why → RowKind → Type 0
IsUpdateFor why (rows.Sent job) = (job.why ≡ why) × (length_index job.task ≡ true)
IsUpdateFor why _ = ⊥

-- nothing but such orders was put out
abbrev pub HasOnlyTold : Why → List RowKind → List RowKind → Type 0
HasOnlyTold why was out = HasOnly (IsUpdateFor why) was out

-- the walk names each navigable that has a place
abbrev pub NamesAll : Seen → List NavId → Type 0
NamesAll s walk = (nav : NavId) (place : Place) → place_of s nav ≡ Some place → has_nav walk nav ≡ true

-- so many of the walk were told, and all else is as it was
pub record IsTelling (p : InPass) (why : Why) (t : Tables) (was : List RowKind) (u : Tables) (out : List RowKind) (walk : List NavId) (n : ℕ) : Type 0 where
  pub passing : IsPassing p out u
  pub all : NamesAll (now_of p.event was) walk
  pub done : AreToldUpTo (now_of p.event out) walk n
  pub more : IsToldMore (now_of p.event was) (now_of p.event out)
  pub kept : KeepsStore t u
  pub only : HasOnlyTold why was out
