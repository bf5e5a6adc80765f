-- How the table goes with what a log has come to: which documents have a view, and which of these run under which epoch.
-- HTML Standard, "Navigables" and "update document for history step application". Epochs, and that documents are numbered as they join, are this project's own.
use Rattle.std.specs.Prelude.{◌≡◌, ℕ, ◌+◌, ◌≤◌, ◌==◌, ◌&&◌, List, [], ◌∷◌, length, Option, None, Some, option_and_then, option_map, find, if◌then◌else◌}
use Rattle.tab_ids.specs.declared.DocId.{DocId}
use Rattle.tab_ids.specs.declared.Epoch.{Epoch}
use Rattle.tab_ids.specs.declared.NavId.{NavId}
use Rattle.log_model.specs.declared.job.Job.{Job}
use Rattle.log_model.specs.declared.job.Task.{Task}
use Rattle.log_model.specs.declared.job.Task.TheVariants as tasks
use Rattle.log_model.specs.declared.row_kind.RowKind.{RowKind}
use Rattle.log_model.specs.declared.row_kind.RowKind.TheVariants as rows
use Rattle.log_model.specs.Equal.{holds}
use Rattle.log_model.specs.Seen.{Seen, Document}
use Rattle.log_model.specs.Views.{View}
use Rattle.running_table.specs.Runners.{RunnersState, nav_at, epoch_at, Places, Shows, Stops, Leaves, Keeps}

-- ---- what the table says of a document

-- a document of this navigable is there where it has a view
abbrev pub there_in : NavId → Option View → Option NavId
there_in own view = option_map (λ (v : View). own) view

-- and runs in a navigable where that is its own and its view runs; the epoch is its view's
abbrev pub under_in : NavId → NavId → Option View → Option Epoch
under_in own nav view =
    if own.0 == nav.0 && holds (λ (v : View). v.running) view then option_map (λ (v : View). v.epoch) view else None

abbrev pub there_of : Document → Option NavId
there_of d = there_in d.nav d.view

abbrev pub running_under : NavId → Document → Option Epoch
running_under nav d = under_in d.nav nav d.view

-- the document of a number among these
abbrev pub found : List Document → DocId → Option Document
found documents doc = find (λ (d : Document). d.nr.0 == doc.0) documents

-- the table says so of each of these documents, and of no other
pub record AreRunnersOf (documents : List Document) (t : RunnersState) : Type 0 where
  pub whose : (doc : DocId) → nav_at t doc ≡ option_and_then there_of (found documents doc)
  pub runs : (nav : NavId) (doc : DocId) → epoch_at t nav doc ≡ option_and_then (running_under nav) (found documents doc)

-- the table goes with what a log has come to
abbrev pub AreRunners : Seen → RunnersState → Type 0
AreRunners s t = AreRunnersOf s.documents t

-- ---- the numbers of documents

-- each has a greater number than those before it, and none has a number below this one
abbrev pub AscendFrom : ℕ → List Document → Type 0
AscendFrom least [] = Unit {0}
AscendFrom least (d ∷ documents) = (least ≤ d.nr.0) × AscendFrom (d.nr.0 + 1) documents

-- the documents stand in the order of their numbers, which are distinct
abbrev pub AreInOrder : Seen → Type 0
AreInOrder s = AscendFrom 0 s.documents

-- they are numbered without a gap, the first by this number
abbrev pub NumberedFrom : ℕ → List Document → Type 0
NumberedFrom next [] = Unit {0}
NumberedFrom next (d ∷ documents) = (d.nr.0 ≡ next) × NumberedFrom (next + 1) documents

-- the documents are numbered from 1 in the order in which they joined
abbrev pub AreNumbered : Seen → Type 0
AreNumbered s = NumberedFrom 1 s.documents

-- an order to make a document gives it the next number
abbrev pub MakesNext : Seen → Job → Task → Type 0
MakesNext s job (tasks.Populate nav state address initial) = job.doc.0 ≡ length s.documents + 1
MakesNext s job _ = Unit {0}

-- a document that a row adds has the next number
abbrev pub AddsNext : Seen → RowKind → Type 0
AddsNext s (rows.Opened entry state doc proc slot address) = doc.0 ≡ 1
AddsNext s (rows.Sent job) = MakesNext s job job.task
AddsNext s _ = Unit {0}

-- ---- rows

-- the row neither opens the tab nor ends an order, and no process dies of it: it changes nothing of what the table says
abbrev pub IsQuiet : RowKind → Type 0
IsQuiet (rows.Opened entry state doc proc slot address) = ⊥
IsQuiet (rows.Finished proc job outcome) = ⊥
IsQuiet (rows.Killed proc death) = ⊥
IsQuiet _ = Unit {0}

-- what the table is to do as a document has done an order
abbrev pub GoesWith : DocId → Task → RunnersState → RunnersState → Type 0
GoesWith doc (tasks.Populate nav state address initial) old new = Places doc nav old new
GoesWith doc (tasks.Activate entry epoch length index memo address) old new = Shows doc epoch old new
GoesWith doc tasks.Freeze old new = Stops doc old new
GoesWith doc tasks.Discard old new = Leaves doc old new
GoesWith doc (tasks.Update length index) old new = Keeps old new
GoesWith doc (tasks.DoFragment req mode address) old new = Keeps old new
GoesWith doc (tasks.Ask slot cause) old new = Keeps old new

-- a document that is made is known, is of the order's navigable, and had no view
pub record IsToBeMade (s : Seen) (doc : DocId) (nav : NavId) : Type 0 where
  pub d : Document
  pub known : found s.documents doc ≡ Some d
  pub its_nav : d.nav ≡ nav
  pub unseen : d.view ≡ None

-- what an order asks that was done: of one that makes a document, that this was to be made
abbrev pub MayBeDone : Seen → DocId → Task → Type 0
MayBeDone s doc (tasks.Populate nav state address initial) = IsToBeMade s doc nav
MayBeDone s doc _ = Unit {0}
