-- No document is under an epoch that its navigable hasn't come to.
-- HTML Standard, "apply the history step"; epochs are this project's own.
use Rattle.std.specs.Prelude.{◌≡◌, ℕ, ◌≤◌, List, [], ◌∷◌, filter_map, Some}
use Rattle.tab_ids.specs.declared.DocId.{DocId}
use Rattle.log_model.specs.declared.job.Job.{Job}
use Rattle.log_model.specs.declared.job.Task.{Task}
use Rattle.log_model.specs.declared.job.Task.TheVariants as tasks
use Rattle.log_model.specs.declared.made.Made.{Made}
use Rattle.log_model.specs.Views.{View}
use Rattle.log_model.specs.Seen.{Seen, Document, Desk, Place, document_of, desk_of, place_of}
use Rattle.log_model.specs.AfterRequests.{made_of_report}
use Rattle.seen_facts.specs.Coord.Leading.{orders_for, held_back}

-- the order shows its document under an epoch up to the bound, if it shows it
abbrev pub ShowsWithin : ℕ → Task → Type 0
ShowsWithin bound (tasks.Activate entry under length index memo address) = under.0 ≤ bound
ShowsWithin bound _ = Unit {0}

abbrev pub AllWithin : ℕ → List Job → Type 0
AllWithin bound [] = Unit {0}
AllWithin bound (job ∷ jobs) = ShowsWithin bound job.task × AllWithin bound jobs

-- what the document made was made under an epoch up to the bound
abbrev pub MadeWithin : ℕ → DocId → List Made → Type 0
MadeWithin bound doc [] = Unit {0}
MadeWithin bound doc (made ∷ mades) = (made.doc.0 ≡ doc.0 → made.epoch.0 ≤ bound) × MadeWithin bound doc mades

-- the document's view, the orders that come to it and what it made and isn't in the history are under epochs up to the bound
pub record IsWithin (held : List Made) (desk : Desk) (d : Document) (bound : ℕ) : Type 0 where
  pub view : (view : View) → d.view ≡ Some view → view.epoch.0 ≤ bound
  pub orders : AllWithin bound (orders_for desk d.nr)
  pub held_back : MadeWithin bound d.nr held
  pub reports : MadeWithin bound d.nr (filter_map made_of_report desk.reports)

-- a fact of each document, with the desk of its process and the epoch of its navigable
abbrev pub EachDocument : (Desk → Document → ℕ → Type 0) → Seen → Type 0
EachDocument F s =
    (doc : DocId) (d : Document) (place : Place) → document_of s doc ≡ Some d → place_of s d.nav ≡ Some place → F (desk_of s d.proc) d place.epoch.0

-- each document is within the epoch of its navigable
abbrev pub EachIsWithin : Seen → Type 0
EachIsWithin s = EachDocument (IsWithin (held_back s.requests s.parked)) s
