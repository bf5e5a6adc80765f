-- The orders to make documents that are on their way: each is of a document of its navigable and process, which has no view yet, and no two are of one document. And all that goes on from row to row beside the table.
-- HTML Standard, "attempt to populate the history entry's document"; orders, processes and numbers are this project's own.
use Rattle.std.specs.Prelude.{◌≡◌, ℕ, ◌+◌, ◌≤◌, List, [], ◌∷◌, Option, None, Some}
use Rattle.tab_ids.specs.declared.DocId.{DocId}
use Rattle.tab_ids.specs.declared.NavId.{NavId}
use Rattle.tab_ids.specs.declared.ProcId.{ProcId}
use Rattle.log_model.specs.declared.job.Job.{Job}
use Rattle.log_model.specs.declared.job.Order.{Order}
use Rattle.log_model.specs.declared.job.Task.{Task}
use Rattle.log_model.specs.declared.job.Task.TheVariants as tasks
use Rattle.log_model.specs.Seen.{Seen, Desk, Document, desk_of}
use Rattle.running_table.specs.Runners.{RunnersState}
use Rattle.running_table.specs.Telling.{AreNumbered, AreRunners, found}

-- a document that an order to this process makes: it is there, of this navigable and of the process, has no view yet, and its number isn't below this one
pub record IsToMake (documents : List Document) (proc : ProcId) (least : ℕ) (doc : DocId) (nav : NavId) : Type 0 where
  pub d : Document
  pub known : found documents doc ≡ Some d
  pub its_nav : d.nav ≡ nav
  pub its_proc : d.proc.0 ≡ proc.0
  pub unseen : d.view ≡ None
  pub later : least ≤ doc.0

-- an order is such, if it makes a document
abbrev pub Makes : List Document → ProcId → ℕ → DocId → Task → Type 0
Makes documents proc least doc (tasks.Populate nav state address initial) = IsToMake documents proc least doc nav
Makes documents proc least doc _ = Unit {0}

-- what the numbers of those after it are not below
abbrev pub least_after : ℕ → DocId → Task → ℕ
least_after least doc (tasks.Populate nav state address initial) = doc.0 + 1
least_after least doc _ = least

-- each of these orders is such, and the documents that they make ascend
abbrev pub AreToMake : List Document → ProcId → ℕ → List Job → Type 0
AreToMake documents proc least [] = Unit {0}
AreToMake documents proc least (job ∷ jobs) =
    Makes documents proc least job.doc job.task × AreToMake documents proc (least_after least job.doc job.task) jobs

-- the order in hand, and then the mail
abbrev pub with_hand : Option Order → List Job → List Job
with_hand None mail = mail
with_hand (Some order) mail = order.job ∷ mail

abbrev pub orders_at : Desk → List Job
orders_at desk = with_hand desk.in_hand desk.mail

-- in each process
abbrev pub AreMaking : Seen → Type 0
AreMaking s = (proc : ProcId) → AreToMake s.documents proc 0 (orders_at (desk_of s proc))

-- the table goes with what a log has come to, whose documents are numbered and made as they should be
pub record IsTold (s : Seen) (t : RunnersState) : Type 0 where
  pub numbered : AreNumbered s
  pub making : AreMaking s
  pub runners : AreRunners s t
