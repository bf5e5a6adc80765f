-- That each fragment order on its way finds its document running as its turn comes, and that a document on which a navigable is awake runs once all orders are done that come to it.
-- HTML Standard, "navigate to a fragment", which the document's own navigable does; orders on their way are this project's own.
use Rattle.seen_facts.specs.Coord.Leading.{EachAwake, orders_for}
use Rattle.log_model.specs.Seen.{Desk, Document, Seen, desk_of, document_of}
use Rattle.log_model.specs.Views.{View}
use Rattle.log_model.specs.declared.job.Job.{Job}
use Rattle.log_model.specs.declared.job.Task.{Task}
use Rattle.log_model.specs.declared.job.Task.TheVariants as tasks
use Rattle.seen_facts.specs.Rest.Resting.{run_after, runs_in, will_run}
use Rattle.std.specs.Prelude.{Bool, List, Option, Some, [], true, ◌∷◌, ◌≡◌}
use Rattle.tab_ids.specs.declared.DocId.{DocId}

-- the order finds the document running, where it sends it to a fragment; of another order nothing is asked
abbrev pub Finds : Option Bool → Task → Type 0
Finds runs (tasks.DoFragment req mode address) = runs ≡ Some true
Finds runs _ = Unit {0}

-- each of the orders does, each as those before it leave the document
abbrev pub EachFinds : Option Bool → List Job → Type 0
EachFinds runs [] = Unit {0}
EachFinds runs (job ∷ jobs) = Finds runs job.task × EachFinds (run_after runs job.task) jobs

-- so do the orders that come to the document: that in hand, then the mail
abbrev pub IsFoundRunning : Desk → Document → Type 0
IsFoundRunning desk d = EachFinds (runs_in d.view) (orders_for desk d.nr)

-- of each document
abbrev pub AreFoundRunning : Seen → Type 0
AreFoundRunning s = (doc : DocId) (d : Document) → document_of s doc ≡ Some d → IsFoundRunning (desk_of s d.proc) d

-- a document on which a navigable is awake runs once all orders are done that come to it
abbrev pub AwakeRun : Seen → Type 0
AwakeRun s = EachAwake (λ desk d given epoch. will_run desk d ≡ Some true) s

-- the document has a view, and runs
pub record Runs (s : Seen) (doc : DocId) : Type 0 where
  pub d : Document
  pub found : document_of s doc ≡ Some d
  pub view : View
  pub viewed : d.view ≡ Some view
  pub running : view.running ≡ true
