-- Which orders on their way to a document leave what its view shows: all that come after the view's epoch is reached.
-- This project's own.
use Rattle.std.specs.Prelude.{◌≡◌, Bool, true, false, ◌==◌, List, [], ◌∷◌, Some}
use Rattle.tab_ids.specs.declared.Epoch.{Epoch}
use Rattle.log_model.specs.declared.job.Job.{Job}
use Rattle.log_model.specs.declared.job.Task.{Task}
use Rattle.log_model.specs.declared.job.Task.TheVariants as tasks
use Rattle.log_model.specs.Views.{View}
use Rattle.log_model.specs.Seen.{Seen, Document, Desk}
use Rattle.seen_facts.specs.Coord.Leading.{orders_for, EachAwake}

-- the order tells length and index, asks, or is a fragment navigation: by itself it leaves what the view shows, and its epoch
abbrev pub is_telling : Task → Bool
is_telling (tasks.Update length index) = true
is_telling (tasks.Ask slot cause) = true
is_telling (tasks.DoFragment req mode address) = true
is_telling _ = false

abbrev pub AllTell : List Job → Type 0
AllTell [] = Unit {0}
AllTell (job ∷ jobs) = (is_telling job.task ≡ true) × AllTell jobs

-- the order shows the document under the epoch
abbrev pub shows_under : Epoch → Task → Bool
shows_under epoch (tasks.Activate entry under length index memo address) = under.0 == epoch.0
shows_under epoch _ = false

-- once an order has shown the document under the epoch, only such orders come
abbrev pub LastShows : Epoch → List Job → Type 0
LastShows epoch [] = Unit {0}
LastShows epoch (job ∷ jobs) = (shows_under epoch job.task ≡ true → AllTell jobs) × LastShows epoch jobs

-- where the view is under the epoch, and once it is, only such orders come
pub record Reaches (desk : Desk) (d : Document) (epoch : Epoch) : Type 0 where
  pub reached : (view : View) → d.view ≡ Some view → view.epoch.0 ≡ epoch.0 → AllTell (orders_for desk d.nr)
  pub last : LastShows epoch (orders_for desk d.nr)

-- so it is for the document of each awake navigable
abbrev pub EachReaches : Seen → Type 0
EachReaches s = EachAwake (λ desk d given epoch. Reaches desk d epoch) s
