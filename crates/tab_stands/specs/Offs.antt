-- Which navigables were shown a document, as their epochs and the orders on their way tell; and why one that is shown may not stand.
-- This project's own; HTML Standard, "apply the history step" and "finalize a cross-document navigation".
use Rattle.seen_facts.specs.Home.Homes.{document_in}
use Rattle.log_model.specs.Places.{is_shown, stands, top}
use Rattle.log_model.specs.Seen.{Document, Place, Seen, place_in, place_of}
use Rattle.log_model.specs.declared.job.Job.{Job}
use Rattle.log_model.specs.declared.job.Task.{Task}
use Rattle.tab_facts.specs.Order.Orders.{AreOrders}
use Rattle.std.specs.Prelude.{List, None, Option, Some, false, true, ℕ, ◌≡◌, ◌≤◌}
use Rattle.tab_ids.specs.declared.NavId.{NavId}
use Rattle.tab_ids.specs.declared.ReqId.{ReqId}
pub use Rattle.tab_settles.specs.Offs.{IsOffSince, is_new_place}
use Rattle.log_model.specs.declared.job.Task.TheVariants as tasks

-- ---- epochs, and orders that show documents

-- the order's document is of a navigable that has come to the epoch; and where that hasn't come further, no later order showed it a document
pub record IsOfEpoch (documents : List Document) (places : List Place) (job : Job) (epoch : ℕ) : Type 0 where
  pub d : Document
  pub found : document_in documents job.doc ≡ Some d
  pub place : Place
  pub placed : place_in places d.nav ≡ Some place
  pub one : 1 ≤ epoch
  pub low : epoch ≤ place.epoch.0
  pub last : epoch ≡ place.epoch.0 → place.last_job ≡ Some job.nr

-- an order that shows a document is so, under its epoch
abbrev pub IsUnderEpoch : List Document → List Place → Job → Task → Type 0
IsUnderEpoch documents places job (tasks.Activate entry epoch length index memo address) = IsOfEpoch documents places job epoch.0
IsUnderEpoch documents places job _ = Unit {0}

-- in a new navigable no document was ever shown
abbrev pub AreNewUnshown : List Place → Type 0
AreNewUnshown places = (nav : NavId) (place : Place) → place_in places nav ≡ Some place → is_new_place place ≡ true → place.was_activated ≡ false

-- one was in the top
pub record IsTopShown (places : List Place) : Type 0 where
  pub place : Place
  pub placed : place_in places top ≡ Some place
  pub shown : place.was_activated ≡ true

-- both
pub record AreShownOnce (places : List Place) : Type 0 where
  pub unshown : AreNewUnshown places
  pub top_ : IsTopShown places

-- all of it
pub record AreShownUnder (s : Seen) : Type 0 where
  pub orders : AreOrders (λ (job : Job). IsUnderEpoch s.documents s.places job job.task) s
  pub unshown : AreNewUnshown s.places
  pub top_ : IsTopShown s.places

-- ---- why a navigable doesn't stand

-- no document was ever shown in a new navigable, which the top isn't; and where no traversal runs, each other one that is shown and doesn't stand is so for the last load that was applied
pub record AreOffKnown (run : Option ReqId) (s : Seen) : Type 0 where
  pub unshown : (nav : NavId) (place : Place) → place_of s nav ≡ Some place → is_new_place place ≡ true → place.was_activated ≡ false
  pub top_shown : (place : Place) → place_of s top ≡ Some place → is_new_place place ≡ false
  pub since : run ≡ None → (nav : NavId) (place : Place) → place_of s nav ≡ Some place → is_shown s.history.rows s.history.current nav ≡ true → stands s s.history.current nav ≡ false → is_new_place place ≡ false → IsOffSince s nav place
