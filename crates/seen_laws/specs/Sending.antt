-- When the coordinator may send an order: what holds of what the log has come to, a record for each kind.
-- HTML Standard, "activate history entry" and "update document for history step application"; the exact causes are this project's own.
use Rattle.std.specs.Prelude.{◌≡◌, ℕ, ◌+◌, ◌<◌, Bool, true, false, ◌||◌, List, [], ◌∷◌, Option, Some}
use Rattle.tab_ids.specs.declared.EntryId.{EntryId}
use Rattle.tab_ids.specs.declared.Epoch.{Epoch}
use Rattle.log_model.specs.declared.job.Job.{Job}
use Rattle.log_model.specs.declared.job.Task.{Task}
use Rattle.log_model.specs.declared.job.Task.TheVariants as tasks
use Rattle.log_model.specs.declared.job.Why.{Why}
use Rattle.log_model.specs.declared.job.Why.TheVariants as whys
use Rattle.log_model.specs.declared.row.Row.{Row}
use Rattle.log_model.specs.declared.row_kind.LogRow.{LogRow}
use Rattle.log_model.specs.declared.row_kind.RowKind.{RowKind}
use Rattle.log_model.specs.declared.row_kind.RowKind.TheVariants as rows
use Rattle.log_model.specs.Equal.{holds, same_pair}
use Rattle.log_model.specs.History.{target_entry}
use Rattle.log_model.specs.Seen.{Seen, Document, Place, document_of, desk_of, place_of}
use Rattle.log_model.specs.Places.{is_shown, aim_of, shower_of, told_pair, due_pair, pair_at}
use Rattle.log_model.specs.Orders.{needs_activation, is_usable}
use Rattle.log_model.specs.Checks.{may_go_on}
use Rattle.log_model.specs.ActsAtOnce.{is_for_passed}

-- the own row of an event in which the coordinator works
abbrev pub leads : RowKind → Bool
leads (rows.Accepted req doc what) = true
leads (rows.Answered req stay) = true
leads (rows.Evicted state) = true
leads (rows.Delivered proc) = true
leads _ = false

-- the event began with such a row
abbrev pub is_led : List LogRow → Bool
is_led [] = false
is_led (own ∷ done) = leads own.row

-- the order has the next number, and the incarnation that is known
pub record IsNumbered (s : Seen) (job : Job) : Type 0 where
  pub number : job.nr.0 ≡ s.jobs + 1
  pub incarnation : job.incarnation ≡ (desk_of s job.proc).known

-- it goes to the process of its document, which isn't gone
pub record IsTo (s : Seen) (job : Job) (d : Document) : Type 0 where
  pub found : document_of s job.doc ≡ Some d
  pub proc : d.proc ≡ job.proc
  pub alive : (d.is_discarded || d.is_known_dead) ≡ false

-- what the order is for has passed its unload check
abbrev pub is_passed : Seen → Task → Why → Bool
is_passed s (tasks.Update length index) why = true
is_passed s task (whys.Req req) = may_go_on s req
is_passed s task _ = true

-- a document of the target of its shown navigable is to be shown
pub record IsShowDue (s : Seen) (job : Job) (d : Document) (entry : EntryId) (epoch : Epoch) (pair : ℕ × ℕ) (memo : Option (List ℕ)) (address : List ℕ) : Type 0 where
  pub place : Place
  pub placed : place_of s d.nav ≡ Some place
  pub needs : needs_activation place entry ≡ true
  pub greater : place.epoch.0 < epoch.0
  pub target : Row
  pub at : target_entry s.history.rows d.nav (aim_of s) ≡ Some target
  pub entry_is : target.entry ≡ entry
  pub memo_is : target.memo ≡ memo
  pub address_is : target.address ≡ address
  pub usable : is_usable d target.state ≡ true
  pub pair_is : pair ≡ pair_at s (aim_of s)
  pub shown : is_shown s.history.rows (aim_of s) d.nav ≡ true
  pub for_passed : is_for_passed s job ≡ true

-- an awake navigable's document is to be told length and index
pub record IsUpdateDue (s : Seen) (job : Job) (pair : ℕ × ℕ) : Type 0 where
  pub place : Place
  pub shows : shower_of s job.doc ≡ Some place
  pub untold : holds (same_pair pair) (told_pair s place) ≡ false
  pub due : pair ≡ due_pair s place.nav

-- an order that shows a document or tells it something: no test reads the rest of the event for it
abbrev pub IsToldTask : Task → Type 0
IsToldTask (tasks.Activate entry epoch length index memo address) = Unit {0}
IsToldTask (tasks.Update length index) = Unit {0}
IsToldTask _ = ⊥
