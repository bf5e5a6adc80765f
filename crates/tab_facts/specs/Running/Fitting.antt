-- What each row asks, so that fragment orders find their documents running after it.
-- This project's own; HTML Standard, "navigate to a fragment".
use Rattle.seen_facts.proofs.Coord.Kept.{IsInHand}
use Rattle.seen_facts.specs.Coord.Leading.{orders_for}
use Rattle.seen_facts.proofs.Desk.Stays.{NoDeath}
use Rattle.seen_facts.specs.Desk.Own.{IsFragmentTask}
use Rattle.log_model.specs.Seen.{Document, Seen, desk_of, document_of}
use Rattle.log_model.specs.declared.job.Job.{Job}
use Rattle.log_model.specs.declared.job.Order.{Order}
use Rattle.log_model.specs.declared.job.Task.{Task}
use Rattle.log_model.specs.declared.job.Task.TheVariants as tasks
use Rattle.log_model.specs.declared.row_kind.RowKind.{RowKind}
use Rattle.log_model.specs.declared.row_kind.RowKind.TheVariants as rows
use Rattle.seen_facts.specs.Rest.Resting.{will_run}
use Rattle.tab_facts.specs.Running.Running.{EachFinds}
use Rattle.seen_laws.specs.InEvent.{InEvent, now_of}
use Rattle.std.specs.Prelude.{Bool, List, None, Some, [], slice_get, true, ◌++◌, ◌∷◌, ◌≡◌}
use Rattle.tab_ids.specs.declared.JobId.{JobId}
use Rattle.tab_ids.specs.declared.ProcId.{ProcId}

-- the document of the order runs once all orders are done that come to it
abbrev pub WillRun : Seen → Job → Type 0
WillRun s job = (d : Document) → document_of s job.doc ≡ Some d → will_run (desk_of s d.proc) d ≡ Some true

-- an order may be sent: one that makes a document, where no fragment order comes to that yet; a fragment order, where its document will run; and any other
abbrev pub IsFittingOrder : Seen → Job → Task → Type 0
IsFittingOrder s job (tasks.Populate nav state address initial) = EachFinds None (orders_for (desk_of s job.proc) job.doc)
IsFittingOrder s job (tasks.DoFragment req mode address) = WillRun s job
IsFittingOrder s job _ = Unit {0}

-- a live order is taken up: the first that waits, by a process that has none in hand
pub record IsTakenUp (s : Seen) (proc : ProcId) (live : Bool) : Type 0 where
  pub live_is : live ≡ true
  pub free : (desk_of s proc).in_hand ≡ None
  pub job : Job
  pub first : slice_get (desk_of s proc).mail 0 ≡ Some job

-- an order is finished: that in hand
pub record IsFinishedUp (s : Seen) (proc : ProcId) (nr : JobId) : Type 0 where
  pub order : Order
  pub in_hand : IsInHand s proc order
  pub nr_is : nr ≡ order.job.nr

-- the row may come, in a tab in which no process dies
abbrev pub IsFittingRow : Seen → RowKind → Type 0
IsFittingRow s (rows.Opened entry state doc proc slot address) = ⊥
IsFittingRow s (rows.Killed proc death) = ⊥
IsFittingRow s (rows.Sent job) = IsFittingOrder s job job.task
IsFittingRow s (rows.Taken proc nr live dirty) = IsTakenUp s proc live
IsFittingRow s (rows.Finished proc nr outcome) = IsFinishedUp s proc nr
IsFittingRow s (rows.Delivered proc) = NoDeath (slice_get (desk_of s proc).reports 0)
IsFittingRow s _ = Unit {0}

-- each of these rows may, after those that the event has put out
abbrev pub EachFits : InEvent → List RowKind → List RowKind → Type 0
EachFits e was [] = Unit {0}
EachFits e was (kind ∷ more) = IsFittingRow (now_of e was) kind × EachFits e (was ++ kind ∷ []) more

-- ---- rows of a coordinator

-- the order makes a document that wasn't there, or neither makes one nor sends one to a fragment
abbrev pub IsQuietOrder : Seen → Job → Task → Type 0
IsQuietOrder base job (tasks.Populate nav state address initial) = (d : Document) → document_of base job.doc ≡ Some d → ⊥
IsQuietOrder base job (tasks.DoFragment req mode address) = ⊥
IsQuietOrder base job _ = Unit {0}

-- a fragment order is to a document that was there
abbrev pub IsOfThere : Seen → Job → Type 0
IsOfThere base job = IsFragmentTask job.task → (d : Document) × (document_of base job.doc ≡ Some d)
