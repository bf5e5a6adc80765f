-- Rows of users and processes that stand alone in their event.
use Rattle.std.proofs.Common.{◌≡◌, ℕ, ◌+◌, ℤ, true, false, ◌==◌, List, [], ◌∷◌, length, Some, None, refl, arith}
use Rattle.std.specs.Prelude.{slice_get}
use Rattle.std.proofs.lemmas.Bool.Decides.{nat_tests}
use Rattle.tab_ids.specs.declared.NavId.{NavId}
use Rattle.tab_ids.specs.declared.DocId.{DocId}
use Rattle.tab_ids.specs.declared.ProcId.{ProcId}
use Rattle.tab_ids.specs.declared.ReqId.{ReqId}
use Rattle.log_model.specs.declared.header.Header.{Header}
use Rattle.log_model.specs.declared.action.Action.{Action}
use Rattle.log_model.specs.declared.job.Job.{Job}
use Rattle.log_model.specs.declared.job.Order.{Order}
use Rattle.log_model.specs.declared.job.Task.{Task}
use Rattle.log_model.specs.declared.job.Task.TheVariants as tasks
use Rattle.log_model.specs.declared.outcome.Outcome.{Outcome}
use Rattle.log_model.specs.declared.outcome.Outcome.TheVariants as outcomes
use Rattle.log_model.specs.declared.request.Request.TheVariants as requests
use Rattle.log_model.specs.declared.row_kind.Actor.TheVariants as actors
use Rattle.log_model.specs.declared.row_kind.LogRow.{LogRow}
use Rattle.log_model.specs.declared.row_kind.RowKind.TheVariants as rows
use Rattle.log_model.specs.Equal.{holds}
use Rattle.log_model.specs.Views.{View}
use Rattle.log_model.specs.History.{has_row}
use Rattle.log_model.specs.Seen.{Seen, Document, desk_of, document_of}
use Rattle.log_model.specs.Formed.{poked_document, running_documents}
use Rattle.log_model.proofs.Refl.{nat_eq_refl, same_bool_refl}
use Rattle.seen_laws.specs.Blocks.{Passes}
use Rattle.seen_laws.specs.Sending.{IsToldTask}

-- ---- the user asks

-- a traversal is accepted
pub go_passes : (header : Header) (s : Seen) (event : ℕ) (req : ReqId) (delta : ℤ) (later : List LogRow) → req.0 ≡ length s.requests + 1 → Passes header (record { start = s; now = s; done = []; later = later }) (record { event = event; actor = actors.Ui; row = rows.Accepted req None (requests.Go delta) })
go_passes header s event req delta later next =
    record {
      formed = refl;
      once = rw next (nat_eq_refl (length s.requests + 1));
      caused = refl;
      queued = refl;
      ordered = refl;
      checked = refl;
      in_time = refl;
      suits = refl;
    }

-- a poke of a navigable whose document runs is accepted
pub poke_passes : (header : Header) (s : Seen) (event : ℕ) (req : ReqId) (nav : NavId) (doc : DocId) (d first : Document) (others : List Document) (action : Action) → req.0 ≡ length s.requests + 1 → has_row nav s.history.rows ≡ true → running_documents s nav ≡ first ∷ others → poked_document s nav ≡ Some d → d.nr ≡ doc → Passes header (record { start = s; now = s; done = []; later = [] }) (record { event = event; actor = actors.Ui; row = rows.Accepted req (Some doc) (requests.Poke nav action) })
poke_passes header s event req nav doc d first others action next row runs reached is =
    let some : (length (first ∷ others) == 0) ≡ false = grind (arith, nat_tests) in
    record {
      formed = rw reached (rw is (nat_eq_refl doc.0));
      once = rw next (nat_eq_refl (length s.requests + 1));
      caused = rw row (rw (runs, some) refl);
      queued = refl;
      ordered = refl;
      checked = refl;
      in_time = refl;
      suits = refl;
    }

-- ---- a process works

-- a live order is taken up
pub taken_passes : (header : Header) (s : Seen) (event : ℕ) (proc : ProcId) (job : Job) → (desk_of s proc).in_hand ≡ None → slice_get (desk_of s proc).mail 0 ≡ Some job → (job.incarnation == length (desk_of s proc).killed) ≡ true → Passes header (record { start = s; now = s; done = []; later = [] }) (record { event = event; actor = actors.Proc proc; row = rows.Taken proc job.nr true (holds (λ (d : Document). holds (λ (view : View). view.dirty) d.view) (document_of s job.doc)) })
taken_passes header s event proc job free first lives =
    record {
      formed = rw (nat_eq_refl proc.0, free, first) (rw (nat_eq_refl job.nr.0, lives) (rw (same_bool_refl (holds (λ (d : Document). holds (λ (view : View). view.dirty) d.view) (document_of s job.doc))) refl));
      once = refl;
      caused = refl;
      queued = refl;
      ordered = refl;
      checked = refl;
      in_time = refl;
      suits = refl;
    }

-- what a process answers to an order that shows or tells
abbrev pub told_outcome : Task → Outcome
told_outcome (tasks.Activate entry epoch length index memo address) = outcomes.Activated
told_outcome _ = outcomes.Updated

-- such an order is finished
pub finished_passes : (header : Header) (s : Seen) (event : ℕ) (proc : ProcId) (order : Order) (task : Task) → (desk_of s proc).in_hand ≡ Some order → order.job.task ≡ task → IsToldTask task → Passes header (record { start = s; now = s; done = []; later = [] }) (record { event = event; actor = actors.Proc proc; row = rows.Finished proc order.job.nr (told_outcome task) })
finished_passes header s event proc order (tasks.Activate entry epoch long at memo address) hand is told =
    record {
      formed = rw (nat_eq_refl proc.0, hand) (rw (nat_eq_refl order.job.nr.0, is) refl);
      once = refl;
      caused = refl;
      queued = refl;
      ordered = refl;
      checked = refl;
      in_time = refl;
      suits = rw hand (rw is refl);
    }
finished_passes header s event proc order (tasks.Update long at) hand is told =
    record {
      formed = rw (nat_eq_refl proc.0, hand) (rw (nat_eq_refl order.job.nr.0, is) refl);
      once = refl;
      caused = refl;
      queued = refl;
      ordered = refl;
      checked = refl;
      in_time = refl;
      suits = rw hand (rw is refl);
    }
finished_passes header s event proc order _ hand is told = elim told [ ]
