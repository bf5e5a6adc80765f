-- What who keeps the table beside a log needs: one fact that goes on over each row, and whom a poke of a navigable reaches.
use Rattle.std.proofs.Common.{◌≡◌, ℕ, List, Option, Some}
use Rattle.std.specs.Prelude.{option_map}
use Rattle.tab_ids.specs.declared.DocId.{DocId}
use Rattle.tab_ids.specs.declared.EntryId.{EntryId}
use Rattle.tab_ids.specs.declared.JobId.{JobId}
use Rattle.tab_ids.specs.declared.NavId.{NavId}
use Rattle.tab_ids.specs.declared.ProcId.{ProcId}
use Rattle.tab_ids.specs.declared.StateId.{StateId}
use Rattle.log_model.specs.declared.job.Job.{Job}
use Rattle.log_model.specs.declared.outcome.Outcome.{Outcome}
use Rattle.log_model.specs.declared.row_kind.Actor.{Actor}
use Rattle.log_model.specs.declared.row_kind.RowKind.{RowKind}
use Rattle.log_model.specs.declared.row_kind.RowKind.TheVariants as rows
use Rattle.log_model.specs.After.{after}
use Rattle.log_model.specs.AfterDocuments.{task_in_hand}
use Rattle.log_model.specs.Formed.{poked_document}
use Rattle.log_model.specs.Seen.{Seen, Document, nothing}
use Rattle.running_table.specs.Making.{IsTold}
use Rattle.running_table.specs.Runners.{RunnersState, IsNewest, Keeps, Places, Shows, none_there}
use Rattle.running_table.specs.Telling.{AddsNext, GoesWith, IsQuiet}
use Rattle.running_table.proofs.Makings.{after_making, may_be_done, nothing_making}
use Rattle.running_table.proofs.Numbers.{after_numbered, nothing_numbered, numbered_in_order}
use Rattle.running_table.proofs.Orders.{finished_runners}
use Rattle.running_table.proofs.Poked.{newest_poked}
use Rattle.running_table.proofs.Readers.{kept_said}
use Rattle.running_table.proofs.Rows.{nothing_runners, opened_runners, quiet_runners}

-- before any row
pub nothing_told : IsTold nothing none_there
nothing_told = record { numbered = nothing_numbered; making = nothing_making; runners = nothing_runners }

-- after a want of memory
pub kept_told : (s : Seen) (t t2 : RunnersState) → Keeps t t2 → IsTold s t → IsTold s t2
kept_told s t t2 keeps told =
    record { numbered = told.numbered; making = told.making; runners = kept_said s.documents t t2 keeps told.runners }

-- the tab opens: its first document is placed in the navigable at the top, and shown under the first epoch
pub opened_told : (event : ℕ) (actor : Actor) (entry : EntryId) (state : StateId) (doc : DocId) (proc : ProcId) (slot : Option ℕ) (address : List ℕ) (t t1 t2 : RunnersState) → doc.0 ≡ 1 → IsTold nothing t → Places doc (record { 0 = 0 }) t t1 → Shows doc (record { 0 = 1 }) t1 t2 → IsTold (after nothing (record { event = event; actor = actor; row = rows.Opened entry state doc proc slot address })) t2
opened_told event actor entry state doc proc slot address t t1 t2 first told places shows =
    record {
      numbered = after_numbered nothing event actor (rows.Opened entry state doc proc slot address) first told.numbered;
      making = after_making nothing event actor (rows.Opened entry state doc proc slot address) first told.numbered told.making;
      runners = opened_runners nothing event actor entry state doc proc slot address t t1 t2 told.runners places shows;
    }

-- a row that neither opens the tab nor ends an order, and of which no process dies: the table stays
pub quiet_told : (s : Seen) (event : ℕ) (actor : Actor) (kind : RowKind) (t : RunnersState) → IsQuiet kind → AddsNext s kind → IsTold s t → IsTold (after s (record { event = event; actor = actor; row = kind })) t
quiet_told s event actor kind t quiet next told =
    record {
      numbered = after_numbered s event actor kind next told.numbered;
      making = after_making s event actor kind next told.numbered told.making;
      runners = quiet_runners s event actor kind t quiet told.runners;
    }

-- the order that a process has in hand is done: the table follows
pub finished_told : (s : Seen) (event : ℕ) (actor : Actor) (proc : ProcId) (nr : JobId) (outcome : Outcome) (job : Job) (t t2 : RunnersState) → task_in_hand s proc ≡ Some job → IsTold s t → GoesWith job.doc job.task t t2 → IsTold (after s (record { event = event; actor = actor; row = rows.Finished proc nr outcome })) t2
finished_told s event actor proc nr outcome job t t2 hand told follows =
    record {
      numbered = after_numbered s event actor (rows.Finished proc nr outcome) tt told.numbered;
      making = after_making s event actor (rows.Finished proc nr outcome) tt told.numbered told.making;
      runners = finished_runners s event actor proc nr outcome job t t2 hand (may_be_done s told.making proc job hand) told.runners follows;
    }

-- the newest of those that run in a navigable is whom a poke of it reaches
pub newest_told : (s : Seen) (t : RunnersState) (nav : NavId) (r : Option DocId) → IsTold s t → IsNewest t nav r → r ≡ option_map (λ (d : Document). d.nr) (poked_document s nav)
newest_told s t nav r told newest =
    newest_poked s t nav r told.runners (numbered_in_order s told.numbered) newest
