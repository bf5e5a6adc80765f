-- How each row of a log changes the documents: which there are, what they show, and what is known of them.
-- HTML Standard, "populate the history entry's document", "destroy a document", "update document for history step application"; deaths and the pair that was told are this project's own.
use Rattle.std.specs.Prelude.{ℕ, Bool, true, false, ◌&&◌, ◌==◌, List, [], ◌∷◌, ◌++◌, map, slice_get, option_map, Option, Some, None, is_none, if◌then◌else◌}
use Rattle.tab_ids.specs.declared.Death.{Death}
use Rattle.tab_ids.specs.declared.NavId.{NavId}
use Rattle.tab_ids.specs.declared.ProcId.{ProcId}
use Rattle.tab_ids.specs.declared.DocId.{DocId}
use Rattle.tab_ids.specs.declared.EntryId.{EntryId}
use Rattle.tab_ids.specs.declared.StateId.{StateId}
use Rattle.log_model.specs.declared.change.Change.{Change}
use Rattle.log_model.specs.declared.change.Change.TheVariants as changes
use Rattle.log_model.specs.declared.job.Job.{Job}
use Rattle.log_model.specs.declared.job.Task.{Task}
use Rattle.log_model.specs.declared.job.Task.TheVariants as tasks
use Rattle.log_model.specs.declared.made.Report.{Report}
use Rattle.log_model.specs.declared.made.Report.TheVariants as reports
use Rattle.log_model.specs.declared.outcome.Outcome.{Outcome}
use Rattle.log_model.specs.declared.outcome.Outcome.TheVariants as outcomes
use Rattle.log_model.specs.declared.row_kind.RowKind.{RowKind}
use Rattle.log_model.specs.declared.row_kind.RowKind.TheVariants as rows
use Rattle.log_model.specs.Views.{View, fresh_view, opening_view, after_made, after_task}
use Rattle.log_model.specs.Seen.{Seen, Document, desk_of}
use Rattle.log_model.specs.AfterPlaces.{is_dead_by}

-- the document of the first entry: it runs, and was told length 1 and index 0
abbrev pub opening_document : EntryId → StateId → DocId → ProcId → Option ℕ → List ℕ → Document
opening_document entry state doc proc slot address =
    record {
      nr = doc;
      nav = record { 0 = 0 };
      state = state;
      proc = proc;
      incarnation = 0;
      slot = slot;
      view = Some (opening_view doc entry address);
      told = Some (1, 0);
      is_ready = true;
      is_fresh = true;
      is_frozen = false;
      is_discarded = false;
      dead_by = None;
      is_known_dead = false;
      last_applied = 0;
    }

-- the documents with one of them changed
abbrev pub on_document : DocId → (Document → Document) → List Document → List Document
on_document doc f documents = map (λ (d : Document). if d.nr.0 == doc.0 then f d else d) documents

-- an order that tells length and index
abbrev pub told_by : Option (ℕ × ℕ) → Task → Option (ℕ × ℕ)
told_by told (tasks.Activate entry epoch length index memo address) = Some (length, index)
told_by told (tasks.Update length index) = Some (length, index)
told_by told _ = told

-- an order that freezes a document, or shows it again
abbrev pub frozen_by : Bool → Task → Bool
frozen_by frozen (tasks.Activate entry epoch length index memo address) = false
frozen_by frozen tasks.Freeze = true
frozen_by frozen _ = frozen

-- an applied push of a document: it shows a guess, and was told nothing since
abbrev pub told_after_change : Document → Change → Document
told_after_change d (changes.Push nav entry state address memo) =
    if d.nr.0 == entry.maker then record d { told = None } else d
told_after_change d _ = d

-- an entry of the document was applied
abbrev pub with_applied : EntryId → Document → Document
with_applied entry d = if d.nr.0 == entry.maker then record d { last_applied = entry.nr } else d

-- an applied entry of a document is the last one of it that was applied; after a reload the documents of its navigable are no longer fresh
abbrev pub applied_to : Change → Document → Document
applied_to (changes.Push nav entry state address memo) d = with_applied entry d
applied_to (changes.Replace nav over entry state address memo) d = with_applied entry d
applied_to (changes.Reload nav) d = if d.nav.0 == nav.0 then record d { is_fresh = false } else d
applied_to _ d = d

-- a document that is to be made; one that is made into an incarnation which has ended is dead from then on
abbrev pub new_document : Seen → Job → NavId → StateId → Document
new_document s job nav state =
    record {
      nr = job.doc;
      nav = nav;
      state = state;
      proc = job.proc;
      incarnation = job.incarnation;
      slot = None;
      view = None;
      told = None;
      is_ready = false;
      is_fresh = false;
      is_frozen = false;
      is_discarded = false;
      dead_by = slice_get (desk_of s job.proc).killed job.incarnation;
      is_known_dead = false;
      last_applied = 0;
    }

-- the document once an order was sent to it
abbrev pub addressed : Task → Document → Document
addressed task d = record d { told = told_by d.told task; is_frozen = frozen_by d.is_frozen task }

-- what an order does to the documents as it is sent
abbrev pub documents_sent : Seen → Job → Task → List Document
documents_sent s job (tasks.Populate nav state address initial) = s.documents ++ new_document s job nav state ∷ []
documents_sent s job tasks.Discard = on_document job.doc (λ d. record d { is_discarded = true }) s.documents
documents_sent s job task = on_document job.doc (addressed task) s.documents

-- the order that a process has in hand
abbrev pub task_in_hand : Seen → ProcId → Option Job
task_in_hand s proc = option_map (λ order. order.job) (desk_of s proc).in_hand

-- the view of a document after a finished order: it is made, it is gone, or it changes; what was made of a fragment order has a row of its own
abbrev pub view_finished : Document → Task → Option View
view_finished d (tasks.Populate nav state address initial) = Some (fresh_view d.nr address initial)
view_finished d tasks.Discard = None
view_finished d (tasks.DoFragment req mode address) = d.view
view_finished d task = option_map (λ view. after_task view task) d.view

-- a finished order changes the view of its document
abbrev pub documents_finished : List Document → Option Job → List Document
documents_finished documents None = documents
documents_finished documents (Some job) =
    on_document job.doc (λ d. record d { view = view_finished d job.task }) documents

-- a populated document has the handler slot of its page
abbrev pub slot_finished : List Document → Option Job → Outcome → List Document
slot_finished documents (Some job) (outcomes.Populated slot) =
    on_document job.doc (λ d. record d { slot = slot }) documents
slot_finished documents job _ = documents

-- what a delivered report does to the documents: a populated one is ready, and those that a death took are known dead
abbrev pub documents_delivered : List Document → Option Report → List Document
documents_delivered documents (Some (reports.Done job (outcomes.Populated slot) made)) =
    on_document job.doc (λ d. record d { is_ready = true; is_fresh = true }) documents
documents_delivered documents (Some (reports.Died death)) =
    map (λ d. if is_dead_by death d then record d { is_known_dead = true } else d) documents
documents_delivered documents _ = documents

-- a death takes the views of its process, and its documents are dead by it
abbrev pub documents_killed : Seen → ProcId → Death → List Document
documents_killed s proc death =
    map (λ (d : Document). if d.proc.0 == proc.0 && is_none d.dead_by then record d { dead_by = Some death; view = None } else d) s.documents

-- what each row does to the documents
abbrev pub documents_after : Seen → RowKind → List Document
documents_after s (rows.Opened entry state doc proc slot address) =
    opening_document entry state doc proc slot address ∷ []
documents_after s (rows.Applied req change) = map (λ d. applied_to change (told_after_change d change)) s.documents
documents_after s (rows.Sent job) = documents_sent s job job.task
documents_after s (rows.Finished proc job outcome) =
    slot_finished (documents_finished s.documents (task_in_hand s proc)) (task_in_hand s proc) outcome
documents_after s (rows.Made proc made) =
    on_document made.doc (λ d. record d { view = option_map (λ view. after_made view made.what) d.view }) s.documents
documents_after s (rows.Delivered proc) = documents_delivered s.documents (slice_get (desk_of s proc).reports 0)
documents_after s (rows.Killed proc death) = documents_killed s proc death
documents_after s _ = s.documents
