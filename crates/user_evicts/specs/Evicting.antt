-- The user has the document discarded that is kept longest, with all that are there below it.
-- HTML Standard, "Documents kept for traversal" and "destroy a document"; that the user evicts, and that those below go with it, is this project's own.
use Rattle.row_facts.specs.LeaveRows.Evicting.{IsEvictDue}
use Rattle.log_model.specs.Equal.{has_doc}
use Rattle.log_model.specs.Seen.{Document}
use Rattle.log_model.specs.declared.job.Job.{Job}
use Rattle.log_model.specs.declared.row_kind.RowKind.{RowKind}
use Rattle.move_queue.specs.Queue.{Queue}
use Rattle.seen_laws.specs.InEvent.{InEvent, now_of}
use Rattle.std.specs.Prelude.{List, [], false, ◌∷◌, ◌≡◌}
use Rattle.tab_evicts.specs.Evicting.{HasOnlyDiscarded, NoneThereBelow}
use Rattle.tab_doors.specs.declared.tables.Tables.{Tables}
use Rattle.tab_ids.specs.declared.DocId.{DocId}
use Rattle.tab_ids.specs.declared.ReqId.{ReqId}
use Rattle.tab_ids.specs.declared.StateId.{StateId}
use Rattle.tab_stands.specs.PassedOn.{InPass, IsReadyIn}
use Rattle.tab_stands.specs.Standing.{InCheck}
use Rattle.log_model.specs.declared.job.Task.TheVariants as tasks
use Rattle.log_model.specs.declared.job.Why.TheVariants as whys
use Rattle.log_model.specs.declared.row_kind.Actor.TheVariants as actors
use Rattle.log_model.specs.declared.row_kind.RowKind.TheVariants as rows

-- an event of the user's, what is in its unload check as it begins, the document state that is evicted in it, the queue, and the requests that are noted for stray documents
pub record InEvict : Type 0 where
  pub event : InEvent
  pub check : InCheck
  pub state : StateId
  pub queue : Queue
  pub noted : List (StateId × ReqId)

-- a pass of it, with nothing at hand but the loads in their check
abbrev pub pass_in : InEvict → InPass
pass_in b = record { event = b.event; loads = b.check.loads; hand = [] }

-- a pass may follow, for the eviction; while a traversal in its check holds the queue, one that sweeps
abbrev pub IsReadyThen : InEvict → List RowKind → Tables → Type 0
IsReadyThen b out t = IsReadyIn b.check.holds (pass_in b) out t b.queue b.noted whys.Evict

-- in this event the user evicts the document that is kept longest, which is of this document state
pub record IsEvictAsk (e : InEvent) (state : StateId) : Type 0 where
  pub by_user : e.actor ≡ actors.Ui
  pub own : e.own ≡ rows.Evicted state
  pub doc : DocId
  pub document : Document
  pub due : IsEvictDue e.start state doc document

-- the first row put out discards that very document, for the eviction; each other one discards a document for it; then none is there below the state, and the document is kept no longer
pub record HasEvicted (e : InEvent) (state : StateId) (out : List RowKind) : Type 0 where
  pub doc : DocId
  pub document : Document
  pub due : IsEvictDue e.start state doc document
  pub job : Job
  pub rest : List RowKind
  pub is : out ≡ rows.Sent job ∷ rest
  pub doc_is : job.doc ≡ doc
  pub task : job.task ≡ tasks.Discard
  pub why : job.why ≡ whys.Evict
  pub only : HasOnlyDiscarded whys.Evict [] out
  pub none : NoneThereBelow (now_of e out) state
  pub unkept : has_doc (now_of e out).kept doc ≡ false
