-- When the document that is kept longest is discarded as the user evicts it: by the first row that is put out, without which the event's own row may not be logged.
-- HTML Standard, "Documents kept for traversal" and "destroy a document"; that the user evicts, and what, is this project's own.
use Rattle.tab_doors.specs.AskingLoads.{TiesAsking}
use Rattle.load_doors.specs.Logged.{IsLogged}
use Rattle.seen_facts.proofs.Kept.States.{AreOfOwnStates}
use Rattle.seen_facts.specs.Kept.Keeping.{is_last}
use Rattle.row_facts.specs.LeaveRows.Evicting.{IsEvictDue}
use Rattle.row_facts.specs.LeaveRows.Leaving.{IsDiscardOf}
use Rattle.log_model.specs.Seen.{Document, Place, desk_of, place_of}
use Rattle.seen_laws.specs.InEvent.{InEvent, log_of, now_of}
use Rattle.std.specs.Prelude.{Some, [], false, ◌≡◌}
use Rattle.tab_doors.specs.Orders.{IsToGo, order_to, proc_at}
use Rattle.tab_doors.specs.declared.tables.Tables.{Tables}
use Rattle.tab_ids.specs.declared.DocId.{DocId}
use Rattle.tab_ids.specs.declared.NavId.{NavId}
use Rattle.tab_ids.specs.declared.StateId.{StateId}
use Rattle.log_model.specs.declared.job.Task.TheVariants as tasks
use Rattle.log_model.specs.declared.job.Why.TheVariants as whys
use Rattle.log_model.specs.declared.row_kind.Actor.TheVariants as actors
use Rattle.log_model.specs.declared.row_kind.RowKind.TheVariants as rows

-- in this event the user evicts the document state of this document, which is kept longest, as the event began and as the log would be now had nobody been asked; nobody is awake on it, no navigable was shown it last, and the tables have it for its state alone, which is no ongoing load's
pub record IsEvicted (e : InEvent) (t : Tables) (doc : DocId) (state : StateId) : Type 0 where
  pub logged : IsLogged e t.checks
  pub asking : TiesAsking e.checking (log_of e []) t.asking
  pub by_user : e.actor ≡ actors.Ui
  pub own : e.own ≡ rows.Evicted state
  pub was : Document
  pub began : IsEvictDue e.start state doc was
  pub document : Document
  pub due : IsEvictDue (now_of e []) state doc document
  pub unshown : (nav : NavId) (place : Place) → place_of (now_of e []) nav ≡ Some place → is_last doc place ≡ false
  pub discards : IsDiscardOf (now_of e []) (order_to (now_of e []) doc whys.Evict tasks.Discard) document
  pub known : (desk_of (now_of e []) (proc_at (now_of e []) doc)).known ≡ 0
  pub gone : IsToGo (now_of e []) t.tree t.loads [] doc state
  pub own_state : AreOfOwnStates (now_of e []).documents (now_of e []).kept doc state
