-- Rows that the coordinator puts out, and what each makes of the log as it would be had nobody been asked.
use Rattle.std.proofs.Common.{List, Option, [], ap, false, refl, not, ◌++◌, ◌∙◌, ◌∷◌, ◌≡◌}
use Rattle.tab_ids.specs.declared.ReqId.{ReqId}
use Rattle.tab_ids.specs.declared.Step.{Step}
use Rattle.log_model.specs.After.{after}
use Rattle.log_model.specs.declared.change.Change.{Change}
use Rattle.log_model.specs.declared.job.Job.{Job}
use Rattle.log_model.specs.declared.outcome.Cause.{Cause}
use Rattle.log_model.specs.declared.outcome.Denial.{Denial}
use Rattle.log_model.specs.declared.row_kind.RowKind.{RowKind}
use Rattle.log_model.specs.declared.row_kind.RowKind.TheVariants as rows
use Rattle.seen_laws.proofs.InEvents.{now_more}
use Rattle.seen_laws.specs.InEvent.{GoesThere, InEvent, log_of, now_of, row_of}
use Rattle.seen_laws.specs.Unasked.{is_question}
use Rattle.unasked.proofs.Ends.{applied_seen, dropped_seen, refused_seen, started_seen}
use Rattle.unasked.proofs.Sents.{sent_seen}
use Rattle.unasked.specs.Premises.{IsNumbered, IsOff}

module _ (e : InEvent) (out : List RowKind) where
  -- an order that asks nobody
  pub sent_goes : (job : Job) → is_question job.task ≡ false → GoesThere e out (rows.Sent job)
  sent_goes job none = record { seen = ap not none; read = sent_seen e.checking (log_of e out) job e.event e.actor none }

  pub sent_now : (job : Job) → is_question job.task ≡ false → now_of e (out ++ rows.Sent job ∷ []) ≡ after (now_of e out) (row_of e (rows.Sent job))
  sent_now job none = now_more e out (rows.Sent job) (sent_goes job none).read

  -- a request that is dropped
  pub dropped_goes : (req : ReqId) (cause : Cause) → GoesThere e out (rows.Dropped req cause)
  dropped_goes req cause = record { seen = refl; read = dropped_seen e.checking (log_of e out) e.event e.actor req cause }

  pub dropped_now : (req : ReqId) (cause : Cause) → now_of e (out ++ rows.Dropped req cause ∷ []) ≡ after (now_of e out) (row_of e (rows.Dropped req cause))
  dropped_now req cause = now_more e out (rows.Dropped req cause) (dropped_goes req cause).read

  -- one that is refused
  pub refused_goes : (req : ReqId) (reason : Denial) → GoesThere e out (rows.Refused req reason)
  refused_goes req reason =
      record { seen = refl; read = refused_seen e.checking (log_of e out) e.event e.actor req reason }

  pub refused_now : (req : ReqId) (reason : Denial) → now_of e (out ++ rows.Refused req reason ∷ []) ≡ after (now_of e out) (row_of e (rows.Refused req reason))
  refused_now req reason = now_more e out (rows.Refused req reason) (refused_goes req reason).read

  -- who is found under the number has it, so it isn't in its check
  off_of : (req : ReqId) → IsNumbered (log_of e out) req → e.checking req ≡ false → IsOff e.checking (log_of e out) req
  off_of req numbered off q at = ap e.checking (numbered q at) ∙ off

  -- one that begins and isn't in its check
  pub started_goes : (req : ReqId) (goal : Option Step) → IsNumbered (log_of e out) req → e.checking req ≡ false → GoesThere e out (rows.Started req goal)
  started_goes req goal numbered off =
      record { seen = ap not off; read = started_seen e.checking (log_of e out) e.event e.actor req goal (off_of req numbered off) }

  -- one that is applied and isn't
  pub applied_goes : (req : ReqId) (change : Change) → IsNumbered (log_of e out) req → e.checking req ≡ false → GoesThere e out (rows.Applied req change)
  applied_goes req change numbered off =
      record { seen = ap not off; read = applied_seen e.checking (log_of e out) e.event e.actor req change (off_of req numbered off) }
