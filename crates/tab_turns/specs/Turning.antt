-- What is known of the event in which traversals have their turns, and what a turn leaves.
-- HTML Standard, "session history traversal queue"; what is held back is this project's own.
use Rattle.tab_doors.specs.Working.{MayDiscardIn}
use Rattle.tab_passes.specs.PassedOn.{wish}
use Rattle.row_facts.specs.FrameRows.Lawful.{held_at_first}
use Rattle.log_model.specs.Causes.{denial_at_acceptance}
use Rattle.log_model.specs.Equal.{has_req}
use Rattle.log_model.specs.Places.{is_traversal}
use Rattle.log_model.specs.Seen.{Asked, Seen, request_of}
use Rattle.log_model.specs.declared.job.Why.{Why}
use Rattle.log_model.specs.declared.row_kind.RowKind.{RowKind}
use Rattle.seen_facts.proofs.Request.Readers.{SameReads}
use Rattle.seen_laws.specs.InEvent.{InEvent, now_of}
use Rattle.std.specs.Prelude.{List, None, Some, [], false, length, nat_lt, true, ◌≡◌, ◌⊎◌}
use Rattle.tab_ids.specs.declared.ReqId.{ReqId}
pub use Rattle.tab_passes.specs.Causes.{MayCause}

-- what is held back is what was as the event's own row had come, or nothing is any more; no traversal was held back then; and what joined isn't refused as it is accepted
pub record IsWaiting (e : InEvent) (out : List RowKind) : Type 0 where
  pub parked : ((now_of e out).parked ≡ held_at_first e) ⊎ ((now_of e out).parked ≡ [])
  pub apart : (req : ReqId) (q : Asked) → has_req (held_at_first e) req ≡ true → request_of (now_of e out) req ≡ Some q → is_traversal q.what ≡ false
  pub early : (req : ReqId) (q : Asked) → has_req (now_of e out).joined req ≡ true → request_of (now_of e out) req ≡ Some q → denial_at_acceptance e.start q.what ≡ None ⊎ (nat_lt (length e.start.requests) req.0 ≡ false)

-- so it is, and no step was in its check as the event began or was cut, so that steps may have their turns
pub record IsTurning (e : InEvent) (out : List RowKind) : Type 0 where
  pub waits : IsWaiting e out
  pub free : MayDiscardIn false e

-- documents, navigables, entries, desks, what is kept and what is held back are as they were, what each request asks is, and orders may be sent for whom they might before
pub record LeavesAlone (s t : Seen) : Type 0 where
  pub documents : t.documents ≡ s.documents
  pub places : t.places ≡ s.places
  pub rows_ : t.history.rows ≡ s.history.rows
  pub desks : t.desks ≡ s.desks
  pub kept : t.kept ≡ s.kept
  pub parked : t.parked ≡ s.parked
  pub wishes : SameReads wish s.requests t.requests
  pub causes : (why : Why) → MayCause s why → MayCause t why
