-- A document that nothing needs as it is made.
-- HTML Standard, "destroy a document" and "ongoing navigation"; that such a document is discarded at once, and for which reason, is this project's own.
use Rattle.row_facts.specs.LeaveRows.Evicting.{is_last}
use Rattle.log_model.specs.Equal.{has_doc}
use Rattle.log_model.specs.Places.{shower_of}
use Rattle.log_model.specs.Seen.{Seen, desk_of}
use Rattle.log_model.specs.declared.job.Job.{Job}
use Rattle.log_model.specs.declared.made.Made.{Made}
use Rattle.seen_laws.specs.InEvent.{InEvent}
use Rattle.std.specs.Prelude.{None, Option, Some, false, slice_get, ℕ, ◌≡◌}
use Rattle.tab_ids.specs.declared.DocId.{DocId}
use Rattle.tab_ids.specs.declared.ProcId.{ProcId}
use Rattle.tab_ids.specs.declared.StateId.{StateId}
use Rattle.tab_sweeps.specs.Sweeping.{IsStray}
use Rattle.log_model.specs.declared.made.Report.TheVariants as reports
use Rattle.log_model.specs.declared.outcome.Outcome.TheVariants as outcomes
use Rattle.log_model.specs.declared.row_kind.RowKind.TheVariants as rows

-- the event takes the report that the document was made
pub record TakesMade (e : InEvent) (doc : DocId) : Type 0 where
  pub proc : ProcId
  pub takes : e.own ≡ rows.Delivered proc
  pub populate : Job
  pub slot : Option ℕ
  pub made : Option Made
  pub tells : slice_get (desk_of e.start proc).reports 0 ≡ Some (reports.Done populate (outcomes.Populated slot) made)
  pub of : populate.doc ≡ doc

-- it is stray, its navigable was shown another one last, or none, it isn't kept, and nobody was awake on it as the event began
pub record IsUnneeded (e : InEvent) (s : Seen) (doc : DocId) (state : StateId) : Type 0 where
  pub taken : TakesMade e doc
  pub stray : IsStray s doc state
  pub unshown : is_last s stray.document ≡ false
  pub unkept : has_doc s.kept doc ≡ false
  pub unwoken : shower_of e.start doc ≡ None
