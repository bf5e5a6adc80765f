-- When a kept document is discarded, and one below it: the user evicts it, or too many are kept; and a made one that nothing needs.
-- HTML Standard, "destroy a document"; how many documents are kept, and for how long, is left to the browser: these rules are this project's own.
use Rattle.row_facts.specs.LeaveRows.Leaving.{IsDiscardOf}
use Rattle.log_model.specs.Equal.{has_doc, holds}
use Rattle.log_model.specs.Formed.{last_of}
use Rattle.log_model.specs.Orders.{is_below_gone, ongoing_load}
use Rattle.log_model.specs.Places.{aim_of, is_shown, targets_state}
use Rattle.log_model.specs.Points.{order_of}
use Rattle.log_model.specs.Seen.{Document, Place, Seen, desk_of, document_of, place_of}
use Rattle.log_model.specs.Suits.{kept_with, newly_left}
use Rattle.log_model.specs.declared.job.Job.{Job}
use Rattle.log_model.specs.declared.job.Task.{Task}
use Rattle.log_model.specs.declared.made.Made.{Made}
use Rattle.log_model.specs.declared.row_kind.LogRow.{LogRow}
use Rattle.log_model.specs.declared.row_kind.RowKind.{RowKind}
use Rattle.seen_laws.specs.Blocks.{Here}
use Rattle.std.specs.List.{list_any}
use Rattle.std.specs.Prelude.{Bool, List, None, Option, Some, [], false, not, slice_get, true, ℕ, ◌&&◌, ◌==◌, ◌≡◌, ◌∷◌}
use Rattle.tab_ids.specs.declared.DocId.{DocId}
use Rattle.tab_ids.specs.declared.ProcId.{ProcId}
use Rattle.tab_ids.specs.declared.StateId.{StateId}
use Rattle.log_model.specs.declared.job.Task.TheVariants as tasks
use Rattle.log_model.specs.declared.made.Report.TheVariants as reports
use Rattle.log_model.specs.declared.outcome.Outcome.TheVariants as outcomes
use Rattle.log_model.specs.declared.row_kind.RowKind.TheVariants as rows

-- the document is the one that its navigable was shown last
abbrev pub is_last : Seen → Document → Bool
is_last s d = holds (λ (place : Place). holds (λ (last : DocId). last.0 == d.nr.0) place.last) (place_of s d.nav)

-- ---- a kept document

-- the order discards a kept document, which another one has followed in its navigable; with the one that later rows leave, if they leave one, it is the last of the kept ones
pub record IsKeptLast (s : Seen) (job : Job) (d : Document) (left : Option DocId) : Type 0 where
  pub discards : IsDiscardOf s job d
  pub kept : has_doc s.kept d.nr ≡ true
  pub followed : is_last s d ≡ false
  pub last : last_of (kept_with s left) ≡ Some d.nr

-- the document that later rows leave first, if they leave one
abbrev pub LeavesLater : Seen → Option DocId → List LogRow → Type 0
LeavesLater s left later = newly_left s later ≡ left

-- the row shows no document
abbrev pub shows_none : LogRow → Bool
shows_none row = not (holds (λ (job : Job). is_show job.task) (order_of row))
  where
    is_show : Task → Bool
    is_show (tasks.Activate entry epoch length index memo address) = true
    is_show _ = false

-- ---- an eviction

-- the user evicts the longest kept document, which has this document state
pub record IsEvictDue (s : Seen) (state : StateId) (doc : DocId) (d : Document) : Type 0 where
  pub last : last_of s.kept ≡ Some doc
  pub found : document_of s doc ≡ Some d
  pub state_is : d.state ≡ state

-- the row discards the document
abbrev pub discards_doc : DocId → LogRow → Bool
discards_doc doc row = holds (λ (job : Job). job.doc.0 == doc.0 && is_discard job.task) (order_of row)
  where
    is_discard : Task → Bool
    is_discard tasks.Discard = true
    is_discard _ = false

-- a later row discards it
abbrev pub IsDiscardedLater : DocId → List LogRow → Type 0
IsDiscardedLater doc later = list_any (discards_doc doc) later ≡ true

-- the event's rows began with an eviction
abbrev pub is_evicting : List LogRow → Bool
is_evicting [] = false
is_evicting (own ∷ done) = by_kind own.row
  where
    by_kind : RowKind → Bool
    by_kind (rows.Evicted state) = true
    by_kind _ = false

-- ---- others

-- the order discards a document below one that is discarded or known dead
pub record IsBelowDue (s : Seen) (job : Job) (d : Document) : Type 0 where
  pub discards : IsDiscardOf s job d
  pub below : is_below_gone s d ≡ true

-- the document state is that of the target of a shown navigable at the aim
abbrev pub is_a_target : Seen → StateId → Place → Bool
is_a_target s state place =
    is_shown s.history.rows (aim_of s) place.nav && targets_state s.history.rows (aim_of s) place.nav state

-- the order discards a document that was never shown: the event takes the report that it was made, and neither an ongoing load nor a target needs it
pub record IsUnneededDue (h : Here) (job : Job) (d : Document) : Type 0 where
  pub discards : IsDiscardOf h.now job d
  pub own : LogRow
  pub rest : List LogRow
  pub begins : h.done ≡ own ∷ rest
  pub proc : ProcId
  pub takes : own.row ≡ rows.Delivered proc
  pub populate : Job
  pub slot : Option ℕ
  pub made : Option Made
  pub tells : slice_get (desk_of h.start proc).reports 0 ≡ Some (reports.Done populate (outcomes.Populated slot) made)
  pub of : populate.doc ≡ d.nr
  pub unloaded : ongoing_load h.now d.state ≡ None
  pub untargeted : list_any (is_a_target h.now d.state) h.now.places ≡ false
  pub unshown : is_last h.now d ≡ false
  pub unkept : has_doc h.now.kept d.nr ≡ false
