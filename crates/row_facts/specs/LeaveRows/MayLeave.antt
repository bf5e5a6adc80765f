-- When a document is frozen or discarded, with a handler or without one: it may be left for the request that the order is for.
-- HTML Standard, "destroy a document" and "checking if unloading is canceled"; the exact causes are this project's own.
use Rattle.std.specs.Prelude.{◌≡◌, ℕ, true, false, List, [], ◌∷◌, slice_get, Option, None, Some}
use Rattle.std.specs.List.{list_any}
use Rattle.tab_ids.specs.declared.DocId.{DocId}
use Rattle.tab_ids.specs.declared.ProcId.{ProcId}
use Rattle.tab_ids.specs.declared.ReqId.{ReqId}
use Rattle.log_model.specs.ActsAtOnce.{is_for_passed}
use Rattle.log_model.specs.Checks.{may_be_left, prompts_duly}
use Rattle.log_model.specs.Equal.{has_doc}
use Rattle.log_model.specs.Formed.{last_of}
use Rattle.log_model.specs.History.{has_state}
use Rattle.log_model.specs.Orders.{is_below_gone, ongoing_load}
use Rattle.log_model.specs.Suits.{kept_with}
use Rattle.log_model.specs.declared.row_kind.LogRow.{LogRow}
use Rattle.row_facts.specs.LeaveRows.Evicting.{is_a_target, is_last}
use Rattle.log_model.specs.Places.{shower_of}
use Rattle.log_model.specs.Seen.{Document, Place, desk_of, place_of}
use Rattle.log_model.specs.declared.made.Made.{Made}
use Rattle.log_model.specs.declared.made.Report.TheVariants as reports
use Rattle.log_model.specs.declared.outcome.Outcome.TheVariants as outcomes
use Rattle.log_model.specs.declared.row_kind.RowKind.TheVariants as rows
use Rattle.log_model.specs.declared.job.Job.{Job}
use Rattle.log_model.specs.declared.job.Task.TheVariants as tasks
use Rattle.log_model.specs.declared.job.Why.TheVariants as whys
use Rattle.seen_laws.specs.Blocks.{Here, point_at}
use Rattle.seen_laws.specs.Sending.{IsTo, is_passed}

-- the order's document may be left for the request that the order is for, if it is for one: it has no handler, or was asked, or had no need to be
abbrev pub MayBeLeft : Here → Job → Type 0
MayBeLeft h job = (req : ReqId) → job.why ≡ whys.Req req → may_be_left (point_at h []) job.doc req ≡ true

-- the order discards a document that may be left
pub record IsDiscardLeft (h : Here) (job : Job) (d : Document) : Type 0 where
  pub task : job.task ≡ tasks.Discard
  pub to : IsTo h.now job d
  pub left : MayBeLeft h job

-- the order goes to a document that may be left and isn't frozen yet, and that a navigable was awake on as the event began
pub record IsFreezeLeft (h : Here) (job : Job) (d : Document) : Type 0 where
  pub task : job.task ≡ tasks.Freeze
  pub to : IsTo h.now job d
  pub place : Place
  pub was_awake : shower_of h.start job.doc ≡ Some place
  pub unfrozen : d.is_frozen ≡ false
  pub left : MayBeLeft h job
  -- what it is for has passed its unload check, and is the traversal that has passed, if there is one
  pub passed : is_passed h.now tasks.Freeze job.why ≡ true
  pub for_passed : is_for_passed h.now job ≡ true

-- ---- why a document is discarded

-- its document state has no entry and is no ongoing load's
pub record IsGoneLeft (h : Here) (job : Job) (d : Document) : Type 0 where
  pub discards : IsDiscardLeft h job d
  pub gone : has_state d.state h.now.history.rows ≡ false
  pub unloaded : ongoing_load h.now d.state ≡ None

-- it is the one that its navigable was shown last
pub record IsLastLeft (h : Here) (job : Job) (d : Document) : Type 0 where
  pub discards : IsDiscardLeft h job d
  pub place : Place
  pub placed : place_of h.now d.nav ≡ Some place
  pub last : place.last ≡ Some d.nr

-- it is kept, another one has followed in its navigable, and with the one that later rows leave, if they leave one, it is the last of the kept ones
pub record IsKeptLeft (h : Here) (job : Job) (d : Document) (left : Option DocId) : Type 0 where
  pub discards : IsDiscardLeft h job d
  pub kept : has_doc h.now.kept d.nr ≡ true
  pub followed : is_last h.now d ≡ false
  pub last : last_of (kept_with h.now left) ≡ Some d.nr

-- it is below one that is discarded or known dead
pub record IsBelowLeft (h : Here) (job : Job) (d : Document) : Type 0 where
  pub discards : IsDiscardLeft h job d
  pub below : is_below_gone h.now d ≡ true

-- it was never shown: the event takes the report that it was made, and neither an ongoing load nor a target needs it
pub record IsUnneededLeft (h : Here) (job : Job) (d : Document) : Type 0 where
  pub discards : IsDiscardLeft h job d
  pub own : LogRow
  pub rest : List LogRow
  pub begins : h.done ≡ own ∷ rest
  pub proc : ProcId
  pub takes : own.row ≡ rows.Delivered proc
  pub populate : Job
  pub slot : Option ℕ
  pub made : Option Made
  pub tells : slice_get (desk_of h.start proc).reports 0 ≡ Some (reports.Done populate (outcomes.Populated slot) made)
  pub of : populate.doc ≡ d.nr
  pub unloaded : ongoing_load h.now d.state ≡ None
  pub untargeted : list_any (is_a_target h.now d.state) h.now.places ≡ false
  pub unshown : is_last h.now d ≡ false
  pub unkept : has_doc h.now.kept d.nr ≡ false

-- the prompts that the order makes due come later
abbrev pub PromptsLater : Here → LogRow → List LogRow → Type 0
PromptsLater h row later = prompts_duly (point_at h later) row ≡ true
