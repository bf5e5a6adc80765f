-- A document makes something of a fragment order, and the report of the order tells of it.
-- HTML Standard, "Navigating to a fragment"; that it is told of straight after the order's end is this project's own.
use Rattle.std.specs.Prelude.{◌≡◌, ℕ, true, not, List, [], ◌∷◌, ◌++◌, slice_get, Some, None}
use Rattle.tab_ids.specs.declared.ProcId.{ProcId}
use Rattle.tab_ids.specs.declared.ReqId.{ReqId}
use Rattle.log_model.specs.declared.job.Job.{Job}
use Rattle.log_model.specs.declared.job.Task.TheVariants as tasks
use Rattle.log_model.specs.declared.made.Made.{Made}
use Rattle.log_model.specs.declared.made.Report.{Report}
use Rattle.log_model.specs.declared.made.Report.TheVariants as reports
use Rattle.log_model.specs.declared.made.What.{What}
use Rattle.log_model.specs.declared.outcome.Outcome.TheVariants as outcomes
use Rattle.log_model.specs.declared.request.Mode.{Mode}
use Rattle.log_model.specs.declared.row_kind.Actor.TheVariants as actors
use Rattle.log_model.specs.declared.row_kind.LogRow.{LogRow}
use Rattle.log_model.specs.declared.row_kind.RowKind.TheVariants as rows
use Rattle.log_model.specs.After.{follows_finished}
use Rattle.log_model.specs.AfterRequests.{made_of_report}
use Rattle.log_model.specs.Seen.{Seen, Document, Desk, document_of, desk_of}
use Rattle.log_model.specs.Views.{View, made_for, new_entry, is_fragment_replace}

-- ---- it is made

-- a new entry at the address, in the place of the active one or after it
abbrev pub fragment_of : View → Mode → List ℕ → What
fragment_of view mode address = new_entry view (not (is_fragment_replace view mode address)) None address

-- the row that tells of it
abbrev pub fragment_row : ℕ → ProcId → View → ReqId → Mode → List ℕ → LogRow
fragment_row event proc view req mode address =
    record { event = event; actor = actors.Proc proc; row = rows.Made proc (made_for view req (fragment_of view mode address)) }

-- the process has just finished the order, whose report is its last one and tells of nothing made as yet, and the document of the order runs there with this view
pub record IsJustFragmented (s : Seen) (event : ℕ) (proc : ProcId) (job : Job) (req : ReqId) (mode : Mode) (address : List ℕ) (d : Document) (view : View) : Type 0 where
  pub follows : follows_finished s (fragment_row event proc view req mode address) ≡ true
  pub just : s.just_finished ≡ Some job
  pub task : job.task ≡ tasks.DoFragment req mode address
  pub front : List Report
  pub last : (desk_of s proc).reports ≡ front ++ reports.Done job outcomes.Fragmented None ∷ []
  pub found : document_of s job.doc ≡ Some d
  pub home : d.proc ≡ proc
  pub has : d.view ≡ Some view
  pub of : view.doc ≡ job.doc
  pub runs : view.running ≡ true

-- ---- its report is delivered

-- the report changes no document and no request: it is of something made of a poke, or of a fragment order
abbrev pub IsQuiet : Report → Type 0
IsQuiet (reports.Made made) = Unit {0}
IsQuiet (reports.Done job outcome made) = outcome ≡ outcomes.Fragmented
IsQuiet (reports.Died death) = ⊥

-- what was made waits in front, whether it was made of a poke or of a fragment order
pub record IsFirstMadeOf (desk : Desk) (made : Made) : Type 0 where
  pub report : Report
  pub first : slice_get desk.reports 0 ≡ Some report
  pub tells : made_of_report report ≡ Some made
  pub quiet : IsQuiet report
