-- That the report of each fragment order tells of what its document made of it, as it does where the document runs.
-- HTML Standard, "navigate to a fragment"; reports are this project's own.
use Rattle.seen_facts.specs.Desk.Own.{IsFragmentTask}
use Rattle.seen_facts.specs.Each.Items.{Each}
use Rattle.log_model.specs.Seen.{Seen, desk_of}
use Rattle.log_model.specs.declared.job.Order.{Order}
use Rattle.log_model.specs.declared.made.Report.{Report}
use Rattle.log_model.specs.declared.made.Report.TheVariants as reports
use Rattle.log_model.specs.declared.row_kind.RowKind.{RowKind}
use Rattle.log_model.specs.declared.row_kind.RowKind.TheVariants as rows
use Rattle.std.specs.Prelude.{Some, is_some, true, ◌≡◌}
use Rattle.tab_ids.specs.declared.ProcId.{ProcId}

-- the report tells of what was made, where it is of a fragment order
abbrev pub TellsOfMade : Report → Type 0
TellsOfMade (reports.Done job outcome made) = IsFragmentTask job.task → is_some made ≡ true
TellsOfMade _ = Unit {0}

-- so does each that waits; but between the end of a fragment order and the row straight after it, which tells of what was made
abbrev pub AreTelling : Seen → Type 0
AreTelling s = (proc : ProcId) → Each TellsOfMade (desk_of s proc).reports

-- the row neither opens the tab, nor kills a process, nor is the end of a fragment order
abbrev pub EndsNoFragment : Seen → RowKind → Type 0
EndsNoFragment s (rows.Opened entry state doc proc slot address) = ⊥
EndsNoFragment s (rows.Killed proc death) = ⊥
EndsNoFragment s (rows.Finished proc nr outcome) = (order : Order) → (desk_of s proc).in_hand ≡ Some order → IsFragmentTask order.job.task → ⊥
EndsNoFragment s _ = Unit {0}
