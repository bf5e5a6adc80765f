-- What is so of each order that a process has or has still to report.
-- This project's own.
use Rattle.seen_facts.specs.Coord.Leading.{orders_of_desk}
use Rattle.seen_facts.specs.Each.Items.{Each}
use Rattle.log_model.specs.Seen.{Desk, Seen, desk_of}
use Rattle.log_model.specs.declared.job.Job.{Job}
use Rattle.log_model.specs.declared.made.Report.{Report}
use Rattle.log_model.specs.declared.row_kind.RowKind.{RowKind}
use Rattle.tab_ids.specs.declared.ProcId.{ProcId}
use Rattle.log_model.specs.declared.made.Report.TheVariants as reports
use Rattle.log_model.specs.declared.row_kind.RowKind.TheVariants as rows

-- it is so of the order that the report tells of, if it tells of one
abbrev pub TellsOf : (Job → Type 0) → Report → Type 0
TellsOf F (reports.Done job outcome made) = F job
TellsOf F _ = Unit {0}

-- of each order in the mail, in hand, or in a report that waits
pub record EachOrder (F : Job → Type 0) (desk : Desk) : Type 0 where
  pub orders : Each F (orders_of_desk desk)
  pub told : Each (TellsOf F) desk.reports

-- of each process
abbrev pub AreOrders : (Job → Type 0) → Seen → Type 0
AreOrders F s = (proc : ProcId) → EachOrder F (desk_of s proc)

-- the row is one of those that a coordinator puts out: an order, or it begins, applies or ends a request
abbrev pub IsOfCoord : RowKind → Type 0
IsOfCoord (rows.Sent job) = Unit {0}
IsOfCoord (rows.Started req goal) = Unit {0}
IsOfCoord (rows.Applied req change) = Unit {0}
IsOfCoord (rows.Refused req reason) = Unit {0}
IsOfCoord (rows.Dropped req cause) = Unit {0}
IsOfCoord _ = ⊥
