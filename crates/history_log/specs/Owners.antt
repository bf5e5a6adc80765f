-- In which process a document is, by the rows so far.
-- This project's own.
use Rattle.std.specs.Prelude.{◌==◌, List, fold, Option, Some, None, if◌then◌else◌}
use Rattle.tab_ids.specs.declared.DocId.{DocId}
use Rattle.tab_ids.specs.declared.ProcId.{ProcId}
use Rattle.log_model.specs.declared.job.Job.{Job}
use Rattle.log_model.specs.declared.job.Task.{Task}
use Rattle.log_model.specs.declared.job.Task.TheVariants as tasks
use Rattle.log_model.specs.declared.row_kind.LogRow.{LogRow}
use Rattle.log_model.specs.declared.row_kind.RowKind.{RowKind}
use Rattle.log_model.specs.declared.row_kind.RowKind.TheVariants as rows

-- an order to make the document places it
abbrev pub placed_by_task : DocId → Job → Task → Option ProcId
placed_by_task doc job (tasks.Populate nav state address initial) = if job.doc.0 == doc.0 then Some job.proc else None
placed_by_task doc job _ = None

-- the process in which a row places the document
abbrev pub placed_by : DocId → RowKind → Option ProcId
placed_by doc (rows.Opened entry state d proc slot address) = if d.0 == doc.0 then Some proc else None
placed_by doc (rows.Sent job) = placed_by_task doc job job.task
placed_by doc _ = None

-- the place that came first stays
abbrev pub first_place : Option ProcId → Option ProcId → Option ProcId
first_place None place = place
first_place (Some proc) place = Some proc

-- the process after one more row; an opening begins anew
abbrev pub owner_after : DocId → Option ProcId → RowKind → Option ProcId
owner_after doc owner (rows.Opened entry state d proc slot address) = if d.0 == doc.0 then Some proc else None
owner_after doc owner (rows.Sent job) = first_place owner (placed_by_task doc job job.task)
owner_after doc owner _ = owner

-- the process of the document
abbrev pub owner_of : List LogRow → DocId → Option ProcId
owner_of log doc = fold (λ (owner : Option ProcId) (row : LogRow). owner_after doc owner row.row) None log
