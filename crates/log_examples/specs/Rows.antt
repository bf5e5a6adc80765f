-- Short words for the rows of a log, so that a log can be written row by row.
use Rattle.std.specs.Prelude.{ℕ}
use Rattle.tab_ids.specs.declared.NavId.{NavId}
use Rattle.tab_ids.specs.declared.StateId.{StateId}
use Rattle.tab_ids.specs.declared.ReqId.{ReqId}
use Rattle.tab_ids.specs.declared.ProcId.{ProcId}
use Rattle.tab_ids.specs.declared.Step.{Step}
use Rattle.tab_ids.specs.declared.Death.{Death}
use Rattle.tab_ids.specs.declared.DocId.{DocId}
use Rattle.tab_ids.specs.declared.JobId.{JobId}
use Rattle.tab_ids.specs.declared.Epoch.{Epoch}
use Rattle.tab_ids.specs.declared.EntryId.{EntryId}
use Rattle.log_model.specs.declared.job.Task.{Task}
use Rattle.log_model.specs.declared.job.Why.{Why}
use Rattle.log_model.specs.declared.made.What.{What}
use Rattle.log_model.specs.declared.row_kind.Actor.{Actor}
use Rattle.log_model.specs.declared.row_kind.LogRow.{LogRow}
use Rattle.log_model.specs.declared.row_kind.RowKind.{RowKind}
use Rattle.log_model.specs.declared.row_kind.RowKind.TheVariants as rows

abbrev pub n : ℕ → NavId
n nr = record { 0 = nr }

abbrev pub s : ℕ → StateId
s nr = record { 0 = nr }

abbrev pub r : ℕ → ReqId
r nr = record { 0 = nr }

abbrev pub p : ℕ → ProcId
p nr = record { 0 = nr }

abbrev pub t : ℕ → Step
t nr = record { 0 = nr }

abbrev pub x : ℕ → Death
x nr = record { 0 = nr }

abbrev pub d : ℕ → DocId
d nr = record { 0 = nr }

abbrev pub j : ℕ → JobId
j nr = record { 0 = nr }

abbrev pub epoch : ℕ → Epoch
epoch nr = record { 0 = nr }

abbrev pub e : ℕ → ℕ → EntryId
e maker nr = record { maker = maker; nr = nr }

-- a row of an event by an actor
abbrev pub at : ℕ → Actor → RowKind → LogRow
at event actor kind = record { event = event; actor = actor; row = kind }

-- an order that is sent
abbrev pub sent : ℕ → ℕ → ℕ → ℕ → Why → Task → RowKind
sent nr proc incarnation doc why task =
    rows.Sent (record { nr = j nr; proc = p proc; incarnation = incarnation; doc = d doc; why = why; task = task })

-- what a document made
abbrev pub made : ℕ → ℕ → ℕ → ℕ → What → RowKind
made proc req doc nr what =
    rows.Made (p proc) (record { req = r req; doc = d doc; epoch = epoch nr; what = what })
