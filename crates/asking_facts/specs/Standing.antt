-- Where an event stands beside the checks, be it cut or not: its rows so far pass, and what is carried of checks and prompts holds of the log.
-- HTML Standard, "checking if unloading is canceled"; the table of checks, and who is in its check, are this project's own.
use Rattle.std.specs.Prelude.{Bool, List}
use Rattle.tab_ids.specs.declared.ReqId.{ReqId}
use Rattle.log_model.specs.declared.row_kind.LogRow.{LogRow}
use Rattle.log_model.specs.declared.row_kind.RowKind.{RowKind}
use Rattle.seen_laws.specs.InEvent.{InEvent, log_of}
use Rattle.check_facts.specs.Prompting.{todo_of}
use Rattle.checking_facts.specs.Checks.{AreInCheck, NonePassesBut}
use Rattle.checking_facts.specs.Prompts.{AreAskedDuly, PassIf, Told}
use Rattle.asking_facts.specs.Prompting.{NotesWanted}

-- the rows pass by the table if what comes later has this; no traversal in its check has passed but these, whose last questions were settled; and whichever document the table notes wanted a prompt
pub record StandsAsked (Rest : List LogRow → Type 0) (but : ReqId → Bool) (e : InEvent) (out : List RowKind) (told : Told) : Type 0 where
  pub pass : PassIf Rest e (todo_of told.checks) out
  pub asked : AreAskedDuly e.checking e.start (log_of e out) told
  pub checks : AreInCheck e.checking (log_of e out)
  pub none : NonePassesBut e.checking but (log_of e out)
  pub notes : NotesWanted (log_of e out) told.checks
