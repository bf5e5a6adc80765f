-- What was noted while its run of discarded documents lasts: what comes later is to agree with it. And a request whose prompt is due.
-- HTML Standard, "checking if unloading is canceled". That a prompt is due for what is gone where the run ends is this project's own.
use Rattle.std.specs.Prelude.{◌≡◌, Bool, true, false, List, Option, Some, None, is_some}
use Rattle.std.specs.Option.{option_map_or}
use Rattle.tab_ids.specs.declared.DocId.{DocId}
use Rattle.tab_ids.specs.declared.ReqId.{ReqId}
use Rattle.log_model.specs.declared.row_kind.LogRow.{LogRow}
use Rattle.log_model.specs.declared.row_kind.RowKind.{RowKind}
use Rattle.log_model.specs.Checks.{is_checked}
use Rattle.log_model.specs.Places.{all_asked, is_under_way}
use Rattle.log_model.specs.Seen.{Asked, Seen, request_of}
use Rattle.unload_check.specs.Checks.{OpenCheck, check_of, is_settled}
use Rattle.seen_laws.specs.InEvent.{InEvent, log_of}
use Rattle.check_facts.specs.Checking.{AreTiedAt}
use Rattle.check_facts.specs.Prompting.{Agrees, todo_of}

-- what comes later agrees with what was noted for these requests while the run lasts that the rows so far end with, and has what it is to have
abbrev pub Agreed : (ReqId → Option DocId) → (ReqId → Bool) → InEvent → List RowKind → (List LogRow → Type 0) → List LogRow → Type 0
Agreed todo ran e out Rest later = Agrees todo ran (log_of e out) later × Rest later

-- a request for which the user may be asked: it is one that is checked, is under way, and has no answer
pub record IsToPrompt (q : Asked) : Type 0 where
  pub checked : is_checked q ≡ true
  pub under : is_under_way q ≡ true
  pub unanswered : q.answered ≡ None

-- the table notes no prompt but those that are up
abbrev pub NoneNoted : Seen → List (ReqId × OpenCheck) → Type 0
NoneNoted now table =
    (req : ReqId) (q : Asked) → request_of now req ≡ Some q → is_some q.prompted ≡ false → todo_of table q.nr ≡ None

-- each check that is settled stands for the log, its prompt being up; and there is none without a request
pub record IsAllTied (now : Seen) (table : List (ReqId × OpenCheck)) : Type 0 where
  pub settled : (req : ReqId) (q : Asked) → request_of now req ≡ Some q → all_asked now q ≡ true → option_map_or is_settled (check_of req table) false ≡ true → AreTiedAt now (Some q) (check_of req table)
  pub nobody : (req : ReqId) → request_of now req ≡ None → check_of req table ≡ None
