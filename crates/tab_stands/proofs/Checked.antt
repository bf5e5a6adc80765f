-- As an event of the coordinator ends: the table of checks that was told of all that was discarded stands for the log, and what is known of questions, prompts and answers stays.
use Rattle.tab_doors.proofs.Works.{none_steps, steps_calm}
use Rattle.checking_facts.specs.Checks.{AreInCheck}
use Rattle.checking_facts.proofs.Nobody.{nobody_duly, plain_nobody}
use Rattle.asking_facts.proofs.Closing.{has_checks, has_open}
use Rattle.asking_facts.proofs.Known.{EachKeepsKnown, known_rows}
use Rattle.asking_facts.proofs.Ones.{told_outside, told_none}
use Rattle.asking_facts.specs.Known.{AskingKnown, KeepsKnown}
use Rattle.asking_facts.specs.Noting.{IsAllTied}
use Rattle.asking_facts.specs.Waiting.{SendsFirst}
use Rattle.checking_facts.specs.Prompts.{AreAskedDuly, NoneChecked, told_by, NobodyAsked}
use Rattle.log_model.specs.Seen.{Seen}
use Rattle.log_model.specs.declared.job.Task.{Task}
use Rattle.log_model.specs.declared.job.Task.TheVariants as tasks
use Rattle.log_model.specs.declared.row_kind.LogRow.{LogRow}
use Rattle.log_model.specs.declared.row_kind.RowKind.{RowKind}
use Rattle.log_model.specs.declared.row_kind.RowKind.TheVariants as rows
use Rattle.seen_facts.specs.Hang.Members.{Has}
use Rattle.seen_laws.proofs.InEvents.{first_goes, rest_goes}
use Rattle.seen_laws.specs.Blocks.{EachPass, Here, on_row, on_rows}
use Rattle.seen_laws.specs.InEvent.{EachGoes, InEvent, first_of, is_seen, log_of, own_of, row_of, rows_of, start_of}
use Rattle.seen_laws.specs.Unasked.{is_question}
use Rattle.std.proofs.Common.{Bool, List, Option, [], ap, false, inl, inr, map, not, refl, subst, sym, true, ◌++◌, ◌∙◌, ◌∷◌, ◌≡◌}
use Rattle.std.specs.Option.{option_map_or}
use Rattle.tab_facts.specs.Order.Orders.{IsOfCoord}
use Rattle.tab_ids.specs.declared.ReqId.{ReqId}
use Rattle.tab_stands.specs.Checked.{ChecksStand, told_all}
use Rattle.unasked_dues.specs.Checking.{NonePasses, unasked}
use Rattle.unload_check.specs.Checks.{OpenCheck, is_settled, after_all_deaths}

-- ---- what is known of questions, prompts and answers

-- behind rows of which each passes the others do
pub behind_pass : (h : Here) (rows_ more later : List LogRow) → EachPass h (rows_ ++ more) later → EachPass (on_rows h rows_) more later
behind_pass h [] more later pass = pass
behind_pass h (row ∷ rows_) more later pass = behind_pass (on_row h row) rows_ more later pass.1

-- a coordinator's row that is seen in the log without questions asks nobody
keeps_seen : (checking : ReqId → Bool) (s : Seen) (row : RowKind) → is_seen checking row ≡ true → IsOfCoord row → KeepsKnown s row
keeps_seen checking s (rows.Sent job) seen its = by_task job.task seen
  where
    by_task : (task : Task) → not (is_question task) ≡ true → SendsFirst s job task
    by_task (tasks.Ask slot cause) never = absurd cc
    by_task (tasks.Populate nav state address initial) is = tt
    by_task (tasks.Activate entry epoch length index memo address) is = tt
    by_task (tasks.Update length index) is = tt
    by_task tasks.Freeze is = tt
    by_task tasks.Discard is = tt
    by_task (tasks.DoFragment req mode address) is = tt
keeps_seen checking s (rows.Started req goal) seen its = tt
keeps_seen checking s (rows.Applied req change) seen its = tt
keeps_seen checking s (rows.Refused req reason) seen its = tt
keeps_seen checking s (rows.Dropped req cause) seen its = tt
keeps_seen checking s _ seen never = absurd never

-- so it is of rows one after the other
keeps_each : (e : InEvent) (was more : List RowKind) (h : Here) → EachGoes e was more → ((row : RowKind) → Has more row → IsOfCoord row) → EachKeepsKnown h (map (row_of e) more)
keeps_each e was [] h goes its = tt
keeps_each e was (row ∷ more) h goes its = (
  keeps_seen e.checking h.now row (first_goes e was more row goes).seen (its row (inl refl)),
  keeps_each e (was ++ row ∷ []) more (on_row h (row_of e row)) (rest_goes e was more row goes) (λ other there. its other (inr there)),
)

-- what was known once the own row was logged is known behind rows that pass
pub known_end : (e : InEvent) (out : List RowKind) (later : List LogRow) → EachGoes e [] out → ((row : RowKind) → Has out row → IsOfCoord row) → EachPass (start_of e) (rows_of e out) later → AskingKnown (log_of e []) → AskingKnown (log_of e out)
known_end e out later goes its passes known =
    known_rows (first_of e) (map (row_of e) out) later (behind_pass (own_of e) (map (row_of e) e.before) (map (row_of e) out) later passes.1) (keeps_each e [] out (first_of e) goes its) known

-- ---- the table

-- it stands for the log where each check that is settled has its prompt up
pub checks_end : (e : InEvent) (out : List RowKind) (checks : List (ReqId × OpenCheck)) → AreAskedDuly e.checking e.start (log_of e out) (told_by e.ran checks out) → IsAllTied (log_of e out) (told_all e.ran checks out) → NonePasses e.checking (log_of e out) → ChecksStand e.checking (log_of e out) (told_all e.ran checks out)
checks_end e out checks asked all calm =
    record {
      has = has_checks e.checking e.start (log_of e out) (told_by e.ran checks out) asked all;
      open_ = has_open e.checking e.start (log_of e out) (told_by e.ran checks out) asked all;
      within = told_outside e.checking e.start (log_of e out) (told_by e.ran checks out) asked;
      calm = calm;
    }

-- a table without checks has none that is settled
pub none_tied : (now : Seen) (table : List (ReqId × OpenCheck)) → NoneChecked table → IsAllTied now table
none_tied now table none =
    record {
      settled = λ req q at all settled. absurd (let never : false ≡ true = sym (ap (λ (o : Option OpenCheck). option_map_or is_settled o false) (none req)) ∙ settled in cc);
      nobody = λ req at. none req;
    }

-- where nobody was asked so far, and is in a check, a table without checks stands for the log
pub unasked_stands : (checking : ReqId → Bool) (s : Seen) (checks : List (ReqId × OpenCheck)) → ((req : ReqId) → checking req ≡ false) → unasked checking s ≡ s → AreInCheck checking s → NoneChecked checks → ChecksStand checking s checks
unasked_stands checking s checks unchecked plain in_check none =
    subst (λ (l : List (ReqId × OpenCheck)). ChecksStand checking s l) (told_none checks) (record {
      has = has_checks checking s s (record { checks = checks; run = [] }) asked all;
      open_ = has_open checking s s (record { checks = checks; run = [] }) asked all;
      within = told_outside checking s s (record { checks = checks; run = [] }) asked;
      calm = steps_calm checking s (none_steps checking unchecked s);
    })
  where
    nobody : NobodyAsked s
    nobody = plain_nobody checking s plain

    asked : AreAskedDuly checking s s (record { checks = checks; run = [] })
    asked = nobody_duly checking s s checks nobody nobody in_check.numbered in_check.others unchecked none

    all : IsAllTied s (after_all_deaths [] checks)
    all = none_tied s (after_all_deaths [] checks) (λ req. told_outside checking s s (record { checks = checks; run = [] }) asked req (unchecked req))
