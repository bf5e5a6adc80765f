-- What an event leaves of the table of unload checks, where it is tied to the log: it stands for it as the next event begins, and the event's rows pass.
use Rattle.asking_facts.proofs.Closing.{pass_asked, tied_none_noted}
use Rattle.asking_facts.proofs.Ones.{told_none}
use Rattle.check_facts.specs.Checking.{AreChecksTied}
use Rattle.check_facts.specs.Having.{HasChecks}
use Rattle.check_facts.specs.Prompting.{todo_of}
use Rattle.checking_facts.proofs.Tellings.{told_checked, told_numbers, told_said}
use Rattle.checking_facts.specs.Prompts.{AreAskedDuly, PassIf}
use Rattle.log_model.specs.Seen.{Seen}
use Rattle.log_model.specs.declared.row_kind.LogRow.{LogRow}
use Rattle.log_model.specs.declared.row_kind.RowKind.{RowKind}
use Rattle.row_facts.specs.FrameRows.Lawful.{has_traversed}
use Rattle.seen_laws.specs.Blocks.{EachPass}
use Rattle.seen_laws.specs.InEvent.{InEvent, IsPaid, IsTakenIn, later_of, log_of, now_of, rows_of, start_of}
use Rattle.std.proofs.Common.{Bool, List, [], subst, sym, true, ◌≡◌}
use Rattle.tab_ids.specs.declared.ReqId.{ReqId}
use Rattle.tab_stands.specs.Checked.{ChecksStand}
use Rattle.unasked_dues.specs.Checking.{NonePasses}
use Rattle.unload_check.specs.Checks.{OpenCheck, after_all_deaths}

-- nothing is asked of what comes later
abbrev pub Free : List LogRow → Type 0
Free later = Unit {0}

module _ (checking : ReqId → Bool) (start now : Seen) (checks : List (ReqId × OpenCheck)) (asked : AreAskedDuly checking start now (record { checks = checks; run = [] })) (tied : AreChecksTied now checks) where
  pub tied_has : HasChecks now checks
  tied_has =
      record {
        tied = tied;
        said = told_said start now (record { checks = checks; run = [] }) asked.run;
        numbered = told_numbers start now (record { checks = checks; run = [] }) asked.run;
        prompted = asked.prompted;
      }

  pub tied_stand : NonePasses checking now → ChecksStand checking now checks
  tied_stand calm =
      record {
        has = tied_has;
        open_ = told_checked start now (record { checks = checks; run = [] }) asked.run;
        within = asked.within;
        calm = calm;
      }

-- the rows pass
pub tied_pass : (e : InEvent) (out : List RowKind) (checks : List (ReqId × OpenCheck)) → AreAskedDuly e.checking e.start (log_of e out) (record { checks = checks; run = [] }) → AreChecksTied (log_of e out) checks → PassIf Free e (todo_of checks) out → IsPaid e out → IsTakenIn e (later_of e out) → (has_traversed e out ≡ true → (now_of e out).parked ≡ []) → EachPass (start_of e) (rows_of e out) []
tied_pass e out checks asked tied pass paid taken parked =
    pass_asked Free e out (record { checks = checks; run = [] }) asked pass tt paid taken parked
    (tied_none_noted (log_of e out) (after_all_deaths [] checks) (subst (λ (l : List (ReqId × OpenCheck)). HasChecks (log_of e out) l) (sym (told_none checks)) (tied_has e.checking e.start (log_of e out) checks asked tied)))
