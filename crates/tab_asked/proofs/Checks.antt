-- Once a request has begun and asked, the table in which its check has begun stands for the log, where that which was told before did.
use Rattle.asking_facts.proofs.Beginning.{begun_asked}
use Rattle.asking_facts.proofs.Begun.{block_log}
use Rattle.asking_facts.proofs.Closing.{has_checks, tied_none_noted}
use Rattle.asking_facts.proofs.Ones.{told_none}
use Rattle.asking_facts.proofs.Tables.{begun_tied_then}
use Rattle.asking_facts.specs.Asking.{AreQuestions, AreSome, BeginsToAsk, begun_asking, checks_begun}
use Rattle.asking_facts.specs.Noting.{IsAllTied, NoneNoted}
use Rattle.check_facts.specs.Checking.{AreChecksTied}
use Rattle.check_facts.specs.Having.{HasChecks, OpenChecked}
use Rattle.checking_facts.proofs.Tellings.{told_checked, told_numbers, told_said}
use Rattle.checking_facts.specs.Checks.{SameBut}
use Rattle.checking_facts.specs.Prompts.{AreAskedDuly, Told}
use Rattle.log_model.specs.Checks.{is_checked}
use Rattle.log_model.specs.Orders.{Question}
use Rattle.log_model.specs.Seen.{Asked, Seen}
use Rattle.log_model.specs.declared.job.Job.{Job}
use Rattle.log_model.specs.declared.row_kind.RowKind.{RowKind}
use Rattle.seen_laws.specs.InEvent.{InEvent, log_of}
use Rattle.std.proofs.Common.{Bool, List, Option, [], false, subst, sym, true, ◌++◌, ◌≡◌}
use Rattle.tab_ids.specs.declared.ReqId.{ReqId}
use Rattle.tab_ids.specs.declared.Step.{Step}
use Rattle.unload_check.specs.Checks.{OpenCheck, after_all_deaths}

module _ (e : InEvent) (out : List RowKind) (told : Told) (asked : AreAskedDuly e.checking e.start (log_of e out) told) (settled : IsAllTied (log_of e out) (after_all_deaths told.run told.checks)) (req : ReqId) (goal : Option Step) (questions : List Question) (jobs : List Job) (q : Asked) (begins : BeginsToAsk (log_of e out) req goal questions q) (are : AreQuestions (log_of e out) req questions jobs) (some : AreSome questions) (off : e.checking req ≡ false) (checked : is_checked q ≡ true) where
  abbrev behind : Seen
  behind = log_of e (out ++ begun_asking req goal jobs)

  abbrev table : List (ReqId × OpenCheck)
  table = checks_begun told req questions

  tied : AreChecksTied behind table
  tied =
      subst (λ (s : Seen). AreChecksTied s table) (sym (block_log e out req goal jobs))
      (begun_tied_then e e.checking e.start (log_of e out) told asked req goal questions jobs q begins are some off checked (has_checks e.checking e.start (log_of e out) told asked settled).tied)

  module _ (entered : ReqId → Bool) (same : SameBut req e.checking entered) (on : entered req ≡ true) where
    -- what is carried of prompts
    pub duly_then : AreAskedDuly entered e.start behind (record { checks = table; run = [] })
    duly_then = begun_asked e out told asked req goal questions jobs q begins are entered same off on some checked

    pub has_then : HasChecks behind table
    has_then =
        record {
          tied = tied;
          said = told_said e.start behind (record { checks = table; run = [] }) duly_then.run;
          numbered = told_numbers e.start behind (record { checks = table; run = [] }) duly_then.run;
          prompted = duly_then.prompted;
        }

    -- who has an open question is in a check, or was dropped
    pub open_then : OpenChecked behind
    open_then = told_checked e.start behind (record { checks = table; run = [] }) duly_then.run

    -- it notes no prompt but those that are up, told of nothing more
    pub none_noted : NoneNoted behind (after_all_deaths [] table)
    none_noted =
        subst (λ (l : List (ReqId × OpenCheck)). NoneNoted behind l) (sym (told_none table)) (tied_none_noted behind table has_then)
