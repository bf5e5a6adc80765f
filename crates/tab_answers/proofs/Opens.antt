-- An answer is delivered that leaves another question open: the event's row passes, and the table of unload checks that was told of it stands for the log.
use Rattle.asking_facts.proofs.Heard as heard
use Rattle.asking_facts.proofs.HeardEnds as ends
use Rattle.asking_facts.proofs.HeardOn as on
use Rattle.asking_facts.proofs.Known.{known_rows}
use Rattle.asking_facts.specs.Known.{AskingKnown}
use Rattle.check_facts.specs.Checking.{AnswerIs, AreChecksTied, AreOneEach, is_checking, is_said, open_check}
use Rattle.checking_facts.specs.Prompts.{AreAskedDuly}
use Rattle.log_model.specs.Places.{all_asked, is_gone}
use Rattle.log_model.specs.Seen.{Asked, Seen, request_of}
use Rattle.log_model.specs.declared.handler.Verdict.{Verdict}
use Rattle.log_model.specs.declared.header.Header.{Header}
use Rattle.log_model.specs.declared.job.Job.{Job}
use Rattle.log_model.specs.declared.row_kind.LogRow.{LogRow}
use Rattle.seen_laws.specs.Blocks.{EachPass}
use Rattle.seen_laws.specs.InEvent.{InEvent, IsTakenIn, rows_of, start_of}
use Rattle.std.proofs.Common.{Bool, List, None, Some, [], false, refl, true, ℕ, ◌≡◌}
use Rattle.std.specs.List.{list_all}
use Rattle.tab_answers.proofs.Asked.{said_so}
use Rattle.tab_answers.proofs.Tables.{Free, tied_pass, tied_stand}
use Rattle.tab_answers.specs.Answering.{TellsAnswer, told_of}
use Rattle.tab_ids.specs.declared.ProcId.{ProcId}
use Rattle.tab_ids.specs.declared.ReqId.{ReqId}
use Rattle.tab_stands.specs.Checked.{ChecksStand}
use Rattle.unload_check.specs.Checks.{OpenCheck, check_of}

module _ (header : Header) (s : Seen) (event : ℕ) (checking : ReqId → Bool) (proc : ProcId) (job : Job) (verdict : Verdict) (r : ReqId) (tells : TellsAnswer s proc job verdict r) (es : List (ReqId × OpenCheck)) (asks : ChecksStand checking s es) (known : AskingKnown s) (q : Asked) (found : request_of s r ≡ Some q) (in_check : is_checking s q ≡ true) (open_ : all_asked s q ≡ false) where
  pub one : AreOneEach job.nr job.doc q.asks
  one = (said_so s proc job verdict r tells known q found).0

  pub says : AnswerIs job.nr verdict q.asks
  says = (said_so s proc job verdict r tells known q found).1

  -- the event, the log once the answer is delivered, and the request then
  abbrev pub e : InEvent
  e = heard.e header s event checking proc job verdict None tells.first r tells.why es asks.has q found in_check open_ one says

  abbrev pub t : Seen
  t = heard.heard_then header s event checking proc job verdict None tells.first r tells.why es asks.has q found in_check open_ one says

  abbrev pub then : Asked
  then = heard.then header s event checking proc job verdict None tells.first r tells.why es asks.has q found in_check open_ one says

  abbrev pub told : List (ReqId × OpenCheck)
  told = told_of job verdict r es

  pub then_there : request_of t r ≡ Some then
  then_there =
      heard.then_found header s event checking proc job verdict None tells.first r tells.why es asks.has q found in_check open_ one says

  pub told_at : check_of r told ≡ Some (open_check (is_gone t) then.asks)
  told_at =
      heard.told_at header s event checking proc job verdict None tells.first r tells.why es asks.has q found in_check open_ one says

  pub then_said : list_all is_said then.asks ≡ true
  then_said =
      heard.then_said header s event checking proc job verdict None tells.first r tells.why es asks.has q found in_check open_ one says

  -- nothing is to be taken up
  pub takes_none : (later : List LogRow) → IsTakenIn e later
  takes_none later = rw tells.first refl

  duly : AreAskedDuly checking s t (record { checks = told; run = [] })
  duly =
      heard.heard_duly header s event checking proc job verdict None tells.first r tells.why es asks.has q found in_check open_ one says asks.open_ asks.within

  module _ (still : all_asked t then ≡ false) where
    tied : AreChecksTied t told
    tied =
        ends.open_tied header s event checking proc job verdict None tells.first r tells.why es asks.has q found in_check open_ one says still

    pub open_pass : EachPass (start_of e) (rows_of e []) []
    open_pass =
        tied_pass e [] told duly tied (heard.heard_open_pass header s event checking proc job verdict None tells.first r tells.why es asks.has q found in_check open_ one says Free still) refl (takes_none []) (λ moves. absurd cc)

    pub open_known : AskingKnown t
    open_known = known_rows (start_of e) (rows_of e []) [] open_pass (tt, tt) known

    pub open_asks : ChecksStand checking t told
    open_asks =
        tied_stand checking s t told duly tied (on.heard_open_none header s event checking proc job verdict None tells.first r tells.why es asks.has q found in_check open_ one says still asks.calm)
