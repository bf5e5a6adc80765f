-- The last answer is delivered, and the user is asked straight after it: the event's rows pass, and the table of unload checks that was told of the answer stands for the log.
use Rattle.asking_facts.proofs.Heard as heard
use Rattle.asking_facts.proofs.HeardEnds as ends
use Rattle.asking_facts.proofs.HeardOn as on
use Rattle.asking_facts.proofs.Known.{known_rows}
use Rattle.asking_facts.proofs.Notes.{open_wanted}
use Rattle.asking_facts.specs.Known.{AskingKnown}
use Rattle.asking_facts.specs.Prompting.{has_wanted}
use Rattle.check_facts.specs.Checking.{AnswerIs, AreChecksTied, AreOneEach, is_checking}
use Rattle.check_facts.specs.Prompting.{is_asked, prompt_of, todo_of}
use Rattle.checking_facts.specs.Prompts.{AreAskedDuly}
use Rattle.log_model.specs.After.{after}
use Rattle.log_model.specs.Checks.{due_prompt}
use Rattle.log_model.specs.Places.{all_asked, is_gone}
use Rattle.log_model.specs.Seen.{Asked, Seen, request_of}
use Rattle.log_model.specs.declared.handler.Verdict.{Verdict}
use Rattle.log_model.specs.declared.header.Header.{Header}
use Rattle.log_model.specs.declared.job.Job.{Job}
use Rattle.log_model.specs.declared.row_kind.RowKind.{RowKind}
use Rattle.log_model.specs.declared.row_kind.RowKind.TheVariants as rows
use Rattle.seen_laws.specs.Blocks.{EachPass}
use Rattle.seen_laws.specs.InEvent.{InEvent, later_of, row_of, rows_of, start_of}
use Rattle.std.proofs.Common.{Bool, List, None, Option, Some, [], ap, false, refl, subst, sym, true, ℕ, ◌∙◌, ◌∷◌, ◌≡◌}
use Rattle.std.proofs.lemmas.Bool.{and_parts}
use Rattle.std.specs.Prelude.{is_some, option_and_then, option_map}
use Rattle.tab_answers.proofs.Asked.{noted_all, said_so}
use Rattle.tab_answers.proofs.Opens as opens
use Rattle.tab_answers.proofs.Tables.{tied_stand}
use Rattle.tab_answers.specs.Answering.{TellsAnswer, told_of}
use Rattle.tab_ids.specs.declared.DocId.{DocId}
use Rattle.tab_ids.specs.declared.ProcId.{ProcId}
use Rattle.tab_ids.specs.declared.ReqId.{ReqId}
use Rattle.tab_stands.specs.Checked.{ChecksStand}
use Rattle.unload_check.specs.Checks.{OpenCheck, outcome_of}

some_same : {A : Type 0} {a b : A} → (let o : Option A = Some a in o) ≡ Some b → a ≡ b
some_same e = cc

module _ (header : Header) (s : Seen) (event : ℕ) (checking : ReqId → Bool) (proc : ProcId) (job : Job) (verdict : Verdict) (r : ReqId) (tells : TellsAnswer s proc job verdict r) (es : List (ReqId × OpenCheck)) (asks : ChecksStand checking s es) (known : AskingKnown s) (q : Asked) (found : request_of s r ≡ Some q) (in_check : is_checking s q ≡ true) (open_ : all_asked s q ≡ false) (doc : DocId) (noted : todo_of (told_of job verdict r es) r ≡ Some doc) where
  one : AreOneEach job.nr job.doc q.asks
  one = (said_so s proc job verdict r tells known q found).0

  says : AnswerIs job.nr verdict q.asks
  says = (said_so s proc job verdict r tells known q found).1

  abbrev pub e : InEvent
  e = opens.e header s event checking proc job verdict r tells es asks known q found in_check open_

  abbrev t : Seen
  t = opens.t header s event checking proc job verdict r tells es asks known q found in_check open_

  abbrev then : Asked
  then = opens.then header s event checking proc job verdict r tells es asks known q found in_check open_

  abbrev told : List (ReqId × OpenCheck)
  told = told_of job verdict r es

  -- the rows that are put out
  abbrev pub out : List RowKind
  out = rows.Prompted r doc ∷ []

  -- all are settled then, and the prompt is due
  settled : all_asked t then ≡ true
  settled =
      noted_all t then r told (opens.told_at header s event checking proc job verdict r tells es asks known q found in_check open_) (opens.then_said header s event checking proc job verdict r tells es asks known q found in_check open_) doc noted

  is_due : due_prompt t then ≡ Some doc
  is_due =
      sym (heard.heard_noted header s event checking proc job verdict None tells.first r tells.why es asks.has q found in_check open_ one says settled) ∙ noted

  -- the user wasn't asked before, and so didn't answer
  unanswered : q.answered ≡ None
  unanswered = known.unanswered r q found (by_prompt (is_some q.prompted) refl)
    where
      by_prompt : (b : Bool) → is_some q.prompted ≡ b → b ≡ false
      by_prompt false is = refl
      by_prompt true is =
          let all : all_asked s q ≡ true = (and_parts (is_asked q.asks) (all_asked s q) (asks.has.prompted r q found is)).1 in
          let never : true ≡ false = sym all ∙ open_ in
          cc

  -- the document wanted it
  wanted : (x : Asked) → request_of t r ≡ Some x → has_wanted doc x.asks ≡ true
  wanted x at =
      subst (λ (y : Asked). has_wanted doc y.asks ≡ true) (some_same (sym (opens.then_there header s event checking proc job verdict r tells es asks known q found in_check open_) ∙ at))
      (open_wanted (is_gone t) doc then.asks (ap (λ (o : Option OpenCheck). option_and_then prompt_of (option_map outcome_of o)) (sym (opens.told_at header s event checking proc job verdict r tells es asks known q found in_check open_)) ∙ noted))

  -- the log once the user is asked
  abbrev pub prompt_then : Seen
  prompt_then = after t (row_of e (rows.Prompted r doc))

  duly : AreAskedDuly checking s prompt_then (record { checks = told; run = [] })
  duly =
      on.asked_duly header s event checking proc job verdict None tells.first r tells.why es asks.has q found in_check open_ one says asks.open_ asks.within settled doc is_due unanswered

  tied : AreChecksTied prompt_then told
  tied =
      ends.asked_tied header s event checking proc job verdict None tells.first r tells.why es asks.has q found in_check open_ one says asks.open_ asks.within settled doc is_due unanswered

  pub prompt_pass : EachPass (start_of e) (rows_of e out) []
  prompt_pass =
      ends.asked_event header s event checking proc job verdict None tells.first r tells.why es asks.has q found in_check open_ one says asks.open_ asks.within settled doc is_due unanswered refl (opens.takes_none header s event checking proc job verdict r tells es asks known q found in_check open_ (later_of e out)) (λ moves. absurd cc)

  pub prompt_known : AskingKnown prompt_then
  prompt_known = known_rows (start_of e) (rows_of e out) [] prompt_pass (tt, (wanted, tt)) known

  pub prompt_asks : ChecksStand checking prompt_then told
  prompt_asks =
      tied_stand checking s prompt_then told duly tied (on.asked_none header s event checking proc job verdict None tells.first r tells.why es asks.has q found in_check open_ one says asks.open_ asks.within settled doc is_due unanswered asks.calm)
