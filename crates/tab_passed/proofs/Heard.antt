-- The last answer is delivered, as an event's own row, and no document wants a prompt: what the row leaves as the request passes its check.
use Rattle.load_table.specs.declared.load.Load.{Load}
use Rattle.asking_facts.proofs.Heard as heard
use Rattle.asking_facts.proofs.HeardOn as on
use Rattle.check_facts.proofs.Checkings.{settled_same}
use Rattle.check_facts.proofs.Hearings.{answered, requests_are}
use Rattle.check_facts.specs.Checking.{AnswerIs, AreOneEach, is_checking, is_said, open_check}
use Rattle.check_facts.specs.Prompting.{prompt_of, todo_of}
use Rattle.checking_facts.proofs.Nobody.{pass_cut, pass_wanting}
use Rattle.checking_facts.specs.Prompts.{AreAskedDuly}
use Rattle.log_model.specs.Checks.{due_prompt}
use Rattle.log_model.specs.Places.{all_asked, is_gone, is_settled_asking}
use Rattle.log_model.specs.Queue.{is_step_under_way}
use Rattle.log_model.specs.Seen.{Asked, Asking, Seen, desk_of, request_in, request_of}
use Rattle.log_model.specs.declared.handler.Verdict.{Verdict}
use Rattle.log_model.specs.declared.job.Job.{Job}
use Rattle.log_model.specs.declared.row_kind.Actor.TheVariants as actors
use Rattle.log_model.specs.declared.row_kind.RowKind.TheVariants as rows
use Rattle.seen_facts.proofs.Coord.Held.{on_else}
use Rattle.seen_facts.proofs.Desk.Stays.{NoDeath}
use Rattle.seen_facts.proofs.Request.Readers.{SameReads, on_read}
use Rattle.seen_facts.specs.Desk.Own.{AreDesksIn}
use Rattle.seen_laws.proofs.InEvents.{now_is}
use Rattle.seen_laws.specs.InEvent.{InEvent, OwesNothing, cut, log_of}
use Rattle.seen_laws.specs.Unasked.{is_question, unasked}
use Rattle.std.proofs.Common.{Bool, List, None, Option, Some, [], ap, cond, false, refl, subst, sym, true, ◌==◌, ◌∙◌, ◌≡◌}
use Rattle.std.specs.Prelude.{option_and_then, option_map, slice_get}
use Rattle.tab_answers.proofs.Asked.{waits_in}
use Rattle.tab_answers.proofs.Events.{plain, plain_is}
use Rattle.tab_answers.proofs.Opens as opens
use Rattle.tab_answers.proofs.Questions.{is_of_question}
use Rattle.tab_answers.proofs.Stood.{delivered_quiet}
use Rattle.tab_answers.specs.Answering.{IsAnswer, TellsAnswer, told_of}
use Rattle.tab_doors.specs.Working.{IsToCome}
use Rattle.tab_ids.specs.declared.DocId.{DocId}
use Rattle.tab_ids.specs.declared.ProcId.{ProcId}
use Rattle.tab_ids.specs.declared.ReqId.{ReqId}
use Rattle.tab_passed.specs.Passing.{HasPassedBy, LeavesAsking, PassesCheck}
use Rattle.tab_stands.proofs.Logged.{delivered_lasts}
use Rattle.tab_stands.specs.Checked.{ChecksStand}
use Rattle.tab_stands.specs.Standing.{LastsInLog}
use Rattle.unload_check.specs.Checks.{OpenCheck, check_of, decided, ended, outcome_at, outcome_of, prompting_doc}
use Rattle.unload_check.specs.declared.check.Check.{Check}
use Rattle.unload_check.specs.declared.check.Check.TheVariants as checks
use Rattle.std.specs.List.{list_all}

-- a check with an open question waits
open_waits : (gone : DocId → Bool) (asks : List Asking) → list_all is_said asks ≡ true → list_all (is_settled_asking gone) asks ≡ false → outcome_of (open_check gone asks) ≡ checks.Waiting
open_waits gone asks said still =
    ap (λ (b : Bool). let c : Check = cond b (decided (prompting_doc (open_check gone asks).asked) None) checks.Waiting in c) (settled_same gone asks said ∙ still)

module _ (was : ReqId → Bool) (e : InEvent) (es : List (ReqId × OpenCheck)) (asks : ChecksStand was e.start es) {table next : List Load} (lasts : LastsInLog was table e.start) (desks : AreDesksIn (unasked was e.start)) (uncut : e.before ≡ []) (undue : OwesNothing e) (req : ReqId) (q : Asked) (pass : PassesCheck was e req q) (leaves : LeavesAsking was e.checking req q.what table next) (proc : ProcId) (job : Job) (verdict : Verdict) (is : IsAnswer e proc job verdict req) where
  -- the event
  abbrev x : InEvent
  x = plain e actors.Coord (rows.Delivered proc)

  abbrev tells : TellsAnswer e.start proc job verdict req
  tells = is.tells

  -- the table told of the answer
  abbrev told : List (ReqId × OpenCheck)
  told = told_of job verdict req es

  -- the same steps are under way
  pub heard_steps : SameReads is_step_under_way e.start.requests (log_of e []).requests
  heard_steps =
      subst (λ (y : InEvent). SameReads is_step_under_way e.start.requests (log_of y []).requests) (plain_is e actors.Coord (rows.Delivered proc) is.by_coord is.own uncut)
      (subst (λ (l : List Asked). SameReads is_step_under_way e.start.requests l) (sym (requests_are e.start e.event actors.Coord proc job verdict None tells.first req tells.why))
      (on_read is_step_under_way e.start.requests req (answered e.start e.event actors.Coord proc job verdict None tells.first req tells.why) (λ y. refl)))

  -- each other request is as it was
  pub heard_others : (r : ReqId) → (r.0 == req.0) ≡ false → request_of (log_of e []) r ≡ request_of e.start r
  heard_others r apart =
      subst (λ (y : InEvent). request_of (log_of y []) r ≡ request_of e.start r) (plain_is e actors.Coord (rows.Delivered proc) is.by_coord is.own uncut)
      (ap (λ (l : List Asked). request_in l r) (requests_are e.start e.event actors.Coord proc job verdict None tells.first req tells.why) ∙ on_else e.start.requests req (answered e.start e.event actors.Coord proc job verdict None tells.first req tells.why) r apart)

  module _ (in_check : is_checking e.start q ≡ true) (open_ : all_asked e.start q ≡ false) where
    -- the log once the answer is delivered, and the request then
    abbrev pub t : Seen
    t = opens.t e.header e.start e.event was proc job verdict req tells es asks lasts.known q pass.at in_check open_

    abbrev pub then : Asked
    then = opens.then e.header e.start e.event was proc job verdict req tells es asks lasts.known q pass.at in_check open_

    then_there : request_of t req ≡ Some then
    then_there = opens.then_there e.header e.start e.event was proc job verdict req tells es asks lasts.known q pass.at in_check open_

    -- it asks for what it asked for
    whats : (y : Asked) → request_of t req ≡ Some y → y.what ≡ q.what
    whats y at =
        let both : Some then ≡ Some y = sym then_there ∙ at in
        let same : then ≡ y = cc in
        ap (λ (z : Asked). z.what) (sym same)

    one : AreOneEach job.nr job.doc q.asks
    one = opens.one e.header e.start e.event was proc job verdict req tells es asks lasts.known q pass.at in_check open_

    says : AnswerIs job.nr verdict q.asks
    says = opens.says e.header e.start e.event was proc job verdict req tells es asks lasts.known q pass.at in_check open_

    told_at : check_of req told ≡ Some (open_check (is_gone t) then.asks)
    told_at = opens.told_at e.header e.start e.event was proc job verdict req tells es asks lasts.known q pass.at in_check open_

    then_said : list_all is_said then.asks ≡ true
    then_said = opens.then_said e.header e.start e.event was proc job verdict req tells es asks lasts.known q pass.at in_check open_

    -- ---- by the table

    -- where its check has come to that it goes on, all are settled, and no prompt is due
    gone_on : outcome_at req told ≡ Some checks.Go → outcome_of (open_check (is_gone t) then.asks) ≡ checks.Go
    gone_on goes =
        let both : Some (outcome_of (open_check (is_gone t) then.asks)) ≡ Some checks.Go = sym (ap (λ (o : Option OpenCheck). option_map outcome_of o) told_at) ∙ goes in cc

    pub goes_all : outcome_at req told ≡ Some checks.Go → all_asked t then ≡ true
    goes_all goes = by_test (all_asked t then) refl
      where
        by_test : (b : Bool) → all_asked t then ≡ b → b ≡ true
        by_test true all = refl
        by_test false still =
            let waits : outcome_of (open_check (is_gone t) then.asks) ≡ checks.Waiting = open_waits (is_gone t) then.asks then_said still in
            let never : checks.Go ≡ checks.Waiting = sym (gone_on goes) ∙ waits in
            absurd cc

    pub goes_none : outcome_at req told ≡ Some checks.Go → due_prompt t then ≡ None
    goes_none goes =
        sym (heard.heard_noted e.header e.start e.event was proc job verdict None tells.first req tells.why es asks.has q pass.at in_check open_ one says (goes_all goes))
        ∙ ap (λ (o : Option Check). option_and_then prompt_of o) goes

    -- ---- what the row leaves

    module _ (settled : all_asked t then ≡ true) (none : due_prompt t then ≡ None) where
      question : is_question job.task ≡ true
      question = is_of_question was e.start desks proc job verdict None tells.first

      as_it_was : LastsInLog was table t
      as_it_was = delivered_lasts (record x { checking = was }) refl refl alive lasts proc refl
        where
          alive : (p : ProcId) → rows.Delivered proc ≡ rows.Delivered p → NoDeath (slice_get (desk_of e.start p).reports 0)
          alive p same =
              let its : proc ≡ p = cc in
              subst (λ (y : ProcId). NoDeath (slice_get (desk_of e.start y).reports 0)) its (subst NoDeath (sym tells.first) tt)

      heard_lasts : LastsInLog e.checking next t
      heard_lasts =
          record {
            checks = on.go_checks e.header e.start e.event was proc job verdict None tells.first req tells.why es asks.has q pass.at in_check open_ one says asks.open_ asks.within settled none e.checking pass.same pass.off lasts.checks;
            asking = leaves t whats as_it_was.asking;
            shows = as_it_was.shows;
            duly = as_it_was.duly;
            known = as_it_was.known;
          }

      plainly : HasPassedBy x (ended req told) next
      plainly =
          record {
            uncut = refl;
            undue = record { due = undue.due; ran = undue.ran };
            numbered = lasts.checks.numbered;
            led = refl;
            worker = tt;
            unseen = now_is x [] ∙ delivered_quiet e.checking e.start e.event actors.Coord proc job verdict tells.first question;
            lasts = heard_lasts;
            calm = on.go_none e.header e.start e.event was proc job verdict None tells.first req tells.why es asks.has q pass.at in_check open_ one says asks.open_ asks.within settled none e.checking pass.same pass.off asks.calm;
            asked = subst (λ (docs : List DocId). AreAskedDuly e.checking e.start (log_of x []) (record { checks = ended req told; run = docs })) (sym undue.ran) (on.go_duly e.header e.start e.event was proc job verdict None tells.first req tells.why es asks.has q pass.at in_check open_ one says asks.open_ asks.within settled none e.checking pass.same);
            lawful = pass_wanting (IsToCome None x []) (cut (record (opens.e e.header e.start e.event was proc job verdict req tells es asks lasts.known q pass.at in_check open_) { checking = e.checking }) [] e.checking e.due) (todo_of (ended req told)) [] e.wants e.ran (pass_cut (IsToCome None x []) (record (opens.e e.header e.start e.event was proc job verdict req tells es asks lasts.known q pass.at in_check open_) { checking = e.checking }) (todo_of (ended req told)) [] e.checking e.due (on.go_pass e.header e.start e.event was proc job verdict None tells.first req tells.why es asks.has q pass.at in_check open_ one says asks.open_ asks.within settled none e.checking pass.same (IsToCome None x [])));
            takes = λ later. opens.takes_none e.header e.start e.event was proc job verdict req tells es asks lasts.known q pass.at in_check open_ later;
          }

      pub heard_passed : HasPassedBy e (ended req told) next
      heard_passed =
          subst (λ (y : InEvent). HasPassedBy y (ended req told) next) (plain_is e actors.Coord (rows.Delivered proc) is.by_coord is.own uncut) plainly

  -- by the table: its check waited, and goes on once it was told of the answer
  pub table_passed : outcome_at req es ≡ Some checks.Waiting → outcome_at req (told_of job verdict req es) ≡ Some checks.Go → HasPassedBy e (ended req (told_of job verdict req es)) next
  table_passed waited goes =
      let its = waits_in was e.start es asks req q pass.at waited in
      heard_passed its.0 its.1 (goes_all its.0 its.1 goes) (goes_none its.0 its.1 goes)
