-- The events of the questions of an unload check in which the coordinator passes on nothing but a prompt: it stands for the log still.
use Rattle.check_facts.specs.Checking.{is_checking, is_said, open_check}
use Rattle.check_facts.specs.Prompting.{prompt_of, todo_of}
use Rattle.log_model.specs.Equal.{holds}
use Rattle.log_model.specs.Places.{all_asked, is_gone}
use Rattle.log_model.specs.Seen.{Asked, Document, Seen, desk_of, document_of, request_of}
use Rattle.log_model.specs.Views.{View}
use Rattle.log_model.specs.declared.handler.Verdict.{Verdict}
use Rattle.log_model.specs.declared.job.Job.{Job}
use Rattle.log_model.specs.declared.job.Order.{Order}
use Rattle.log_model.specs.declared.outcome.Outcome.TheVariants as outcomes
use Rattle.log_model.specs.declared.row_kind.Actor.TheVariants as actors
use Rattle.log_model.specs.declared.row_kind.RowKind.{RowKind}
use Rattle.log_model.specs.declared.row_kind.RowKind.TheVariants as rows
use Rattle.move_queue.specs.Queue.{Queue}
use Rattle.seen_facts.proofs.Desk.Stays.{NoDeath}
use Rattle.seen_laws.proofs.InEvents.{now_is}
use Rattle.seen_laws.specs.InEvent.{InEvent, log_of, row_of}
use Rattle.seen_laws.specs.Unasked.{is_question, unasked}
use Rattle.std.proofs.Common.{Bool, List, None, Option, Some, [], ap, false, length, refl, subst, sym, true, ◌==◌, ◌∙◌, ◌∷◌, ◌≡◌, ◌⊎◌}
use Rattle.std.specs.List.{list_all}
use Rattle.std.specs.Prelude.{option_and_then, slice_get}
use Rattle.tab_answers.proofs.Asked.{late_for, on_of, still_open, waiting, waits_in, was_waiting}
use Rattle.tab_answers.proofs.Events.{alone_acts, plain, plain_is, quiet, stands_quiet}
use Rattle.tab_answers.proofs.Lasts.{finished_lasts, prompted_lasts, taken_lasts}
use Rattle.tab_answers.proofs.Lates as lates
use Rattle.tab_answers.proofs.Opens as opens
use Rattle.tab_answers.proofs.Prompts as prompts
use Rattle.tab_answers.proofs.Questions.{is_of_question}
use Rattle.tab_answers.proofs.Quiet.{quiet_stands}
use Rattle.tab_answers.proofs.Stood.{delivered_quiet, finished_quiet, quieted, taken_quiet}
use Rattle.tab_answers.proofs.Told.{checks_stands}
use Rattle.tab_answers.proofs.Works.{finished_alone, finished_asks, finished_known, taken_alone, taken_asks, taken_known}
use Rattle.tab_answers.specs.Answering.{IsAnswer, TellsAnswer, told_of}
use Rattle.tab_doors.specs.declared.tables.Tables.{Tables}
use Rattle.tab_ids.specs.declared.DocId.{DocId}
use Rattle.tab_ids.specs.declared.ProcId.{ProcId}
use Rattle.tab_ids.specs.declared.ReqId.{ReqId}
use Rattle.tab_ids.specs.declared.StateId.{StateId}
use Rattle.tab_stands.proofs.Logged.{delivered_lasts}
use Rattle.tab_stands.specs.Checked.{ChecksStand}
use Rattle.tab_stands.specs.Standing.{HasActed, InCheck, LastsInLog, StandsFor, seen_start}
use Rattle.unasked.proofs.Questions.{prompted_unseen}
use Rattle.unasked.proofs.Whole.{silent, stood_noted}
use Rattle.unload_check.specs.Checks.{OpenCheck, check_of, outcome_at}
use Rattle.unload_check.specs.declared.check.Check.{Check}
use Rattle.unload_check.specs.declared.check.Check.TheVariants as checks

module _ (e : InEvent) (t : Tables) (queue : Queue) (blame : List (StateId × ReqId)) {check : InCheck} (stands : StandsFor check (seen_start e) t queue blame) (lasts : LastsInLog e.checking t.asking e.start) (asks : ChecksStand e.checking e.start t.checks) (uncut : e.before ≡ []) where
  -- ---- a process takes up a question

  pub taken_acts : (proc : ProcId) (job : Job) (live dirty : Bool) → e.actor ≡ actors.Proc proc → e.own ≡ rows.Taken proc job.nr live dirty → (desk_of e.start proc).in_hand ≡ None → slice_get (desk_of e.start proc).mail 0 ≡ Some job → is_question job.task ≡ true → live ≡ (job.incarnation == length (desk_of e.start proc).killed) → dirty ≡ holds (λ (d : Document). holds (λ (view : View). view.dirty) d.view) (document_of e.start job.doc) → HasActed check e [] t queue blame
  taken_acts proc job live dirty by own free first question lives is_dirty =
      alone_acts e t queue blame stands (actors.Proc proc) (rows.Taken proc job.nr live dirty) by own uncut t.checks
      (taken_quiet e.checking e.start e.event (actors.Proc proc) proc job live dirty first question free)
      (taken_lasts e.checking e.start e.event (actors.Proc proc) lasts proc job.nr live dirty (taken_known e.checking e.header e.start e.event proc t.checks asks lasts.known job live dirty first free lives is_dirty))
      (taken_asks e.checking e.header e.start e.event proc t.checks asks lasts.known job live dirty first free lives is_dirty)
      (taken_alone e.checking e.header e.start e.event proc t.checks asks lasts.known job live dirty first free lives is_dirty, tt)

  -- ---- its document answers

  pub finished_acts : (proc : ProcId) (order : Order) (verdict : Verdict) → e.actor ≡ actors.Proc proc → e.own ≡ rows.Finished proc order.job.nr (outcomes.Asked verdict) → (desk_of e.start proc).in_hand ≡ Some order → is_question order.job.task ≡ true → HasActed check e [] t queue blame
  finished_acts proc order verdict by own hand question =
      alone_acts e t queue blame stands (actors.Proc proc) (rows.Finished proc order.job.nr (outcomes.Asked verdict)) by own uncut t.checks
      (finished_quiet e.checking e.start e.event (actors.Proc proc) proc order verdict hand question)
      (finished_lasts e.checking e.start e.event (actors.Proc proc) lasts proc order verdict hand (finished_known e.checking e.header e.start e.event proc t.checks asks lasts.known order verdict hand question))
      (finished_asks e.checking e.header e.start e.event proc t.checks asks lasts.known order verdict hand question)
      (finished_alone e.checking e.header e.start e.event proc t.checks asks lasts.known order verdict hand question, tt)

  -- ---- the coordinator takes an answer

  module _ (proc : ProcId) (job : Job) (verdict : Verdict) (r : ReqId) (is : IsAnswer e proc job verdict r) where
    abbrev tells : TellsAnswer e.start proc job verdict r
    tells = is.tells

    -- the table told of it
    abbrev told : List (ReqId × OpenCheck)
    told = told_of job verdict r t.checks

    abbrev delivers : RowKind
    delivers = rows.Delivered proc

    -- the event, and the log once the answer is delivered
    abbrev taking : InEvent
    taking = plain e actors.Coord delivers

    abbrev heard_then : Seen
    heard_then = log_of taking []

    question : is_question job.task ≡ true
    question = is_of_question e.checking e.start stands.between.tab.desks proc job verdict None tells.first

    heard_quiet : unasked e.checking heard_then ≡ quiet e t queue blame stands
    heard_quiet = delivered_quiet e.checking e.start e.event actors.Coord proc job verdict tells.first question

    heard_lasts : LastsInLog e.checking t.asking heard_then
    heard_lasts = delivered_lasts taking refl refl alive lasts proc refl
      where
        alive : (p : ProcId) → delivers ≡ rows.Delivered p → NoDeath (slice_get (desk_of e.start p).reports 0)
        alive p same =
            let one : proc ≡ p = cc in
            subst (λ (x : ProcId). NoDeath (slice_get (desk_of e.start x).reports 0)) one (subst NoDeath (sym tells.first) tt)

    -- whose request has no more to do with it
    pub late_acts : ((q : Asked) → request_of e.start r ≡ Some q → (all_asked e.start q ≡ true) ⊎ (is_checking e.start q ≡ false)) → HasActed check e [] t queue blame
    late_acts late =
        alone_acts e t queue blame stands actors.Coord delivers is.by_coord is.own uncut t.checks heard_quiet heard_lasts
        (lates.late_asks e.header e.start e.event e.checking proc job verdict r tells t.checks asks lasts.known q found (late q found))
        (lates.late_pass e.header e.start e.event e.checking proc job verdict r tells t.checks asks lasts.known q found (late q found))
      where
        q : Asked
        q = (waiting e.start proc job verdict r tells lasts.known).q

        found : request_of e.start r ≡ Some q
        found = (waiting e.start proc job verdict r tells lasts.known).at

    -- by the table: its check doesn't wait
    pub past_acts : (outcome_at r t.checks ≡ Some checks.Waiting → ⊥) → HasActed check e [] t queue blame
    past_acts past = late_acts (λ q found. late_for e.checking e.start t.checks asks r q found past)

    -- ---- of a request that is in its check, with a question open

    module _ (q : Asked) (found : request_of e.start r ≡ Some q) (in_check : is_checking e.start q ≡ true) (open_ : all_asked e.start q ≡ false) where
      -- the request then
      abbrev then : Asked
      then =
          opens.then e.header e.start e.event e.checking proc job verdict r tells t.checks asks lasts.known q found in_check open_

      then_there : request_of heard_then r ≡ Some then
      then_there =
          opens.then_there e.header e.start e.event e.checking proc job verdict r tells t.checks asks lasts.known q found in_check open_

      told_at : check_of r told ≡ Some (open_check (is_gone heard_then) then.asks)
      told_at =
          opens.told_at e.header e.start e.event e.checking proc job verdict r tells t.checks asks lasts.known q found in_check open_

      said : list_all is_said then.asks ≡ true
      said =
          opens.then_said e.header e.start e.event e.checking proc job verdict r tells t.checks asks lasts.known q found in_check open_

      opened : all_asked heard_then then ≡ false → HasActed check e [] (record t { checks = told_of job verdict r t.checks }) queue blame
      opened still =
          alone_acts e t queue blame stands actors.Coord delivers is.by_coord is.own uncut told heard_quiet heard_lasts
          (opens.open_asks e.header e.start e.event e.checking proc job verdict r tells t.checks asks lasts.known q found in_check open_ still)
          (opens.open_pass e.header e.start e.event e.checking proc job verdict r tells t.checks asks lasts.known q found in_check open_ still)

      -- another one is open still
      pub open_acts : ((x : Asked) → request_of (log_of e []) r ≡ Some x → all_asked (log_of e []) x ≡ false) → HasActed check e [] (record t { checks = told_of job verdict r t.checks }) queue blame
      open_acts still =
          opened (subst (λ (x : InEvent). (y : Asked) → request_of (log_of x []) r ≡ Some y → all_asked (log_of x []) y ≡ false) (sym (plain_is e actors.Coord delivers is.by_coord is.own uncut)) still then then_there)

      -- by the table: its check waits still
      still_acts : outcome_at r (told_of job verdict r t.checks) ≡ Some checks.Waiting → HasActed check e [] (record t { checks = told_of job verdict r t.checks }) queue blame
      still_acts waits = opened (still_open heard_then then r told told_at said waits)

      -- all are settled, and the table notes that the user is to be asked, for a document
      module _ (doc : DocId) (noted : todo_of (told_of job verdict r t.checks) r ≡ Some doc) where
        abbrev out : List RowKind
        out = rows.Prompted r doc ∷ []

        prompt_quiet : unasked e.checking (log_of taking out) ≡ quieted (quiet e t queue blame stands) e.event (quiet e t queue blame stands).has_stood
        prompt_quiet =
            prompted_unseen e.checking heard_then e.event actors.Coord (stood_noted e.start (row_of taking delivers)) r doc
            ∙ ap (λ (x : Seen). silent x e.event x.jobs x.states) heard_quiet

        pub prompt_acts : HasActed check e (rows.Prompted r doc ∷ []) (record t { checks = told_of job verdict r t.checks }) queue blame
        prompt_acts =
            subst (λ (x : InEvent). HasActed check x out (record t { checks = told }) queue blame) (plain_is e actors.Coord delivers is.by_coord is.own uncut) (record {
              stands = subst (λ (x : Seen). StandsFor check x (record t { checks = told }) queue blame) (sym (now_is taking out ∙ prompt_quiet)) (checks_stands (quieted (quiet e t queue blame stands) e.event (quiet e t queue blame stands).has_stood) t told t.asking queue blame (quiet_stands (quiet e t queue blame stands) e.event (quiet e t queue blame stands).has_stood t queue blame (stands_quiet e t queue blame stands) (λ off away. off)));
              lasts = prompted_lasts e.checking heard_then e.event actors.Coord heard_lasts r doc (on_of e.checking e.start t.checks asks r q found in_check) (prompts.prompt_known e.header e.start e.event e.checking proc job verdict r tells t.checks asks lasts.known q found in_check open_ doc noted);
              asks = prompts.prompt_asks e.header e.start e.event e.checking proc job verdict r tells t.checks asks lasts.known q found in_check open_ doc noted;
              passes = prompts.prompt_pass e.header e.start e.event e.checking proc job verdict r tells t.checks asks lasts.known q found in_check open_ doc noted;
            })

    -- ---- by the table alone

    abbrev asked : Asked
    asked = (waiting e.start proc job verdict r tells lasts.known).q

    asked_at : request_of e.start r ≡ Some asked
    asked_at = (waiting e.start proc job verdict r tells lasts.known).at

    waits_so : outcome_at r t.checks ≡ Some checks.Waiting → (is_checking e.start asked ≡ true) × (all_asked e.start asked ≡ false)
    waits_so waits = waits_in e.checking e.start t.checks asks r asked asked_at waits

    -- the check that was told of the answer waits still
    pub table_open_acts : outcome_at r (told_of job verdict r t.checks) ≡ Some checks.Waiting → HasActed check e [] (record t { checks = told_of job verdict r t.checks }) queue blame
    table_open_acts waits =
        let so = waits_so (was_waiting r job.doc verdict t.checks waits) in
        still_acts asked asked_at so.0 so.1 waits

    -- it waited, and has come to a prompt
    pub table_prompt_acts : (doc : DocId) → outcome_at r t.checks ≡ Some checks.Waiting → outcome_at r (told_of job verdict r t.checks) ≡ Some (checks.Prompt doc) → HasActed check e (rows.Prompted r doc ∷ []) (record t { checks = told_of job verdict r t.checks }) queue blame
    table_prompt_acts doc waits prompts_ =
        let so = waits_so waits in
        prompt_acts asked asked_at so.0 so.1 doc (ap (λ (o : Option Check). option_and_then prompt_of o) prompts_)
