-- A load passes its check by an event's own row while a traversal in its check holds the queue: what is asked before the tab is brought to rest then.
use Rattle.asking_facts.proofs.Notes.{between_notes}
use Rattle.asking_facts.proofs.NotesOver.{one_notes}
use Rattle.asking_facts.specs.Prompting.{NotesWanted, has_wanted}
use Rattle.check_facts.specs.Checking.{AreTiedAt, is_checking}
use Rattle.check_facts.specs.Prompting.{prompt_of, todo_of}
use Rattle.checking_facts.specs.Checks.{NumbersNext}
use Rattle.load_passed.specs.Passing.{InLoadPass, IsPastLoad, WasSettled}
use Rattle.log_model.specs.declared.job.Why.TheVariants as whys
use Rattle.log_model.specs.Checks.{is_checked}
use Rattle.log_model.specs.Places.{has_passed, is_traversal, is_under_way}
use Rattle.log_model.specs.Queue.{is_step_under_way}
use Rattle.load_table.specs.declared.load.Load.{Load}
use Rattle.log_model.specs.Seen.{Asked, Seen, request_of}
use Rattle.log_model.specs.declared.job.Job.{Job}
use Rattle.log_model.specs.declared.job.Why.{Why}
use Rattle.log_model.specs.declared.handler.Verdict.{Verdict}
use Rattle.log_model.specs.declared.row_kind.RowKind.{RowKind}
use Rattle.seen_facts.proofs.Load.Rows.{req_same}
use Rattle.seen_laws.specs.InEvent.{InEvent, log_of, now_of}
use Rattle.std.proofs.Common.{Bool, List, None, Option, Some, [], ap, false, not, refl, subst, sym, true, ◌&&◌, ◌==◌, ◌∙◌, ◌≡◌}
use Rattle.std.proofs.lemmas.Bool.{and_parts}
use Rattle.std.specs.Option.{option_map_or}
use Rattle.std.specs.Prelude.{option_and_then, option_map}
use Rattle.tab_answers.proofs.Asked.{on_of, waits_in}
use Rattle.tab_answers.specs.Answering.{told_of}
use Rattle.tab_doors.specs.Working.{MayDiscardIn}
use Rattle.tab_doors.specs.declared.tables.Tables.{Tables}
use Rattle.tab_held.specs.Holding.{WaitsAlone}
use Rattle.tab_ids.specs.declared.DocId.{DocId}
use Rattle.tab_facts.proofs.Calm.Calms.{calm_but}
use Rattle.tab_facts.specs.Calm.Calm.{IsCalmYet}
use Rattle.tab_ids.specs.declared.NavId.{NavId}
use Rattle.tab_ids.specs.declared.ReqId.{ReqId}
use Rattle.tab_ids.specs.declared.StateId.{StateId}
use Rattle.move_queue.specs.Queue.{Queue}
use Rattle.tab_settles.specs.PassedOn.{InPass}
use Rattle.log_model.specs.History.{has_row}
use Rattle.tab_passed.specs.Passing.{HasPassedBy, PassesCheck}
use Rattle.tab_passes.proofs.Sweeps.{swept_on}
use Rattle.tab_prompts.proofs.Begins.{begins_own}
use Rattle.tab_prompts.specs.Asking.{BeginsAsked}
use Rattle.tab_prompts.specs.Prompts.{is_open, is_waiting}
use Rattle.tab_settles.specs.Settling.{IsCalmAfter, IsReady, IsReadyIn}
use Rattle.tab_stands.specs.Checked.{ChecksStand}
use Rattle.tab_stands.specs.Standing.{LastsInLog}
use Rattle.unload_check.proofs.Stays.{others_changed, others_ended}
use Rattle.unload_check.specs.Checks.{KeepsOthers, OpenCheck, after_answer, check_of, ended, outcome_at, outcome_of}
use Rattle.unload_check.specs.declared.check.Check.TheVariants as checks
use Rattle.unload_check.specs.declared.check.Check.{Check}

-- a pass may follow while documents are swept, too
pub held_ready : (p : InPass) (out : List RowKind) (u : Tables) (queue : Queue) (noted : List (StateId × ReqId)) (cause : Why) → IsReady p out u queue noted cause → IsReadyIn true p out u queue noted cause
held_ready p out u queue noted cause ready =
    record {
      passing = swept_on p out u ready.passing;
      empty = ready.empty;
      header = ready.header;
      open_ = ready.open_;
      loads = ready.loads;
      frees = ready.frees;
      blamed = ready.blamed;
      calm = ready.calm;
      late = ready.late;
      moved = ready.moved;
      live = ready.live;
      theirs = ready.theirs;
      queueing = ready.queueing;
    }

-- where no traversal runs the tab is calm, but for navigables without an entry
pub held_calm : (l : InLoadPass) (u : Tables) (out : List RowKind) → IsPastLoad l u out → WasSettled l u.running → u.running ≡ None → IsCalmYet (now_of l.event out)
held_calm l u out past was idle =
    calm_but (now_of l.event out) (subst (λ (r : Option ReqId). IsCalmAfter r (now_of l.event out)) idle (past.settled (whys.Req l.req) past.own was).calm) (λ (nav : NavId). has_row nav (now_of l.event out).history.rows ≡ false)

-- the table once the load's check has ended, whether it was told of an answer before or not
pub left_table : (req : ReqId) (es : List (ReqId × OpenCheck)) → KeepsOthers req es (ended req es)
left_table req es = others_ended req es

pub heard_table : (job : Job) (verdict : Verdict) (req : ReqId) (es : List (ReqId × OpenCheck)) → KeepsOthers req es (ended req (told_of job verdict req es))
heard_table job verdict req es other apart =
    others_ended req (told_of job verdict req es) other apart ∙ others_changed req (after_answer job.doc verdict) es other apart

-- a check that waits has come to that
waiting_is : (es : List (ReqId × OpenCheck)) (r : ReqId) → is_waiting es r ≡ true → outcome_at r es ≡ Some checks.Waiting
waiting_is es r waits = by_check (outcome_at r es) waits
  where
    by_check : (o : Option Check) → option_map_or is_open o false ≡ true → o ≡ Some checks.Waiting
    by_check None never = absurd cc
    by_check (Some checks.Waiting) is = refl
    by_check (Some (checks.Prompt doc)) never = absurd cc
    by_check (Some checks.Go) never = absurd cc
    by_check (Some checks.Stay) never = absurd cc

-- one that is in its check is under way
under_check : (s : Seen) (q : Asked) → is_checking s q ≡ true → is_under_way q ≡ true
under_check s q in_check =
    (and_parts (is_checked q) (is_under_way q) (and_parts (is_checked q && is_under_way q) (not (has_passed s q)) in_check).0).1

-- the traversal is in its check, and under way
pub record IsHolding (was : ReqId → Bool) (s : Seen) (by : ReqId) (b : Asked) : Type 0 where
  pub at : request_of s by ≡ Some b
  pub goes : is_traversal b.what ≡ true
  pub under : is_under_way b ≡ true
  pub on : was by ≡ true

module _ (was : ReqId → Bool) (e : InEvent) (es table : List (ReqId × OpenCheck)) (asks : ChecksStand was e.start es) {asking next : List Load} (lasts : LastsInLog was asking e.start) (req : ReqId) (q : Asked) (pass : PassesCheck was e req q) (others : KeepsOthers req es table) (gone : check_of req table ≡ None) (same : (r : ReqId) → (r.0 == req.0) ≡ false → request_of (log_of e []) r ≡ request_of e.start r) (own : HasPassedBy e table next) where
  -- what the table notes was wanted
  notes : NotesWanted (log_of e []) table
  notes =
      one_notes e.start (log_of e []) es table req same others none (between_notes e.start es asks.has lasts.known.wanted)
    where
      none : (x : Asked) → request_of (log_of e []) req ≡ Some x → (doc : DocId) → todo_of table req ≡ Some doc → has_wanted doc x.asks ≡ true
      none x found doc noted =
          let never : None ≡ Some doc = sym (ap (λ (o : Option OpenCheck). option_and_then prompt_of (option_map outcome_of o)) gone) ∙ noted in
          absurd cc

  -- what is known of checks and prompts as the event began
  pub begins_past : NumbersNext e.start e.own → BeginsAsked e table
  begins_past next =
      begins_own e table own.uncut own.led next own.undue.ran own.asked own.calm notes own.lasts.known.unanswered nobody
    where
      nobody : (r : ReqId) → request_of e.start r ≡ None → check_of r table ≡ None
      nobody r none = by_number (r.0 == req.0) refl
        where
          by_number : (b : Bool) → (r.0 == req.0) ≡ b → check_of r table ≡ None
          by_number true e_ = ap (λ (k : ReqId). check_of k table) (req_same r req e_) ∙ gone
          by_number false e_ = others r e_ ∙ subst (λ (o : Option Asked). AreTiedAt e.start o (check_of r es)) none (asks.has.tied.each r)

  -- ---- the traversal that holds the queue

  module _ (by : ReqId) (b : Asked) (held : IsHolding was e.start by b) (other : (by.0 == req.0) ≡ false) where
    -- it alone may wait of all traversals
    pub waits_alone : WaitsAlone e table by
    waits_alone r x found goes waits = by_number (r.0 == req.0) refl
      where
        by_number : (c : Bool) → (r.0 == req.0) ≡ c → r ≡ by
        by_number true e_ =
            let none : is_waiting table r ≡ false = ap (λ (k : ReqId). is_waiting table k) (req_same r req e_) ∙ ap (λ (o : Option OpenCheck). option_map_or is_open (option_map outcome_of o) false) gone in
            let never : true ≡ false = sym waits ∙ none in
            absurd cc
        by_number false e_ =
            let at : request_of e.start r ≡ Some x = sym (same r e_) ∙ found in
            let was_waiting : is_waiting es r ≡ true = ap (λ (o : Option OpenCheck). option_map_or is_open (option_map outcome_of o) false) (sym (others r e_)) ∙ waits in
            let its = waits_in was e.start es asks r x at (waiting_is es r was_waiting) in
            let on : was r ≡ true = on_of was e.start es asks r x at its.0 in
            let one : x.nr ≡ b.nr = lasts.checks.alone r by x b at held.at (under_check e.start x its.0) held.under goes held.goes on in
            sym (lasts.checks.numbered r x at) ∙ one ∙ lasts.checks.numbered by b held.at

    -- so a step is in its check
    pub held_step : MayDiscardIn false e → ⊥
    held_step free =
        let none : is_step_under_way b ≡ false = free by b (same by other ∙ held.at) (pass.same by other ∙ held.on) in
        let step : is_step_under_way b ≡ true = (let under = held.under in let goes = held.goes in rw under (rw goes refl)) in
        let never : true ≡ false = sym step ∙ none in
        cc
