-- One row more that the coordinator puts out: what makes it go on working, and what orders leave of loads and of kept documents.
use Rattle.std.proofs.lemmas.Bool.{and_right}
use Rattle.log_model.specs.declared.request.Request.{Request}
use Rattle.seen_laws.specs.Owing.{is_sole_load}
use Rattle.log_model.specs.Once.{loads}
use Rattle.row_facts.specs.LoadRows.Beginning.{begins_no_earlier, begins_none}
use Rattle.row_facts.proofs.LoadRows.Earlier.{no_earlier_stays}
use Rattle.unasked_dues.specs.Reading.{BeginSole}
use Rattle.unasked_dues.proofs.Read.{read_more}
use Rattle.unasked_dues.proofs.Sole.{sole_more}
use Rattle.unasked_dues.proofs.Shows.{passed_off}
use Rattle.unasked_dues.specs.Checking.{IsAimed, IsForOther, IsMoving, NoStepChecks, NonePasses}
use Rattle.checking_facts.proofs.Besides.{beside_ends, ends_more}
use Rattle.checking_facts.proofs.Moving.{are_aimed, are_moving}
use Rattle.checking_facts.proofs.Rows.{row_checks, row_steps}
use Rattle.checking_facts.specs.Checks.{AreInCheck, BeginsOff, GoesDuly}
use Rattle.checking_facts.specs.States.{LeavesStates}
use Rattle.log_model.specs.Places.{is_traversal, is_under_way, is_load}
use Rattle.log_model.specs.Queue.{is_step_under_way}
use Rattle.seen_laws.specs.Unasked.{unasked}
use Rattle.seen_facts.proofs.Each.Courses.{was_asked}  -- keep
use Rattle.tab_doors.proofs.Keeping.{states_on, states_shown}
use Rattle.tab_doors.proofs.Requests.{runs_same}
use Rattle.tab_doors.proofs.Whose.{proc_known, proc_same}
use Rattle.tab_doors.specs.Keeping.{HasRoom, Leaves, LeavesFor, LetsGo, Move, kept_in, kept_once_shown, with_left}
use Rattle.tab_doors.specs.Look.{look_of}
use Rattle.tab_doors.specs.Orders.{next_order, numbered_order, order_to, proc_at}
use Rattle.tab_doors.specs.Ties.{AreInitial, Holds, IsRunning, proc_in}
use Rattle.tab_doors.proofs.Ahead.{IsStep}
use Rattle.tab_doors.proofs.AskingLoads.{beside_asking}
use Rattle.tab_doors.proofs.Calm.{row_calm}
use Rattle.tab_doors.specs.AskingLoads.{TiesAsking}
use Rattle.tab_doors.proofs.Wanted.{come_on}
use Rattle.tab_doors.specs.Working.{HasGoal, IsAhead, IsAtWork, IsAtWorkFor, IsAtWorkIn, IsCalmIn, IsToCome, StartsPlain}
use Rattle.std.proofs.lemmas.List.Sums.{fold-append}
use Rattle.unasked_dues.specs.Checking.{AllOthersPass}
use Rattle.log_model.specs.Checks.{is_checked}
use Rattle.log_model.specs.Equal.{holds}
use Rattle.log_model.specs.Outcomes.{is_drop}
use Rattle.log_model.specs.declared.outcome.Ending.{Ending}
use Rattle.checking_facts.proofs.Steps.{more_duly, more_pass}
use Rattle.checking_facts.specs.Prompts.{IsUndropped, AreAskedDuly, GoesBeside, PassIf, Told, discarded_by, noted_in, tell_row, told_by}
use Rattle.unload_check.specs.Checks.{OpenCheck}
use Rattle.tab_doors.specs.declared.tables.Tables.{Tables}
use Rattle.row_facts.proofs.FrameRows.LawfulLaws.{keeps_held}
use Rattle.row_facts.specs.FrameRows.Lawful.{KeepsHeld}
use Rattle.seen_facts.proofs.Home.Again.{all_more}
use Rattle.seen_facts.proofs.Kept.States.{AreOfOwnStates, states_again, states_without}
use Rattle.seen_facts.specs.Kept.Keeping.{AreKeptDocs, kept_states, state_in}
use Rattle.load_table.specs.declared.load.Load.{Load}
use Rattle.seen_facts.proofs.LoadTies.Rows.{KeepsThem, sent_tied}
use Rattle.seen_facts.specs.LoadTies.Tying.{TiesLoads}
use Rattle.log_model.specs.After.{after}
use Rattle.log_model.specs.AfterDocuments.{new_document, on_document}
use Rattle.log_model.specs.AfterPlaces.{without_doc}
use Rattle.log_model.specs.Seen.{Asked, Document, Seen, desk_of, document_of as document_in_log, request_of}
use Rattle.log_model.specs.declared.job.Job.{Job}
use Rattle.log_model.specs.declared.job.Task.{Task}
use Rattle.log_model.specs.declared.job.Why.{Why}
use Rattle.log_model.specs.declared.row_kind.LogRow.{LogRow}
use Rattle.log_model.specs.declared.row_kind.RowKind.{RowKind}
use Rattle.seen_facts.specs.Each.Runs.{is_run}
use Rattle.page_cache.specs.Kept.{Kept, without}
use Rattle.seen_facts.proofs.Request.Readers.{SameReads}
use Rattle.seen_laws.proofs.InEvents.{goes_more, log_more, now_is, now_more}
use Rattle.seen_laws.specs.Blocks.{Here, on_row, on_rows}
use Rattle.seen_laws.specs.InEvent.{EachGoes, GoesThere, InEvent, IsReadOff, first_of, here_of, is_seen, log_of, now_of, own_of, row_of, rows_of}
use Rattle.seen_laws.specs.Sending.{IsNumbered, is_passed}
use Rattle.std.proofs.Common.{Bool, List, None, Option, Some, [], ap, append-nil, append_assoc, arith, false, inl, inr, length, length-append, map, refl, subst, sym, true, ℕ, ◌++◌, ◌+◌, ◌∙◌, ◌∷◌, ◌≡◌, ◌≤◌, not, ◌&&◌, ◌⊎◌}
use Rattle.std.specs.Option.{IsSome}
use Rattle.std.specs.Prelude.{filter_map, nat_lt}
use Rattle.tab_ids.specs.declared.DocId.{DocId}
use Rattle.tab_ids.specs.declared.NavId.{NavId}
use Rattle.tab_ids.specs.declared.ProcId.{ProcId}
use Rattle.tab_ids.specs.declared.ReqId.{ReqId}
use Rattle.tab_ids.specs.declared.StateId.{StateId}
use Rattle.tab_ids.specs.declared.Step.{Step}
use Rattle.log_model.specs.declared.row_kind.RowKind.TheVariants as rows
use Rattle.log_model.specs.declared.request.Request.TheVariants as requests

-- ---- the whole

-- nobody is asked by a row that is read off
plain_more : (e : InEvent) (out : List RowKind) (kind : RowKind) → IsReadOff e out kind → log_of e out ≡ now_of e out → log_of e (out ++ kind ∷ []) ≡ now_of e (out ++ kind ∷ [])
plain_more e out kind read is =
    log_more e out kind ∙ ap (λ (s : Seen). after s (row_of e kind)) is ∙ sym (now_more e out kind read)

-- so nobody is asked by such rows one after the other
plain_from : (e : InEvent) (was more : List RowKind) → ((before later : List RowKind) (kind : RowKind) → before ++ kind ∷ later ≡ more → GoesThere e (was ++ before) kind) → log_of e was ≡ now_of e was → log_of e (was ++ more) ≡ now_of e (was ++ more)
plain_from e was [] goes is = subst (λ (l : List RowKind). log_of e l ≡ now_of e l) (sym (append-nil was)) is
plain_from e was (kind ∷ more) goes is =
    subst (λ (l : List RowKind). log_of e l ≡ now_of e l) (append_assoc was (kind ∷ []) more)
    (plain_from e (was ++ kind ∷ []) more (λ before later k same. subst (λ (l : List RowKind). GoesThere e l k) (sym (append_assoc was (kind ∷ []) before)) (goes (kind ∷ before) later k (ap (λ (l : List RowKind). kind ∷ l) same)))
    (plain_more e was kind (subst (λ (l : List RowKind). GoesThere e l kind) (append-nil was) (goes [] more kind refl)).read is))

-- where nobody had been asked as the event's own row was logged, nobody is by the rows that go there
pub plain_now : (e : InEvent) (out : List RowKind) → EachGoes e [] out → StartsPlain e → log_of e out ≡ now_of e out
plain_now e out goes is = plain_from e [] out (λ before later kind same. goes.each before later kind same) is

-- a load that begins is the only one of its navigable, and so are those that began before; a row with which none begins leaves them so
abbrev pub BeginsSole : InEvent → List RowKind → RowKind → Type 0
BeginsSole e out kind = by_kind kind
  where
    by_kind : RowKind → Type 0
    by_kind (rows.Started req goal) =
        BeginSole e out (log_of e out) → BeginSole e (out ++ rows.Started req goal ∷ []) (log_of e (out ++ rows.Started req goal ∷ []))
    by_kind other = Unit {0}

pub soles_more : (e : InEvent) (out : List RowKind) (kind : RowKind) → BeginsSole e out kind → BeginSole e out (log_of e out) → BeginSole e (out ++ kind ∷ []) (log_of e (out ++ kind ∷ []))
soles_more e out kind begins sole = by_kind kind begins
  where
    none : (k : RowKind) → begins_none (row_of e k) ≡ true → ((req : ReqId) (nav : NavId) → begins_no_earlier (log_of e out) req nav k ≡ true) → ((req : ReqId) (goal : Option Step) → k ≡ rows.Started req goal → ⊥) → BeginSole e (out ++ k ∷ []) (log_of e (out ++ k ∷ []))
    none k is out_ never =
        sole_more e out k (λ q was nav stays. no_earlier_stays (log_of e out) (row_of e k) q.nr nav (out_ q.nr nav) stays) sole
        (λ req goal same. absurd (never req goal same))

    by_kind : (k : RowKind) → BeginsSole e out k → BeginSole e (out ++ k ∷ []) (log_of e (out ++ k ∷ []))
    by_kind (rows.Started req goal) has = has sole
    by_kind (rows.Opened entry state doc proc slot address) has = none (rows.Opened entry state doc proc slot address) refl (λ req nav. refl) (λ req goal same. cc)
    by_kind (rows.Accepted req doc what) has = none (rows.Accepted req doc what) refl (λ r nav. refl) (λ r goal same. cc)
    by_kind (rows.Applied req change) has = none (rows.Applied req change) refl (λ r nav. refl) (λ r goal same. cc)
    by_kind (rows.Refused req reason) has = none (rows.Refused req reason) refl (λ r nav. refl) (λ r goal same. cc)
    by_kind (rows.Dropped req cause) has = none (rows.Dropped req cause) refl (λ r nav. refl) (λ r goal same. cc)
    by_kind (rows.Prompted req doc) has = none (rows.Prompted req doc) refl (λ r nav. refl) (λ r goal same. cc)
    by_kind (rows.Answered req stay) has = none (rows.Answered req stay) refl (λ r nav. refl) (λ r goal same. cc)
    by_kind (rows.Sent job) has = none (rows.Sent job) refl (λ r nav. refl) (λ r goal same. cc)
    by_kind (rows.Taken proc job live dirty) has = none (rows.Taken proc job live dirty) refl (λ r nav. refl) (λ r goal same. cc)
    by_kind (rows.Finished proc job outcome) has = none (rows.Finished proc job outcome) refl (λ r nav. refl) (λ r goal same. cc)
    by_kind (rows.Made proc made) has = none (rows.Made proc made) refl (λ r nav. refl) (λ r goal same. cc)
    by_kind (rows.Delivered proc) has = none (rows.Delivered proc) refl (λ r nav. refl) (λ r goal same. cc)
    by_kind (rows.Killed proc death) has = none (rows.Killed proc death) refl (λ r nav. refl) (λ r goal same. cc)
    by_kind (rows.Evicted state) has = none (rows.Evicted state) refl (λ r nav. refl) (λ r goal same. cc)

-- a traversal that begins is no load, and those that began before are the only ones of their navigables still
pub traversal_sole : (e : InEvent) (out : List RowKind) (req : ReqId) (goal : Option Step) (q : Asked) → request_of (log_of e out) req ≡ Some q → is_load q.what ≡ false → BeginsSole e out (rows.Started req goal)
traversal_sole e out req goal q at no_load sole =
    sole_more e out (rows.Started req goal) (λ x was nav stays. no_earlier_stays (log_of e out) (row_of e (rows.Started req goal)) x.nr nav (out_of x.nr nav) stays) sole
    (λ r g same. rw (ap (λ (x : ReqId). request_of (log_of e out) x) (req_is r g same) ∙ at) (no_sole q.what q.nr no_load (log_of e (out ++ rows.Started req goal ∷ []))))
  where
    req_is : (r : ReqId) (g : Option Step) → rows.Started req goal ≡ rows.Started r g → r ≡ req
    req_is r g same = cc

    loads_none : (nav : NavId) (what : Request) → is_load what ≡ false → loads nav what ≡ false
    loads_none nav (requests.Load n mode address) is = cc
    loads_none nav (requests.Go delta) is = refl
    loads_none nav (requests.Reload n) is = refl
    loads_none nav (requests.Poke n action) is = refl

    out_of : (nr : ReqId) (nav : NavId) → begins_no_earlier (log_of e out) nr nav (rows.Started req goal) ≡ true
    out_of nr nav =
        let none : (nat_lt q.nr.0 nr.0 && loads nav q.what) ≡ false = and_right (nat_lt q.nr.0 nr.0) (loads nav q.what) (loads_none nav q.what no_load) in
        rw at (rw none refl)

    no_sole : (what : Request) (nr : ReqId) → is_load what ≡ false → (end : Seen) → is_sole_load what nr end ≡ true
    no_sole (requests.Load n mode address) nr is end = cc
    no_sole (requests.Go delta) nr is end = refl
    no_sole (requests.Reload n) nr is end = refl
    no_sole (requests.Poke n action) nr is end = refl

-- where nobody is in a check, no step is
pub none_steps : (checking : ReqId → Bool) → ((req : ReqId) → checking req ≡ false) → (s : Seen) → NoStepChecks checking s
none_steps checking unchecked s req q at checks = absurd (let never : false ≡ true = sym (unchecked req) ∙ checks in cc)

-- where no step is in its check, no traversal in its check passes
pub steps_calm : (checking : ReqId → Bool) (s : Seen) → NoStepChecks checking s → NonePasses checking s
steps_calm checking s none req q at on traverses checks =
    let never : is_step_under_way q ≡ true = rw (on, traverses) refl in
    let no_ : false ≡ true = sym (none req q at checks) ∙ never in
    absurd cc

-- nor is one that is under way in its check
pub off_runs : (checking : ReqId → Bool) (s : Seen) → NoStepChecks checking s → (by : ReqId) (r : Asked) → request_of s by ≡ Some r → is_under_way r ≡ true → is_traversal r.what ≡ true → checking by ≡ false
off_runs checking s none by r there on runs = by_check (checking by) refl
  where
    by_check : (b : Bool) → checking by ≡ b → b ≡ false
    by_check false e = refl
    by_check true e =
        let never : is_step_under_way r ≡ true = rw (on, runs) refl in
        let no_ : false ≡ true = sym (none by r there e) ∙ never in
        absurd cc

-- none in its check begins as a row that is seen
off_begins : (checking : ReqId → Bool) (kind : RowKind) → is_seen checking kind ≡ true → BeginsOff checking kind
off_begins checking (rows.Started req goal) seen = by_check (checking req) seen
  where
    by_check : (b : Bool) → not b ≡ true → b ≡ false
    by_check true never = absurd cc
    by_check false is = refl
off_begins checking (rows.Opened entry state doc proc slot address) seen = tt
off_begins checking (rows.Accepted req doc what) seen = tt
off_begins checking (rows.Applied req change) seen = tt
off_begins checking (rows.Refused req reason) seen = tt
off_begins checking (rows.Dropped req cause) seen = tt
off_begins checking (rows.Prompted req doc) seen = tt
off_begins checking (rows.Answered req stay) seen = tt
off_begins checking (rows.Sent job) seen = tt
off_begins checking (rows.Taken proc job live dirty) seen = tt
off_begins checking (rows.Finished proc job outcome) seen = tt
off_begins checking (rows.Made proc made) seen = tt
off_begins checking (rows.Delivered proc) seen = tt
off_begins checking (rows.Killed proc death) seen = tt
off_begins checking (rows.Evicted state) seen = tt

-- the move that had begun, if one had, and the one that has begun once the row is put out
module _ {sweeps : Bool} {from : Option Move} (e : InEvent) (out : List RowKind) (kind : RowKind) (move : Option Move) (t u : Tables) (work : IsAtWorkIn sweeps from e out t) where
  abbrev pub then_ : Seen
  then_ = after (now_of e out) (row_of e kind)

  pub work_more : GoesThere e out kind → BeginsSole e out kind → GoesDuly e.checking (log_of e out) kind → LeavesStates e.checking (log_of e out) kind → Holds (look_of then_ u.running) u → IsRunning then_.requests u.running → HasGoal then_.requests u.running u.goal → length then_.documents ≤ then_.jobs + 1 → AreInitial then_.initial_states u.initial.entries → TiesLoads then_ u.loads → u.kept.states ≡ kept_in move u.kept.keep (kept_states then_) → GoesBeside e.checking (log_of e out) kind → IsStep from move e out kind → u.checks ≡ t.checks → u.asking ≡ t.asking → (discarded_by kind ≡ None) ⊎ IsCalmIn sweeps e.checking (after (log_of e out) (row_of e kind)) → IsAtWorkIn sweeps move e (out ++ kind ∷ []) u
  work_more it begins duly leaves holds runs goal few initial loads kept beside step same as_was calm =
      record {
        own = work.own;
        worker = work.worker;
        goes = goes_more e [] out kind work.goes it;
        numbered = work.numbered;
        read = read_more e out kind work.read (record { numbered = checks_.numbered; others = checks_.others });
        sole = soles_more e out kind begins work.sole;
        debts = work.debts;
        checks = checks_;
        calm = subst (λ (s : Seen). IsCalmIn sweeps e.checking s) (sym (log_more e out kind)) (by_kept calm);
        unheld = λ free.
            subst (λ (s : Seen). NoStepChecks e.checking s) (sym (log_more e out kind))
            (row_steps e.checking (log_of e out) (row_of e kind) (off_begins e.checking kind it.seen) duly (work.unheld free));
        off = ends_more e.checking out kind work.off (beside_ends e.checking (log_of e out) kind beside);
        holds = subst (λ (s : Seen). Holds (look_of s u.running) u) (sym (now_more e out kind it.read)) holds;
        runs = subst (λ (s : Seen). IsRunning s.requests u.running) (sym (now_more e out kind it.read)) runs;
        goal = subst (λ (s : Seen). HasGoal s.requests u.running u.goal) (sym (now_more e out kind it.read)) goal;
        few = subst (λ (s : Seen). length s.documents ≤ s.jobs + 1) (sym (now_more e out kind it.read)) few;
        initial = subst (λ (s : Seen). AreInitial s.initial_states u.initial.entries) (sym (now_more e out kind it.read)) initial;
        loads = subst (λ (s : Seen). TiesLoads s u.loads) (sym (now_more e out kind it.read)) loads;
        asking =
            subst (λ (s : Seen). TiesAsking e.checking s u.asking) (sym (log_more e out kind))
            (subst (λ (l : List Load). TiesAsking e.checking (after (log_of e out) (row_of e kind)) l) (sym as_was) (beside_asking e.checking (log_of e out) e.event e.actor t.asking work.asking kind beside));
        kept = subst (λ (s : Seen). u.kept.states ≡ kept_in move u.kept.keep (kept_states s)) (sym (now_more e out kind it.read)) kept;
        asked = subst (λ (told : Told). AreAskedDuly e.checking e.start (log_of e (out ++ kind ∷ [])) told) (sym told_then) (subst (λ (s : Seen). AreAskedDuly e.checking e.start s (tell_row told kind)) (sym (log_more e out kind)) (more_duly e out told work.asked kind beside step.quiet step.held (IsAhead from) (IsAhead move) step.ahead passes));
        lawful = subst (λ (x : Told). PassIf (IsToCome move e (out ++ kind ∷ [])) e (noted_in x) (out ++ kind ∷ [])) (sym told_then) (more_pass e out told work.asked kind beside step.quiet step.held (IsToCome from e out) (IsToCome move e (out ++ kind ∷ [])) (λ later is. come_on from move e out (kind ∷ []) later (step.ahead later) is) work.lawful (λ later asks is prompts. step.may later asks is.0 prompts));
      }
    where
      told : Told
      told = told_by e.ran t.checks out

      -- the table is told of the row
      told_then : told_by e.ran u.checks (out ++ kind ∷ []) ≡ tell_row told kind
      told_then = ap (λ (c : List (ReqId × OpenCheck)). told_by e.ran c (out ++ kind ∷ [])) same ∙ fold-append tell_row (record { checks = t.checks; run = e.ran }) out (kind ∷ [])

      checks_ : AreInCheck e.checking (log_of e (out ++ kind ∷ []))
      checks_ =
          subst (λ (s : Seen). AreInCheck e.checking s) (sym (log_more e out kind))
          (row_checks e.checking (log_of e out) (row_of e kind) duly leaves work.checks)

      -- a row that discards nothing settles no question
      calm_after : (b : Bool) → discarded_by kind ≡ None → IsCalmIn b e.checking (log_of e out) → IsCalmIn b e.checking (after (log_of e out) (row_of e kind))
      calm_after false none was = row_calm e.checking (log_of e out) (row_of e kind) was beside none
      calm_after true none was = tt

      by_kept : (discarded_by kind ≡ None) ⊎ IsCalmIn sweeps e.checking (after (log_of e out) (row_of e kind)) → IsCalmIn sweeps e.checking (after (log_of e out) (row_of e kind))
      by_kept (inl none) = calm_after sweeps none work.calm
      by_kept (inr is) = is

      passes : AllOthersPass e.checking (after (log_of e out) (row_of e kind))
      passes = subst (λ (s : Seen). AllOthersPass e.checking s) (log_more e out kind) checks_.others

-- an open request wasn't dropped
pub open_undropped : (s : Seen) (req : ReqId) (q : Asked) → request_of s req ≡ Some q → q.ending ≡ None → IsUndropped s req
open_undropped s req q at open_ r found =
    let both : Some q ≡ Some r = sym at ∙ found in
    let one : q ≡ r = cc in
    ap (λ (x : Asked). holds is_drop x.ending) (sym one) ∙ ap (λ (o : Option Ending). holds is_drop o) open_

-- a request of no kind that is checked isn't in its check
pub unchecked_off : (checking : ReqId → Bool) (s : Seen) → AreInCheck checking s → (req : ReqId) (q : Asked) → request_of s req ≡ Some q → is_checked q ≡ false → checking req ≡ false
unchecked_off checking s checks req q at none = by_test (checking req) refl
  where
    by_test : (b : Bool) → checking req ≡ b → b ≡ false
    by_test false off = refl
    by_test true on =
        let both : true ≡ false = sym (checks.checks req q at on).checked ∙ none in
        absurd cc

-- the rows are these
pub next_for : {sweeps : Bool} (move : Option Move) (e : InEvent) (new then_out : List RowKind) (u : Tables) → new ≡ then_out → IsAtWorkIn sweeps move e then_out u → IsAtWorkIn sweeps move e new u
next_for {sweeps} move e new then_out u is work = subst (λ (o : List RowKind). IsAtWorkIn sweeps move e o u) (sym is) work

pub next_work : {sweeps : Bool} (e : InEvent) (new then_out : List RowKind) (u : Tables) → new ≡ then_out → IsAtWorkIn sweeps None e then_out u → IsAtWorkIn sweeps None e new u
next_work e new then_out u is work = next_for None e new then_out u is work

-- ---- where the event stands

-- what is so of the log without questions is so of what is read off the log
pub at_seen : {sweeps : Bool} {move : Option Move} (e : InEvent) (out : List RowKind) (t : Tables) → IsAtWorkIn sweeps move e out t → (P : Seen → Type 0) → P (now_of e out) → P (unasked e.checking (log_of e out))
at_seen e out t work P is = subst P (now_is e out) is

-- and the aim is read off, who is moved, and which length and index are due
pub aimed_log : {move : Option Move} (e : InEvent) (out : List RowKind) (t : Tables) → IsAtWorkFor move e out t → IsAimed e.checking (log_of e out)
aimed_log e out t work = are_aimed e.checking (log_of e out) work.checks work.calm

pub moving_log : {move : Option Move} (e : InEvent) (out : List RowKind) (t : Tables) → IsAtWorkFor move e out t → IsMoving e.checking (log_of e out)
moving_log e out t work = are_moving e.checking (log_of e out) work.checks work.calm

-- what an order is for has passed, where it isn't in its check
pub passed_log : {move : Option Move} (e : InEvent) (out : List RowKind) (t : Tables) → IsAtWorkFor move e out t → (task : Task) (why : Why) → IsForOther e.checking why → is_passed (now_of e out) task why ≡ true → is_passed (log_of e out) task why ≡ true
passed_log e out t work task why other is = passed_off e.checking (log_of e out) work.checks.others task why other (at_seen e out t work (λ (s : Seen). is_passed s task why ≡ true) is)

-- its settings are those of the event
on_header : (h : Here) (more : List LogRow) → (on_rows h more).header ≡ h.header
on_header h [] = refl
on_header h (row ∷ more) = on_header (on_row h row) more

pub header_here : (e : InEvent) (out : List RowKind) → (here_of e out).header ≡ e.header
header_here e out = on_header (first_of e) (map (row_of e) out) ∙ on_header (own_of e) (map (row_of e) e.before)

-- it began where the event did
on_start : (h : Here) (more : List LogRow) → (on_rows h more).start ≡ h.start
on_start h [] = refl
on_start h (row ∷ more) = on_start (on_row h row) more

pub start_here : (e : InEvent) (out : List RowKind) → (here_of e out).start ≡ e.start
start_here e out = on_start (first_of e) (map (row_of e) out) ∙ on_start (own_of e) (map (row_of e) e.before)

-- and its rows are the own one and those put out
on_done : (h : Here) (more : List LogRow) → (on_rows h more).done ≡ h.done ++ more
on_done h [] = sym (append-nil h.done)
on_done h (row ∷ more) = on_done (on_row h row) more ∙ append_assoc h.done (row ∷ []) more

pub done_here : (e : InEvent) (out : List RowKind) → (here_of e out).done ≡ rows_of e out
done_here e out =
    on_done (first_of e) (map (row_of e) out)
    ∙ ap (λ (l : List LogRow). l ++ map (row_of e) out) (on_done (own_of e) (map (row_of e) e.before))

-- an order keeps what is held back
pub sent_held : (e : InEvent) (out : List RowKind) (job : Job) → KeepsHeld e out (rows.Sent job)
sent_held e out job = keeps_held e out (rows.Sent job) refl refl

pub started_held : (e : InEvent) (out : List RowKind) (req : ReqId) (goal : Option Step) → KeepsHeld e out (rows.Started req goal)
started_held e out req goal = keeps_held e out (rows.Started req goal) refl refl

-- ---- where the traversal that runs leads

-- read from the requests
abbrev pub goal_read : Asked → Option Step
goal_read q = q.goal

pub goal_same : (asked next_ : List Asked) (run : Option ReqId) (goal : Step) → SameReads goal_read asked next_ → HasGoal asked run goal → HasGoal next_ run goal
goal_same asked next_ run goal same has req q is at =
    let was = was_asked goal_read asked next_ same req q at in
    sym was.2 ∙ has req was.0 is was.1

pub goal_of_none : (asked : List Asked) (goal : Step) → HasGoal asked None goal
goal_of_none asked goal req q is at = cc

-- the tables have the same traversal, and the same goal of it
pub runs_on : (asked next_ : List Asked) (t u : Tables) → SameReads is_run asked next_ → u.running ≡ t.running → IsRunning asked t.running → IsRunning next_ u.running
runs_on asked next_ t u same running runs =
    subst (λ (r : Option ReqId). IsRunning next_ r) (sym running) (runs_same asked next_ t.running same runs)

pub goal_on : (asked next_ : List Asked) (t u : Tables) → SameReads goal_read asked next_ → u.running ≡ t.running → u.goal ≡ t.goal → HasGoal asked t.running t.goal → HasGoal next_ u.running u.goal
goal_on asked next_ t u same running goal has =
    subst (λ (r : Option ReqId). HasGoal next_ r u.goal) (sym running) (subst (λ (g : Step). HasGoal next_ t.running g) (sym goal) (goal_same asked next_ t.running t.goal same has))

-- ---- an order

-- it has the next number, and the incarnation that is known
pub numbered : (s : Seen) (proc : ProcId) (doc : DocId) (why : Why) (task : Task) → (desk_of s proc).known ≡ 0 → IsNumbered s (next_order s.jobs proc doc why task)
numbered s proc doc why task known = record { number = refl; incarnation = sym known }

-- the order that was counted and put out is the next one
pub order_is : {sweeps : Bool} {move : Option Move} (e : InEvent) (out new : List RowKind) (t : Tables) (job : Job) (proc : ProcId) (doc : DocId) (why : Why) (task : Task) → IsAtWorkIn sweeps move e out t → new ≡ out ++ rows.Sent job ∷ [] → job ≡ numbered_order (length t.sent.items) proc doc why task → new ≡ out ++ rows.Sent (next_order (now_of e out).jobs proc doc why task) ∷ []
order_is e out new t job proc doc why task work is counted =
    is ∙ ap (λ (j : Job). out ++ rows.Sent j ∷ []) (counted ∙ ap (λ (n : ℕ). numbered_order n proc doc why task) work.holds.sent)

-- the process to which it goes
module _ {sweeps : Bool} {move : Option Move} (e : InEvent) (out : List RowKind) (t : Tables) (doc : DocId) (d : Document) (work : IsAtWorkIn sweeps move e out t) (found : document_in_log (now_of e out) doc ≡ Some d) where
  pub has_proc : IsSome (proc_in t.whose.entries doc)
  has_proc = proc_known (now_of e out) t.whose.entries work.holds.whose doc d found

  -- the order that was counted for the process that the table has is the next one to the document
  pub order_there : (new : List RowKind) (job : Job) (proc : ProcId) (why : Why) (task : Task) → proc_in t.whose.entries doc ≡ Some proc → new ≡ out ++ rows.Sent job ∷ [] → job ≡ numbered_order (length t.sent.items) proc doc why task → new ≡ out ++ rows.Sent (order_to (now_of e out) doc why task) ∷ []
  order_there new job proc why task has is counted =
      order_is e out new t job (proc_at (now_of e out) doc) doc why task work is (counted ∙ ap (λ (p : ProcId). numbered_order (length t.sent.items) p doc why task) (proc_same (now_of e out) t.whose.entries work.holds.whose doc d found proc has))

-- ---- how many documents were made

-- an order that makes none
pub few_sent : (documents next_ : List Document) (jobs : ℕ) → length next_ ≡ length documents → length documents ≤ jobs + 1 → length next_ ≤ (jobs + 1) + 1
few_sent documents next_ jobs same few = omega (arith, same, few)

-- one that makes one more
pub few_made : {move : Option Move} (e : InEvent) (out : List RowKind) (t : Tables) (job : Job) (nav : NavId) (state : StateId) → IsAtWorkFor move e out t → length ((now_of e out).documents ++ new_document (now_of e out) job nav state ∷ []) ≤ ((now_of e out).jobs + 1) + 1
few_made e out t job nav state work =
    let was : length (now_of e out).documents ≤ (now_of e out).jobs + 1 = work.few in
    let more : length ((now_of e out).documents ++ new_document (now_of e out) job nav state ∷ []) ≡ length (now_of e out).documents + 1 = length-append (now_of e out).documents (new_document (now_of e out) job nav state ∷ []) in
    omega (arith, was, more)

-- ---- loads

-- an order that makes no document and discards none leaves them
pub loads_sent : {sweeps : Bool} {move : Option Move} (e : InEvent) (out : List RowKind) (t u : Tables) (job : Job) → KeepsThem job.task → IsAtWorkIn sweeps move e out t → u.loads ≡ t.loads → TiesLoads (after (now_of e out) (row_of e (rows.Sent job))) u.loads
loads_sent e out t u job keeps work same =
    subst (λ (l : List Load). TiesLoads (after (now_of e out) (row_of e (rows.Sent job))) l) (sym same) (sent_tied (now_of e out) e.event e.actor t.loads work.loads job keeps)

-- ---- kept documents

-- an order that makes a document leaves them
pub kept_made : (e : InEvent) (out : List RowKind) (t u : Tables) (job : Job) (nav : NavId) (state : StateId) → IsAtWork e out t → AreKeptDocs (now_of e out) → u.kept ≡ t.kept → u.kept.states ≡ filter_map (state_in ((now_of e out).documents ++ new_document (now_of e out) job nav state ∷ [])) (now_of e out).kept
kept_made e out t u job nav state work kept_docs same =
    ap (λ (k : Kept). k.states) same
    ∙ work.kept
    ∙ sym (states_again (now_of e out).documents ((now_of e out).documents ++ new_document (now_of e out) job nav state ∷ []) (now_of e out).kept (all_more (now_of e out).documents (new_document (now_of e out) job nav state)) (λ other has. let is = kept_docs.each other has in (is.d, is.found)))

module _ (s : Seen) (doc : DocId) (f : Document → Document) (number : (d : Document) → (f d).nr ≡ d.nr) (same : (d : Document) → (f d).state ≡ d.state) where
  -- one that only changes a document leaves them
  pub kept_on : (move : Option Move) (old new : Kept) → old.states ≡ kept_in move old.keep (kept_states s) → new ≡ old → new.states ≡ kept_in move new.keep (filter_map (state_in (on_document doc f s.documents)) s.kept)
  kept_on move old new was is =
      subst (λ (k : Kept). k.states ≡ kept_in move k.keep (filter_map (state_in (on_document doc f s.documents)) s.kept)) (sym is) (was ∙ ap (λ (l : List StateId). kept_in move old.keep l) (sym (states_on doc f s.documents s.kept number same)))

  module _ (state : StateId) (own : AreOfOwnStates s.documents s.kept doc state) where
    -- without this one they are the states without its own
    less : (docs : List DocId) → docs ≡ without_doc doc s.kept → without state (kept_states s) ≡ filter_map (state_in (on_document doc f s.documents)) docs
    less docs takes =
        sym (states_without s.documents s.kept doc state own)
        ∙ ap (λ (l : List DocId). filter_map (state_in s.documents) l) (sym takes)
        ∙ sym (states_on doc f s.documents docs number same)

    -- one is kept no longer, of which the cache has let go
    pub kept_gone : (move : Option Move) (old new : Kept) → old.states ≡ kept_in move old.keep (kept_states s) → LetsGo move old.keep (kept_states s) state → new ≡ record old { states = without state old.states } → new.states ≡ kept_in move new.keep (filter_map (state_in (on_document doc f s.documents)) (without_doc doc s.kept))
    kept_gone move old new was lets is =
        subst (λ (k : Kept). k.states ≡ kept_in move k.keep (filter_map (state_in (on_document doc f s.documents)) (without_doc doc s.kept))) (sym is) (ap (λ (l : List StateId). without state l) was ∙ lets ∙ ap (λ (l : List StateId). kept_in move old.keep l) (less (without_doc doc s.kept) refl))

    -- one is shown, for which its navigable leaves one that is kept then, or none
    left_shown : (left : Option StateId) (keep : ℕ) (states : List StateId) → states ≡ with_left left keep (kept_states s) → Leaves s doc left → HasRoom left keep (kept_states s) state → without state states ≡ filter_map (state_in (on_document doc f s.documents)) (kept_once_shown s doc)
    left_shown None keep states was leaves room = ap (λ (l : List StateId). without state l) was ∙ less (kept_once_shown s doc) leaves
    left_shown (Some left) keep states was leaves room =
        ap (λ (l : List StateId). without state l) was
        ∙ room
        ∙ states_shown s doc state left own leaves
        ∙ sym (states_on doc f s.documents (kept_once_shown s doc) number same)

    pub kept_shown : (move : Option Move) (old new : Kept) → old.states ≡ kept_in move old.keep (kept_states s) → LeavesFor move s doc state old.keep → new ≡ record old { states = without state old.states } → new.states ≡ filter_map (state_in (on_document doc f s.documents)) (kept_once_shown s doc)
    kept_shown None old new was leaves is =
        ap (λ (k : Kept). k.states) is ∙ left_shown None old.keep old.states was leaves tt
    kept_shown (Some move) old new was leaves is =
        ap (λ (k : Kept). k.states) is ∙ left_shown move.left old.keep old.states was leaves.1 leaves.2
