-- The load has begun and asked, as the tables tell: the event is cut there, and its coordinator goes on working.
use Rattle.asking_facts.specs.Asking.{AreQuestions, AreQuestionsFrom, begun_asking}
use Rattle.asking_facts.specs.Known.{IsAskable}
use Rattle.checking_facts.specs.Checks.{SameBut}
use Rattle.load_asked.proofs.Begins as may
use Rattle.load_asked.proofs.Entering.{asking_entered}
use Rattle.load_asked.specs.Beginning.{IsToBegin, due_of, own_load, then_begun, what_of}
use Rattle.load_table.specs.Loads.{begun}
use Rattle.log_model.specs.After.{states_after}
use Rattle.log_model.specs.AfterRequests.{load_replaces}
use Rattle.log_model.specs.Orders.{Question}
use Rattle.log_model.specs.Seen.{Seen}
use Rattle.log_model.specs.declared.job.Job.{Job}
use Rattle.log_model.specs.declared.row_kind.RowKind.TheVariants as rows
use Rattle.row_facts.specs.Owed.Owed.{IsLoose, IsOwed}
use Rattle.seen_laws.proofs.InEvents.{now_is}
use Rattle.seen_laws.specs.InEvent.{InEvent, log_of, now_of}
use Rattle.seen_laws.specs.Unasked.{unasked}
use Rattle.std.proofs.Common.{Bool, List, None, [], ap, arith, length, refl, suc, sym, true, ℕ, ◌+◌, ◌∙◌, ◌∷◌, ◌≡◌}
use Rattle.tab_asked.proofs.Works.{entered_on, entered_same}
use Rattle.tab_asked.specs.Asked.{entered_by}
use Rattle.tab_asks.specs.Asks.{HasBegunCheck}
use Rattle.tab_cuts.proofs.Begun as cut
use Rattle.tab_cuts.proofs.Owed.{now_cut}
use Rattle.tab_cuts.proofs.Silent.{begun_silent}
use Rattle.tab_doors.specs.AskingLoads.{TiesAsking}
use Rattle.tab_doors.specs.Working.{IsAtWork}
use Rattle.tab_doors.specs.declared.tables.Tables.{Tables}
use Rattle.tab_ids.specs.declared.ReqId.{ReqId}
use Rattle.tab_loads.specs.Asking.{InLoad}
use Rattle.unasked.proofs.Whole.{silent}

-- there is an order for each question
as_many : (base : Seen) (req : ReqId) (number : ℕ) (questions : List Question) (jobs : List Job) → AreQuestionsFrom base req number questions jobs → length jobs ≡ length questions
as_many base req number [] [] are = refl
as_many base req number (question ∷ questions) (job ∷ jobs) are =
    ap suc (as_many base req (number + 1) questions jobs are.1)
as_many base req number [] (job ∷ jobs) are = absurd are
as_many base req number (question ∷ questions) [] are = absurd are

module _ (l : InLoad) (t : Tables) (due : IsToBegin l t) (jobs : List Job) (are : AreQuestions (log_of l.event []) l.req (due_of l) jobs) (mid : Tables) (is : HasBegunCheck l.event.ran [] l.req (due_of l) t mid) where
  abbrev e : InEvent
  e = l.event

  abbrev s : Seen
  s = now_of e []

  abbrev log : Seen
  log = log_of e []

  abbrev pub behind : Seen
  behind = log_of l.event (begun_asking l.req None jobs)

  abbrev entered : ReqId → Bool
  entered = entered_by e.checking l.req

  abbrev pub then_ : InEvent
  then_ = then_begun l jobs

  -- the tables then
  abbrev pub tables_then : Tables
  tables_then =
      record t { sent = mid.sent; states = t.states + 1; asking = begun (own_load l) t.asking; checks = mid.checks }

  askable : IsAskable log
  askable = due.known.askable

  same : SameBut l.req e.checking entered
  same = entered_same e.checking l.req

  on : entered l.req ≡ true
  on = entered_on e.checking l.req

  -- it has the next document state
  pub states_more : behind.states ≡ (log_of l.event []).states + 1
  states_more =
      cut.begun_states e [] l.req None jobs
      ∙ (let more : states_after log (rows.Started l.req None) ≡ log.states + 1 = rw (may.there l t due) refl in more)

  pub states_now : (now_of l.event []).states ≡ (log_of l.event []).states
  states_now = ap (λ (x : Seen). x.states) (now_is e [])

  pub jobs_more : behind.jobs ≡ (now_of l.event []).jobs + length jobs
  jobs_more =
      cut.begun_jobs e [] l.req None jobs ∙ sym (ap (λ (x : Seen). x.jobs + length jobs) (now_is e []))

  -- of the log without questions no more changed than numbers
  now_silent : unasked entered behind ≡ silent s e.event behind.jobs behind.states
  now_silent =
      begun_silent e [] l.req None (due_of l) jobs (may.own l t due) (may.begins_to_ask l t due) are entered same on (may.work l t due).checks.numbered askable.fresh askable.sited

  pub seen : now_of (then_begun l jobs) [] ≡ silent (now_of l.event []) l.event.event behind.jobs behind.states
  seen = now_cut e (begun_asking l.req None jobs) entered then_.due ∙ now_silent

  -- the tables count them
  sent_so : length mid.sent.items ≡ behind.jobs + 1
  sent_so =
      let more : length mid.sent.items ≡ length t.sent.items + length (due_of l) = is.counted in
      let was : length t.sent.items ≡ s.jobs + 1 = (may.work l t due).holds.sent in
      let many : length jobs ≡ length (due_of l) = as_many log l.req (log.jobs + 1) (due_of l) jobs are in
      let now : behind.jobs ≡ s.jobs + length jobs = jobs_more in
      omega (arith, more, was, many, now)

  states_so : t.states + 1 ≡ behind.states
  states_so =
      ap (λ (n : ℕ). n + 1) ((may.work l t due).holds.states ∙ states_now) ∙ sym states_more

  -- whether it replaces is told by both logs alike
  replaces_log : load_replaces s (what_of l) ≡ load_replaces log (what_of l)
  replaces_log = ap (λ (x : Seen). load_replaces x (what_of l)) (now_is e [])

  asking_then : TiesAsking entered behind tables_then.asking
  asking_then =
      asking_entered e [] t.asking e.checking entered (may.work l t due).asking l.req (may.own l t due) (may.there l t due) l.nav l.mode l.address refl refl same due.asks.outside on due.unasked (load_replaces s (what_of l)) replaces_log jobs

  pub work_then : IsAtWork (then_begun l jobs) [] tables_then
  work_then =
      cut.work_begun None e [] t (may.work l t due) l.req None (due_of l) jobs (may.own l t due) (may.begins_to_ask l t due) are entered same due.asks.outside on askable.fresh askable.sited tables_then refl sent_so states_so is.checks asking_then due.begins.notes (may.some l t due) (may.may_enter l t due) (may.unbegun l t due) (may.may_begin l t due) (may.next l t due) (may.alone l t due) (may.begins_sole l t due)

  pub owed_then : IsOwed (then_begun l jobs) []
  owed_then =
      cut.owed_begun None e [] t (may.work l t due) l.req None (due_of l) jobs (may.own l t due) (may.begins_to_ask l t due) are entered same due.asks.outside on askable.fresh askable.sited due.ready.passing.owed

  pub loose_then : IsLoose l.event [] → IsLoose (then_begun l jobs) []
  loose_then loose =
      cut.loose_begun None e [] t (may.work l t due) l.req None (due_of l) jobs (may.own l t due) (may.begins_to_ask l t due) are entered same due.asks.outside on askable.fresh askable.sited loose
