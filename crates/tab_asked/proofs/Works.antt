-- A traversal has begun and asked, as the tables tell: the event is cut there, and its coordinator goes on working.
use Rattle.tab_doors.specs.PassedOn.{Load}
use Rattle.tab_cuts.proofs.Asking.{asking_begun}
use Rattle.tab_doors.specs.AskingLoads.{TiesAsking}
use Rattle.asking_facts.specs.Asking.{AreQuestions, AreQuestionsFrom, AreSome}
use Rattle.asking_facts.specs.Known.{IsAskable}
use Rattle.asking_facts.specs.Noting.{IsAllTied}
use Rattle.asking_facts.specs.Prompting.{AllWanted}
use Rattle.checking_facts.specs.Checks.{SameBut}
use Rattle.checking_facts.specs.Prompts.{told_by}
use Rattle.log_model.proofs.Refl.{nat_eq_refl}
use Rattle.log_model.specs.After.{states_after}
use Rattle.log_model.specs.Orders.{Question, due_questions}
use Rattle.log_model.specs.Places.{is_load}
use Rattle.log_model.specs.Seen.{Asked, Seen}
use Rattle.log_model.specs.declared.job.Job.{Job}
use Rattle.log_model.specs.declared.row_kind.RowKind.TheVariants as rows
use Rattle.log_model.specs.declared.row_kind.RowKind.{RowKind}
use Rattle.seen_laws.proofs.InEvents.{now_is}
use Rattle.seen_laws.specs.InEvent.{InEvent, log_of, now_of}
use Rattle.seen_laws.specs.Unasked.{unasked}
use Rattle.std.proofs.Common.{Bool, List, None, Some, [], ap, arith, false, length, refl, subst, suc, sym, true, ℕ, ◌+◌, ◌∙◌, ◌∷◌, ◌≡◌}
use Rattle.tab_asked.proofs.Notes.{all_noted}
use Rattle.tab_asked.proofs.Traversals.{no_load}
use Rattle.tab_asked.specs.Asked.{GoesOnAsking, MayAsk, entered_by, log_asked}
use Rattle.tab_asks.specs.Asks.{HasBegunCheck}
use Rattle.tab_cuts.proofs.Begun as begun
use Rattle.tab_cuts.proofs.Counted.{counted}
use Rattle.tab_cuts.proofs.Silent.{begun_silent}
use Rattle.tab_doors.specs.Working.{IsAtWork}
use Rattle.tab_doors.specs.declared.tables.Tables.{Tables}
use Rattle.tab_ids.specs.declared.ReqId.{ReqId}
use Rattle.tab_ids.specs.declared.Step.{Step}
use Rattle.unasked.proofs.Whole.{silent}
use Rattle.unload_check.specs.Checks.{after_all_deaths}

-- there is an order for each question
as_many : (base : Seen) (req : ReqId) (number : ℕ) (questions : List Question) (jobs : List Job) → AreQuestionsFrom base req number questions jobs → length jobs ≡ length questions
as_many base req number [] [] are = refl
as_many base req number (question ∷ questions) (job ∷ jobs) are =
    ap suc (as_many base req (number + 1) questions jobs are.1)
as_many base req number [] (job ∷ jobs) are = absurd are
as_many base req number (question ∷ questions) [] are = absurd are

-- this request alone enters its check
pub entered_same : (checking : ReqId → Bool) (req : ReqId) → SameBut req checking (entered_by checking req)
entered_same checking req r apart = rw apart refl

pub entered_on : (checking : ReqId → Bool) (req : ReqId) → entered_by checking req req ≡ true
entered_on checking req = rw (nat_eq_refl req.0) refl

module _ (e : InEvent) (out : List RowKind) (t : Tables) (work : IsAtWork e out t) (req : ReqId) (goal : Step) (q : Asked) (may : MayAsk e out req goal q) (some : AreSome (due_questions (log_of e out) q.what (Some goal))) (jobs : List Job) (are : AreQuestions (log_of e out) req (due_questions (log_of e out) q.what (Some goal)) jobs) (askable : IsAskable (log_of e out)) (u : Tables) (is : HasBegunCheck e.ran out req (due_questions (log_of e out) q.what (Some goal)) t u) where
  abbrev log : Seen
  log = log_of e out

  abbrev questions : List Question
  questions = due_questions log q.what (Some goal)

  abbrev behind : Seen
  behind = log_asked e out req goal jobs

  abbrev entered : ReqId → Bool
  entered = entered_by e.checking req

  same : SameBut req e.checking entered
  same = entered_same e.checking req

  on : entered req ≡ true
  on = entered_on e.checking req

  -- no document state was numbered
  states_same : behind.states ≡ log.states
  states_same =
      let load_none : is_load q.what ≡ false = no_load q.what may.goes in
      let at = may.asks.at in
      begun.begun_states e out req (Some goal) jobs ∙ (let none : states_after log (rows.Started req (Some goal)) ≡ log.states = rw at (rw load_none refl) in none)

  now_silent : unasked entered behind ≡ silent (now_of e out) e.event behind.jobs (now_of e out).states
  now_silent =
      begun_silent e out req (Some goal) questions jobs q may.asks are entered same on work.checks.numbered askable.fresh askable.sited
      ∙ ap (λ (n : ℕ). silent (now_of e out) e.event behind.jobs n) (states_same ∙ sym (ap (λ (x : Seen). x.states) (now_is e out)))

  -- but an order for each question
  jobs_are : behind.jobs ≡ (now_of e out).jobs + length jobs
  jobs_are =
      begun.begun_jobs e out req (Some goal) jobs ∙ sym (ap (λ (x : Seen). x.jobs + length jobs) (now_is e out))

  -- the loads in their checks are those of before
  asking_same : u.asking ≡ t.asking
  asking_same = ap (λ (x : Tables). x.asking) is.only

  asking_then : TiesAsking entered behind u.asking
  asking_then =
      subst (λ (l : List Load). TiesAsking entered behind l) (sym asking_same) (asking_begun e out t e.checking entered work.asking req (Some goal) q may.asks.at (no_load q.what may.goes) same may.off on jobs)

  -- the tables count them
  counted_so : u ≡ counted (now_of e out) e.event behind.jobs behind.states None t u
  counted_so =
      is.only
      ∙ ap (λ (n : ℕ). let x : Tables = record t { sent = u.sent; states = n; checks = u.checks } in x) (sym (ap (λ (x : Tables). x.states) is.only))
      ∙ ap (λ (l : List Load). let x : Tables = record t { sent = u.sent; states = u.states; asking = l; checks = u.checks } in x) (sym asking_same)

  sent_so : length u.sent.items ≡ behind.jobs + 1
  sent_so =
      let more : length u.sent.items ≡ length t.sent.items + length questions = is.counted in
      let was : length t.sent.items ≡ (now_of e out).jobs + 1 = work.holds.sent in
      let many : length jobs ≡ length questions = as_many log req (log.jobs + 1) questions jobs are in
      let now : behind.jobs ≡ (now_of e out).jobs + length jobs = jobs_are in
      omega (arith, more, was, many, now)

  states_so : u.states ≡ behind.states
  states_so =
      ap (λ (x : Tables). x.states) is.only ∙ work.holds.states ∙ ap (λ (x : Seen). x.states) (now_is e out) ∙ sym states_same

  -- the coordinator goes on, where each check that is settled has its prompt up
  pub goes_on : IsAllTied log (after_all_deaths (told_by e.ran t.checks out).run (told_by e.ran t.checks out).checks) → AllWanted log → GoesOnAsking e out req goal jobs u
  goes_on settled wanted =
      record {
        work = begun.work_begun None e out t work req (Some goal) questions jobs q may.asks are entered same may.off on askable.fresh askable.sited u counted_so sent_so states_so is.checks asking_then (all_noted e.checking e.start log (told_by e.ran t.checks out) work.asked settled wanted) some may.enters may.unbegun may.turn may.next (λ goes. may.alone) may.sole;
        owed = begun.owed_begun None e out t work req (Some goal) questions jobs q may.asks are entered same may.off on askable.fresh askable.sited;
        ties = begun.ties_begun None e out t work req (Some goal) questions jobs q may.asks are entered same may.off on askable.fresh askable.sited u counted_so sent_so states_so;
        same = now_silent;
        more = (let now : behind.jobs ≡ (now_of e out).jobs + length jobs = jobs_are in omega (arith, now));
      }
