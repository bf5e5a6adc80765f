-- A request begins and asks, and the event is cut behind that: its coordinator goes on working, and what the rows so far owed is what is due.
use Rattle.tab_doors.proofs.Wanted.{come_on}
use Rattle.asking_facts.proofs.Begun.{block_log}
use Rattle.asking_facts.proofs.Sent.{when_asked}
use Rattle.asking_facts.proofs.Standing.{begun_stands}
use Rattle.asking_facts.specs.Asking.{AreQuestions, AreQuestionsFrom, AreSome, BeginsToAsk, MayBeginTo, begun_asking, checks_begun, questions_sent}
use Rattle.asking_facts.specs.Prompting.{NotesWanted}
use Rattle.asking_facts.specs.Standing.{StandsAsked}
use Rattle.checking_facts.proofs.Grown.{req_same}
use Rattle.checking_facts.proofs.Waits.{none_waits}
use Rattle.checking_facts.specs.Checks.{MayEnter, NoOtherUnderWay, SameBut}
use Rattle.checking_facts.specs.Prompts.{told_by}
use Rattle.checking_facts.specs.States.{IsNextState}
use Rattle.log_model.specs.After.{after, states_after}
use Rattle.log_model.specs.Orders.{Question}
use Rattle.log_model.specs.Places.{is_traversal}
use Rattle.log_model.specs.Seen.{Asked, Seen}
use Rattle.log_model.specs.declared.job.Job.{Job}
use Rattle.log_model.specs.declared.row_kind.LogRow.{LogRow}
use Rattle.log_model.specs.declared.row_kind.RowKind.TheVariants as rows
use Rattle.log_model.specs.declared.row_kind.RowKind.{RowKind}
use Rattle.row_facts.specs.Owed.Owed.{IsLoose, IsOwed, Lasts, Stays, owes_seen}
use Rattle.seen_laws.specs.InEvent.{InEvent, begins, cut, here_of, log_of, now_of, row_of}
use Rattle.std.proofs.Common.{Bool, List, None, Option, Some, [], ap, append_assoc, arith, false, length, map, refl, subst, sym, true, ℕ, ◌+◌, ◌++◌, ◌==◌, ◌∙◌, ◌∷◌, ◌≡◌, ◌≤◌}
use Rattle.std.specs.List.{list_any}
use Rattle.tab_cuts.proofs.Counted.{counted, lasts_before, stays_before, ties_counted}
use Rattle.tab_cuts.proofs.Debts.{EachOwesSole, debts_entered}
use Rattle.tab_cuts.proofs.Owed.{loose_cut, owed_cut}
use Rattle.tab_cuts.proofs.Silent.{begun_silent}
use Rattle.tab_cuts.proofs.Twice.{AreAmong}
use Rattle.tab_cuts.proofs.Works.{calm_beside, ties_beside, work_behind}
use Rattle.tab_cuts.specs.Cut.{TiesCut}
use Rattle.tab_doors.proofs.Works.{BeginsSole, soles_more}
use Rattle.tab_doors.specs.AskingLoads.{TiesAsking}
use Rattle.tab_doors.specs.Keeping.{Move}
use Rattle.tab_doors.specs.Working.{IsAhead, IsAtWorkFor, IsToCome, next_shown}
use Rattle.tab_doors.specs.declared.tables.Tables.{Tables}
use Rattle.tab_ids.specs.declared.ReqId.{ReqId}
use Rattle.tab_ids.specs.declared.Step.{Step}
use Rattle.unasked.proofs.Whole.{silent}
use Rattle.unasked.specs.Premises.{AreFresh, all_sited}
use Rattle.unasked_dues.specs.Checking.{unasked}
use Rattle.unasked_dues.specs.Reading.{AreDebts, BeginSole}

-- ---- what its rows are

-- they owe no more than that it is the only load of its navigable, if it is one
questions_sole : (jobs : List Job) → EachOwesSole (questions_sent jobs)
questions_sole [] = tt
questions_sole (job ∷ jobs) = (tt, questions_sole jobs)

block_owes : (req : ReqId) (goal : Option Step) (jobs : List Job) → EachOwesSole (begun_asking req goal jobs)
block_owes req goal jobs = (tt, questions_sole jobs)

-- questions begin no load
soles_asked : (e : InEvent) (out : List RowKind) (jobs : List Job) → BeginSole e out (log_of e out) → BeginSole e (out ++ questions_sent jobs) (log_of e (out ++ questions_sent jobs))
soles_asked e out [] sole = subst (λ (l : List RowKind). BeginSole e l (log_of e l)) (sym (append_nil_ out)) sole
  where
    append_nil_ : (l : List RowKind) → l ++ [] ≡ l
    append_nil_ [] = refl
    append_nil_ (k ∷ l) = ap (λ (r : List RowKind). k ∷ r) (append_nil_ l)
soles_asked e out (job ∷ jobs) sole =
    subst (λ (l : List RowKind). BeginSole e l (log_of e l)) (append_assoc out (rows.Sent job ∷ []) (questions_sent jobs))
    (soles_asked e (out ++ rows.Sent job ∷ []) jobs (soles_more e out (rows.Sent job) tt sole))

-- and show nothing
asked_ahead : (e : InEvent) (base : Seen) (req : ReqId) (number : ℕ) (questions : List Question) (jobs : List Job) (later : List LogRow) → AreQuestionsFrom base req number questions jobs → next_shown (map (row_of e) (questions_sent jobs) ++ later) ≡ next_shown later
asked_ahead e base req number [] [] later are = refl
asked_ahead e base req number (question ∷ questions) (job ∷ jobs) later are =
    rw (are.0.task) (asked_ahead e base req (number + 1) questions jobs later are.1)
asked_ahead e base req number [] (job ∷ jobs) later are = absurd are
asked_ahead e base req number (question ∷ questions) [] later are = absurd are

-- how many orders there are then
jobs_asked : (e : InEvent) (s : Seen) (jobs : List Job) → s.jobs ≤ (when_asked e s jobs).jobs
jobs_asked e s [] = omega (arith)
jobs_asked e s (job ∷ jobs) =
    let one : (after s (row_of e (rows.Sent job))).jobs ≡ s.jobs + 1 = refl in
    let rest : (after s (row_of e (rows.Sent job))).jobs ≤ (when_asked e (after s (row_of e (rows.Sent job))) jobs).jobs = jobs_asked e (after s (row_of e (rows.Sent job))) jobs in
    omega (arith, one, rest)

-- one more with each question
jobs_counted : (e : InEvent) (s : Seen) (jobs : List Job) → (when_asked e s jobs).jobs ≡ s.jobs + length jobs
jobs_counted e s [] = omega (arith)
jobs_counted e s (job ∷ jobs) =
    let one : (after s (row_of e (rows.Sent job))).jobs ≡ s.jobs + 1 = refl in
    let rest : (when_asked e (after s (row_of e (rows.Sent job))) jobs).jobs ≡ (after s (row_of e (rows.Sent job))).jobs + length jobs = jobs_counted e (after s (row_of e (rows.Sent job))) jobs in
    omega (arith, one, rest)

states_asked : (e : InEvent) (s : Seen) (jobs : List Job) → (when_asked e s jobs).states ≡ s.states
states_asked e s [] = refl
states_asked e s (job ∷ jobs) = states_asked e (after s (row_of e (rows.Sent job))) jobs

-- how many orders and document states there are behind it: an order for each question, and a state if it is a load
pub begun_jobs : (e : InEvent) (out : List RowKind) (req : ReqId) (goal : Option Step) (jobs : List Job) → (log_of e (out ++ begun_asking req goal jobs)).jobs ≡ (log_of e out).jobs + length jobs
begun_jobs e out req goal jobs =
    ap (λ (s : Seen). s.jobs) (block_log e out req goal jobs) ∙ jobs_counted e (after (log_of e out) (row_of e (rows.Started req goal))) jobs

pub begun_states : (e : InEvent) (out : List RowKind) (req : ReqId) (goal : Option Step) (jobs : List Job) → (log_of e (out ++ begun_asking req goal jobs)).states ≡ states_after (log_of e out) (rows.Started req goal)
begun_states e out req goal jobs =
    ap (λ (s : Seen). s.states) (block_log e out req goal jobs) ∙ states_asked e (after (log_of e out) (row_of e (rows.Started req goal))) jobs

-- ---- a coordinator at work stands beside its checks

pub stands_work : (move : Option Move) (but : ReqId → Bool) (e : InEvent) (out : List RowKind) (t : Tables) → IsAtWorkFor move e out t → NotesWanted (log_of e out) (told_by e.ran t.checks out).checks → StandsAsked (IsToCome move e out) but e out (told_by e.ran t.checks out)
stands_work move but e out t work notes =
    record {
      pass = work.lawful;
      asked = work.asked;
      checks = work.checks;
      none = none_waits e.checking (log_of e out) work.calm but;
      notes = notes;
    }

-- ---- the event is cut behind a request that begins and asks

module _ (move : Option Move) (e : InEvent) (out : List RowKind) (t : Tables) (work : IsAtWorkFor move e out t) (req : ReqId) (goal : Option Step) (questions : List Question) (jobs : List Job) (q : Asked) (begins_ : BeginsToAsk (log_of e out) req goal questions q) (are : AreQuestions (log_of e out) req questions jobs) (entered : ReqId → Bool) (same : SameBut req e.checking entered) (off : e.checking req ≡ false) (on : entered req ≡ true) (fresh : AreFresh (log_of e out).requests) (sited : all_sited (log_of e out) ≡ true) where
  abbrev block : List RowKind
  block = begun_asking req goal jobs

  abbrev behind : Seen
  behind = log_of e (out ++ block)

  abbrev pub then_begun : InEvent
  then_begun = cut e (out ++ block) entered (owes_seen e out)

  -- whoever was in its check is
  among : AreAmong e.checking entered
  among r was = by_number (r.0 == req.0) refl
    where
      by_number : (b : Bool) → (r.0 == req.0) ≡ b → entered r ≡ true
      by_number true is = ap entered (req_same r req is) ∙ on
      by_number false apart = same r apart ∙ was

  -- what the rows so far owed is due
  pub debts_begun : AreDebts then_begun
  debts_begun = debts_entered e out block entered among work.numbered work.read work.debts (block_owes req goal jobs)

  silent_then : unasked entered behind ≡ silent (now_of e out) e.event behind.jobs behind.states
  silent_then = begun_silent e out req goal questions jobs q begins_ are entered same on work.checks.numbered fresh sited

  -- each end pays it that paid it
  pub owed_begun : IsOwed e out → IsOwed then_begun []
  owed_begun owed =
      owed_cut e (out ++ block) entered (owes_seen e out) (λ end stays. owed end (stays_before (now_of e out) e.event behind.jobs behind.states end (subst (λ (s : Seen). Stays s end) silent_then stays)))

  pub loose_begun : IsLoose e out → IsLoose then_begun []
  loose_begun loose =
      loose_cut e (out ++ block) entered (owes_seen e out) (λ end lasts. loose end (lasts_before (now_of e out) e.event behind.jobs behind.states end (subst (λ (s : Seen). Lasts s end) silent_then lasts)))

  -- the tables tie to it, which were as they are but for what they count
  pub ties_begun : (u : Tables) → u ≡ counted (now_of e out) e.event behind.jobs behind.states move t u → length u.sent.items ≡ behind.jobs + 1 → u.states ≡ behind.states → TiesCut move (unasked entered behind) u
  unfolding now_of
  ties_begun u is sent states =
      subst (λ (s : Seen). TiesCut move s u) (sym silent_then) (ties_counted (now_of e out) e.event behind.jobs behind.states move t u is sent states more (ties_beside move e out t work))
    where
      more : (now_of e out).jobs ≤ behind.jobs
      more =
          subst (λ (s : Seen). (log_of e out).jobs ≤ s.jobs) (sym (block_log e out req goal jobs)) (jobs_asked e (after (log_of e out) (row_of e (rows.Started req goal))) jobs)

  -- it is at work
  module _ (u : Tables) (is : u ≡ counted (now_of e out) e.event behind.jobs behind.states move t u) (sent : length u.sent.items ≡ behind.jobs + 1) (states : u.states ≡ behind.states) (checks : u.checks ≡ checks_begun (told_by e.ran t.checks out) req questions) where
    pub work_begun : TiesAsking entered behind u.asking → (notes : NotesWanted (log_of e out) (told_by e.ran t.checks out).checks) → AreSome questions → MayEnter q → list_any (begins req) (e.before ++ out) ≡ false → MayBeginTo (here_of e out) (row_of e (rows.Started req goal)) req goal q → IsNextState (log_of e out) (record { 0 = (log_of e out).states + 1 }) → (is_traversal q.what ≡ true → NoOtherUnderWay (log_of e out) req) → BeginsSole e out (rows.Started req goal) → IsAtWorkFor move then_begun [] u
    work_begun asking notes some may unbegun begin next goes_not begins_sole =
        work_behind move e (out ++ block) entered (owes_seen e out) u nobody work.own work.worker work.numbered sole debts_begun stands (ties_begun u is sent states) asking (calm_beside (IsToCome move then_begun []) then_begun [] (record { checks = u.checks; run = [] }) stands)
      where
        nobody : ReqId → Bool
        nobody r = false

        first : List RowKind
        first = out ++ rows.Started req goal ∷ []

        sole : BeginSole e (out ++ block) behind
        sole =
            subst (λ (l : List RowKind). BeginSole e l (log_of e l)) (append_assoc out (rows.Started req goal ∷ []) (questions_sent jobs))
            (soles_asked e first jobs (soles_more e out (rows.Started req goal) begins_sole work.sole))

        ahead : (later : List LogRow) → IsAhead move later → IsAhead move (map (row_of e) block ++ later)
        ahead later = by_move move
          where
            by_move : (m : Option Move) → IsAhead m later → IsAhead m (map (row_of e) block ++ later)
            by_move None there = tt
            by_move (Some m) there = asked_ahead e (log_of e out) req ((log_of e out).jobs + 1) questions jobs later are ∙ there

        stands : StandsAsked (IsToCome move then_begun []) nobody then_begun [] (record { checks = u.checks; run = [] })
        stands =
            subst (λ (c : _). StandsAsked (IsToCome move then_begun []) nobody then_begun [] (record { checks = c; run = [] })) (sym checks)
            (begun_stands e out (told_by e.ran t.checks out) (IsToCome move e out) nobody (stands_work move nobody e out t work notes) work.calm req goal questions jobs q begins_ are some may work.own unbegun off (IsToCome move then_begun []) entered (owes_seen e out) same on (λ later is. come_on move move e out block later (ahead later) is) begin next goes_not)
