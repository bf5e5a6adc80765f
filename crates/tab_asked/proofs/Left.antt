-- Once a traversal has begun in a calm tab and asked whom it is due to ask, whom requests leave was asked for it.
use Rattle.asking_facts.proofs.Begun.{block_log}
use Rattle.asking_facts.specs.Asking.{AreQuestions, AreQuestionsFrom, begun_asking, questions_sent}
use Rattle.leave_facts.proofs.Awakes.{AsksDue, asks_due}
use Rattle.leave_facts.proofs.Bares.{calm_log, hangs_log, homes_log}
use Rattle.leave_facts.proofs.Begins.{AreQuestions as AreQuestionsFor, sent_row}
use Rattle.leave_facts.proofs.Carried.{AreLeftDuly, traversal_duly}
use Rattle.log_model.specs.After.{after}
use Rattle.log_model.specs.History.{has_row}
use Rattle.log_model.specs.Orders.{Question, due_questions}
use Rattle.log_model.specs.Places.{is_awake, is_traversal}
use Rattle.log_model.specs.Seen.{Asked, Place, Seen, request_of}
use Rattle.log_model.specs.Soundness.{IsSound}
use Rattle.log_model.specs.declared.job.Job.{Job}
use Rattle.log_model.specs.declared.row_kind.LogRow.{LogRow}
use Rattle.log_model.specs.declared.row_kind.RowKind.TheVariants as rows
use Rattle.log_model.specs.declared.row_kind.RowKind.{RowKind}
use Rattle.seen_facts.specs.Hang.Hanging.{Hangs}
use Rattle.seen_facts.specs.Home.Homes.{AreHomed}
use Rattle.seen_laws.specs.InEvent.{InEvent, log_of, row_of}
use Rattle.seen_laws.specs.Unasked.{unasked}
use Rattle.std.proofs.Common.{List, Some, [], ap, false, inl, inr, map, refl, subst, sym, true, ℕ, ◌+◌, ◌++◌, ◌∙◌, ◌∷◌, ◌≡◌, ◌⊎◌}
use Rattle.std.specs.Prelude.{fold}
use Rattle.tab_facts.specs.Calm.Calm.{IsCalm, IsCalmYet, IsHere}
use Rattle.tab_ids.specs.declared.DocId.{DocId}
use Rattle.tab_ids.specs.declared.NavId.{NavId}
use Rattle.tab_ids.specs.declared.ReqId.{ReqId}
use Rattle.tab_ids.specs.declared.Step.{Step}

-- ---- the orders

-- each asks for the request
for_request : (base : Seen) (req : ReqId) (number : ℕ) (questions : List Question) (jobs : List Job) → AreQuestionsFrom base req number questions jobs → AreQuestionsFor req jobs
for_request base req number [] [] are = tt
for_request base req number (question ∷ questions) (job ∷ jobs) are = (
  record { why = are.0.why; slot = question.1; cause = question.2; task = are.0.task },
  for_request base req (number + 1) questions jobs are.1,
)
for_request base req number [] (job ∷ jobs) are = absurd are
for_request base req number (question ∷ questions) [] are = absurd are

-- the document of its question
same_docs : (base : Seen) (req : ReqId) (number : ℕ) (questions : List Question) (jobs : List Job) → AreQuestionsFrom base req number questions jobs → map (λ (job : Job). job.doc) jobs ≡ map (λ (question : Question). question.0) questions
same_docs base req number [] [] are = refl
same_docs base req number (question ∷ questions) (job ∷ jobs) are =
    ap (λ (doc : DocId). doc ∷ map (λ (x : Job). x.doc) jobs) are.0.doc
    ∙ ap (λ (docs : List DocId). question.0 ∷ docs) (same_docs base req (number + 1) questions jobs are.1)
same_docs base req number [] (job ∷ jobs) are = absurd are
same_docs base req number (question ∷ questions) [] are = absurd are

same_rows : (e : InEvent) (jobs : List Job) → map (row_of e) (questions_sent jobs) ≡ map (sent_row e.event e.actor) jobs
same_rows e [] = refl
same_rows e (job ∷ jobs) = ap (λ (l : List LogRow). row_of e (rows.Sent job) ∷ l) (same_rows e jobs)

-- ---- a tab that is calm is so but for navigables without an entry

pub calm_yet : (s : Seen) → IsCalm s → IsCalmYet s
calm_yet s calm =
    record {
      here = λ nav place doc at wakes. by_here nav place (calm.here nav place doc at wakes);
      wakes = λ nav place at shown ever. by_wakes nav place (calm.wakes nav place at shown ever);
    }
  where
    by_here : (nav : NavId) (place : Place) → ⊥ ⊎ IsHere s place → (has_row nav s.history.rows ≡ false) ⊎ IsHere s place
    by_here nav place (inl never) = absurd never
    by_here nav place (inr here) = inr here

    by_wakes : (nav : NavId) (place : Place) → ⊥ ⊎ (is_awake place ≡ true) → (has_row nav s.history.rows ≡ false) ⊎ (is_awake place ≡ true)
    by_wakes nav place (inl never) = absurd never
    by_wakes nav place (inr wakes) = inr wakes

-- ---- the rows

pub asked_duly : (e : InEvent) (out : List RowKind) (checking : ReqId → _) → AreLeftDuly (log_of e out) → IsSound (log_of e out).history → Hangs (unasked checking (log_of e out)) → AreHomed (unasked checking (log_of e out)) → IsCalm (unasked checking (log_of e out)) → (req : ReqId) (goal : Step) (q : Asked) → request_of (log_of e out) req ≡ Some q → is_traversal q.what ≡ true → (jobs : List Job) → AreQuestions (log_of e out) req (due_questions (log_of e out) q.what (Some goal)) jobs → AreLeftDuly (log_of e (out ++ begun_asking req (Some goal) jobs))
asked_duly e out checking duly sound hangs homes calm req goal q at goes jobs are =
    subst AreLeftDuly (sym rows_are)
    (traversal_duly now e.event e.actor duly sound (hangs_log checking now hangs) (homes_log checking now homes) req q at jobs (for_request now req (now.jobs + 1) questions jobs are) goal goes (calm_log checking now (calm_yet (unasked checking now) calm)) due)
  where
    now : Seen
    now = log_of e out

    questions : List Question
    questions = due_questions now q.what (Some goal)

    due : AsksDue now q.what (Some goal) jobs
    due = asks_due now q.what (Some goal) jobs (same_docs now req (now.jobs + 1) questions jobs are)

    first : Seen
    first = after now (row_of e (rows.Started req (Some goal)))

    rows_are : log_of e (out ++ begun_asking req (Some goal) jobs) ≡ fold after first (map (sent_row e.event e.actor) jobs)
    rows_are =
        block_log e out req (Some goal) jobs ∙ ap (λ (l : List LogRow). fold after first l) (same_rows e jobs)
