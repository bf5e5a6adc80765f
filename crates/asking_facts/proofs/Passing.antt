-- A request that begins and its questions pass each test, whatever comes later, if no further question for the request does.
use Rattle.std.proofs.Common.{◌≡◌, inl, inr, ℕ, ◌+◌, true, false, not, ◌&&◌, ◌||◌, ◌==◌, List, [], ◌∷◌, ◌++◌, map, Option, Some, None, refl, sym, ap, ◌∙◌, subst, append-nil}
use Rattle.std.specs.Prelude.{is_none, drop, filter_map, fold, take, take_while}
use Rattle.std.specs.List.{prefix_len}
use Rattle.std.proofs.lemmas.Bool.{and_parts}
use Rattle.std.proofs.lemmas.List.{take-append-drop}
use Rattle.std.proofs.lemmas.List.Elements.{filter_map-append}
use Rattle.tab_ids.specs.declared.NavId.{NavId}
use Rattle.tab_ids.specs.declared.ReqId.{ReqId}
use Rattle.tab_ids.specs.declared.Step.{Step}
use Rattle.log_model.specs.declared.action.Action.TheVariants as actions
use Rattle.log_model.specs.declared.header.Header.{Header}
use Rattle.log_model.specs.declared.job.Job.{Job}
use Rattle.log_model.specs.declared.job.Task.{Task}
use Rattle.log_model.specs.declared.job.Task.TheVariants as tasks
use Rattle.log_model.specs.declared.outcome.Denial.{Denial}
use Rattle.log_model.specs.declared.request.Mode.{Mode}
use Rattle.log_model.specs.declared.request.Request.TheVariants as requests
use Rattle.log_model.specs.declared.row_kind.LogRow.{LogRow}
use Rattle.log_model.specs.declared.row_kind.RowKind.TheVariants as rows
use Rattle.log_model.specs.ActsAtOnce.{is_order_of_use}
use Rattle.log_model.specs.Causes.{may_begin_here}
use Rattle.log_model.specs.After.{after}
use Rattle.log_model.specs.Equal.{holds, same_list}
use Rattle.log_model.specs.Events.{Point}
use Rattle.log_model.specs.Once.{has_no_earlier_load, load_begins, may_begin_request}
use Rattle.log_model.specs.Orders.{Question, asks_duly, due_questions, has_cause, is_addressed, is_question, question_in, same_question}
use Rattle.log_model.specs.Places.{is_gone, is_reload, is_traversal}
use Rattle.log_model.specs.Seen.{Asked, Seen, desk_of, document_of, request_of}
use Rattle.log_model.specs.Suits.{is_discarded_suitably, is_sent_home}
use Rattle.log_model.proofs.Refl.{nat_eq_refl, same_leaving_refl, same_list_refl}
use Rattle.seen_laws.proofs.Sendings.{both, led_follows}
use Rattle.seen_laws.proofs.Startings.{implied}
use Rattle.seen_laws.specs.Blocks.{EachPass, Here, Passes, on_row, point_at}
use Rattle.seen_laws.specs.InEvent.{InEvent, row_of}
use Rattle.seen_laws.specs.Owing.{owes_row}
use Rattle.seen_laws.specs.Sending.{is_led}
use Rattle.row_facts.proofs.FrameRows.Turns.{IsTraversalBy, traversal_by}
use Rattle.check_facts.proofs.Checked.{ask_checked}
use Rattle.check_facts.proofs.Promptings.{in_front}
use Rattle.asking_facts.proofs.Sent.{SameHomes, asked_homes, asked_own, homes_then, once_asked}
use Rattle.asking_facts.specs.Asking.{AreQuestionsFrom, BeginsToAsk, IsLoadOf, IsQuestion, IsReloadOf, IsTurnOf, MayBeginTo, PassesBut, questions_sent}

-- ---- the questions among the rows

left_empty : {A : Type 0} (xs ys : List A) → xs ++ ys ≡ [] → xs ≡ []
left_empty [] ys is = refl
left_empty (x ∷ xs) ys is = cc

-- where rows ask nothing, the first of them ask nothing
none_first : (req : ReqId) (later : List LogRow) → filter_map (question_in req) later ≡ [] → filter_map (question_in req) (take_while is_question later) ≡ []
none_first req later none =
    let n : ℕ = prefix_len is_question later in
    left_empty (filter_map (question_in req) (take n later)) (filter_map (question_in req) (drop n later))
    (sym (filter_map-append (question_in req) (take n later) (drop n later)) ∙ ap (λ (l : List LogRow). filter_map (question_in req) l) (take-append-drop n later) ∙ none)

module _ (e : InEvent) (base : Seen) (req : ReqId) where
  -- a row asks its question
  asks_one : (number : ℕ) (question : Question) (job : Job) → IsQuestion base req number question job → question_in req (row_of e (rows.Sent job)) ≡ Some question
  asks_one number question job its =
      rw its.why (rw (nat_eq_refl req.0) (rw its.task (ap (λ d. let o : Option Question = Some (d, question.1, question.2) in o) its.doc)))

  is_one : (number : ℕ) (question : Question) (job : Job) → IsQuestion base req number question job → is_question (row_of e (rows.Sent job)) ≡ true
  is_one number question job its = rw its.task refl

  -- all of them ask theirs, in order
  pub asks_all : (number : ℕ) (questions : List Question) (jobs : List Job) (later : List LogRow) → AreQuestionsFrom base req number questions jobs → filter_map (question_in req) (map (row_of e) (questions_sent jobs) ++ later) ≡ questions ++ filter_map (question_in req) later
  asks_all number [] [] later are = refl
  asks_all number (question ∷ questions) (job ∷ jobs) later are =
      let one : question_in req (row_of e (rows.Sent job)) ≡ Some question = asks_one number question job are.0 in
      rw one (ap (λ (l : List Question). question ∷ l) (asks_all (number + 1) questions jobs later are.1))
  asks_all number [] (job ∷ jobs) later are = absurd are
  asks_all number (question ∷ questions) [] later are = absurd are

  -- and stand in front
  pub all_first : (number : ℕ) (questions : List Question) (jobs : List Job) (later : List LogRow) → AreQuestionsFrom base req number questions jobs → take_while is_question (map (row_of e) (questions_sent jobs) ++ later) ≡ map (row_of e) (questions_sent jobs) ++ take_while is_question later
  all_first number [] [] later are = refl
  all_first number (question ∷ questions) (job ∷ jobs) later are =
      in_front is_question (row_of e (rows.Sent job)) (map (row_of e) (questions_sent jobs) ++ later) (is_one number question job are.0)
      ∙ ap (λ (l : List LogRow). row_of e (rows.Sent job) ∷ l) (all_first (number + 1) questions jobs later are.1)
  all_first number [] (job ∷ jobs) later are = absurd are
  all_first number (question ∷ questions) [] later are = absurd are

  -- so exactly the due ones are asked
  pub asked_duly : (start : Seen) (now : Seen) (done : List LogRow) (goal : Option Step) (q : Asked) (number : ℕ) (questions : List Question) (jobs : List Job) (later : List LogRow) → due_questions now q.what goal ≡ questions → AreQuestionsFrom base req number questions jobs → filter_map (question_in req) later ≡ [] → asks_duly (record { start = start; now = now; done = done; later = map (row_of e) (questions_sent jobs) ++ later }) req goal q ≡ true
  asked_duly start now done goal q number questions jobs later due are none =
      both (by_list (filter_map (question_in req) all) (asks_all number questions jobs later are ∙ ap (λ (l : List Question). questions ++ l) none ∙ append-nil questions))
      (by_list (filter_map (question_in req) (take_while is_question all))
      (ap (λ (l : List LogRow). filter_map (question_in req) l) (all_first number questions jobs later are)
      ∙ asks_all number questions jobs (take_while is_question later) are
      ∙ ap (λ (l : List Question). questions ++ l) (none_first req later none)
      ∙ append-nil questions))
    where
      all : List LogRow
      all = map (row_of e) (questions_sent jobs) ++ later

      itself : (question : Question) → same_question question question ≡ true
      itself question = both (both (nat_eq_refl question.0.0) (nat_eq_refl question.1)) (same_leaving_refl question.2)

      by_list : (l : List Question) → l ≡ questions → same_list same_question l (due_questions now q.what goal) ≡ true
      by_list l is = rw (is, due) (same_list_refl same_question itself questions)

-- ---- a question passes

-- its request has begun, and not before the event
pub record BeganHere (h : Here) (req : ReqId) : Type 0 where
  pub q : Asked
  pub at : request_of h.now req ≡ Some q
  pub begun : q.is_started ≡ true
  pub before : holds (λ (x : Asked). x.is_started) (request_of h.start req) ≡ false

pub led_more : (done : List LogRow) (row : LogRow) → is_led done ≡ true → is_led (done ++ row ∷ []) ≡ true
led_more [] row led = cc
led_more (own ∷ done) row led = led

module _ (e : InEvent) (base : Seen) (req : ReqId) where
  module _ (h : Here) (number : ℕ) (question : Question) (job : Job) (later : List LogRow) (its : IsQuestion base req number question job) (homes : SameHomes base h.now) (next_ : number ≡ h.now.jobs + 1) (led : is_led h.done ≡ true) (began : BeganHere h req) where
    abbrev p : Point
    p = point_at h later

    abbrev row : LogRow
    row = row_of e (rows.Sent job)

    abbrev task_ : Task
    task_ = tasks.Ask question.1 question.2

    found : document_of h.now job.doc ≡ Some its.document
    found = homes.documents job.doc ∙ its.to.found

    there : not (is_gone h.now job.doc) ≡ true
    there = rw (found, its.to.alive) refl

    addressed_ : is_addressed h.now job task_ ≡ true
    addressed_ = rw found (rw its.to.proc (nat_eq_refl job.proc.0))

    numbered : (job.nr.0 == (h.now.jobs + 1)) ≡ true
    numbered = rw (its.nr ∙ next_) (nat_eq_refl (h.now.jobs + 1))

    known : (job.incarnation == (desk_of h.now job.proc).known) ≡ true
    known =
        rw (its.incarnation ∙ sym (homes.known job.proc)) (nat_eq_refl (desk_of h.now job.proc).known)

    caused : has_cause p row job task_ ≡ true
    caused = rw its.why (rw began.at (rw (began.begun, began.before) refl))

    pub question_passes : Passes e.header p row
    question_passes =
        record {
          formed = both (led_follows h.done p row refl led refl) refl;
          once = refl;
          caused = refl;
          queued = refl;
          ordered = subst (λ (t : Task). (job.nr.0 == (h.now.jobs + 1) && is_addressed h.now job t && job.incarnation == (desk_of h.now job.proc).known && has_cause p row job t) ≡ true) (sym its.task) (both (both (both numbered addressed_) known) caused);
          checked = ask_checked p e.event e.actor job question.1 question.2 its.task;
          in_time = subst (λ (t : Task). is_order_of_use h.now job t ≡ true) (sym its.task) there;
          suits = subst (λ (t : Task). (is_sent_home e.header h.now job t && is_discarded_suitably e.header p row job t) ≡ true) (sym its.task) refl;
        }

    -- and after it all is as it was for the next
    pub began_still : BeganHere (on_row h row) req
    began_still =
        let then_ : Seen = once_asked h.now e.event e.actor job question.1 question.2 its.task in
        record {
          q = record began.q { asks = began.q.asks ++ record { job = job.nr; doc = job.doc; verdict = None; is_delivered = false } ∷ [] };
          at = asked_own h.now e.event e.actor job question.1 question.2 its.task req its.why began.q began.at;
          begun = began.begun;
          before = began.before;
        }

    pub homes_still : SameHomes base (on_row h row).now
    homes_still =
        homes_then base h.now (on_row h row).now homes (asked_homes h.now e.event e.actor job question.1 question.2 its.task)

  pub questions_pass : (h : Here) (number : ℕ) (questions : List Question) (jobs : List Job) (later : List LogRow) → h.header ≡ e.header → AreQuestionsFrom base req number questions jobs → SameHomes base h.now → number ≡ h.now.jobs + 1 → is_led h.done ≡ true → BeganHere h req → EachPass h (map (row_of e) (questions_sent jobs)) later
  questions_pass h number [] [] later header are homes next_ led began = tt
  questions_pass h number (question ∷ questions) (job ∷ jobs) later header are homes next_ led began = (
    subst (λ (x : Header). Passes x (point_at h (map (row_of e) (questions_sent jobs) ++ later)) (row_of e (rows.Sent job))) (sym header) (question_passes h number question job (map (row_of e) (questions_sent jobs) ++ later) are.0 homes next_ led began),
    questions_pass (on_row h (row_of e (rows.Sent job))) (number + 1) questions jobs later header are.1 (homes_still h number question job later are.0 homes next_ led began) (ap (λ (n : ℕ). n + 1) next_) (led_more h.done (row_of e (rows.Sent job)) led) (began_still h number question job later are.0 homes next_ led began),
  )
  questions_pass h number [] (job ∷ jobs) later header are homes next_ led began = absurd are
  questions_pass h number (question ∷ questions) [] later header are homes next_ led began = absurd are

-- ---- the request begins

-- as its questions follow
pub begin_passes : (e : InEvent) (h : Here) (req : ReqId) (goal : Option Step) (q : Asked) (questions : List Question) (jobs : List Job) (number : ℕ) (base : Seen) (later : List LogRow) → is_led h.done ≡ true → BeginsToAsk h.now req goal questions q → AreQuestionsFrom base req number questions jobs → filter_map (question_in req) later ≡ [] → PassesBut h (row_of e (rows.Started req goal)) req goal q (map (row_of e) (questions_sent jobs) ++ later) → Passes h.header (point_at h (map (row_of e) (questions_sent jobs) ++ later)) (row_of e (rows.Started req goal))
begin_passes e h req goal q questions jobs number base later led is are none but =
    record {
      formed = both (led_follows h.done (point_at h (map (row_of e) (questions_sent jobs) ++ later)) (row_of e (rows.Started req goal)) refl led refl) (rw is.at refl);
      once = rw is.at but.once;
      caused = rw is.at but.caused;
      queued = rw is.at but.queued;
      ordered = rw is.at (asked_duly e base req h.start h.now h.done goal q number questions jobs later is.due are none);
      checked = refl;
      in_time = refl;
      suits = refl;
    }

-- a traversal begins in its turn
pub turn_begins : (e : InEvent) (h : Here) (req : ReqId) (goal : Step) (q : Asked) (questions : List Question) → BeginsToAsk h.now req (Some goal) questions q → IsTurnOf h.now req goal q → MayBeginTo h (row_of e (rows.Started req (Some goal))) req (Some goal) q
turn_begins e h req goal q questions is its later pays =
    record {
      once = starts (traversal_by q.what its.delta its.asks);
      caused = begins (traversal_by q.what its.delta its.asks);
      queued = rw its.turn (implied (is_traversal q.what || is_reload q.what) refl);
    }
  where
    starts : IsTraversalBy its.delta q.what → may_begin_request (point_at h later) (row_of e (rows.Started req (Some goal))) (Some goal) q ≡ true
    starts (inl what) = rw (is.unstarted, is.open_, what) (rw its.there (nat_eq_refl goal.0))
    starts (inr poke) =
        let what : q.what ≡ requests.Poke poke.0 (actions.Go its.delta) = poke.1 in
        rw (is.unstarted, is.open_, what) (rw its.there (nat_eq_refl goal.0))

    begins : IsTraversalBy its.delta q.what → may_begin_here h.now q ≡ true
    begins (inl what) = rw what refl
    begins (inr poke) = let what : q.what ≡ requests.Poke poke.0 (actions.Go its.delta) = poke.1 in rw what refl

-- a load begins in the event of its acceptance
pub load_begins_to : (e : InEvent) (h : Here) (req : ReqId) (nav : NavId) (mode : Mode) (address : List ℕ) (q : Asked) (questions : List Question) → BeginsToAsk h.now req None questions q → IsLoadOf h req nav mode address q → MayBeginTo h (row_of e (rows.Started req None)) req None q
load_begins_to e h req nav mode address q questions is its later pays =
    record { once = starts; caused = rw its.what refl; queued = rw its.what refl }
  where
    row : LogRow
    row = row_of e (rows.Started req None)

    end : Seen
    end = fold after (after h.now row) later

    owed : owes_row h row end ≡ true
    owed = (and_parts (owes_row h row end) true pays).0

    read : owes_row h row end ≡ has_no_earlier_load end q.nr nav
    read = rw is.at (rw its.what refl)

    begins : load_begins (point_at h later) q nav address ≡ true
    begins = rw its.number (rw (its.accepted, its.placed) (rw its.there (rw its.anew refl)))

    starts : may_begin_request (point_at h later) row None q ≡ true
    starts = rw (is.unstarted, is.open_) (rw its.what (both begins (sym read ∙ owed)))

-- a reload begins in its turn, where its navigable has an entry and nothing is a reason to refuse it
pub reload_begins_to : (e : InEvent) (h : Here) (req : ReqId) (nav : NavId) (q : Asked) (questions : List Question) → BeginsToAsk h.now req None questions q → IsReloadOf h.now req nav q → MayBeginTo h (row_of e (rows.Started req None)) req None q
reload_begins_to e h req nav q questions is its later pays =
    record {
      once = rw (is.unstarted, is.open_) (rw its.what refl);
      caused = rw its.what (both its.has (ap (λ (o : Option Denial). is_none o) its.undenied));
      queued = rw its.turn (implied (is_traversal q.what || is_reload q.what) refl);
    }
