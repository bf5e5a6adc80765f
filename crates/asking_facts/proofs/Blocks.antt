-- Rows so far go on to pass with a block of rows behind them: a request that begins, and its questions.
use Rattle.std.proofs.Common.{◌≡◌, ℕ, ◌+◌, Bool, true, false, ◌||◌, ◌==◌, List, [], ◌∷◌, ◌++◌, map, Option, None, refl, sym, ap, ◌∙◌, subst, append_assoc}
use Rattle.std.specs.Prelude.{filter_map, fold}
use Rattle.std.specs.List.{list_any}
use Rattle.std.proofs.lemmas.Bool.{or_left, or_right}
use Rattle.tab_ids.specs.declared.DocId.{DocId}
use Rattle.tab_ids.specs.declared.ReqId.{ReqId}
use Rattle.tab_ids.specs.declared.Step.{Step}
use Rattle.log_model.specs.declared.job.Job.{Job}
use Rattle.log_model.specs.declared.row_kind.LogRow.{LogRow}
use Rattle.log_model.specs.declared.row_kind.RowKind.{RowKind}
use Rattle.log_model.specs.declared.row_kind.RowKind.TheVariants as rows
use Rattle.log_model.specs.After.{after}
use Rattle.log_model.specs.Checks.{is_of_run}
use Rattle.log_model.specs.Orders.{Question, question_in}
use Rattle.log_model.specs.Queue.{is_traverse}
use Rattle.log_model.specs.Seen.{Seen}
use Rattle.log_model.proofs.Refl.{nat_eq_refl}
use Rattle.seen_laws.proofs.InEvents.{later_more, pass_more, pays_more}
use Rattle.seen_laws.specs.Blocks.{EachPass}
use Rattle.seen_laws.specs.InEvent.{InEvent, IsTakenIn, begins, here_of, later_of, log_of, now_of, row_of, rows_of, start_of}
use Rattle.seen_laws.specs.Owing.{Pays}
use Rattle.row_facts.specs.FrameRows.Lawful.{IsRestOf, ends_among, has_traversed, held_at_first}
use Rattle.check_facts.proofs.Agreeing.{agree_none, agree_other}
use Rattle.check_facts.proofs.Events.{now_rows}
use Rattle.check_facts.proofs.Promptings.{none_front}
use Rattle.check_facts.proofs.Runs.{come_more, come_rows}
use Rattle.check_facts.specs.Prompting.{AreAside, PromptsCome, none_ran, todo_of}
use Rattle.checking_facts.proofs.Grown.{req_same}
use Rattle.checking_facts.proofs.Tellings.{runs_now, told_agrees, told_notes, told_numbers}
use Rattle.checking_facts.specs.Prompts.{HasRun, PassIf, Told}
use Rattle.unload_check.specs.Checks.{after_all_deaths}
use Rattle.asking_facts.proofs.Sent.{all_parked}
use Rattle.asking_facts.specs.Asking.{AreQuestionsFrom, begun_asking, questions_sent}

-- ---- a list of rows more

any_more : {A : Type 0} (test : A → Bool) (out more : List A) → list_any test out ≡ true → list_any test (out ++ more) ≡ true
any_more test [] more is = cc
any_more test (kind ∷ out) more is = by_test (test kind) (any_more test out more) is
  where
    by_test : (b : Bool) → (list_any test out ≡ true → list_any test (out ++ more) ≡ true) → (b || list_any test out) ≡ true → (b || list_any test (out ++ more)) ≡ true
    by_test true rest is = refl
    by_test false rest is = rest is

any_behind : (test : RowKind → Bool) (out : List RowKind) (kind : RowKind) (more : List RowKind) → test kind ≡ true → list_any test (out ++ kind ∷ more) ≡ true
any_behind test [] kind more is = or_left (test kind) (list_any test more) is
any_behind test (first ∷ out) kind more is =
    or_right (test first) (list_any test (out ++ kind ∷ more)) (any_behind test out kind more is)

traversed_more : (e : InEvent) (out more : List RowKind) → has_traversed e out ≡ true → has_traversed e (out ++ more) ≡ true
traversed_more e out more is =
    subst (λ (rows : List LogRow). list_any is_traverse rows ≡ true) (sym (later_more e out more)) (any_more is_traverse (later_of e out) (map (row_of e) more) is)

begun_more : (e : InEvent) (out more : List RowKind) (req : ReqId) → list_any (begins req) (e.before ++ out) ≡ true → list_any (begins req) (e.before ++ (out ++ more)) ≡ true
begun_more e out more req is =
    subst (λ (l : List RowKind). list_any (begins req) l ≡ true) (append_assoc e.before out more) (any_more (begins req) (e.before ++ out) more is)

begun_behind : (e : InEvent) (out : List RowKind) (kind : RowKind) (more : List RowKind) (req : ReqId) → begins req kind ≡ true → list_any (begins req) (e.before ++ (out ++ kind ∷ more)) ≡ true
begun_behind e out kind more req is =
    subst (λ (l : List RowKind). list_any (begins req) l ≡ true) (append_assoc e.before out (kind ∷ more)) (any_behind (begins req) (e.before ++ out) kind more is)

rows_later : (e : InEvent) (out more : List RowKind) (later : List LogRow) → (later_of e (out ++ more) ++ later) ≡ (later_of e out ++ (map (row_of e) more ++ later))
rows_later e out more later =
    ap (λ (rows : List LogRow). rows ++ later) (later_more e out more)
    ∙ append_assoc (later_of e out) (map (row_of e) more) later

-- ---- rows beside the prompts to come, behind those so far

-- the table is told of the run that the first of them ends
pub pass_rows : (e : InEvent) (out : List RowKind) (told : Told) (run : HasRun e.start (log_of e out) told) (first : RowKind) (more : List RowKind) (Before Rest : List LogRow → Type 0) → ((later : List LogRow) → Rest later → Before (map (row_of e) (first ∷ more) ++ later)) → AreAside e.start (todo_of (after_all_deaths told.run told.checks)) (log_of e out) (map (row_of e) (first ∷ more)) → ((later : List LogRow) → IsRestOf e (out ++ first ∷ more) later → Rest later → IsRestOf e out (map (row_of e) (first ∷ more) ++ later) × EachPass (here_of e out) (map (row_of e) (first ∷ more)) later) → PassIf Before e (todo_of told.checks) out → PassIf Rest e (todo_of (after_all_deaths told.run told.checks)) (out ++ first ∷ more)
unfolding PassIf
pass_rows e out told run first more Before Rest ahead aside may pass later rest =
    let parts = may later rest.0.rest rest.1 in
    let come : PromptsCome e.start new_todo (fold after now (map (row_of e) (first ∷ more))) later = subst (λ (s : Seen). PromptsCome e.start new_todo s later) (now_rows e out (first ∷ more)) rest.0.prompts in
    pass_more e out (first ∷ more) later (pass (map (row_of e) (first ∷ more) ++ later) (
      record {
        rest = parts.0;
        prompts = noted later (come_rows e.start new_todo now (map (row_of e) (first ∷ more)) later aside come);
        agrees = agree_none (todo_of told.checks) now (map (row_of e) (first ∷ more) ++ later);
      },
      ahead later rest.1,
    )) parts.1
  where
    now : Seen
    now = log_of e out

    new_todo : ReqId → Option DocId
    new_todo = todo_of (after_all_deaths told.run told.checks)

    noted : (later : List LogRow) → PromptsCome e.start new_todo now (map (row_of e) (first ∷ more) ++ later) → PromptsCome e.start (todo_of told.checks) now (map (row_of e) (first ∷ more) ++ later)
    noted later come =
        come_more e.start (todo_of told.checks) none_ran new_todo (runs_now e.start now told run) now (map (row_of e) (first ∷ more) ++ later) (told_numbers e.start now told run) (told_notes e.start now told run) (agree_other new_todo (runs_now e.start now told run) now (map (row_of e) (first ∷ more) ++ later) (none_front is_of_run (row_of e first) (map (row_of e) more ++ later) aside.0.ends) (told_agrees e.start now told run)) come

-- that a request is in its check is read by no test
pub pass_as : (Rest : List LogRow → Type 0) (e : InEvent) (checking : ReqId → Bool) (todo : ReqId → Option DocId) (out : List RowKind) → PassIf Rest e todo out → PassIf Rest (record e { checking = checking }) todo out
unfolding PassIf now_of
pass_as Rest e checking todo out pass later rest =
    pass later (
      record {
        rest = record {
          rest = record {
            asks = rest.0.rest.rest.asks;
            taken = rest.0.rest.rest.taken;
            owed = rest.0.rest.rest.owed;
          };
          held = rest.0.rest.held;
        };
        prompts = rest.0.prompts;
        agrees = rest.0.agrees;
      },
      rest.1,
    )

-- ---- what a request that begins, and its questions, ask of later rows

module _ (e : InEvent) (out : List RowKind) (base : Seen) (req : ReqId) (goal : Option Step) (unbegun : list_any (begins req) (e.before ++ out) ≡ false) where
  asks_none : (r : ReqId) (number : ℕ) (questions : List Question) (jobs : List Job) (later : List LogRow) → (req.0 == r.0) ≡ false → AreQuestionsFrom base req number questions jobs → filter_map (question_in r) (map (row_of e) (questions_sent jobs) ++ later) ≡ filter_map (question_in r) later
  asks_none r number [] [] later off are = refl
  asks_none r number (question ∷ questions) (job ∷ jobs) later off are =
      let none : question_in r (row_of e (rows.Sent job)) ≡ None = rw are.0.why (rw off refl) in
      rw none (asks_none r (number + 1) questions jobs later off are.1)
  asks_none r number [] (job ∷ jobs) later off are = absurd are
  asks_none r number (question ∷ questions) [] later off are = absurd are

  ends_none : (jobs : List Job) (later : List LogRow) → ends_among (held_at_first e) (map (row_of e) (questions_sent jobs) ++ later) ≡ ends_among (held_at_first e) later
  ends_none [] later = refl
  ends_none (job ∷ jobs) later = ends_none jobs later

  module _ (number : ℕ) (questions : List Question) (jobs : List Job) (are : AreQuestionsFrom base req number questions jobs) (later : List LogRow) (rest : IsRestOf e (out ++ begun_asking req goal jobs) later) where
    abbrev block : List RowKind
    block = begun_asking req goal jobs

    -- no question for it comes any more
    pub no_more : filter_map (question_in req) later ≡ []
    no_more =
        rest.rest.asks req (begun_behind e out (rows.Started req goal) (questions_sent jobs) req (nat_eq_refl req.0))

    paid : Pays (start_of e) (rows_of e out) (map (row_of e) block ++ later) × Pays (here_of e out) (map (row_of e) block) later
    paid = pays_more e out block later rest.rest.owed

    -- what the block owes is paid
    pub block_paid : Pays (here_of e out) (map (row_of e) block) later
    block_paid = paid.1

    parked : (now_of e (out ++ block)).parked ≡ (now_of e out).parked
    unfolding now_of
    parked =
        ap (λ (s : Seen). s.parked) (now_rows e out block)
        ∙ all_parked e base req (after (log_of e out) (row_of e (rows.Started req goal))) jobs

    -- what the rows before it ask
    pub block_rest : IsRestOf e out (map (row_of e) block ++ later)
    block_rest =
        record {
          rest = record {
            asks = λ r began. asks r began (req.0 == r.0) refl;
            taken = subst (λ (rows : List LogRow). IsTakenIn e rows) (rows_later e out block later) rest.rest.taken;
            owed = paid.0;
          };
          held = λ was. ends_none jobs later ∙ rest.held (traversed_more e out block was) ∙ parked;
        }
      where
        asks : (r : ReqId) → list_any (begins r) (e.before ++ out) ≡ true → (b : Bool) → (req.0 == r.0) ≡ b → filter_map (question_in r) (map (row_of e) block ++ later) ≡ []
        asks r began false off =
            asks_none r number questions jobs later off are
            ∙ rest.rest.asks r (begun_more e out block r began)
        asks r began true is =
            let it : req ≡ r = req_same req r is in
            let never : true ≡ false = sym began ∙ ap (λ (x : ReqId). list_any (begins x) (e.before ++ out)) (sym it) ∙ unbegun in
            absurd cc
