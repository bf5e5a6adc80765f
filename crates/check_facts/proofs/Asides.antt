-- Which rows stand beside the prompts to come, by their kinds.
use Rattle.std.proofs.Common.{◌≡◌, ℕ, Bool, true, false, ◌&&◌, ◌==◌, Option, Some, None, refl, sym, ap, ◌∙◌, arith}
use Rattle.std.specs.Prelude.{is_some}
use Rattle.std.proofs.lemmas.Bool.Decides.{nat_tests}
use Rattle.tab_ids.specs.declared.DocId.{DocId}
use Rattle.tab_ids.specs.declared.ReqId.{ReqId}
use Rattle.tab_ids.specs.declared.Step.{Step}
use Rattle.log_model.specs.declared.change.Change.{Change}
use Rattle.log_model.specs.declared.handler.LeaveCause.{LeaveCause}
use Rattle.log_model.specs.declared.job.Job.{Job}
use Rattle.log_model.specs.declared.job.Task.{Task}
use Rattle.log_model.specs.declared.job.Task.TheVariants as tasks
use Rattle.log_model.specs.declared.outcome.Cause.{Cause}
use Rattle.log_model.specs.declared.outcome.Denial.{Denial}
use Rattle.log_model.specs.declared.row_kind.Actor.{Actor}
use Rattle.log_model.specs.declared.row_kind.LogRow.{LogRow}
use Rattle.log_model.specs.declared.row_kind.RowKind.{RowKind}
use Rattle.log_model.specs.declared.row_kind.RowKind.TheVariants as rows
use Rattle.log_model.specs.Seen.{Seen}
use Rattle.log_model.specs.Orders.{is_for}
use Rattle.log_model.specs.Checks.{goes_on_with, is_of_run}
use Rattle.check_facts.proofs.Asks.{question_ends, question_keeps, question_waits}
use Rattle.check_facts.proofs.Promptings.{keeps_settled}
use Rattle.check_facts.proofs.Rows.{applied_keeps, dropped_keeps, next, refused_keeps, row_of_kind, sent_keeps, started_keeps}
use Rattle.check_facts.specs.Prompting.{HaveNumbers, IsAside, KeepsQuestions, NothingElseDue, WaitsForNoted}
use Rattle.check_facts.specs.Rows.{IsForUnsettled, IsNoQuestion, IsServing, IsUndropped}

and_false : (b : Bool) → (b && false) ≡ false
and_false true = refl
and_false false = refl

module _ (start : Seen) (todo : ReqId → Option DocId) (s : Seen) (event : ℕ) (actor : Actor) (nothing : NothingElseDue start todo s) where
  -- one that goes on with no request
  free : (kind : RowKind) → is_of_run (row_of_kind s event actor kind) ≡ false → ((req : ReqId) → goes_on_with req (row_of_kind s event actor kind) ≡ false) → KeepsQuestions s (next s event actor kind) → IsAside start todo s (row_of_kind s event actor kind)
  free kind ends stays keeps = with_prompts kind ends stays keeps
    where
      with_prompts : (kind : RowKind) → is_of_run (row_of_kind s event actor kind) ≡ false → ((req : ReqId) → goes_on_with req (row_of_kind s event actor kind) ≡ false) → KeepsQuestions s (next s event actor kind) → IsAside start todo s (row_of_kind s event actor kind)
      with_prompts (rows.Prompted req doc) ends stays keeps = cc
      with_prompts _ ends stays keeps =
          record {
            ends = ends;
            quiet = λ req. refl;
            keeps = keeps_settled s _ keeps;
            nothing = nothing;
            waits = λ req q found fresh settled un is. stays req;
          }

  pub started_aside : (req : ReqId) (goal : Option Step) → IsAside start todo s (row_of_kind s event actor (rows.Started req goal))
  started_aside req goal =
      free (rows.Started req goal) refl (λ r. refl) (started_keeps s event actor req goal)

  pub refused_aside : (req : ReqId) (reason : Denial) → IsUndropped s req → IsAside start todo s (row_of_kind s event actor (rows.Refused req reason))
  refused_aside req reason undropped =
      free (rows.Refused req reason) refl (λ r. refl) (refused_keeps s event actor req reason undropped)

  pub dropped_aside : (req : ReqId) (cause : Cause) → IsAside start todo s (row_of_kind s event actor (rows.Dropped req cause))
  dropped_aside req cause = free (rows.Dropped req cause) refl (λ r. refl) (dropped_keeps s event actor req cause)

  -- a question, for a request that isn't settled
  pub ask_aside : (job : Job) (slot : ℕ) (cause : LeaveCause) → job.task ≡ tasks.Ask slot cause → IsForUnsettled s job → IsAside start todo s (row_of_kind s event actor (rows.Sent job))
  ask_aside job slot cause task unsettled =
      record {
        ends = question_ends s event actor job slot cause task;
        quiet = λ req. refl;
        keeps = question_keeps s event actor job slot cause task unsettled;
        nothing = nothing;
        waits = λ req q found fresh settled un is. question_waits s event actor job slot cause task req;
      }

  -- ---- those that go on with a request: for that nothing is noted

  module _ (numbered : HaveNumbers s) where
    waits_unless : (row : LogRow) (Goes : ReqId → Type 0) → ((req : ReqId) → Goes req → todo req ≡ None) → ((req : ReqId) (b : Bool) → goes_on_with req row ≡ b → b ≡ true → Goes req) → WaitsForNoted start todo s row
    waits_unless row Goes unnoted goes req q found fresh settled un is = by_test (goes_on_with req row) refl
      where
        none : (o : Option DocId) → o ≡ None → is_some o ≡ true → ⊥
        none None e is = cc
        none (Some doc) e is = cc

        by_test : (b : Bool) → goes_on_with req row ≡ b → b ≡ false
        by_test false e = refl
        by_test true e =
            absurd (none (todo q.nr) (ap todo (numbered req q found) ∙ unnoted req (goes req true e refl)) is)

    pub applied_aside : (req : ReqId) (change : Change) → IsUndropped s req → todo req ≡ None → IsAside start todo s (row_of_kind s event actor (rows.Applied req change))
    applied_aside req change undropped unnoted =
        record {
          ends = refl;
          quiet = λ r. refl;
          keeps = keeps_settled s _ (applied_keeps s event actor req change undropped);
          nothing = nothing;
          waits = waits_unless (row_of_kind s event actor (rows.Applied req change)) (λ r. (req.0 == r.0) ≡ true) (λ r is. ap todo (sym (same req r is)) ∙ unnoted) (λ r b e is. e ∙ is);
        }
      where
        same : (a b : ReqId) → (a.0 == b.0) ≡ true → a ≡ b
        same a b e = ap (λ (n : ℕ). let r : ReqId = record { 0 = n } in r) (let n : a.0 ≡ b.0 = grind (arith, nat_tests, e) in n)

    -- an order that is no question, and discards nothing
    pub sent_aside : (job : Job) → IsServing job.task → ((req : ReqId) → is_for req job ≡ true → todo req ≡ None) → IsAside start todo s (row_of_kind s event actor (rows.Sent job))
    sent_aside job serves unnoted =
        record {
          ends = runs_not job.task refl serves;
          quiet = λ r. refl;
          keeps = keeps_settled s _ (sent_keeps s event actor job (no_question job.task serves));
          nothing = nothing;
          waits = waits_unless (row_of_kind s event actor (rows.Sent job)) (λ r. is_for r job ≡ true) unnoted (λ r b e is. goes job.task refl r (e ∙ is));
        }
      where
        first : (a b : Bool) → (a && b) ≡ true → a ≡ true
        first true b e = refl
        first false b e = cc

        goes : (task : Task) → job.task ≡ task → (r : ReqId) → goes_on_with r (row_of_kind s event actor (rows.Sent job)) ≡ true → is_for r job ≡ true
        goes (tasks.Ask slot cause) is r e = first (is_for r job) false (rw is at e)
        goes tasks.Discard is r e = first (is_for r job) false (rw is at e)
        goes (tasks.Populate nav state address initial) is r e = first (is_for r job) true (rw is at e)
        goes (tasks.Activate entry epoch length index memo address) is r e = first (is_for r job) true (rw is at e)
        goes (tasks.Update length index) is r e = first (is_for r job) false (rw is at e)
        goes tasks.Freeze is r e = first (is_for r job) true (rw is at e)
        goes (tasks.DoFragment req mode address) is r e = first (is_for r job) false (rw is at e)

        no_question : (task : Task) → IsServing task → IsNoQuestion task
        no_question (tasks.Ask slot cause) serves = absurd serves
        no_question tasks.Discard serves = absurd serves
        no_question (tasks.Populate nav state address initial) serves = tt
        no_question (tasks.Activate entry epoch length index memo address) serves = tt
        no_question (tasks.Update length index) serves = tt
        no_question tasks.Freeze serves = tt
        no_question (tasks.DoFragment req mode address) serves = tt

        runs_not : (task : Task) → job.task ≡ task → IsServing task → is_of_run (row_of_kind s event actor (rows.Sent job)) ≡ false
        runs_not (tasks.Ask slot cause) is serves = absurd serves
        runs_not tasks.Discard is serves = absurd serves
        runs_not (tasks.Populate nav state address initial) is serves = rw is refl
        runs_not (tasks.Activate entry epoch length index memo address) is serves = rw is refl
        runs_not (tasks.Update length index) is serves = rw is refl
        runs_not tasks.Freeze is serves = rw is refl
        runs_not (tasks.DoFragment req mode address) is serves = rw is refl
