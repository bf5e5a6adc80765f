-- What a request is for may go on in a tab with loads, since nobody is asked.
use Rattle.log_model.specs.Places.{has_passed_with, is_gone}  -- keep
use Rattle.tab_passes.proofs.Aims.{passed_is, running_is}  -- keep
use Rattle.tab_passes.proofs.SetOuts.{started_out}  -- keep
use Rattle.tab_passes.specs.Causes.{MayCause, MayServe, show_why}  -- keep
use Rattle.log_model.specs.Places.{is_traversal, is_under_way}  -- keep
use Rattle.seen_facts.specs.Each.Runs.{is_run, is_this}  -- keep
use Rattle.log_model.specs.Checks.{is_checked}  -- keep
use Rattle.log_model.specs.ActsAtOnce.{is_for_passed}  -- keep
use Rattle.seen_laws.specs.Sending.{is_passed}  -- keep
use Rattle.log_model.specs.declared.job.Task.TheVariants as tasks  -- keep
use Rattle.log_model.specs.declared.job.Why.TheVariants as whys  -- keep
use Rattle.seen_facts.specs.Asked.Asking.{ArePlain}
pub use Rattle.tab_facts.proofs.TabGoing.PassedOn.{ServesNoneToBegin}
use Rattle.log_model.proofs.Refl.{nat_eq_refl}
use Rattle.log_model.specs.Checks.{may_go_on}
use Rattle.log_model.specs.Equal.{implies}
use Rattle.log_model.specs.Orders.{is_for}
use Rattle.log_model.specs.Seen.{Asked, Seen, request_in, request_of}
use Rattle.log_model.specs.declared.job.Job.{Job}
use Rattle.log_model.specs.declared.job.Task.{Task}
use Rattle.log_model.specs.declared.job.Why.{Why}
use Rattle.std.proofs.Common.{Bool, None, Option, Some, ap, false, length, refl, subst, true, ◌&&◌, ◌∙◌, ◌≡◌}
use Rattle.std.specs.Option.{option_map_or}
use Rattle.std.specs.Prelude.{is_none, option_and_then}
use Rattle.tab_ids.specs.declared.ReqId.{ReqId}

module _ (s : Seen) (run : Option ReqId) (asked : ArePlain run s) where
  -- any request that is there may go on
  pub goes_on : (req : ReqId) (q : Asked) → request_of s req ≡ Some q → may_go_on s req ≡ true
  goes_on req q there =
      let passed : has_passed_with (is_gone s) q ≡ true = asked.passed req q there in
      rw there (rw passed (by_test (is_checked q)))
    where
      by_test : (b : Bool) → implies b true ≡ true
      by_test true = refl
      by_test false = refl

  -- the traversal that runs has begun
  run_begun : (req : ReqId) → run ≡ Some req → (q : Asked) → request_of s req ≡ Some q → q.is_started ≡ true
  run_begun req is q there = first q.is_started (is_none q.ending) (first (is_under_way q) (is_traversal q.what) runs)
    where
      runs : is_run q ≡ true
      runs = asked.only req q there ∙ ap (λ (o : Option ReqId). is_this o req) is ∙ nat_eq_refl req.0

      first : (a b : Bool) → (a && b) ≡ true → a ≡ true
      first true b e = refl
      first false b e = absurd cc

  -- the traversal that runs is there
  pub runs_there : (req : ReqId) → run ≡ Some req → (q : Asked) × (request_of s req ≡ Some q)
  runs_there req is =
      let it = asked.runs req is in
      (it.q, it.found)

  pub show_causes : (cause : Why) → MayCause s cause → MayCause s (show_why run cause)
  show_causes cause may = by_run run refl
    where
      by_run : (o : Option ReqId) → run ≡ o → MayCause s (show_why o cause)
      by_run None is = may
      by_run (Some req) is = λ r same.
          let there = runs_there req is in
          let one : req ≡ r = cc in
          subst (λ (x : ReqId). MayServe s x) one (record { goes = goes_on req there.0 there.1; begun = λ q at. started_out q (run_begun req is q at) })

  -- an order for it may be sent
  pub is_passed_for : (task : Task) (why : Why) → MayCause s why → is_passed s task why ≡ true
  is_passed_for (tasks.Update length index) why may = refl
  is_passed_for task (whys.Req req) may = by_task task
    where
      by_task : (x : Task) → is_passed s x (whys.Req req) ≡ true
      by_task (tasks.Update length index) = refl
      by_task x = (may req refl).goes
  is_passed_for task why may = refl

  pub for_passed : (job : Job) (cause : Why) → job.why ≡ show_why run cause → is_for_passed s job ≡ true
  for_passed job cause is = ap (λ (o : Option Asked). option_map_or (λ (q : Asked). is_for q.nr job) o true) (passed_is s run asked ∙ running_is s run asked) ∙ by_run run refl
    where
      by_run : (o : Option ReqId) → run ≡ o → option_map_or (λ (q : Asked). is_for q.nr job) (option_and_then (λ (req : ReqId). request_in s.requests req) o) true ≡ true
      by_run None at = refl
      by_run (Some req) at =
          let there = runs_there req at in
          let its = asked.each req there.0 there.1 in
          let why : job.why ≡ whys.Req req = is ∙ ap (λ (o : Option ReqId). show_why o cause) at in
          ap (λ (o : Option Asked). option_map_or (λ (q : Asked). is_for q.nr job) o true) there.1
          ∙ ap (λ (r : ReqId). is_for r job) its.nr
          ∙ rw why (nat_eq_refl req.0)

-- what may be caused is for no traversal that is still to begin
pub none_to_begin : (s : Seen) (why : Why) → MayCause s why → ServesNoneToBegin s why
none_to_begin s why may req q is there traverses = ((may req is).begun q there).traverses traverses
