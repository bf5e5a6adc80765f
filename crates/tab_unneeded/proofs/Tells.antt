-- A report that tells of a document's making had nobody been asked tells of it in the log, too, there with the slot of its handler.
use Rattle.log_model.specs.declared.job.Job.{Job}
use Rattle.log_model.specs.declared.made.Made.{Made}
use Rattle.log_model.specs.declared.made.Report.TheVariants as reports
use Rattle.log_model.specs.declared.made.Report.{Report}
use Rattle.log_model.specs.declared.outcome.Outcome.TheVariants as outcomes
use Rattle.log_model.specs.declared.outcome.Outcome.{Outcome}
use Rattle.seen_laws.specs.Unasked.{no_answer, without_slot}
use Rattle.std.proofs.Common.{None, Option, Some, ap, sym, ℕ, ◌∙◌, ◌≡◌}
use Rattle.unasked.proofs.Deliveries.{untold_is}

pub made_tells : (real : Report) (job : Job) (outcome : Outcome) (slot : Option ℕ) → outcome ≡ outcomes.Populated slot → no_answer real ≡ Some (reports.Done job outcome None) → (own : Option ℕ) × (real ≡ reports.Done job (outcomes.Populated own) None)
made_tells (reports.Done j o m) job outcome slot is quiet =
    let told : reports.Done job outcome None ≡ reports.Done j (without_slot o) m = untold_is (reports.Done j o m) (reports.Done job outcome None) quiet in
    let jobs : job ≡ j = cc in
    let outcomes_ : outcome ≡ without_slot o = cc in
    let mades : (let x : Option Made = None in x) ≡ m = cc in
    by_outcome o (sym is ∙ outcomes_) jobs mades
  where
    by_outcome : (x : Outcome) → outcomes.Populated slot ≡ without_slot x → job ≡ j → (let y : Option Made = None in y) ≡ m → (own : Option ℕ) × (reports.Done j x m ≡ reports.Done job (outcomes.Populated own) None)
    by_outcome (outcomes.Populated own) same jobs mades =
        (own, ap (λ (k : Job). let r : Report = reports.Done k (outcomes.Populated own) m in r) (sym jobs) ∙ ap (λ (y : Option Made). let r : Report = reports.Done job (outcomes.Populated own) y in r) (sym mades))
    by_outcome outcomes.Activated same jobs mades = absurd cc
    by_outcome outcomes.Updated same jobs mades = absurd cc
    by_outcome outcomes.Frozen same jobs mades = absurd cc
    by_outcome outcomes.Discarded same jobs mades = absurd cc
    by_outcome (outcomes.Asked verdict) same jobs mades = absurd cc
    by_outcome outcomes.Fragmented same jobs mades = absurd cc
made_tells (reports.Made made) job outcome slot is quiet = absurd cc
made_tells (reports.Died death) job outcome slot is quiet = absurd cc
