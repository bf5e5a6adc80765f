use Rattle.std.proofs.Common.{take, get_or, ap, sym, ◌∙◌, add-one}
use Rattle.std.proofs.Math.Seq.{take-suc}
use Rattle.log_model.specs.declared.row.Row.{Row}
use Rattle.log_model.specs.History.{with_step, used_steps}
use Rattle.history_laws.proofs.UsedSteps.{used_steps-push}
use Rattle.entry_store.proofs.changed.steps_of.Goals as goal

pub loop-row-preserved : goal.loop-row-preserved
loop-row-preserved c =
    let done = c.loop-row.row-index in
    let rows = c.args.rows.now in
    let row = c.row-item.result in
    c.in_ok-take_step.ensures
    ∙ ap (λ steps. with_step row.step.0 steps) c.loop-row.invariant
    ∙ sym (rw add-one (ap used_steps (take-suc rows done row c.loop-row-test.true) ∙ used_steps-push (take done rows) (get_or rows done row) ∙ ap (λ (r : Row). with_step r.step.0 (used_steps (take done rows))) (sym c.row-item.is)))
