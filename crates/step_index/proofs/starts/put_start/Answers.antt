use Rattle.std.proofs.Common.{◌∙◌, ap, sym, cond, None, Some, Option}
use Rattle.tab_ids.specs.declared.Step.{Step}
use Rattle.std.specs.Prelude.{◌==◌}
use Rattle.step_index.specs.Starts.{start_of}
use Rattle.step_index.proofs.Noting.{eqb_turned}
use Rattle.step_index.proofs.starts.put_start.Goals as goal

pub returns-in-Ok : goal.returns-in-Ok
returns-in-Ok c = λ other.
    c.in-Ok.ensures.updates.0 other
    ∙ ap (λ b. cond b (Some c.in-Some.start) (start_of other c.args.starts.now.entries)) (eqb_turned c.args.state.0 other.0)
    ∙ ap (λ (s : Option Step). cond (other.0 == c.args.state.0) s (start_of other c.args.starts.now.entries)) (sym c.in-Some.is)

pub returns-in-None : goal.returns-in-None
returns-in-None c = λ other.
    c.swap_remove.ensures.updates.0 other
    ∙ ap (λ b. cond b None (start_of other c.args.starts.now.entries)) (eqb_turned c.args.state.0 other.0)
    ∙ ap (λ (s : Option Step). cond (other.0 == c.args.state.0) s (start_of other c.args.starts.now.entries)) (sym c.in-None.is)
