use Rattle.std.proofs.Common.{subst}
use Rattle.std.specs.Result.{IfErr}
use Rattle.log_model.specs.declared.change.Change.TheVariants.{AddFrame}
use Rattle.entry_store.specs.Store.{IsRefused}
use Rattle.step_index.specs.Parts.{history_in}
use Rattle.step_index.proofs.frames.add_in.Goals as goal

pub returns-in-Err-clause-refused : goal.returns-in-Err-clause-refused
returns-in-Err-clause-refused c =
    subst (λ result. IfErr result (IsRefused (history_in c.args.parts.now) (AddFrame c.args.owner c.args.nav c.args.entry c.args.state))) c.in-Err.is (c.frame_step.ensures.refused c.args.entry c.args.state)
