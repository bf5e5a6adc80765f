use Rattle.std.proofs.Common.{◌≡◌, ◌∙◌, length, subst}
use Rattle.log_model.specs.Formed.{running_documents}
use Rattle.running_table.specs.Making.{IsTold}
use Rattle.running_table.specs.Runners.{RunnersState}
use Rattle.running_table.proofs.Counted.{counted_told}
use Rattle.running_table.proofs.runners.Runners.count.Goals as goal

pub returns : goal.returns
returns c s =
    subst (λ (t : RunnersState). IsTold s t → c.count_in.result ≡ length (running_documents s c.args.nav)) c.self.view_is (λ told. c.count_in.ensures.count ∙ counted_told s _ c.args.nav told c.count_in.ensures.once)
