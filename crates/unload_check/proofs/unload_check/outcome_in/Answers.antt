use Rattle.std.proofs.Common.{◌≡◌, Option, Some, ap, sym, ◌∙◌}
use Rattle.std.specs.Prelude.{option_map}
use Rattle.unload_check.specs.Checks as spec
use Rattle.unload_check.specs.Checks.{OpenCheck}
use Rattle.unload_check.specs.declared.check.Check.{Check}
use Rattle.unload_check.proofs.Stays.{check_dead}
use Rattle.unload_check.proofs.unload_check.outcome_in.Goals as goal

pub returns-in_ok-outcome-in-Some : goal.returns-in_ok-outcome-in-Some
returns-in_ok-outcome-in-Some c =
    ap (λ (check : Check). Some check) c.in_ok-outcome-in-Some.ensures
    ∙ ap (λ (o : Option OpenCheck). option_map spec.outcome_of (option_map (spec.after_deaths c.args.docs.now) o)) c.in-Some.ensures.value
    ∙ sym (ap (λ (o : Option OpenCheck). option_map spec.outcome_of o) (check_dead c.args.req c.args.docs.now c.args.checks.now.entries))

pub returns-in-None : goal.returns-in-None
returns-in-None c =
    ap (λ (o : Option OpenCheck). option_map spec.outcome_of (option_map (spec.after_deaths c.args.docs.now) o)) c.in-None.ensures.value
    ∙ sym (ap (λ (o : Option OpenCheck). option_map spec.outcome_of o) (check_dead c.args.req c.args.docs.now c.args.checks.now.entries))
