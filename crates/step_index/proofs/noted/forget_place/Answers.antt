use Rattle.std.proofs.Common.{◌∙◌, ap, cond, None}
use Rattle.step_index.specs.Noted.{place_of}
use Rattle.step_index.proofs.Noting.{same_entry-turned}
use Rattle.step_index.proofs.noted.forget_place.Goals as goal

pub returns-clause-one : goal.returns-clause-one
returns-clause-one c = λ other.
    c.swap_remove.ensures.updates.0 other ∙ ap (λ b. cond b None (place_of other c.args.noted.now.entries)) (same_entry-turned c.args.entry other)
