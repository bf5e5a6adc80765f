use Rattle.std.proofs.Common.{◌∙◌, ap, cond, Some}
use Rattle.step_index.specs.Noted.{place_of}
use Rattle.step_index.proofs.Noting.{same_entry-turned}
use Rattle.step_index.proofs.noted.note_place.Goals as goal

pub returns-clause-ok : goal.returns-clause-ok
returns-clause-ok c = λ other.
    c.in_ok-insert.ensures.updates.0 other ∙ ap (λ b. cond b (Some c.args.place) (place_of other c.args.noted.now.entries)) (same_entry-turned c.args.entry other)
