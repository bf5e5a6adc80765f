use Rattle.std.proofs.Common.{◌∙◌, ap, sym}
use Rattle.std.specs.Prelude.{nat_lt}
use Rattle.step_index.specs.declared.groups.Group.TheVariants.{At}
use Rattle.step_index.specs.Groups.{is_in}
use Rattle.step_index.specs.Tracks.{rows_of}
use Rattle.step_index.proofs.Counting.{any_counted}
use Rattle.step_index.proofs.Looking.{used_here}
use Rattle.step_index.proofs.move_on.used_step.Goals as goal

pub returns-then-has_any : goal.returns-then-has_any
returns-then-has_any c =
    let rows = rows_of c.args.parts.now.tracks.items in
    sym (used_here rows c.args.s.0
    (sym (any_counted (is_in (At c.args.s)) rows) ∙ ap (nat_lt 0) (sym (c.requires.index.counted (At c.args.s))) ∙ sym c.has_any.ensures ∙ c.if-has_any.true))
