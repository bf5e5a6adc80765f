use Rattle.std.proofs.Common.{sym, ap, ◌∙◌}
use Rattle.log_model.specs.History.{has_state}
use Rattle.log_model.specs.Soundness.{is_in_state}
use Rattle.entry_store.proofs.Reading.{found_here, found_later}
use Rattle.entry_store.proofs.readers.has_state_in.Goals as goal

pub returns-then-has_state_row : goal.returns-then-has_state_row
returns-then-has_state_row c =
    sym (found_here (is_in_state c.args.state) c.args.nests.now c.loop-nest.nest-index c.nest-item.result c.loop-nest-test.true c.nest-item.is (ap (has_state c.args.state) (sym c.deref.ensures.value) ∙ sym c.if-has_state_row.ensures) c.loop-nest.invariant)

pub loop-nest-preserved : goal.loop-nest-preserved
loop-nest-preserved c =
    found_later (is_in_state c.args.state) c.args.nests.now c.loop-nest.nest-index c.nest-item.result c.loop-nest-test.true c.nest-item.is (ap (has_state c.args.state) (sym c.deref.ensures.value) ∙ sym c.if-has_state_row.ensures) c.loop-nest.invariant
