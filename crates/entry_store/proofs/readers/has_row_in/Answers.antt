use Rattle.std.proofs.Common.{sym, ap, ◌∙◌}
use Rattle.log_model.specs.History.{is_of, has_row}
use Rattle.entry_store.proofs.Reading.{found_here, found_later}
use Rattle.entry_store.proofs.readers.has_row_in.Goals as goal

pub returns-then-has_nav_row : goal.returns-then-has_nav_row
returns-then-has_nav_row c =
    sym (found_here (is_of c.args.nav) c.args.nests.now c.loop-nest.nest-index c.nest-item.result c.loop-nest-test.true c.nest-item.is (ap (has_row c.args.nav) (sym c.deref.ensures.value) ∙ sym c.if-has_nav_row.ensures) c.loop-nest.invariant)

pub loop-nest-preserved : goal.loop-nest-preserved
loop-nest-preserved c =
    found_later (is_of c.args.nav) c.args.nests.now c.loop-nest.nest-index c.nest-item.result c.loop-nest-test.true c.nest-item.is (ap (has_row c.args.nav) (sym c.deref.ensures.value) ∙ sym c.if-has_nav_row.ensures) c.loop-nest.invariant
