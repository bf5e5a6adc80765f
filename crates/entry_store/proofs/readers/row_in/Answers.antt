use Rattle.std.proofs.Common.{sym, ap, ◌∙◌}
use Rattle.log_model.specs.Soundness.{is_entry}
use Rattle.entry_store.proofs.Reading.{first_here, first_later}
use Rattle.log_model.specs.History.{row_of}
use Rattle.entry_store.proofs.readers.row_in.Goals as goal

pub returns-in-Some : goal.returns-in-Some
returns-in-Some c =
    sym (first_here (is_entry c.args.entry) c.args.nests.now c.loop-nest.nest-index c.nest-item.result c.loop-nest-test.true c.nest-item.is c.in-Some.row.now (ap (row_of c.args.entry) (sym c.deref.ensures.value) ∙ sym c.in-Some.ensures) c.loop-nest.invariant)

pub loop-nest-preserved : goal.loop-nest-preserved
loop-nest-preserved c =
    first_later (is_entry c.args.entry) c.args.nests.now c.loop-nest.nest-index c.nest-item.result c.loop-nest-test.true c.nest-item.is (ap (row_of c.args.entry) (sym c.deref.ensures.value) ∙ sym c.in_default.ensures) c.loop-nest.invariant
