use Rattle.entry_store.proofs.Reading.{used_by_list}
use Rattle.entry_store.proofs.readers.used_step_in.Goals as goal

pub returns : goal.returns
returns c = used_by_list c.args.nests.now c.args.s.0 c.loop-nest.nest-index c.loop-nest.best c.loop-nest-test.false c.loop-nest.invariant
