use Rattle.std.proofs.Common.{◌<◌, length, arith}
use Rattle.entry_store.specs.declared.nest.Nest.{Nest}
use Rattle.entry_store.specs.Nested.{stays}
use Rattle.entry_store.proofs.Sweeping.{swept_rest, swept_more}
use Rattle.entry_store.proofs.sweep.sweep_nests.Goals as goal

pub loop-nest-preserved : goal.loop-nest-preserved
loop-nest-preserved c =
    let p = stays c.args.cut.now c.args.states.now.keys in
    let new : Nest = record { rows = c.sweep_rows.new.rows } in
    let within : c.loop-nest.nest-index < length c.loop-nest.nests = omega (arith, c.loop-nest-test.true, c.loop-nest.auto.nests) in
    record {
      swept = swept_more p c.args.nests.now c.loop-nest.nests c.loop-nest.nest-index c.nest-item.result new within c.loop-nest.auto.nests c.loop-nest.invariant.rest c.loop-nest.invariant.swept c.sweep_rows.ensures;
      rest = swept_rest p c.args.nests.now c.loop-nest.nests c.loop-nest.nest-index c.nest-item.result new within c.loop-nest.auto.nests c.loop-nest.invariant.rest;
    }
