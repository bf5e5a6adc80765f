use Rattle.std.proofs.Common.{◌<◌, ◌∙◌, length, arith}
use Rattle.unload_check.specs.Checks.{after_deaths}
use Rattle.unload_check.proofs.Tables.{changed_more, length-changed_at}
use Rattle.unload_check.proofs.unload_check.die_in.Goals as goal

pub loop-place-preserved : goal.loop-place-preserved
loop-place-preserved c =
    let within : c.loop-place.place < length c.loop-place.checks.entries =
    omega (arith, c.loop-place-test.true, c.len-place-end.ensures.len, c.loop-place.invariant.same) in
    record {
      same = rw c.die_at.ensures (length-changed_at (after_deaths c.args.docs.now) c.loop-place.place c.loop-place.checks.entries ∙ c.loop-place.invariant.same);
      done = rw c.die_at.ensures (changed_more (after_deaths c.args.docs.now) c.loop-place.place c.loop-place.checks.entries within ∙ c.loop-place.invariant.done);
    }
