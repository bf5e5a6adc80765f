use Rattle.std.proofs.Common.{arith}
use Rattle.step_index.proofs.Counting.{count_taken, one_less}
use Rattle.step_index.proofs.groups.take_one.Goals as goal

pub returns-else-count-gt1 : goal.returns-else-count-gt1
returns-else-count-gt1 c =
    let old = c.args.counts.now.entries in
    let new = c.swap_remove.new.self.entries in
    one_less old new c.args.group 0 (omega (arith, c.count_of-count.ensures, c.if-count-gt1.false)) (count_taken old new c.args.group c.swap_remove.ensures.updates.0)
