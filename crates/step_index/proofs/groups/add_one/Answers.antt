use Rattle.std.proofs.Common.{◌+◌, ap}
use Rattle.step_index.proofs.Counting.{count_put, one_more}
use Rattle.step_index.proofs.groups.add_one.Goals as goal

pub returns-clause-count : goal.returns-clause-count
returns-clause-count c =
    let old = c.args.counts.now.entries in
    let new = c.insert.new.self.entries in
    let count = c.count_of-count.result + 1 in
    one_more old new c.args.group count (ap (λ n. n + 1) c.count_of-count.ensures) (count_put old new c.args.group count c.in-Ok.ensures.updates.0)
