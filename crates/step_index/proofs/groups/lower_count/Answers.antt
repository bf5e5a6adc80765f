use Rattle.step_index.proofs.Counting.{count_put}
use Rattle.step_index.proofs.groups.lower_count.Goals as goal

pub returns : goal.returns
returns c =
    count_put c.args.counts.now.entries c.insert.new.self.entries c.args.group c.args.count c.in-Ok.ensures.updates.0
