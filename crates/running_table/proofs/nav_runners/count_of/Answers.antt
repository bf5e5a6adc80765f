use Rattle.running_table.proofs.Newest.{once_of}
use Rattle.running_table.proofs.nav_runners.count_of.Goals as goal

pub returns-clause-once : goal.returns-clause-once
returns-clause-once c = once_of _ c.len.ensures.unique
