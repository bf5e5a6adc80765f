use Rattle.running_table.proofs.RunChanges.{cleared}
use Rattle.running_table.proofs.runners.clear_in.Goals as goal

pub returns : goal.returns
returns c = cleared _ _ c.args.nav c.requires c.swap_remove.ensures.updates.0
