use Rattle.std.proofs.Common.{◌∙◌}
use Rattle.load_table.proofs.Keyed.{found, one_each}
use Rattle.load_table.proofs.load_table.find_in.Goals as goal

pub returns-clause-load : goal.returns-clause-load
returns-clause-load c = c.get.ensures.value ∙ found c.args.nav c.args.loads.now.entries c.requires

pub returns-clause-one_each : goal.returns-clause-one_each
returns-clause-one_each c = one_each c.args.loads.now.entries c.requires c.len-len.ensures.unique
