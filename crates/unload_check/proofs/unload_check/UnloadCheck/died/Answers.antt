use Rattle.unload_check.proofs.Stays.{settled_deaths}
use Rattle.unload_check.proofs.unload_check.UnloadCheck.died.Goals as goal

pub returns-clause-settled : goal.returns-clause-settled
returns-clause-settled c = rw (c.die_in.ensures, ← c.self.view_is) (settled_deaths c.args.docs.now _)
