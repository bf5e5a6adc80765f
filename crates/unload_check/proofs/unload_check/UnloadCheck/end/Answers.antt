use Rattle.unload_check.proofs.Stays.{others_ended}
use Rattle.unload_check.proofs.unload_check.UnloadCheck.end.Goals as goal

pub returns-clause-others : goal.returns-clause-others
returns-clause-others c = rw (c.end_in.ensures, ← c.self.view_is) (others_ended c.args.req _)
