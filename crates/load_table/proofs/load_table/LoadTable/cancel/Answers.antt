use Rattle.load_table.proofs.Others.{others_cancelled}
use Rattle.load_table.proofs.load_table.LoadTable.cancel.Goals as goal

pub returns-clause-others : goal.returns-clause-others
returns-clause-others c = rw (c.cancel_in.ensures.rest, ← c.self.view_is) (others_cancelled c.args.nav _)
