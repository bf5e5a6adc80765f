use Rattle.load_table.specs.declared.phase.Phase.TheVariants as phases
use Rattle.load_table.proofs.Others.{others_by_nav}
use Rattle.load_table.proofs.load_table.LoadTable.ready.Goals as goal

pub returns-clause-others : goal.returns-clause-others
returns-clause-others c = rw (c.set_phase.ensures.moved, ← c.self.view_is) (others_by_nav c.args.nav (phases.Ready c.args.doc) _)
