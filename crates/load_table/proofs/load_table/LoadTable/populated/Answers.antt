use Rattle.load_table.specs.declared.phase.Phase.TheVariants as phases
use Rattle.load_table.specs.Loads.{is_populating}
use Rattle.load_table.proofs.Others.{others_by_test}
use Rattle.load_table.proofs.load_table.LoadTable.populated.Goals as goal

pub returns-clause-others : goal.returns-clause-others
returns-clause-others c =
    rw (c.populated_in.ensures.ready, ← c.self.view_is) (λ load this. others_by_test (is_populating c.args.doc) (phases.Ready c.args.doc) _ load this)
