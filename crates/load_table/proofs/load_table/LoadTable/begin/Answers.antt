use Rattle.load_table.proofs.Others.{on_ok, others_begun}
use Rattle.load_table.proofs.load_table.LoadTable.begin.Goals as goal

pub returns-clause-others : goal.returns-clause-others
returns-clause-others c =
    rw (← c.self.view_is) (on_ok c.begin_in.result _ _ (λ is. rw is (others_begun c.args.load _)) c.begin_in.ensures.ok)
