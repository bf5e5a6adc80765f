use Rattle.unload_check.specs.Checks.{opened}
use Rattle.unload_check.proofs.Stays.{on_ok, others_begun}
use Rattle.unload_check.proofs.unload_check.UnloadCheck.begin.Goals as goal

pub returns-clause-others : goal.returns-clause-others
returns-clause-others c =
    rw (← c.self.view_is) (on_ok c.begin_in.result _ _ (λ is. rw is (others_begun c.args.req (opened c.args.asked) _)) c.begin_in.ensures.ok)
