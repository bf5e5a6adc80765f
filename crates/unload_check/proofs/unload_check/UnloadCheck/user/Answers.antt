use Rattle.unload_check.specs.Checks.{after_user}
use Rattle.unload_check.proofs.Stays.{others_changed}
use Rattle.unload_check.proofs.unload_check.UnloadCheck.user.Goals as goal

pub returns-clause-others : goal.returns-clause-others
returns-clause-others c = rw (c.user_in.ensures.word, ← c.self.view_is) (others_changed c.args.req (after_user c.args.stay) _)
