use Rattle.unload_check.specs.Checks.{after_answer}
use Rattle.unload_check.proofs.Stays.{others_changed, settled_answer}
use Rattle.unload_check.proofs.unload_check.UnloadCheck.answer.Goals as goal

pub returns-clause-others : goal.returns-clause-others
returns-clause-others c = rw (c.answer_in.ensures, ← c.self.view_is) (others_changed c.args.req (after_answer c.args.doc c.args.verdict) _)

pub returns-clause-settled : goal.returns-clause-settled
returns-clause-settled c = rw (c.answer_in.ensures, ← c.self.view_is) (settled_answer c.args.req c.args.doc c.args.verdict _)
