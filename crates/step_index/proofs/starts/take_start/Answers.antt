use Rattle.std.proofs.Common.{◌∙◌, sym}
use Rattle.step_index.proofs.Starting.{start_put}
use Rattle.step_index.proofs.starts.take_start.Goals as goal

pub returns-clause-ok : goal.returns-clause-ok
returns-clause-ok c =
    start_put c.args.starts.now.entries c.insert.new.self.entries c.args.state c.args.step (sym c.starts_by.ensures ∙ c.if-starts_by.false) c.in_ok-insert.ensures.updates.0
