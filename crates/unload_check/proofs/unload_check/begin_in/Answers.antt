use Rattle.std.proofs.Common.{refl}
use Rattle.unload_check.proofs.Tables.{insert_begun}
use Rattle.unload_check.proofs.unload_check.begin_in.Goals as goal

pub returns-clause-ok : goal.returns-clause-ok
returns-clause-ok c =
    rw (c.in_ok-insert.ensures.entries, insert_begun c.args.req c.in_ok-check.check c.args.checks.now.entries, c.in_ok-check.ensures) refl
