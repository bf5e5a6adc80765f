use Rattle.std.proofs.Common.{sym}
use Rattle.proc_tables.proofs.DeskChanges.{made}
use Rattle.proc_tables.proofs.desks.make_in.Goals as goal

pub returns-clause-same : goal.returns-clause-same
returns-clause-same c =
    made _ _ c.args.proc c.new.result (sym c.if-contains_key.ensures) c.new.ensures c.in_ok-insert.ensures.updates.0
