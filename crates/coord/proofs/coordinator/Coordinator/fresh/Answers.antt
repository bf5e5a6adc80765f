use Rattle.coord.proofs.Opened.{fresh_stands}
use Rattle.coord.proofs.coordinator.Coordinator.fresh.Goals as goal

pub returns-clause-stands : goal.returns-clause-stands
returns-clause-stands c = fresh_stands c.args.header.now c.args.proc _ c.in_ok-header.ensures c.in_ok-tables.ensures c.new.ensures c.new-2.ensures.empty c.new-3.ensures.empty
