use Rattle.world.specs.Asking.{delivering}
use Rattle.world.proofs.delivering.deliver.Given as goal

abbrev pub ghost-take : goal.ghost-take
ghost-take a = delivering a.header.now a.log.now a.proc a.report.now
