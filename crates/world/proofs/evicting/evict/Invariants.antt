use Rattle.world.specs.Asking.{evicting}
use Rattle.world.proofs.evicting.evict.Given as goal

abbrev pub ghost-discard : goal.ghost-discard
ghost-discard a = evicting a.header.now a.log.now a.state
