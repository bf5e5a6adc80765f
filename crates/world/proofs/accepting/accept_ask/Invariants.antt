use Rattle.world.specs.Asking.{asking}
use Rattle.world.proofs.accepting.accept_ask.Given as goal

abbrev pub ghost-carry_out : goal.ghost-carry_out
ghost-carry_out a = asking a.header.now a.log.now a.req a.ask.now
