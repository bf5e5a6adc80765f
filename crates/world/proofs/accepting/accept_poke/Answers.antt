use Rattle.world.proofs.Facts.{are_of}
use Rattle.world.proofs.accepting.accept_poke.Goals as goal

pub accept_here-requires-clause-reached : goal.accept_here-requires-clause-reached
accept_here-requires-clause-reached c = c.in-Ok.ensures.reached _ (are_of _ _ _ c.requires.«open»)

pub refuse_stray-requires-clause-denied : goal.refuse_stray-requires-clause-denied
refuse_stray-requires-clause-denied c = c.in-Err.ensures.denied _ (are_of _ _ _ c.requires.«open»)
