use Rattle.world.proofs.evicting.discard.Given as goal

abbrev pub ghost-evict : goal.ghost-evict
ghost-evict g a = g.v
