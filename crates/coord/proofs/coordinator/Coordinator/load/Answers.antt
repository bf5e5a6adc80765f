use Rattle.coord.proofs.Asides.{seen_room, seen_stands}
use Rattle.coord.proofs.Dones.{keep_now}
use Rattle.coord.proofs.Loads.{load_asks, load_free, load_lasts, load_logged, load_settles, load_slots}
use Rattle.coord.proofs.coordinator.Coordinator.load.Goals as goal
use Rattle.std.proofs.Common.{refl}

pub load-requires : goal.load-requires
load-requires g c =
    (c.requires.1.0.in_.header, (keep_now g.e c.args.self.now c.requires.1.0.in_, (c.requires.1.1, (load_asks g.e c.args.self.now c.requires.1.0 c.args.req c.args.nav c.args.mode c.args.address.now c.requires.0, (seen_room g.e c.args.self.now c.requires.1.0.in_, (seen_stands g.e c.args.self.now c.requires.1.0.in_, (load_logged g.e c.args.self.now c.requires.1.0 c.args.req c.args.nav c.args.mode c.args.address.now c.requires.0, (load_lasts g.e c.args.self.now c.requires.1.0 c.args.req c.args.nav c.args.mode c.args.address.now c.requires.0, (λ is. load_free g.e c.args.self.now c.requires.1.0 c.args.req c.args.nav c.args.mode c.args.address.now c.requires.0, load_slots g.e c.args.self.now c.requires.1.0 c.args.req c.args.nav c.args.mode c.args.address.now c.requires.0)))))))))

pub settle-requires : goal.settle-requires
settle-requires g c =
    load_settles g.e c.args.self.now c.requires.1.0 c.args.req c.args.nav c.args.mode c.args.address.now c.requires.0 _ _ _ refl refl c.in_ok-loaded.ensures.came c.in_ok-loaded.ensures.ready _ c.cause_of-cause.ensures
