use Rattle.coord.proofs.Asides.{seen_room, seen_stands}
use Rattle.coord.proofs.Dones.{keep_now}
use Rattle.coord.proofs.Evicted.{evicted_settles, free, lasts_log, logged}
use Rattle.coord.proofs.coordinator.Coordinator.evict_kept.Goals as goal
use Rattle.std.proofs.Common.{refl, subst, sym}
use Rattle.tab_doors.specs.Working.{MayDiscardIn}
use Rattle.tab_stands.specs.Standing.{StandsFor, seen_start}
use Rattle.user_evicts.specs.Evicting.{InEvict, IsReadyThen}

pub evict_longest-requires : goal.evict_longest-requires
evict_longest-requires g c =
    (keep_now g.b.event c.args.self.now c.requires.1.1.0.in_, (c.requires.1.1.1, (c.requires.1.0, (seen_room g.b.event c.args.self.now c.requires.1.1.0.in_, (subst (λ (x : InEvict). StandsFor x.check (seen_start x.event) c.args.self.now.tables x.queue x.noted) (sym c.requires.0) (seen_stands g.b.event c.args.self.now c.requires.1.1.0.in_), (logged g.b.event g.b.state c.args.self.now c.requires.1.1.0 c.requires.1.0, (lasts_log g.b.event g.b.state c.args.self.now c.requires.1.1.0 c.requires.1.0, subst (λ (x : InEvict). MayDiscardIn x.check.holds x.event) (sym c.requires.0) (free g.b.event g.b.state c.args.self.now c.requires.1.1.0 c.requires.1.0))))))))

pub settle-requires : goal.settle-requires
settle-requires g c =
    evicted_settles g.b.event g.b.state c.args.self.now c.requires.1.1.0 c.requires.1.0 _ c.in_ok-evict_longest.ensures.came _
    (subst (λ (x : InEvict). IsReadyThen x c.evict_longest.new.out c.evict_longest.new.tables) c.requires.0 c.in_ok-evict_longest.ensures.ready)
    (record c.args.self.now { tables = c.evict_longest.new.tables }) refl refl refl refl refl

pub returns-clause-came : goal.returns-clause-came
returns-clause-came g c =
    record { first = c.evict_longest.new.out; came = c.in_ok-evict_longest.ensures.came; more = c.in_ok-settle.ensures.put.more; is = c.in_ok-settle.ensures.put.is }
