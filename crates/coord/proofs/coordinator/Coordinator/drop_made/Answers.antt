use Rattle.coord.proofs.Asides.{off, seen_room}
use Rattle.tab_doors.proofs.Works.{none_steps}
use Rattle.seen_laws.specs.InEvent.{log_of}
use Rattle.coord.proofs.Dones.{done_logged, done_stands, keep_now}
use Rattle.coord.proofs.Unneeded.{dropped_settles, made_unneeded}
use Rattle.coord.proofs.coordinator.Coordinator.drop_made.Goals as goal
use Rattle.coord.specs.Delivering.{done_in}
use Rattle.std.proofs.Common.{[], refl, subst, sym}
use Rattle.tab_doors.specs.Working.{MayDiscardIn}
use Rattle.tab_stands.specs.Standing.{StandsFor, seen_start}
use Rattle.tab_unneeded.specs.Made.{InMade, IsMadeUnneeded, IsReadyThen}

pub discard_made-requires : goal.discard_made-requires
discard_made-requires g c =
    (keep_now g.m.event c.args.self.now c.requires.1.0.open_, (c.requires.1.1.1.1.1, (seen_room g.m.event c.args.self.now c.requires.1.0.open_, (subst (λ (x : InMade). StandsFor x.check (seen_start x.event) c.args.self.now.tables x.queue x.noted) (sym c.requires.0) (done_stands (done_in g.m) c.args.self.now c.args.job.now c.requires.1.0), (subst (λ (x : InMade). IsMadeUnneeded x c.args.job.now.doc c.args.state c.args.job.now.why) (sym c.requires.0) (made_unneeded (done_in g.m) c.args.self.now c.args.job.now c.requires.1.0 c.args.state c.requires.1.1.0 c.requires.1.1.1.0 c.requires.1.1.1.1.0), (done_logged (done_in g.m) c.args.self.now c.args.job.now c.requires.1.0, subst (λ (x : InMade). MayDiscardIn x.check.holds x.event) (sym c.requires.0) (none_steps g.m.event.checking (off g.m.event c.args.self.now c.requires.1.0.open_) (log_of g.m.event []))))))))

pub settle-requires : goal.settle-requires
settle-requires g c =
    dropped_settles (done_in g.m) c.args.self.now c.args.job.now c.requires.1.0 c.args.state c.requires.1.1.0 _ c.in_ok-discard_made.ensures.out _
    (subst (λ (x : InMade). IsReadyThen x c.discard_made.new.out c.discard_made.new.tables) c.requires.0 c.in_ok-discard_made.ensures.ready)
    (record c.args.self.now { tables = c.discard_made.new.tables }) refl refl refl refl refl
