use Rattle.coord.proofs.Placed.{needed, noted_none, placed_settles}
use Rattle.coord.proofs.coordinator.Coordinator.take_unasked.Goals as goal
use Rattle.coord.specs.Standing.{IsToSettle}
use Rattle.log_model.specs.declared.row_kind.RowKind.{RowKind}
use Rattle.std.proofs.Common.{List, refl, subst, sym}

pub settle-requires : goal.settle-requires
settle-requires g c =
    subst (λ (l : List RowKind). IsToSettle g.d.event l c.place.new.self c.args.job.now.why) (sym c.requires.1.1.1)
    (placed_settles g.d c.args.self.now c.args.job.now c.requires.0 c.args.state c.requires.1.0 c.place.new.self c.place.new.self c.in_ok-place.ensures.placed refl refl refl refl
    (noted_none g.d c.args.self.now c.args.job.now c.requires.0 c.args.state c.requires.1.0 _ c.in_ok-place.ensures.placed.noted (needed g.d c.args.self.now c.args.job.now c.requires.0 c.args.state c.requires.1.0 (sym c.if-is_unneeded.ensures))))
