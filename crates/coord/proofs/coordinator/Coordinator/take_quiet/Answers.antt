use Rattle.coord.proofs.Dones.{quiet_settles}
use Rattle.coord.proofs.Quiet.{quiet_acts}
use Rattle.coord.proofs.coordinator.Coordinator.take_quiet.Goals as goal
use Rattle.coord.specs.Standing.{HasActed, IsToSettle}
use Rattle.log_model.specs.declared.job.Why.TheVariants as whys
use Rattle.log_model.specs.declared.row_kind.RowKind.{RowKind}
use Rattle.std.proofs.Common.{List, subst, sym}

pub settle-requires : goal.settle-requires
settle-requires g c =
    subst (λ (l : List RowKind). IsToSettle g.d.event l c.args.self.now whys.Start) (sym c.requires.1.1) (quiet_settles g.d c.args.self.now c.args._job.now c.requires.0 c.requires.1.0)

pub returns-then-is_none_noted : goal.returns-then-is_none_noted
returns-then-is_none_noted g c =
    record { acted = subst (λ (l : List RowKind). HasActed g.d.event l c.args.self.now) (sym c.requires.1.1) (quiet_acts g.d c.args.self.now c.args._job.now c.requires.0 c.requires.1.0 (c.is_none_noted.ensures c.if-is_none_noted.true)) }
