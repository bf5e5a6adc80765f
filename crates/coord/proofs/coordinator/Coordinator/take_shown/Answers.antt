use Rattle.coord.proofs.Dones.{shown_settles, shown_there}
use Rattle.coord.proofs.coordinator.Coordinator.take_shown.Goals as goal
use Rattle.coord.specs.Standing.{IsToSettle}
use Rattle.log_model.specs.declared.job.Why.TheVariants as whys
use Rattle.log_model.specs.declared.row_kind.RowKind.{RowKind}
use Rattle.std.proofs.Common.{List, subst, sym}

pub note_shown-requires : goal.note_shown-requires
note_shown-requires g c = shown_there g.d c.args.self.now c.args.job.now c.requires.0

pub settle-requires : goal.settle-requires
settle-requires g c =
    subst (λ (l : List RowKind). IsToSettle g.d.event l (record c.args.self.now { tables = c.note_shown.new.self }) whys.Start) (sym c.requires.1.1)
    (shown_settles g.d c.args.self.now c.args.job.now c.requires.0 c.requires.1.0 _ c.note_shown.ensures)
