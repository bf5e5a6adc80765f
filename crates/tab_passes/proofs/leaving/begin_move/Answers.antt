use Rattle.std.proofs.Common.{Some, refl}
use Rattle.tab_passes.proofs.Leavings.{begun_leaving}
use Rattle.tab_passes.proofs.leaving.begin_move.Goals as goal

pub returns-clause-leaving : goal.returns-clause-leaving
returns-clause-leaving g c = rw c.in_ok-gone.ensures.kept (begun_leaving g.p c.args.out.now c.args.tables.now c.args.doc (Some c.args.left) _ c.requires refl)
