use Rattle.coord.proofs.Mades.{parked_settles}
use Rattle.coord.proofs.coordinator.Coordinator.hold_back.Goals as goal
use Rattle.coord.specs.Standing.{IsToSettle}
use Rattle.log_model.specs.declared.job.Why.TheVariants as whys
use Rattle.log_model.specs.declared.made.Made.{Made}
use Rattle.log_model.specs.declared.row_kind.RowKind.{RowKind}
use Rattle.std.proofs.Common.{List, [], subst, sym, ◌++◌, ◌∷◌, ◌≡◌}

pub settle-requires : goal.settle-requires
settle-requires g c =
    let parked : c.park.new.self ≡ record c.args.self.now.queue { parked = c.args.self.now.queue.parked ++ c.args.made.now ∷ [] } = subst (λ (m : Made). c.park.new.self ≡ record c.args.self.now.queue { parked = c.args.self.now.queue.parked ++ m ∷ [] }) c.in_ok-held.ensures c.in_ok-park.ensures.ok in
    subst (λ (l : List RowKind). IsToSettle g.d.event l (record c.args.self.now { queue = c.park.new.self }) whys.Start) (sym c.requires.1.1.1)
    (parked_settles g.d c.args.self.now c.args.made.now c.requires.0 c.requires.1.0 c.requires.1.1.0 _ parked)
