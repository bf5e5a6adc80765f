use mir.Syntax.{w32}
use mir.Val.{SFits}
use Rattle.coord.proofs.Mades.{joined_settles}
use Rattle.coord.proofs.coordinator.Coordinator.take_go.Goals as goal
use Rattle.coord.specs.Standing.{IsToSettle}
use Rattle.log_model.specs.declared.job.Why.TheVariants as whys
use Rattle.log_model.specs.declared.row_kind.RowKind.{RowKind}
use Rattle.move_queue.specs.declared.queue_step.QueueStep.TheVariants.{Traverse}
use Rattle.std.proofs.Common.{List, [], rules, subst, sym, ℤ, ◌++◌, ◌∷◌, ◌≡◌}
use Rattle.std.proofs.lemmas.Int.{to_z-of_z}

pub settle-requires : goal.settle-requires
settle-requires g c =
    let fits : SFits w32 c.args.delta = search rules in
    let pushed : c.push.new.self ≡ record c.args.self.now.queue { waiting = c.args.self.now.queue.waiting ++ Traverse c.args.made.now.req c.args.delta ∷ [] } = subst (λ (z : ℤ). c.push.new.self ≡ record c.args.self.now.queue { waiting = c.args.self.now.queue.waiting ++ Traverse c.args.made.now.req z ∷ [] }) (to_z-of_z w32 c.args.delta fits) c.in_ok-push.ensures.ok in
    subst (λ (l : List RowKind). IsToSettle g.d.event l (record c.args.self.now { queue = c.push.new.self }) whys.Start) (sym c.requires.1.1)
    (joined_settles g.d c.args.self.now c.args.made.now c.requires.0 c.args.delta c.requires.1.0 _ pushed)
