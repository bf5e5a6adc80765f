use Rattle.coord.proofs.Mades.{taken_settles, to_take}
use Rattle.coord.proofs.coordinator.Coordinator.take_up.Goals as goal
use Rattle.log_model.specs.declared.row_kind.RowKind.{RowKind}
use Rattle.std.proofs.Common.{List, [], ◌∷◌, refl, subst, sym}
use Rattle.tab_stands.specs.PassedOn.{HasTaken, IsToTake}

pub take-requires : goal.take-requires
take-requires g c =
    let its : IsToTake (record { event = g.d.event; loads = []; hand = c.args.made.now ∷ [] }) c.args.out.now c.args.self.now.tables c.args.self.now.blame.entries c.args.made.now = subst (λ (l : List RowKind). IsToTake (record { event = g.d.event; loads = []; hand = c.args.made.now ∷ [] }) l c.args.self.now.tables c.args.self.now.blame.entries c.args.made.now) (sym c.requires.1.1.1.1) (to_take g.d c.args.self.now c.args.made.now c.requires.0 c.requires.1.0 c.args.verdict c.requires.1.1.0 c.requires.1.1.1.0) in
    (its.passing, (its.taking, (c.requires.1.1.0, (c.requires.1.1.1.0, (its.open_, (its.loose, its.arrived))))))

pub settle-requires : goal.settle-requires
settle-requires g c =
    let taken : HasTaken (record { event = g.d.event; loads = []; hand = c.args.made.now ∷ [] }) c.args.self.now.tables c.args.made.now c.args.out.now c.take.new.out c.take.new.tables c.take.new.blame.entries = record {
      passing = c.in_ok-take.ensures.passing;
      open_ = c.in_ok-take.ensures.open_;
      loose = c.in_ok-take.ensures.loose;
      cause = c.in_ok-take.ensures.cause;
      ended = c.in_ok-take.ensures.ended;
      queue = c.in_ok-take.ensures.queue;
      kept = c.in_ok-take.ensures.kept;
    } in
    taken_settles g.d c.args.self.now c.args.made.now c.requires.0 c.requires.1.0 c.args.verdict c.requires.1.1.0 c.requires.1.1.1.0 c.take.new.out c.take.new.tables c.take.new.blame.entries (subst (λ (l : List RowKind). HasTaken (record { event = g.d.event; loads = []; hand = c.args.made.now ∷ [] }) c.args.self.now.tables c.args.made.now l c.take.new.out c.take.new.tables c.take.new.blame.entries) c.requires.1.1.1.1 taken) (record c.args.self.now { tables = c.take.new.tables; blame = c.take.new.blame }) refl refl refl refl refl
