use Rattle.coord.proofs.Placed.{noted_for, placed_settles}
use Rattle.coord.proofs.coordinator.Coordinator.take_asked.Goals as goal
use Rattle.coord.specs.Standing.{IsToSettle}
use Rattle.indexmap.specs.IndexMap.{insert_entry}
use Rattle.log_model.specs.declared.job.Why.{Why}
use Rattle.log_model.specs.declared.job.Why.TheVariants as whys
use Rattle.log_model.specs.declared.row_kind.RowKind.{RowKind}
use Rattle.nav_tree.specs.Tree.{is_state}
use Rattle.std.proofs.Common.{List, [], ap, refl, subst, sym, ◌∙◌}
use Rattle.tab_ids.specs.declared.ReqId.{ReqId}
use Rattle.tab_ids.specs.declared.StateId.{StateId}

pub settle-requires : goal.settle-requires
settle-requires g c =
    subst (λ (l : List RowKind). IsToSettle g.d.event l (record c.place.new.self { blame = c.insert.new.self }) (whys.Req c.args.req)) (sym c.requires.1.1.1)
    (subst (λ (w : Why). IsToSettle g.d.event [] (record c.place.new.self { blame = c.insert.new.self }) w) c.requires.1.1.0
    (placed_settles g.d c.args.self.now c.args.job.now c.requires.0 c.args.state c.requires.1.0 c.place.new.self (record c.place.new.self { blame = c.insert.new.self }) c.in_ok-place.ensures.placed refl refl refl refl
    (noted_for g.d c.args.self.now c.args.job.now c.requires.0 c.args.state c.requires.1.0 c.args.req c.requires.1.1.0 _ (c.in_ok-insert.ensures.entries ∙ ap (λ (l : List (StateId × ReqId)). insert_entry is_state l c.args.state c.args.req) c.in_ok-place.ensures.placed.noted))))
