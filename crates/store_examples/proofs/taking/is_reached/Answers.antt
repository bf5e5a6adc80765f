use Rattle.std.proofs.Common.{◌∙◌, ap, sym, List}
use Rattle.std.specs.Prelude.{nat_le}
use Rattle.std.specs.List.{list_any}
use Rattle.log_model.specs.declared.row.Row.{Row}
use Rattle.entry_store.proofs.Asking.{goal_is_reached}
use Rattle.store_examples.proofs.taking.is_reached.Goals as goal

pub returns : goal.returns
returns g c reached =
    goal_is_reached (g.S.Store.history c.args.store.now).rows c.in_ok-rows.rows c.args.goal.0 c.in_ok-rows.ensures
    (sym (c.is_past.ensures ∙ ap (λ (rows : List Row). list_any (λ (row : Row). nat_le c.args.goal.0 row.step.0) rows) c.as_slice.ensures) ∙ reached)
