use Rattle.std.proofs.Common.{◌∙◌, ap, sym, not, List, ◌&&◌}
use Rattle.std.specs.List.{list_any}
use Rattle.log_model.specs.declared.row.Row.{Row}
use Rattle.log_model.specs.History.{is_of}
use Rattle.log_model.specs.Soundness.{is_in_state}
use Rattle.entry_store.proofs.Asking.{state_is_free}
use Rattle.store_examples.proofs.taking.is_free_for.Goals as goal

pub returns : goal.returns
returns g c free =
    state_is_free (g.S.Store.history c.args.store.now).rows c.in_ok-rows.rows c.args.nav c.args.state c.in_ok-rows.ensures
    (sym (ap not (c.is_of_another.ensures ∙ ap (λ (rows : List Row). list_any (λ (row : Row). is_in_state c.args.state row && not (is_of c.args.nav row)) rows) c.as_slice.ensures)) ∙ free)
