use Rattle.std.proofs.Common.{List, ap, sym, ◌∙◌, subst}
use Rattle.log_model.specs.declared.row.Row.{Row}
use Rattle.log_model.specs.History.{History, Fits, applied}
use Rattle.log_model.specs.Order.{ordered, SameHistory}
use Rattle.history_laws.proofs.InOrder.{ordered-ordered}
use Rattle.entry_store.specs.Kept.{history_in, history_of, IsKept}
use Rattle.entry_store.proofs.Keeping.{IsKept-ordered}
use Rattle.entry_store.proofs.changed.changed_rows.Goals as goal

pub returns-clause-ok : goal.returns-clause-ok
returns-clause-ok c =
    let new = c.change_lists.new.lists in
    let done = c.in_ok-change_lists.ensures in
    let was = c.in_ok-lists.ensures.history in
    let same = subst (λ (history : History). SameHistory (history_in new) (applied history c.args.change.now)) was done.ok in
    let twice = ordered-ordered (history_in new).rows done.kept.sound.steps in
    record {
      fits = subst (λ (history : History). Fits history c.args.change.now) was done.fits;
      same = record { rows = ap ordered c.in_ok-rows.ensures ∙ twice ∙ same.rows; current = same.current; added = same.added };
      kept = subst (λ (rows : List Row). IsKept (history_of rows new.current.0 new.added.keys) new.used.keys) (sym c.in_ok-rows.ensures) (IsKept-ordered (history_in new) new.used.keys done.kept);
      in_order = ap ordered c.in_ok-rows.ensures ∙ twice ∙ sym c.in_ok-rows.ensures;
    }
