use Rattle.std.proofs.Common.{◌≡◌, ◌∙◌, sym, ap, subst, not, List, filter}
use Rattle.tab_ids.specs.declared.NavId.{NavId}
use Rattle.tab_ids.specs.declared.Step.{Step}
use Rattle.log_model.specs.declared.row.Row.{Row}
use Rattle.log_model.specs.declared.change.Change.TheVariants.{RemoveFrame}
use Rattle.log_model.specs.History.{History, is_of, used_step_at, applied}
use Rattle.log_model.specs.Order.{SameHistory}
use Rattle.step_index.specs.declared.parts.Parts.{Parts}
use Rattle.step_index.specs.Tracks.{rows_of}
use Rattle.step_index.specs.Parts.{history_in}
use Rattle.step_index.proofs.Removing.{leaf_fits, leaf_same}
use Rattle.step_index.proofs.remove.remove_at.Goals as goal

pub returns-clause-fits : goal.returns-clause-fits
returns-clause-fits c = leaf_fits c.args.parts.now c.requires.index c.args.nav c.args.at c.requires.leaf

pub returns-clause-ok : goal.returns-clause-ok
returns-clause-ok c =
    let parts = c.args.parts.now in
    let mid = c.take_out.new.parts in
    let last = c.close_gaps.new.parts in
    let done = c.take_out.ensures in
    let same = c.close_gaps.ensures.same in
    let rows : rows_of last.tracks.items ≡ left c.args.nav parts = ap (λ (h : History). h.rows) same ∙ done.rows in
    let added : last.added.keys ≡ parts.added.keys = ap (λ (h : History). h.added) same ∙ done.added in
    let current : last.current.0 ≡ parts.current.0 = ap (λ (h : History). h.current) same ∙ ap (λ (s : Step). s.0) done.current in
    let step = c.used_step-parts.result.0 in
    subst (λ (r : List Row). SameHistory (record { rows = r; current = step; added = last.added.keys }) (applied (history_in parts) (RemoveFrame c.args.nav))) (sym rows)
    (subst (λ (navs : List NavId). SameHistory (record { rows = left c.args.nav parts; current = step; added = navs }) (applied (history_in parts) (RemoveFrame c.args.nav))) (sym added)
    (leaf_same parts c.requires.index c.args.nav c.args.at c.requires.leaf step
    (c.used_step-parts.ensures ∙ ap (λ (r : List Row). used_step_at r last.current.0) rows ∙ ap (used_step_at (left c.args.nav parts)) current)))
  where
    left : NavId → Parts → List Row
    left nav parts = filter (λ (row : Row). not (is_of nav row)) (rows_of parts.tracks.items)
