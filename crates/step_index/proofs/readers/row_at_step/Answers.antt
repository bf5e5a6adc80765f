use Rattle.std.proofs.Common.{◌≡◌, ◌-◌, ◌<◌, ℕ, false, ◌∙◌, ap, sym, subst, cond, drop, length, arith, Some, None}
use Rattle.std.specs.Prelude.{nat_le}
use Rattle.std.specs.List.{list_any}
use Rattle.log_model.specs.declared.row.Row.{Row}
use Rattle.log_model.specs.Soundness.{is_entry}
use Rattle.step_index.proofs.Searching.{item_at}
use Rattle.step_index.proofs.Noting.{none_there, upto_last}
use Rattle.step_index.proofs.readers.row_at_step.Goals as goal

pub returns-then-upto-eq0 : goal.returns-then-upto-eq0
returns-then-upto-eq0 c =
    let step = c.args.step.0 in
    sym (none_there step (is_entry c.args.entry) c.args.rows.now
    (subst (λ (n : ℕ). list_any (λ (row : Row). nat_le row.step.0 step) (drop n c.args.rows.now) ≡ false) c.if-upto-eq0.true c.uncounted_upto-upto.ensures.past))

pub returns-then-is_it : goal.returns-then-is_it
returns-then-is_it c =
    let rows = c.args.rows.now in
    let upto = c.uncounted_upto-upto.result in
    let a = c.uncounted_upto-upto.ensures in
    let row = c.index-rows-upto.result in
    let some : 0 < upto = omega (arith, c.if-upto-eq0.false) in
    let within : upto - 1 < length rows = omega (arith, a.within, some) in
    sym (upto_last c.args.step.0 (is_entry c.args.entry) rows upto row c.requires.sorted some (item_at rows (upto - 1) row within c.index-rows-upto.is) a.upto a.past
    ∙ ap (λ b. cond b (Some row) None) (sym c.is_it.ensures ∙ c.if-is_it.true))

pub returns-else-is_it : goal.returns-else-is_it
returns-else-is_it c =
    let rows = c.args.rows.now in
    let upto = c.uncounted_upto-upto.result in
    let a = c.uncounted_upto-upto.ensures in
    let row = c.index-rows-upto.result in
    let some : 0 < upto = omega (arith, c.if-upto-eq0.false) in
    let within : upto - 1 < length rows = omega (arith, a.within, some) in
    sym (upto_last c.args.step.0 (is_entry c.args.entry) rows upto row c.requires.sorted some (item_at rows (upto - 1) row within c.index-rows-upto.is) a.upto a.past
    ∙ ap (λ b. cond b (Some row) None) (sym c.is_it.ensures ∙ c.if-is_it.false))
