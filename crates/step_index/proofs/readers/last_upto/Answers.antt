use Rattle.std.proofs.Common.{◌≡◌, ◌-◌, ◌<◌, ℕ, ap, sym, ◌∙◌, arith, length, Option}
use Rattle.std.specs.Option.{option_map}
use Rattle.log_model.specs.declared.row.Row.{Row}
use Rattle.step_index.proofs.Searching.{item_at}
use Rattle.step_index.proofs.Looking.{last_none, last_some}
use Rattle.step_index.proofs.readers.last_upto.Goals as goal

pub returns-then-upto-eq0-clause-last : goal.returns-then-upto-eq0-clause-last
returns-then-upto-eq0-clause-last g c =
    let a = c.count_upto-upto.ensures in
    ap (λ (row : Option Row). option_map (λ (r : Row). r.entry) row) (sym (last_none c.args.rows.now c.requires.sorted c.count_upto-upto.result c.args.s.0 a.upto a.past c.if-upto-eq0.true))

pub returns-else-upto-eq0-clause-last : goal.returns-else-upto-eq0-clause-last
returns-else-upto-eq0-clause-last g c =
    let a = c.count_upto-upto.ensures in
    let upto = c.count_upto-upto.result in
    let some : 0 < upto = omega (arith, c.if-upto-eq0.false) in
    let within : upto - 1 < length c.args.rows.now = omega (arith, a.within, some) in
    ap (λ (row : Row). option_map (λ (r : Row). r.entry) (Rattle.std.proofs.Common.Some row)) (sym c.index-rows-upto.is)
    ∙ ap (λ (row : Option Row). option_map (λ (r : Row). r.entry) row)
    (sym (last_some c.args.rows.now c.requires.sorted upto c.args.s.0 a.upto a.past c.index-rows-upto.result some (item_at c.args.rows.now (upto - 1) c.index-rows-upto.result within c.index-rows-upto.is)))
