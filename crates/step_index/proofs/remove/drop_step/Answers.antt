use Rattle.std.proofs.Common.{◌≡◌, ◌<◌, ◌-◌, ◌∙◌, ℕ, List, sym, ap, subst, false, take, drop, length, arith}
use Rattle.std.specs.Prelude.{nat_le, nat_lt, Some}
use Rattle.std.specs.List.{list_any}
use Rattle.std.proofs.lemmas.Option.{slice_get-get_or}
use Rattle.step_index.proofs.Removing.{step_removed, step_absent, absent_first, absent_last}
use Rattle.step_index.proofs.remove.drop_step.Goals as goal

pub returns-then-upto-eq0 : goal.returns-then-upto-eq0
returns-then-upto-eq0 c =
    let used = c.args.used.now.items in
    let upto = c.uncounted_upto-upto.result in
    let step = c.args.step.0 in
    step_absent used step
    (absent_first used upto step c.if-upto-eq0.true
    (subst (λ (steps : List ℕ). list_any (λ n. nat_le n step) (drop upto steps) ≡ false) c.as_slice.ensures.value c.uncounted_upto-upto.ensures.past))

pub returns-then-index-step : goal.returns-then-index-step
returns-then-index-step c =
    let used = c.args.used.now.items in
    let upto = c.uncounted_upto-upto.result in
    let step = c.args.step.0 in
    let within : upto - 1 < length used = omega (arith, c.uncounted_upto-upto.ensures.within, ap (length {A = ℕ}) c.as_slice.ensures.value, c.if-upto-eq0.false) in
    c.remove.ensures.items
    ∙ step_removed used (upto - 1) step c.requires.sorted
    (slice_get-get_or used (upto - 1) c.index.result.now within ∙ ap (λ n. Some n) (sym c.index.ensures ∙ c.if-index-step.true))

pub returns-else-index-step : goal.returns-else-index-step
returns-else-index-step c =
    let used = c.args.used.now.items in
    let upto = c.uncounted_upto-upto.result in
    let step = c.args.step.0 in
    let some : 0 < upto = omega (arith, c.if-upto-eq0.false) in
    let within : upto - 1 < length used = omega (arith, c.uncounted_upto-upto.ensures.within, ap (length {A = ℕ}) c.as_slice.ensures.value, some) in
    step_absent used step
    (absent_last used upto c.index.result.now step c.requires.sorted some
    (slice_get-get_or used (upto - 1) c.index.result.now within ∙ ap (λ n. Some n) (sym c.index.ensures))
    c.if-index-step.false
    (subst (λ (steps : List ℕ). list_any (λ n. nat_lt step n) (take upto steps) ≡ false) c.as_slice.ensures.value c.uncounted_upto-upto.ensures.upto)
    (subst (λ (steps : List ℕ). list_any (λ n. nat_le n step) (drop upto steps) ≡ false) c.as_slice.ensures.value c.uncounted_upto-upto.ensures.past))
