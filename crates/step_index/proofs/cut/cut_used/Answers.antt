use Rattle.std.proofs.Common.{◌∙◌, sym, List, ℕ, subst, ◌≡◌, false, take, drop}
use Rattle.std.specs.Prelude.{nat_le, nat_lt}
use Rattle.std.specs.List.{list_any}
use Rattle.step_index.proofs.Searching.{cut_at}
use Rattle.step_index.proofs.cut.cut_used.Goals as goal

pub returns-clause-left : goal.returns-clause-left
returns-clause-left c =
    let used = c.args.used.now.items in
    let upto = c.uncounted_upto-upto.result in
    let a = c.uncounted_upto-upto.ensures in
    c.truncate.ensures.items
    ∙ sym (cut_at (λ n. n) used upto c.args.step.0
    (subst (λ (steps : List ℕ). list_any (λ n. nat_lt c.args.step.0 n) (take upto steps) ≡ false) c.as_slice.ensures.value a.upto)
    (subst (λ (steps : List ℕ). list_any (λ n. nat_le n c.args.step.0) (drop upto steps) ≡ false) c.as_slice.ensures.value a.past))
