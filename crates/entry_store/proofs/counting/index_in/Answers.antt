use Rattle.std.proofs.Common.{◌<◌, ◌≤◌, ℕ, subst, sym, ◌∙◌, arith}
use Rattle.std.specs.Prelude.{nat_lt}
use Rattle.std.proofs.lemmas.Map.Keys.{le_from_is_le}
use Rattle.log_model.specs.History.{greatest_step}
use Rattle.entry_store.specs.Kept.{history_in}
use Rattle.entry_store.proofs.StepBounds.{used_fits, index_fits}
use Rattle.entry_store.proofs.LastStep.{some_used, history_index-last}
use Rattle.entry_store.proofs.counting.index_in.Goals as goal

pub overflow_sub-len : goal.overflow_sub-len
overflow_sub-len c =
    omega (arith, c.len.ensures.len, some_used (history_in c.args.lists.now) c.args.lists.now.used.keys c.requires.kept)

pub as_count-requires : goal.as_count-requires
as_count-requires c =
    omega (arith, c.len.ensures.len, used_fits (history_in c.args.lists.now) c.args.lists.now.used.keys c.requires.kept)

pub as_count-requires-else-le : goal.as_count-requires-else-le
as_count-requires-else-le c =
    subst (λ (n : ℕ). n < 4294967296) (sym c.count_before.ensures) (index_fits (history_in c.args.lists.now) c.args.lists.now.used.keys (λ step. nat_lt step c.used_step_in-at.result.0) c.requires.kept)

pub returns-then-le : goal.returns-then-le
returns-then-le c =
    let last : greatest_step (history_in c.args.lists.now).rows ≤ c.args.s.0 = omega (arith, c.greatest_step_in.ensures, le_from_is_le c.greatest_step_in.result.0 c.args.s.0 (sym c.le.ensures ∙ c.if-le.true)) in
    omega (arith, c.as_count.ensures, c.len.ensures.len, history_index-last (history_in c.args.lists.now) c.args.lists.now.used.keys c.requires.kept c.args.s.0 last)
