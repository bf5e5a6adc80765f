use Rattle.std.proofs.Common.{ap, sym, ℕ, List}
use Rattle.scenario_text.specs.Words.{Fields}
use Rattle.scenario_text.proofs.PieceLaws.{cut_four}
use Rattle.scenario_text.proofs.fields.words.Goals as goal

pub returns-clause-words : goal.returns-clause-words
returns-clause-words c =
    let four = cut_four _ _ _ _ _ _ _ _ _ c.in-Some.ensures.cut c.in-Some-cut.ensures.cut c.in-Some-cut-2.ensures.cut c.in-Some-cut-3.ensures.cut in
    record { word = sym (ap (λ (split : List ℕ × Fields). split.0) four); fields = sym (ap (λ (split : List ℕ × Fields). split.1) four) }
