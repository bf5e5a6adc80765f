use Rattle.std.proofs.Common.{◌≡◌, map, take}
use Rattle.log_model.specs.Orders.{Question}
use Rattle.tab_asks.proofs.checks.docs_of.Given as goal

abbrev pub invariant-loop-question : goal.invariant-loop-question
invariant-loop-question l = l.docs ≡ map (λ (question : Question). question.0) (take l.question-index l.questions)
