use Rattle.std.proofs.Common.{◌≡◌, length}
use Rattle.scenario_text.specs.Grammar.{has_empty_word}
use Rattle.scenario_text.proofs.fields.has_empty_word.Given as goal

abbrev pub invariant-words : goal.invariant-words
invariant-words l = has_empty_word l.rest ≡ has_empty_word l.line

abbrev pub decreases-words : goal.decreases-words
decreases-words l = length l.rest
