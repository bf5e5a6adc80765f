use Rattle.std.proofs.Common.{◌≡◌, take}
use Rattle.scenario_text.proofs.word.is_word.Given as goal

abbrev pub invariant-loop-i : goal.invariant-loop-i
invariant-loop-i l = take l.i l.bytes ≡ take l.i l.word
