use Rattle.std.proofs.Common.{◌≡◌, take}
use Rattle.checking_facts.specs.Prompts.{told_by}
use Rattle.tab_asks.proofs.telling.tell_ended.Given as goal

abbrev pub invariant-loop-row : goal.invariant-loop-row
invariant-loop-row l = record { checks = l.checks; run = l.run } ≡ told_by l.fn.run l.fn.checks (take l.row-index l.row-items)
