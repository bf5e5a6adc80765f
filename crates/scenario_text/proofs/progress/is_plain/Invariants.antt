use Rattle.std.proofs.Common.{◌≡◌, take}
use Rattle.std.specs.List.{list_all}
use Rattle.scenario_text.specs.Grammar.{is_plain}
use Rattle.scenario_text.proofs.progress.is_plain.Given as goal

abbrev pub invariant-loop-b : goal.invariant-loop-b
invariant-loop-b l = l.plain ≡ list_all is_plain (take l.b-index l.line)
