use Rattle.std.proofs.Common.{◌≡◌, drop, fold}
use Rattle.unload_check.specs.Checks.{lowest_prompting, prompting_doc}
use Rattle.unload_check.proofs.request_check.prompting_doc.Given as goal

abbrev pub invariant-loop-asked : goal.invariant-loop-asked
invariant-loop-asked l = fold lowest_prompting l.lowest (drop l.asked-index l.all) ≡ prompting_doc l.fn.all
