use Rattle.std.proofs.Common.{◌≡◌, ◌++◌, take, drop, map}
use Rattle.unload_check.specs.Checks.{answered_doc}
use Rattle.unload_check.proofs.request_check.answer_all.Given as goal

abbrev pub invariant-loop-asked : goal.invariant-loop-asked
invariant-loop-asked l =
    take l.asked-index l.all ++ map (answered_doc l.doc l.verdict) (drop l.asked-index l.all) ≡ map (answered_doc l.doc l.verdict) l.fn.all
