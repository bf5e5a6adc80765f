use Rattle.std.proofs.Common.{◌≡◌, ◌++◌, take, drop, map}
use Rattle.unload_check.specs.Checks.{dead_doc}
use Rattle.unload_check.proofs.request_check.bury_all.Given as goal

abbrev pub invariant-loop-asked : goal.invariant-loop-asked
invariant-loop-asked l =
    take l.asked-index l.all ++ map (dead_doc l.docs) (drop l.asked-index l.all) ≡ map (dead_doc l.docs) l.fn.all
