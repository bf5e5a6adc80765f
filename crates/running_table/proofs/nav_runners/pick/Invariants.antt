use Rattle.std.proofs.Common.{◌≡◌, fold, None}
use Rattle.running_table.specs.Picking.{newer_runner}
use Rattle.running_table.proofs.nav_runners.pick.Given as goal

abbrev pub invariant-loop-doc : goal.invariant-loop-doc
invariant-loop-doc l = fold newer_runner l.newest l.doc-iterator ≡ fold newer_runner None l.fn.epochs.entries
