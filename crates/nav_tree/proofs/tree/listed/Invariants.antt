use Rattle.std.proofs.Common.{◌≡◌, take}
use Rattle.nav_tree.proofs.tree.listed.Given as goal

abbrev pub invariant-loop-doc : goal.invariant-loop-doc
invariant-loop-doc l = l.list ≡ take l.doc-index l.docs
