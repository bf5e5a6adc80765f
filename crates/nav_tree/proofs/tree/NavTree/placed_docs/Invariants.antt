use Rattle.std.proofs.Common.{◌≡◌, take, map}
use Rattle.nav_tree.proofs.tree.NavTree.placed_docs.Given as goal

abbrev pub invariant-loop-i : goal.invariant-loop-i
invariant-loop-i l = l.docs.items ≡ map (λ entry. entry.1.doc) (take l.i l.self.places)
