use Rattle.std.proofs.Common.{◌≡◌, drop}
use Rattle.std.specs.List.{find}
use Rattle.nav_tree.specs.Tree.{is_placed}
use Rattle.nav_tree.proofs.tree.NavTree.state_of.Given as goal

abbrev pub invariant-loop-i : goal.invariant-loop-i
invariant-loop-i l =
    find (is_placed l.doc) (drop l.i l.self.places) ≡ find (is_placed l.doc) l.self.places
