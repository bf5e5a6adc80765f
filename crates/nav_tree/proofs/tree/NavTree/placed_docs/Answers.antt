use Rattle.std.proofs.Common.{refl}
use Rattle.std.proofs.lemmas.List.{map-append}
use Rattle.nav_tree.proofs.Lists.{take-slice_get}
use Rattle.nav_tree.proofs.tree.NavTree.placed_docs.Goals as goal

pub loop-i-preserved : goal.loop-i-preserved
loop-i-preserved c =
    rw (take-slice_get c.args.self.now.places c.loop-i.i c.place_at.result c.place_at.ensures, map-append, c.in_ok-push.ensures.items, c.loop-i.invariant) refl
