-- A new number goes last.
use Rattle.std.proofs.Common.{refl}
use Rattle.indexmap.proofs.CallerLemmas.{insert_entry-new}
use Rattle.nav_tree.proofs.tree.NavTree.add.Goals as goal

pub returns-clause-ok : goal.returns-clause-ok
returns-clause-ok c =
    let free = rw (← c.self.view_is) at c.requires.new in
    rw (c.in_ok-insert.ensures.entries, ← c.self.view_is, insert_entry-new _ c.self.inside.navs c.args.nav _ free) refl
