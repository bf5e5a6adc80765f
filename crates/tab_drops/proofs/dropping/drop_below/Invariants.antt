use Rattle.seen_laws.specs.InEvent.{now_of}
use Rattle.tab_drops.proofs.dropping.drop_below.Given as goal
use Rattle.tab_drops.specs.Dropping.{IsBelowNav, IsDroppedFor}
use Rattle.tab_drops.specs.Turns.{IsDropping}

abbrev pub ghost-drop_if_below : goal.ghost-drop_if_below
ghost-drop_if_below g a = g.p

abbrev pub invariant-loop-i : goal.invariant-loop-i
invariant-loop-i g l =
    IsDropping g.p (IsDroppedFor (now_of g.p.event l.fn.out) l.by (IsBelowNav (now_of g.p.event l.fn.out) l.nav)) (IsBelowNav (now_of g.p.event l.fn.out) l.nav) l.fn.tables l.fn.out l.navs-inside.items.items l.i l.tables l.out
