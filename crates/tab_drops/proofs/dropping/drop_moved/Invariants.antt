use Rattle.seen_laws.specs.InEvent.{now_of}
use Rattle.tab_drops.proofs.dropping.drop_moved.Given as goal
use Rattle.tab_drops.specs.Dropping.{IsDroppedFor, IsUnsettled}
use Rattle.tab_drops.specs.Turns.{IsDropping}

abbrev pub ghost-drop_if_moved : goal.ghost-drop_if_moved
ghost-drop_if_moved g a = g.p

abbrev pub invariant-loop-i : goal.invariant-loop-i
invariant-loop-i g l =
    IsDropping g.p (IsDroppedFor (now_of g.p.event l.fn.out) l.by (IsUnsettled (now_of g.p.event l.fn.out))) (IsUnsettled (now_of g.p.event l.fn.out)) l.fn.tables l.fn.out l.navs-inside.items.items l.i l.tables l.out
