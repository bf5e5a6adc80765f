use Rattle.seen_laws.specs.InEvent.{now_of}
use Rattle.std.proofs.Common.{true}
use Rattle.tab_drops.proofs.destroying.destroy_loads.Given as goal
use Rattle.tab_drops.specs.Dropping.{IsBare, IsDestroyedLoad}
use Rattle.tab_drops.specs.Turns.{IsDroppingIn}

abbrev pub ghost-destroy_if : goal.ghost-destroy_if
ghost-destroy_if g a = g.p

abbrev pub invariant-loop-i : goal.invariant-loop-i
invariant-loop-i g l =
    IsDroppingIn true g.p (IsDestroyedLoad (now_of g.p.event l.fn.out)) (IsBare (now_of g.p.event l.fn.out)) l.fn.tables l.fn.out l.navs-inside.items.items l.i l.tables l.out
