use Rattle.std.proofs.Common.{take}
use Rattle.seen_laws.specs.InEvent.{now_of}
use Rattle.tab_doors.specs.Working.{KeepsStore}
use Rattle.tab_evicts.proofs.below.discard_below.Given as goal
use Rattle.tab_evicts.specs.Evicting.{HasOnlyDiscarded, IsLetting, NoMoreBelow, NoneOfBelow, StaysPlaced}

abbrev pub ghost-discard_if : goal.ghost-discard_if
ghost-discard_if g a = g.l

abbrev pub invariant-loop-i : goal.invariant-loop-i
invariant-loop-i g l =
    IsLetting g.l l.gone l.why l.out l.tables
    × HasOnlyDiscarded l.why l.fn.out l.out
    × StaysPlaced (now_of g.l.pass.event l.fn.out) (now_of g.l.pass.event l.out)
    × NoneOfBelow (take l.i l.docs) (now_of g.l.pass.event l.out) l.gone
    × NoMoreBelow l.gone (now_of g.l.pass.event l.fn.out) (now_of g.l.pass.event l.out)
    × KeepsStore l.fn.tables l.tables
