use Rattle.seen_laws.specs.InEvent.{now_of}
use Rattle.std.proofs.Common.{drop, take}
use Rattle.tab_doors.specs.Working.{KeepsStore}
use Rattle.tab_evicts.specs.Evicting.{HasOnlyDiscarded, StaysPlaced}
use Rattle.tab_moves.specs.PassedOn.{without_all}
use Rattle.tab_walk.proofs.cutting.cut_each.Given as goal
use Rattle.tab_walk.specs.Cutting.{IsCutting}

abbrev pub ghost-cut_at : goal.ghost-cut_at
ghost-cut_at g a =
    record { cut = g.n.cut; gone = g.n.gone; first = g.n.first; rest = without_all (take a.i a.docs.now) g.n.first }

abbrev pub invariant-loop-i : goal.invariant-loop-i
invariant-loop-i g l =
    IsCutting g.n.cut g.n.gone l.why (without_all (take l.i l.docs) g.n.first) (drop l.i l.docs) l.out l.tables
    × HasOnlyDiscarded l.why l.fn.out l.out
    × StaysPlaced (now_of g.n.cut.pass.event l.fn.out) (now_of g.n.cut.pass.event l.out)
    × KeepsStore l.fn.tables l.tables
