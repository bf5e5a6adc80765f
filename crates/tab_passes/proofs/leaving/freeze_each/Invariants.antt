use Rattle.seen_laws.specs.InEvent.{now_of}
use Rattle.std.proofs.Common.{drop, take, ◌+◌}
use Rattle.tab_doors.specs.Working.{KeepsStore}
use Rattle.tab_passes.proofs.leaving.freeze_each.Given as goal
use Rattle.tab_passes.specs.Leaving.{HasOnlyFrozen, IsFreezingAt, IsStill, without_all}

abbrev pub ghost-freeze_at : goal.ghost-freeze_at
ghost-freeze_at g a =
    record {
      next = record { freezing = g.n.freezing; left = without_all (take a.i a.docs.now) g.n.left; docs = drop (a.i + 1) a.docs.now };
      first = g.n.left;
    }

abbrev pub invariant-loop-i : goal.invariant-loop-i
invariant-loop-i g l =
    IsFreezingAt g.n.freezing l.why g.n.left l.docs l.i l.out l.tables
    × HasOnlyFrozen l.why l.docs l.fn.out l.out
    × IsStill l.docs (now_of g.n.freezing.pass.event l.fn.out) (now_of g.n.freezing.pass.event l.out)
    × KeepsStore l.fn.tables l.tables
