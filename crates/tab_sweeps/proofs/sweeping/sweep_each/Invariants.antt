use Rattle.seen_laws.specs.InEvent.{now_of}
use Rattle.std.proofs.Common.{drop}
use Rattle.tab_doors.specs.Working.{KeepsStore}
use Rattle.tab_sweeps.proofs.sweeping.sweep_each.Given as goal
use Rattle.tab_sweeps.specs.Sweeping.{IsSweptTurn}
use Rattle.tab_sweeps.specs.Turns.{AreStrays, HasSweptFirst, IsSweepingAt}

abbrev pub ghost-sweep_at : goal.ghost-sweep_at
ghost-sweep_at g a = record { pass = g.p; docs = drop a.i a.strays.now }

-- what holds once so many were discarded
abbrev pub invariant-loop-i : goal.invariant-loop-i
invariant-loop-i g l =
    IsSweepingAt g.p l.blame.entries l.strays l.i l.out l.tables
    × IsSweptTurn (now_of g.p.event l.fn.out) (now_of g.p.event l.out)
    × HasSweptFirst (now_of g.p.event l.fn.out) l.blame.entries l.strays l.i l.fn.out l.out
    × AreStrays (now_of g.p.event l.fn.out) l.strays
    × KeepsStore l.fn.tables l.tables
