use Rattle.load_turns.proofs.turns.let_all_pass.Given as goal
use Rattle.load_turns.specs.Turns.{HaveTurned, stage_then}
use Rattle.std.proofs.Common.{[], take, ◌≡◌}

abbrev pub ghost-let_next : goal.ghost-let_next
ghost-let_next g a = stage_then g.w a.done.now a.tables.now.asking

-- of the navigables so far each load that goes on has passed, and no run lasts
abbrev pub invariant-loop-nav : goal.invariant-loop-nav
invariant-loop-nav g l =
    record {
      turned : HaveTurned g.w (take l.nav-index l.navs) l.fn.tables l.tables l.done;
      none : l.run ≡ [];
    }
