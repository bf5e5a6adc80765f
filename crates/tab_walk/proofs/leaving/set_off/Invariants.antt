use Rattle.seen_laws.specs.InEvent.{now_of}
use Rattle.std.proofs.Common.{[]}
use Rattle.tab_moves.specs.PassedOn.{left_then}
use Rattle.tab_walk.proofs.leaving.set_off.Given as goal
use Rattle.tab_walk.specs.Moving.{move_of}

abbrev pub ghost-freeze_left : goal.ghost-freeze_left
ghost-freeze_left g a =
    record { moving = record { pass = g.m.pass; move = move_of g.m; cause = g.m.cause }; nav = g.m.nav; left = left_then (now_of g.m.pass.event a.out.now) a.doc [] }
