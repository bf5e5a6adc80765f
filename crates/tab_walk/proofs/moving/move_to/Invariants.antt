use Rattle.std.proofs.Common.{None}
use Rattle.tab_walk.proofs.moving.move_to.Given as goal
use Rattle.tab_walk.specs.Moving.{in_move}

abbrev pub ghost-move_from : goal.ghost-move_from
ghost-move_from g a = in_move g.p a.nav a.cause a.doc a.entry a.left a.old

abbrev pub ghost-show_target : goal.ghost-show_target
ghost-show_target g a = record { pass = g.p; move = None }

abbrev pub ghost-cut_from : goal.ghost-cut_from
ghost-cut_from g a = in_move g.p a.nav a.cause a.doc a.entry a.left a.old
