use Rattle.std.proofs.Common.{Some}
use Rattle.tab_walk.proofs.moving.move_from.Given as goal
use Rattle.tab_walk.specs.Moving.{move_of}

abbrev pub ghost-begin_move : goal.ghost-begin_move
ghost-begin_move g a = g.m.pass

abbrev pub ghost-set_off : goal.ghost-set_off
ghost-set_off g a = g.m

abbrev pub ghost-make_room : goal.ghost-make_room
ghost-make_room g a = g.m

abbrev pub ghost-show_target : goal.ghost-show_target
ghost-show_target g a = record { pass = g.m.pass; move = Some (move_of g.m) }
