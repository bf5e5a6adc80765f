use Rattle.log_model.specs.Seen.{document_of}
use Rattle.seen_laws.specs.InEvent.{now_of}
use Rattle.std.proofs.Common.{Some, []}
use Rattle.tab_moves.specs.PassedOn.{left_then}
use Rattle.tab_walk.proofs.moving.cut_from.Given as goal
use Rattle.tab_walk.specs.Cutting.{cut_of}
use Rattle.tab_walk.specs.Moving.{document_or}

abbrev pub ghost-cut_left : goal.ghost-cut_left
ghost-cut_left g a =
    record { m = g.m; rest = left_then (now_of g.m.pass.event a.out.now) a.left []; new = document_or (document_of (now_of g.m.pass.event a.out.now) g.m.doc) }

abbrev pub ghost-show_target : goal.ghost-show_target
ghost-show_target g a = record { pass = g.m.pass; move = Some (cut_of g.m) }
