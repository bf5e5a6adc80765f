use Rattle.std.proofs.Common.{Some, [], false}
use Rattle.tab_walk.proofs.cutting.cut_left.Given as goal
use Rattle.tab_walk.specs.Cutting.{cut_of}

abbrev pub ghost-discard : goal.ghost-discard
ghost-discard g a = record { pass = g.k.m.pass; move = Some (cut_of g.k.m); docs = []; sweeps = false }

abbrev pub ghost-cut_each : goal.ghost-cut_each
ghost-cut_each g a =
    record { cut = record { pass = g.k.m.pass; move = cut_of g.k.m; left = g.k.m.left; new = g.k.new }; gone = g.k.m.state; first = g.k.rest }
