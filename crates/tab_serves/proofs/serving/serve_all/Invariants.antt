use Rattle.tab_serves.proofs.serving.serve_all.Given as goal
use Rattle.tab_serves.specs.Serving.{IsServing, walk_by}

abbrev pub ghost-serve_one : goal.ghost-serve_one
ghost-serve_one g a = g.p

-- what holds after so many turns
abbrev pub invariant-loop-i : goal.invariant-loop-i
invariant-loop-i g l = IsServing (walk_by g.p l.cause l.navs-inside.items.items) l.fn.tables l.fn.out l.tables l.out l.i
