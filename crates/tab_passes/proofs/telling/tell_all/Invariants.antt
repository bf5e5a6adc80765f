use Rattle.tab_passes.specs.Telling.{IsTelling}
use Rattle.tab_passes.proofs.telling.tell_all.Given as goal

abbrev pub ghost-tell_one : goal.ghost-tell_one
ghost-tell_one g a = g.p

-- what holds after so many turns
abbrev pub invariant-loop-i : goal.invariant-loop-i
invariant-loop-i g l = IsTelling g.p l.why l.fn.tables l.fn.out l.tables l.out l.navs-inside.items.items l.i
