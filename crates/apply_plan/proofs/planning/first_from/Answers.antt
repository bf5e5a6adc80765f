use Rattle.std.proofs.Common.{sym, ◌∙◌}
use Rattle.apply_plan.proofs.Plans.{need_here, need_past}
use Rattle.apply_plan.proofs.planning.first_from.Goals as goal

pub returns-in-Some : goal.returns-in-Some
returns-in-Some g c = sym (c.loop-i.invariant ∙ need_here _ _ _ _ c.args.navs.now c.loop-i.i _ c.at.ensures (sym c.in-Some.ensures))

pub loop-i-preserved : goal.loop-i-preserved
loop-i-preserved g c = c.loop-i.invariant ∙ need_past _ _ _ _ c.args.navs.now c.loop-i.i c.at.ensures (sym c.in-None.ensures)
