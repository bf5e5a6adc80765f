use Rattle.std.proofs.Common.{sym, ◌∙◌}
use Rattle.apply_plan.proofs.Plans.{rest_here, rest_past}
use Rattle.apply_plan.proofs.planning.place_after.Goals as goal

pub returns-then-nav-last : goal.returns-then-nav-last
returns-then-nav-last c = sym (c.loop-i.invariant ∙ rest_here _ _ c.args.navs.now c.loop-i.i c.at-nav.ensures c.if-nav-last.true)

pub loop-i-preserved : goal.loop-i-preserved
loop-i-preserved c = c.loop-i.invariant ∙ rest_past _ _ c.args.navs.now c.loop-i.i c.at-nav.ensures c.if-nav-last.false
