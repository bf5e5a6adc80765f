use Rattle.std.proofs.Common.{sym, ◌∙◌}
use Rattle.apply_plan.proofs.Plans.{stand_fails, stand_past}
use Rattle.apply_plan.proofs.settling.settled.Goals as goal

pub returns-then-not-stands_if_wanted : goal.returns-then-not-stands_if_wanted
returns-then-not-stands_if_wanted g c = sym (c.loop-i.invariant ∙ stand_fails _ _ _ _ c.loop-i.i c.at.ensures (sym c.stands_if_wanted.ensures ∙ c.if-not-stands_if_wanted.true))

pub loop-i-preserved : goal.loop-i-preserved
loop-i-preserved g c = c.loop-i.invariant ∙ stand_past _ _ _ _ c.loop-i.i c.at.ensures (sym c.stands_if_wanted.ensures ∙ c.if-not-stands_if_wanted.false)
