use Rattle.std.proofs.Common.{sym, ◌∙◌}
use Rattle.tab_passes.proofs.Sleeps.{wakes_here, wakes_past}
use Rattle.tab_passes.proofs.sleeping.shower.Goals as goal

pub returns-then-wakes_on : goal.returns-then-wakes_on
returns-then-wakes_on c =
    sym (c.loop-i.invariant ∙ wakes_here c.args.tree.now c.args.doc c.at-nav.result c.loop-i.i c.at-nav.ensures (sym c.wakes_on.ensures ∙ c.if-wakes_on.true))

pub loop-i-preserved : goal.loop-i-preserved
loop-i-preserved c =
    c.loop-i.invariant ∙ wakes_past c.args.tree.now c.args.doc c.at-nav.result c.loop-i.i c.at-nav.ensures (sym c.wakes_on.ensures ∙ c.if-wakes_on.false)
