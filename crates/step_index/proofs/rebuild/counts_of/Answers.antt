use Rattle.std.proofs.Common.{subst, sym, ℕ, List, []}
use Rattle.step_index.specs.declared.groups.Group.{Group}
use Rattle.step_index.specs.Groups.{AreCounted}
use Rattle.step_index.proofs.Counting.{none_counted, next_counted}
use Rattle.step_index.proofs.rebuild.counts_of.Goals as goal

pub loop-row-init : goal.loop-row-init
loop-row-init c = subst (λ (counts : List (Group × ℕ)). AreCounted counts []) (sym c.new-counts.ensures.empty) none_counted

pub loop-row-preserved : goal.loop-row-preserved
loop-row-preserved c =
    next_counted c.loop-row.counts.entries c.take_row.new.counts.entries c.args.rows.now c.loop-row.row-index c.row-item.result c.loop-row-test.true c.row-item.is c.in_ok-take_row.ensures c.loop-row.invariant
