use Rattle.std.proofs.Common.{add-one, subst, sym, List}
use Rattle.tab_ids.specs.declared.StateId.{StateId}
use Rattle.tab_ids.specs.declared.Step.{Step}
use Rattle.step_index.specs.Starts.{AreStarted}
use Rattle.step_index.proofs.Starting.{none_started, next_started}
use Rattle.step_index.proofs.rebuild.starts_of.Goals as goal

pub loop-row-init : goal.loop-row-init
loop-row-init c = subst (λ (s : List (StateId × Step)). AreStarted s _) (sym c.new-starts.ensures.empty) none_started

pub loop-row-preserved : goal.loop-row-preserved
loop-row-preserved c =
    rw add-one (next_started c.loop-row.starts.entries c.take_start.new.starts.entries c.args.rows.now c.loop-row.row-index c.row-item.result c.loop-row-test.true c.row-item.is c.in_ok-take_start.ensures.ok c.loop-row.invariant)
