use Rattle.std.proofs.Common.{◌≡◌, map}
use Rattle.step_index.proofs.rebuild.step_list.Given as goal

abbrev pub invariant-loop-step : goal.invariant-loop-step
invariant-loop-step l = l.list.items ≡ map (λ r. r.now) l.yielded
