use Rattle.std.proofs.Common.{◌≡◌, not, filter, take}
use Rattle.step_index.specs.Groups.{is_unused}
use Rattle.step_index.proofs.remove.drop_unused.Given as goal

abbrev pub invariant-loop-row : goal.invariant-loop-row
invariant-loop-row l = l.used.items ≡ filter (λ n. not (is_unused l.counts.entries (take l.row-index l.rows) n)) l.fn.used.items
