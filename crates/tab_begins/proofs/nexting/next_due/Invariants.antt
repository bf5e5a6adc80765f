use Rattle.std.specs.Prelude.{length, ◌≡◌}
use Rattle.tab_begins.proofs.nexting.next_due.Given as goal
use Rattle.tab_begins.proofs.Nexts.{from_due}

-- the first that is due is still to come
abbrev pub invariant-steps : goal.invariant-steps
invariant-steps l = (from_due l.fn.loads l.fn.queue.waiting ≡ from_due l.fn.loads l.queue.waiting) × (l.queue.parked ≡ l.fn.queue.parked)

abbrev pub decreases-steps : goal.decreases-steps
decreases-steps l = length l.queue.waiting
