use Rattle.std.proofs.Common.{◌≡◌, ℕ, map}
use Rattle.tab_ids.specs.declared.NavId.{NavId}
use Rattle.step_index.proofs.listing.nav_list.Given as goal

abbrev pub invariant-loop-number : goal.invariant-loop-number
invariant-loop-number l = l.navs ≡ map (λ (number : ℕ). let nav : NavId = record { 0 = number } in nav) (map (λ r. r.now) l.yielded)
