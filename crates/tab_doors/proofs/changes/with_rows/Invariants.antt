use Rattle.std.proofs.Common.{◌≡◌, take}
use Rattle.std.specs.Prelude.{filter}
use Rattle.apply_plan.specs.Order.{made_in}
use Rattle.step_index.specs.Held.{history_held}
use Rattle.tab_doors.specs.Dues.{has_any}
use Rattle.tab_doors.proofs.changes.with_rows.Given as goal

abbrev pub invariant-loop-i : goal.invariant-loop-i
invariant-loop-i l = l.navs ≡ filter (has_any (history_held l.store).rows) (take l.i (made_in l.tree))
