use Rattle.std.proofs.Common.{◌≡◌, take}
use Rattle.std.specs.Prelude.{filter}
use Rattle.step_index.specs.Held.{history_held}
use Rattle.tab_doors.specs.Dues.{has_none}
use Rattle.tab_doors.proofs.changes.without_rows.Given as goal

abbrev pub invariant-loop-i : goal.invariant-loop-i
invariant-loop-i l = l.lost ≡ filter (has_none (history_held l.store).rows) (take l.i l.navs)
