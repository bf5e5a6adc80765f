use Rattle.std.proofs.Common.{◌≡◌, drop}
use Rattle.std.specs.List.{list_any}
use Rattle.entry_store.specs.Places.{is_navs_entry}
use Rattle.entry_store.proofs.swap.entry_at.Given as goal

abbrev pub invariant-loop-at : goal.invariant-loop-at
invariant-loop-at l = list_any (is_navs_entry l.nav l.entry) (drop l.at l.rows) ≡ list_any (is_navs_entry l.nav l.entry) l.rows
