use Rattle.std.proofs.Common.{◌≡◌, drop}
use Rattle.std.specs.List.{list_any}
use Rattle.entry_store.specs.Nested.{rows_of}
use Rattle.entry_store.specs.Places.{is_navs_entry}
use Rattle.entry_store.proofs.swap.entry_place.Given as goal

abbrev pub invariant-loop-place : goal.invariant-loop-place
invariant-loop-place l = list_any (is_navs_entry l.nav l.entry) (rows_of (drop l.place l.nests)) ≡ list_any (is_navs_entry l.nav l.entry) (rows_of l.nests)
