use Rattle.std.proofs.Common.{◌≡◌}
use Rattle.part_tests.proofs.turn_table_tests.take_turns.Given as goal

abbrev pub invariant-loop-number : goal.invariant-loop-number
invariant-loop-number g l = (l.seat.place.table_id ≡ l.initial.seat.place.table_id) × (l.seat.place.me.0.name ≡ l.initial.seat.place.me.0.name)
