use denote.Param.Send.{IsSend, IsSync, param_send, sendable}
use denote.Struct.Field.{u64-field}
use Rattle.std.proofs.Crossing.{crosses}
use Rattle.turn_table.specs.contracts.seat.Seat as seat
use Rattle.turn_table.specs.contracts.turn.Turn as turn
use Rattle.part_tests.specs.contracts.turn_table_tests.Rows as value
use Rattle.part_tests.specs.contracts.turn_table_tests.Told as told
use Rattle.part_tests.specs.contracts.turn_table_tests.RowsStepped.TheImpl as stepped
use Rattle.turn_table.proofs.Crossing.{turn_sync, seat_send}
use Rattle.part_tests.proofs.turn_table_tests.two_pairs.Lts
use Rattle.part_tests.proofs.turn_table_tests.two_pairs.Goals as goal

pub join-requires-send-A : goal.join-requires-send-A
join-requires-send-A g c κs within = search (sendable, crosses, seat_send) depth 30

-- the closure has the table of turns, the handle and its seats
pub join-requires-send-F : goal.join-requires-send-F
join-requires-send-F g c κs within = let n : IsSend value.the_row = search (sendable, crosses) depth 20 in
    let s : IsSend (seat.the_row value.the_row u64-field.row told.the_row stepped.ghosts) = seat_send value.the_row u64-field.row told.the_row n stepped.ghosts in
    let t : IsSync (turn.the_row value.the_row u64-field.row told.the_row stepped.ghosts) = turn_sync value.the_row u64-field.row told.the_row n stepped.ghosts in
    param_send 1 (Lts.arg-0-1 g.row.R g.R.laws g.R.Threads-dict g.R.Wait-dict κs)
    (record { owned = λ d vs vss. (tt, ((tt, c.type_bounds.sync-R.shared d.0.now d.0.ref_ptr.0 d.0.ref_ptr.1 _), ((tt, t.shared d.1.now d.1.ref_ptr.0 d.1.ref_ptr.1 _), (s.owned d.2 vss.1.1.0, (s.owned d.3 vss.1.1.1.0, tt))))); leaving = search sendable depth 30 })
