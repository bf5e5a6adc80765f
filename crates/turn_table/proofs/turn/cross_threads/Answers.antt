use denote.Param.{param}
use denote.Param.Send.{param_send}
use Rattle.turn_table.proofs.Crossing.{turn_send, turn_sync, seat_send, seat_sync}
use Rattle.turn_table.proofs.turn.cross_threads.Goals as goal

pub needs_send_and_sync-requires-send-T : goal.needs_send_and_sync-requires-send-T
needs_send_and_sync-requires-send-T g c κs within = let s = turn_send (param 0 g.row.V) (param 1 g.row.V-Event) (param 2 g.row.V-Reply) c.type_bounds.send-V g.V.Stepped in
    record { owned = λ d vs. s.owned d vs; leaving = λ k. (param_send 0 _ s).leaving k }

pub needs_send_and_sync-requires-sync-T : goal.needs_send_and_sync-requires-sync-T
needs_send_and_sync-requires-sync-T g c κs within = let s = turn_sync (param 0 g.row.V) (param 1 g.row.V-Event) (param 2 g.row.V-Reply) c.type_bounds.send-V g.V.Stepped in
    record { shared = λ d b o κ. s.shared d b o κ }

pub needs_send_and_sync-requires-2-send-T : goal.needs_send_and_sync-requires-2-send-T
needs_send_and_sync-requires-2-send-T g c κs within = let s = seat_send (param 0 g.row.V) (param 1 g.row.V-Event) (param 2 g.row.V-Reply) c.type_bounds.send-V g.V.Stepped in
    record { owned = λ d vs. s.owned d vs; leaving = λ k. (param_send 0 _ s).leaving k }

pub needs_send_and_sync-requires-2-sync-T : goal.needs_send_and_sync-requires-2-sync-T
needs_send_and_sync-requires-2-sync-T g c κs within = let s = seat_sync (param 0 g.row.V) (param 1 g.row.V-Event) (param 2 g.row.V-Reply) c.type_bounds.send-V g.V.Stepped in
    record { shared = λ d b o κ. s.shared d b o κ }
