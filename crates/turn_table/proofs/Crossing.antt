-- A seat may go to another thread, and a table of turns may be shared, where the value may be sent.
use denote.RattleType.{RattleType}
use denote.Param.Send.{IsSend, IsSync, struct_send, struct_sync, recorded_send, recorded_sync, part_keyless, sendable}
use denote.Struct.Declared.{shape}
use Rattle.std.proofs.Crossing.{crosses}
use Rattle.std.specs.contracts.option.Option as option
use Rattle.std.proofs.option.Option.TheSendSync as option_crosses
use Rattle.atomic_table.specs.contracts.shared.Seat as place
use Rattle.atomic_table.proofs.shared.Seat.TheSendSync as place_crosses
use Rattle.std.specs.contracts.snapshot.Snapshot as snapshot
use Rattle.turn_table.specs.declared.stepped.Stepped.{Ghosts}
use Rattle.turn_table.specs.contracts.board.Held as held
use Rattle.turn_table.specs.contracts.view.View as view
use Rattle.turn_table.specs.contracts.seat.Seat as seat
use Rattle.turn_table.specs.contracts.turn.Turn as turn
use Rattle.atomic_table.proofs.owned.Table.TheSendSync as table_crosses

snapshot_send : (T : RattleType) → IsSend (snapshot.the_row T)
snapshot_send T = record { owned = λ d vs. search sendable; leaving = λ k f vs. tt }

module _ (V E R : RattleType) (s : IsSend V) where
  held_send : IsSend (held.the_row V E R)
  held_send = let t = held.the_type V E R in recorded_send _ _ _ t.to_one (struct_send (shape t) (s, (option_crosses.the_field_send _ (snapshot_send E), (option_crosses.the_field_send _ (snapshot_send R), tt))))

  slot_send : IsSend (option.the_row (held.the_row V E R))
  slot_send = search (sendable, crosses, option_crosses.the_send, held_send) depth 20

  place_send : IsSend (place.the_row (option.the_row (held.the_row V E R)) (view.the_row V E R))
  place_send = search (sendable, place_crosses.the_send, slot_send) depth 20

  pub seat_send : (g : Ghosts V.Denot E.Denot R.Denot) → IsSend (seat.the_row V E R g)
  seat_send g = let t = seat.the_type V E R g in recorded_send _ _ _ t.to_one (struct_send (shape t) (place_send, (search sendable, (search sendable, tt))))

  pub turn_send : (g : Ghosts V.Denot E.Denot R.Denot) → IsSend (turn.the_row V E R g)
  turn_send g = let t = turn.the_type V E R g in recorded_send _ _ _ t.to_one (struct_send (shape t) (search (sendable, crosses, table_crosses.the_field_send, slot_send) depth 20, tt))

  pub turn_sync : (g : Ghosts V.Denot E.Denot R.Denot) → IsSync (turn.the_row V E R g)
  turn_sync g = let t = turn.the_type V E R g in recorded_sync _ _ _ t.to_one (struct_sync (shape t) (search (sendable, crosses, table_crosses.the_field_sync, slot_send) depth 20, tt))

  place_sync : IsSync (place.the_row (option.the_row (held.the_row V E R)) (view.the_row V E R))
  place_sync = record { shared = λ d b o κ q. part_keyless _ place_send q d b o }

  pub seat_sync : (g : Ghosts V.Denot E.Denot R.Denot) → IsSync (seat.the_row V E R g)
  seat_sync g = let t = seat.the_type V E R g in recorded_sync _ _ _ t.to_one (struct_sync (shape t) (place_sync, (search sendable, (search sendable, tt))))
