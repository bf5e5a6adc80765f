use Rattle.std.proofs.Common.{rules, ap}
use Rattle.turn_table.proofs.Seatings.{splits, meets}
use Rattle.turn_table.proofs.turn.Turn.split.Goals as goal

pub split_seat-place-requires : goal.split_seat-place-requires
split_seat-place-requires g c = let mine = c.args.seat.now.rests in (c.requires.seat, search rules, splits g.V.Stepped.goes g.V.Stepped.for_first _ _ _ mine.1 mine.2)

pub load-requires : goal.load-requires
load-requires g c = let now = c.split_seat-place.ensures.4 in (search rules, search rules, meets g.V.Stepped.goes g.V.Stepped.for_first _ _ _ _ (ap (λ m. m.0.stage) now))
