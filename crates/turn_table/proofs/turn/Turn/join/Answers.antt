use Rattle.std.proofs.Common.{rules, ap, ◌∙◌}
use Rattle.turn_table.proofs.Seatings.{joins, meets}
use Rattle.turn_table.proofs.turn.Turn.join.Goals as goal

pub join_seat-requires : goal.join_seat-requires
join_seat-requires g c = let mine = c.args.seat.now.rests in let theirs = c.args.other.rests in
    (c.requires.seats.0, c.requires.seats.1, theirs.0, search rules, joins g.V.Stepped.goes g.V.Stepped.for_first _ _ _ mine.1 mine.2 _ _ theirs.1 theirs.2 c.requires.other)

pub load-requires : goal.load-requires
load-requires g c = let now = c.join_seat.ensures.2 in (search rules, search rules, meets g.V.Stepped.goes g.V.Stepped.for_first _ _ _ _ (ap (λ m. m.0.stage) now ∙ c.args.seat.now.rests.1))
