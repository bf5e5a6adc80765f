use Rattle.std.proofs.Common.{rules, ◌≡◌, ap, ◌∙◌}
use Rattle.turn_table.proofs.Turns.{reads, draws}
use Rattle.turn_table.proofs.serving.draw.Goals as goal

pub load-next-requires : goal.load-next-requires
load-next-requires g c = (search rules, search rules, reads g.V.Stepped.goes g.V.Stepped.for_first _ _ _ _)

pub compare_exchange-requires : goal.compare_exchange-requires
compare_exchange-requires g c = let unchanged : c.load-next.new.seat.me ≡ c.args.place.now.me = c.load-next.ensures.2 ∙ c.loop.invariant.1 in
    (search rules, search rules, draws g.V.Stepped.goes g.V.Stepped.for_first _ _ _ _ c.load-next.result (search rules) (ap (λ m. m.0.stage) unchanged ∙ c.requires.free))
