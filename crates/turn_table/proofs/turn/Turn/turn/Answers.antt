use Rattle.std.proofs.Common.{rules, arith, ◌≡◌, length}
use Rattle.turn_table.specs.Steps.{IsResting}
use Rattle.turn_table.proofs.Turning.{ready, is_turn, rests_again, seen_more, own_more, own_fits}
use Rattle.turn_table.proofs.turn.Turn.turn.Goals as goal

pub serve-reply-requires-clause-served : goal.serve-reply-requires-clause-served
serve-reply-requires-clause-served g c = let rests : IsResting g.V.Stepped.for_first c.args.seat.now.place.me = search rules in
    ready g.V.Stepped.goes g.V.Stepped.for_first c.draw-ticket.result c.args.seat.now.place.me c.draw-ticket.new.place.me c.wait.new.place.me c.draw-ticket.ensures.ticket.0 rests c.wait.ensures.served

pub overflow_add-seat-2 : goal.overflow_add-seat-2
overflow_add-seat-2 g c = let rests : IsResting g.V.Stepped.for_first c.args.seat.now.place.me = search rules in let mine : c.args.seat.now.mine ≡ length c.args.seat.now.place.me.0.own = search rules in
    let h = own_fits g.V.Stepped.goes g.V.Stepped.for_first c.draw-ticket.result c.args.seat.now.place.me c.draw-ticket.new.place.me c.wait.new.place.me c.draw-ticket.ensures.ticket.0 c.args.event c.serve-reply.result c.serve-reply.new.place.me rests c.wait.ensures.served c.serve-reply.ensures.turn c.args.seat.now.mine mine in
    let low = c.draw-ticket.ensures.ticket.1 in omega arith

pub invariant_of-seat : goal.invariant_of-seat
invariant_of-seat g c = let rests : IsResting g.V.Stepped.for_first c.args.seat.now.place.me = search rules in let mine : c.args.seat.now.mine ≡ length c.args.seat.now.place.me.0.own = search rules in
    record {
      rests = rests_again g.V.Stepped.goes g.V.Stepped.for_first c.draw-ticket.result c.args.seat.now.place.me c.draw-ticket.new.place.me c.wait.new.place.me c.draw-ticket.ensures.ticket.0 c.args.event c.serve-reply.result c.serve-reply.new.place.me rests c.wait.ensures.served c.serve-reply.ensures.turn;
      counts = (
        seen_more g.V.Stepped.goes g.V.Stepped.for_first c.draw-ticket.result c.args.seat.now.place.me c.draw-ticket.new.place.me c.wait.new.place.me c.draw-ticket.ensures.ticket.0 c.args.event c.serve-reply.result c.serve-reply.new.place.me rests c.wait.ensures.served c.serve-reply.ensures.turn,
        own_more g.V.Stepped.goes g.V.Stepped.for_first c.draw-ticket.result c.args.seat.now.place.me c.draw-ticket.new.place.me c.wait.new.place.me c.draw-ticket.ensures.ticket.0 c.args.event c.serve-reply.result c.serve-reply.new.place.me rests c.wait.ensures.served c.serve-reply.ensures.turn c.args.seat.now.mine mine,
      );
    }

pub returns-clause-turn : goal.returns-clause-turn
returns-clause-turn g c = let rests : IsResting g.V.Stepped.for_first c.args.seat.now.place.me = search rules in
    is_turn g.V.Stepped.goes g.V.Stepped.for_first c.draw-ticket.result c.args.seat.now.place.me c.draw-ticket.new.place.me c.wait.new.place.me c.draw-ticket.ensures.ticket.0 c.args.event c.serve-reply.result c.serve-reply.new.place.me rests c.wait.ensures.served c.serve-reply.ensures.turn
