use Rattle.std.proofs.Common.{rules, sym, ap, ◌∙◌, subst}
use Rattle.turn_table.specs.Steps.{IsServed}
use Rattle.turn_table.proofs.Turns.{comes}
use Rattle.turn_table.proofs.serving.wait.Goals as goal

pub load-requires : goal.load-requires
load-requires g c = let m = c.loop.invariant.1 in let w = c.requires.waits in
    (search rules, search rules, comes g.V.Stepped.goes g.V.Stepped.for_first _ _ _ _ (ap (λ z. z.0.stage) m ∙ w.0) (ap (λ z. z.1) m ∙ w.1) (ap (λ z. z.0.met) m ∙ w.2))

pub returns-then-load-ticket-clause-served : goal.returns-then-load-ticket-clause-served
returns-then-load-ticket-clause-served g c = let m = c.loop.invariant.1 in let w = c.requires.waits in
    subst (λ (x : _ × _). IsServed g.V.Stepped.goes x.0 x.1 c.load.new.seat.me) (λ i. (m i, c.if-load-ticket.true i)) (c.load.ensures.2.0 (c.if-load-ticket.true ∙ sym (ap (λ z. z.0.ticket) m ∙ w.3)))
