use Rattle.std.proofs.Common.{rules, ◌≡◌, List, [], ◌∷◌, ◌++◌, sym, ap, ◌∙◌, subst, Option, Some, None}
use Rattle.atomic_table.specs.Table.{opening}
use Rattle.turn_table.specs.declared.board.Held.{Held}
use Rattle.turn_table.specs.Rule.{IsKept, first_view}
use Rattle.turn_table.proofs.Seatings.{starts}
use Rattle.turn_table.proofs.turn.Turn.new.Goals as goal

pub new-requires : goal.new-requires
new-requires g c = let held : Held g.row.V.Denot g.row.V-Event.Denot g.row.V-Reply.Denot = record { value = c.args.value; event = None; reply = None } in
    let empty : c.in_ok-slots.slots.items ≡ [] = search rules in let items : c.push.new.self.items ≡ c.in_ok-slots.slots.items ++ Some held ∷ [] = search rules in
    subst (λ (l : List (Option (Held g.row.V.Denot g.row.V-Event.Denot g.row.V-Reply.Denot))). IsKept g.V.Stepped.goes g.V.Stepped.for_first c.of-about.result.value (opening (0 ∷ 0 ∷ []) l (first_view c.of-about.result.value)))
    (sym (items ∙ ap (λ l. l ++ Some held ∷ []) empty)) (starts g.V.Stepped.goes g.V.Stepped.for_first c.of-about.result.value held (sym c.of-about.ensures))
