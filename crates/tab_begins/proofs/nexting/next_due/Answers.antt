use Rattle.move_queue.specs.Queue.{Queue}
use Rattle.std.proofs.Common.{[], ap, rules, sym, ◌∙◌, ◌≡◌}
use Rattle.tab_begins.proofs.Nexts.{due_here, none_here}
use Rattle.tab_begins.proofs.nexting.next_due.Goals as goal

pub returns-then-is_due-clause-next : goal.returns-then-is_due-clause-next
returns-then-is_due-clause-next c =
    due_here _ _ _ _ _ c.steps.invariant.0 (ap (λ (q : Queue). q.waiting) c.in-Some.ensures.first) (sym c.is_due.ensures ∙ c.if-is_due.true)

pub returns-clause-none : goal.returns-clause-none
returns-clause-none c =
    let empty : c.steps.queue.waiting ≡ [] = search rules in
    none_here _ _ _ c.steps.invariant.0 empty
