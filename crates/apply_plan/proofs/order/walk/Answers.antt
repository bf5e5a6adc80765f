use Rattle.std.proofs.Common.{ap, ◌∙◌, List, ℕ, map}
use Rattle.tab_ids.specs.declared.NavId.{NavId}
use Rattle.apply_plan.proofs.Walks.{values_keyed}
use Rattle.apply_plan.proofs.order.walk.Goals as goal

pub returns : goal.returns
returns c = c.in_ok-navs.ensures ∙ values_keyed c.in_ok-sorted.sorted.entries ∙ ap (λ (l : List (List ℕ × NavId)). map (λ (e : List ℕ × NavId). e.1) l) c.in_ok-sorted.ensures
