-- Nobody has died still, where one process works.
use Rattle.std.proofs.Common.{◌≡◌, List, [], sym, ◌∙◌, subst}
use Rattle.log_model.specs.Seen.{Desk, Seen, desk_of, desk_in}
use Rattle.log_model.specs.After.{on_desk}
use Rattle.tab_ids.specs.declared.ProcId.{ProcId}
use Rattle.seen_facts.proofs.Request.Alls.{each_desk}
use Rattle.seen_facts.specs.Each.Items.{NoneDied}

pub died_on : (s t : Seen) (p : ProcId) (f : Desk → Desk) → t.desks ≡ on_desk p f s.desks → ((desk : Desk) → (f desk).proc ≡ desk.proc) → (f (desk_of s p)).known ≡ (desk_of s p).known → (f (desk_of s p)).killed ≡ (desk_of s p).killed → NoneDied s → NoneDied t
died_on s t p f desks keeps known killed none proc =
    subst (λ (l : List Desk). ((desk_in l proc).known ≡ 0) × ((desk_in l proc).killed ≡ [])) (sym desks)
    (each_desk (λ (desk : Desk). (desk.known ≡ 0) × (desk.killed ≡ [])) f s.desks p keeps (known ∙ (none p).0, killed ∙ (none p).1) (λ other apart. none other) proc)
