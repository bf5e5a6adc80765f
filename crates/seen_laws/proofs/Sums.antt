-- Counting over all desks, where one of them changes.
use Rattle.std.proofs.Common.{◌≡◌, ℕ, ◌+◌, Bool, true, false, cond, ◌==◌, List, [], ◌∷◌, arith}
use Rattle.tab_ids.specs.declared.ProcId.{ProcId}
use Rattle.log_model.specs.Seen.{Desk, empty_desk, desk_in}
use Rattle.log_model.specs.After.{on_desk}

-- the sum over the desks
abbrev pub over : (Desk → ℕ) → List Desk → ℕ
over f [] = 0
over f (desk ∷ desks) = f desk + over f desks

-- a change of one desk changes the sum by what it changes of that desk
pub over_on : (f : Desk → ℕ) (g : Desk → Desk) (desks : List Desk) (proc : ProcId) → f (empty_desk proc) ≡ 0 → over f (on_desk proc g desks) + f (desk_in desks proc) ≡ over f desks + f (g (desk_in desks proc))
over_on f g [] proc none = omega (arith, none)
over_on f g (desk ∷ desks) proc none = by_test (desk.proc.0 == proc.0) (over_on f g desks proc none)
  where
    by_test : (b : Bool) → over f (on_desk proc g desks) + f (desk_in desks proc) ≡ over f desks + f (g (desk_in desks proc)) → over f (cond b (g desk ∷ desks) (desk ∷ on_desk proc g desks)) + f (cond b desk (desk_in desks proc)) ≡ (f desk + over f desks) + f (g (cond b desk (desk_in desks proc)))
    by_test true more = omega arith
    by_test false more = omega (arith, more)
