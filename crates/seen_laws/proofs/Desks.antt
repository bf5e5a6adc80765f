-- The desks of processes: what a change of one leaves of the others.
use Rattle.std.proofs.Common.{◌≡◌, Bool, true, false, cond, ◌==◌, List, [], ◌∷◌, refl, ap, arith}
use Rattle.std.proofs.lemmas.Bool.Decides.{nat_tests}
use Rattle.tab_ids.specs.declared.ProcId.{ProcId}
use Rattle.log_model.specs.Seen.{Desk, empty_desk, desk_in}
use Rattle.log_model.specs.After.{on_desk}

-- the desk that is found among these has the number
pub desk_has : (desks : List Desk) (proc : ProcId) → (desk_in desks proc).proc.0 ≡ proc.0
desk_has [] proc = refl
desk_has (desk ∷ desks) proc = by_test (desk.proc.0 == proc.0) refl (desk_has desks proc)
  where
    by_test : (b : Bool) → (desk.proc.0 == proc.0) ≡ b → (desk_in desks proc).proc.0 ≡ proc.0 → (let d : Desk = cond b desk (desk_in desks proc) in d).proc.0 ≡ proc.0
    by_test true e more = grind (arith, nat_tests, e)
    by_test false e more = more

-- the desk of the process is changed
pub desk_on_same : (f : Desk → Desk) (desks : List Desk) (proc : ProcId) → ((d : Desk) → (f d).proc ≡ d.proc) → desk_in (on_desk proc f desks) proc ≡ f (desk_in desks proc)
desk_on_same f [] proc keeps =
    let there : ((f (empty_desk proc)).proc.0 == proc.0) ≡ true = rw (keeps (empty_desk proc)) (let r : (proc.0 == proc.0) ≡ true = grind (arith, nat_tests) in r) in rw there refl
desk_on_same f (desk ∷ desks) proc keeps = by_test (desk.proc.0 == proc.0) refl (desk_on_same f desks proc keeps)
  where
    by_test : (b : Bool) → (desk.proc.0 == proc.0) ≡ b → desk_in (on_desk proc f desks) proc ≡ f (desk_in desks proc) → desk_in (cond b (f desk ∷ desks) (desk ∷ on_desk proc f desks)) proc ≡ f (cond b desk (desk_in desks proc))
    by_test true e more =
        let there : ((f desk).proc.0 == proc.0) ≡ true = rw (keeps desk) e in rw there refl
    by_test false e more = rw e more

-- the others stay
pub desk_on_other : (f : Desk → Desk) (desks : List Desk) (proc other : ProcId) → ((d : Desk) → (f d).proc ≡ d.proc) → (proc.0 == other.0) ≡ false → desk_in (on_desk proc f desks) other ≡ desk_in desks other
desk_on_other f [] proc other keeps apart =
    let there : ((f (empty_desk proc)).proc.0 == other.0) ≡ false = rw (keeps (empty_desk proc)) apart in rw there refl
desk_on_other f (desk ∷ desks) proc other keeps apart = by_test (desk.proc.0 == proc.0) refl (desk_on_other f desks proc other keeps apart)
  where
    by_test : (b : Bool) → (desk.proc.0 == proc.0) ≡ b → desk_in (on_desk proc f desks) other ≡ desk_in desks other → desk_in (cond b (f desk ∷ desks) (desk ∷ on_desk proc f desks)) other ≡ cond (desk.proc.0 == other.0) desk (desk_in desks other)
    by_test true e more =
        let here : desk.proc.0 ≡ proc.0 = grind (arith, nat_tests, e) in
        let no_ : (desk.proc.0 == other.0) ≡ false = rw here apart in
        let there : ((f desk).proc.0 == other.0) ≡ false = rw (keeps desk) no_ in
        rw there (rw no_ refl)
    by_test false e more = ap (λ (d : Desk). cond (desk.proc.0 == other.0) desk d) more
