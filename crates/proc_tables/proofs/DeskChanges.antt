-- What a change of the table makes of the desk of each process.
use Rattle.std.proofs.Common.{◌≡◌, ℕ, zero, suc, ◌+◌, ◌≤◌, Bool, true, false, cond, ◌==◌, List, [], ◌∷◌, ◌++◌, length, map, take, drop, slice_get, Option, Some, None, refl, sym, ap, ◌∙◌, subst, arith}
use Rattle.std.specs.Prelude.{is_some}
use Rattle.std.specs.Option.{unwrap_or}
use Rattle.std.specs.List.{list_all, AllByRecursion, IsDistinct}
use Rattle.std.specs.Map.{keys_of, values_of, lookup}
use Rattle.std.proofs.lemmas.Bool.{and_parts}
use Rattle.std.proofs.lemmas.Map.Keys.{IsDistinct-head, IsDistinct-tail}
use Rattle.indexmap.specs.IndexMap.{set_value_at}
use Rattle.std.proofs.lemmas.Bool.Decides.{nat_tests}
use Rattle.tab_ids.specs.declared.ProcId.{ProcId}
use Rattle.log_model.specs.Logs.{is_idle}
use Rattle.log_model.specs.Seen.{Desk, empty_desk}
use Rattle.log_model.proofs.Refl.{nat_eq_refl}
use Rattle.proc_tables.specs.Desks.{is_proc, desk_at, on_proc, Changes, Stays}

same_proc : (a b : ProcId) → (a.0 == b.0) ≡ true → a ≡ b
same_proc a b same =
    let n : a.0 ≡ b.0 = grind (arith, nat_tests, same) in ap (λ (i : ℕ). let p : ProcId = record { 0 = i } in p) n

-- the desk that is found changes, and no other
pub changed : (old new : List (ProcId × Desk)) (of : ProcId) (desk now : Desk) (f : Desk → Desk) → lookup (is_proc of) old ≡ Some desk → now ≡ f desk → ((proc : ProcId) → lookup (is_proc proc) new ≡ cond (of.0 == proc.0) (Some now) (lookup (is_proc proc) old)) → Changes of f old new
changed old new of desk now f found is updates proc = by_test (of.0 == proc.0) refl
  where
    by_test : (b : Bool) → (of.0 == proc.0) ≡ b → desk_at new proc ≡ on_proc of f proc (desk_at old proc)
    by_test true e =
        let here : lookup (is_proc proc) old ≡ Some desk = ap (λ (p : ProcId). lookup (is_proc p) old) (sym (same_proc of proc e)) ∙ found in
        let written : lookup (is_proc proc) new ≡ Some now = updates proc ∙ ap (λ (b : Bool). cond b (Some now) (lookup (is_proc proc) old)) e in
        rw (written, e, here) is
    by_test false e =
        let left : lookup (is_proc proc) new ≡ lookup (is_proc proc) old = updates proc ∙ ap (λ (b : Bool). cond b (Some now) (lookup (is_proc proc) old)) e in
        rw (left, e) refl

-- a desk is made where there was none, and the desk that is found is written again
pub stays : (old mid new : List (ProcId × Desk)) (of : ProcId) (desk now : Desk) → Stays old mid → lookup (is_proc of) mid ≡ Some desk → ((proc : ProcId) → lookup (is_proc proc) new ≡ cond (of.0 == proc.0) (Some now) (lookup (is_proc proc) mid)) → now ≡ desk → Stays old new
stays old mid new of desk now before found updates is proc =
    changed mid new of desk now (λ d. d) found is updates proc ∙ (by_test (of.0 == proc.0) ∙ before proc)
  where
    by_test : (b : Bool) → cond b (desk_at mid proc) (desk_at mid proc) ≡ desk_at mid proc
    by_test true = refl
    by_test false = refl

-- none is found, and an empty desk stays so
pub unchanged : (desks : List (ProcId × Desk)) (of : ProcId) (f : Desk → Desk) → lookup (is_proc of) desks ≡ None → f (empty_desk of) ≡ empty_desk of → Changes of f desks desks
unchanged desks of f none stays proc = by_test (of.0 == proc.0) refl
  where
    by_test : (b : Bool) → (of.0 == proc.0) ≡ b → desk_at desks proc ≡ on_proc of f proc (desk_at desks proc)
    by_test true e =
        subst (λ (p : ProcId). desk_at desks p ≡ cond (of.0 == proc.0) (f (desk_at desks p)) (desk_at desks p)) (same_proc of proc e) (rw (e, none) (sym stays))
    by_test false e = rw e refl

none_there : {A : Type 0} (o : Option A) → is_some o ≡ false → o ≡ None
none_there None e = refl
none_there (Some x) e = cc

-- an empty desk comes where none was
pub made : (old new : List (ProcId × Desk)) (of : ProcId) (now : Desk) → is_some (lookup (is_proc of) old) ≡ false → now ≡ empty_desk of → ((proc : ProcId) → lookup (is_proc proc) new ≡ cond (of.0 == proc.0) (Some now) (lookup (is_proc proc) old)) → Stays old new
made old new of now none is updates proc = by_test (of.0 == proc.0) refl
  where
    by_test : (b : Bool) → (of.0 == proc.0) ≡ b → desk_at new proc ≡ desk_at old proc
    by_test true e =
        let same = same_proc of proc e in
        let before : lookup (is_proc proc) old ≡ None = ap (λ (p : ProcId). lookup (is_proc p) old) (sym same) ∙ none_there (lookup (is_proc of) old) none in
        let written : lookup (is_proc proc) new ≡ Some now = updates proc ∙ ap (λ (b : Bool). cond b (Some now) (lookup (is_proc proc) old)) e in
        rw (written, before) (is ∙ ap empty_desk same)
    by_test false e =
        let left : lookup (is_proc proc) new ≡ lookup (is_proc proc) old = updates proc ∙ ap (λ (b : Bool). cond b (Some now) (lookup (is_proc proc) old)) e in
        rw left refl

-- whether all values are idle is whether all desks are
pub all_idle : (desks : List (ProcId × Desk)) → list_all is_idle (values_of desks) ≡ true → (proc : ProcId) → is_idle (desk_at desks proc) ≡ true
all_idle [] all proc = refl
all_idle (e ∷ desks) all proc =
    let parts = and_parts (is_idle e.1) (list_all is_idle (values_of desks)) all in
    elim (is_proc proc e.0) as (λ b. is_idle (unwrap_or (cond b (Some e.1) (lookup (is_proc proc) desks)) (empty_desk proc)) ≡ true) [
      | true ↦ parts.0
      | false ↦ all_idle desks parts.1 proc
    ]

-- no key of the others is the first
none_of : (first proc : ProcId) (desks : List (ProcId × Desk)) → is_proc proc first ≡ true → AllByRecursion (λ other. is_proc first other ≡ false) (keys_of desks) → lookup (is_proc proc) desks ≡ None
none_of first proc [] same apart = refl
none_of first proc (e ∷ desks) same apart =
    let far : is_proc first e.0 ≡ false = apart.0 in
    let differs : is_proc proc e.0 ≡ false = grind (arith, nat_tests, same, far) in
    rw differs (none_of first proc desks same apart.1)

behind : (e : ProcId × Desk) (desks : List (ProcId × Desk)) (proc : ProcId) → IsDistinct is_proc (keys_of (e ∷ desks)) → is_idle (desk_at desks proc) ≡ false → (b : Bool) → is_proc proc e.0 ≡ b → is_idle (desk_at (e ∷ desks) proc) ≡ false
behind e desks proc apart still false e1 = rw e1 still
behind e desks proc apart still true e1 =
    let none : lookup (is_proc proc) desks ≡ None = none_of e.0 proc desks e1 (IsDistinct-head is_proc e.0 (keys_of desks) apart) in
    let never : true ≡ false = (rw none at still) in absurd cc

pub some_busy : (desks : List (ProcId × Desk)) → IsDistinct is_proc (keys_of desks) → list_all is_idle (values_of desks) ≡ false → (proc : ProcId) × (is_idle (desk_at desks proc) ≡ false)
some_busy [] apart busy = cc
some_busy (e ∷ desks) apart busy =
    by_first (is_idle e.1) refl (λ others. some_busy desks (IsDistinct-tail is_proc e.0 (keys_of desks) apart) others)
  where
    here : is_proc e.0 e.0 ≡ true
    here = nat_eq_refl e.0.0

    by_first : (b : Bool) → is_idle e.1 ≡ b → (list_all is_idle (values_of desks) ≡ false → (proc : ProcId) × (is_idle (desk_at desks proc) ≡ false)) → (proc : ProcId) × (is_idle (desk_at (e ∷ desks) proc) ≡ false)
    by_first false idle rest = (e.0, rw here idle)
    by_first true idle rest =
        let found = rest (rw idle at busy) in
        (found.0, behind e desks found.0 apart found.1 (is_proc found.0 e.0) refl)

-- ---- a change of each desk

-- a change of the value of an entry
abbrev pub with_desk : (Desk → Desk) → ProcId × Desk → ProcId × Desk
with_desk f e = (e.0, f e.1)

pub each_at : (f : Desk → Desk) → ((proc : ProcId) → f (empty_desk proc) ≡ empty_desk proc) → (desks : List (ProcId × Desk)) (proc : ProcId) → desk_at (map (with_desk f) desks) proc ≡ f (desk_at desks proc)
each_at f stays [] proc = sym (stays proc)
each_at f stays (e ∷ desks) proc =
    elim (is_proc proc e.0) as (λ b. unwrap_or (cond b (Some (f e.1)) (lookup (is_proc proc) (map (with_desk f) desks))) (empty_desk proc) ≡ f (unwrap_or (cond b (Some e.1) (lookup (is_proc proc) desks)) (empty_desk proc))) [
      | true ↦ refl
      | false ↦ each_at f stays desks proc
    ]

some_same : {A : Type 0} {a b : A} → Some a ≡ Some b → a ≡ b
some_same e = cc

-- the entries, of which the first ones are changed
abbrev pub changed_to : (Desk → Desk) → ℕ → List (ProcId × Desk) → List (ProcId × Desk)
changed_to f place old = map (with_desk f) (take place old) ++ drop place old

-- one more is changed
pub one_more : (f : Desk → Desk) (old : List (ProcId × Desk)) (place : ℕ) (desk : Desk) → slice_get (values_of (changed_to f place old)) place ≡ Some desk → set_value_at (changed_to f place old) place (f desk) ≡ changed_to f (suc place) old
one_more f [] zero desk found = cc
one_more f [] (suc place) desk found = cc
one_more f (e ∷ old) zero desk found =
    ap (λ (d : Desk). (e.0, f d) ∷ old) (sym (some_same found))
one_more f (e ∷ old) (suc place) desk found =
    ap (λ (l : List (ProcId × Desk)). with_desk f e ∷ l) (one_more f old place desk found)

-- there is none more
pub none_more : (f : Desk → Desk) (old : List (ProcId × Desk)) (place : ℕ) → slice_get (values_of (changed_to f place old)) place ≡ None → changed_to f place old ≡ changed_to f (suc place) old
none_more f [] zero none = refl
none_more f [] (suc place) none = refl
none_more f (e ∷ old) zero none = cc
none_more f (e ∷ old) (suc place) none =
    ap (λ (l : List (ProcId × Desk)). with_desk f e ∷ l) (none_more f old place none)

-- all are changed
pub all_changed : (f : Desk → Desk) (old : List (ProcId × Desk)) (place : ℕ) → length old ≤ place → changed_to f place old ≡ map (with_desk f) old
all_changed f [] zero past = refl
all_changed f [] (suc place) past = refl
all_changed f (e ∷ old) zero past = absurd (let wrong : ⊥ = omega (arith, past) in wrong)
all_changed f (e ∷ old) (suc place) past =
    ap (λ (l : List (ProcId × Desk)). with_desk f e ∷ l) (all_changed f old place (omega (arith, past)))

-- one step of a pass over all desks
pub passed : (f : Desk → Desk) (old now new : List (ProcId × Desk)) (place : ℕ) → now ≡ changed_to f place old → ((desk : Desk) → slice_get (values_of now) place ≡ Some desk → new ≡ set_value_at now place (f desk)) → (slice_get (values_of now) place ≡ None → new ≡ now) → new ≡ changed_to f (place + 1) old
passed f old now new place is some none =
    subst (λ (k : ℕ). new ≡ changed_to f k old) (let next : suc place ≡ place + 1 = omega arith in next) (by_found (slice_get (values_of now) place) refl)
  where
    by_found : (o : Option Desk) → slice_get (values_of now) place ≡ o → new ≡ changed_to f (suc place) old
    by_found None e =
        none e ∙ (is ∙ none_more f old place (ap (λ (l : List (ProcId × Desk)). slice_get (values_of l) place) (sym is) ∙ e))
    by_found (Some desk) e =
        some desk e ∙ (ap (λ (l : List (ProcId × Desk)). set_value_at l place (f desk)) is ∙ one_more f old place desk (ap (λ (l : List (ProcId × Desk)). slice_get (values_of l) place) (sym is) ∙ e))
