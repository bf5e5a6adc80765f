-- What a change of the entries of the table does to the checks.
use Rattle.std.proofs.Common.{◌≡◌, ℕ, zero, suc, ◌+◌, ◌<◌, true, false, not, List, [], ◌∷◌, ◌++◌, length, take, drop, map, slice_get, Some, None, refl, sym, ap, arith, cond, if◌then◌else◌}
use Rattle.std.proofs.lemmas.Bool.Decides.{nat_tests}
use Rattle.std.proofs.lemmas.Map.Keys.{IsDistinct-head, IsDistinct-tail}
use Rattle.std.specs.List.{AllByRecursion, IsDistinct}
use Rattle.std.specs.Map.{keys_of, values_of, lookup, remove_entry, set_value}
use Rattle.tab_ids.specs.declared.ReqId.{ReqId}
use Rattle.indexmap.specs.IndexMap.{insert_entry, set_value_at}
use Rattle.unload_check.specs.Checks.{OpenCheck, is_req, begun, changed, changed_at, ended}

-- ---- the entries of the table

pub insert_begun : (req : ReqId) (check : OpenCheck) (es : List (ReqId × OpenCheck)) → insert_entry is_req es req check ≡ begun req check es
insert_begun req check [] = refl
insert_begun req check (e ∷ es) = rw (insert_begun req check es) refl

pub set_changed : (req : ReqId) (f : OpenCheck → OpenCheck) (check : OpenCheck) (es : List (ReqId × OpenCheck)) → lookup (is_req req) es ≡ Some check → set_value (is_req req) es (f check) ≡ changed req f es
set_changed req f check [] at = refl
set_changed req f check (e ∷ es) at =
    (elim (is_req req e.0) as (λ b. cond b (Some e.1) (lookup (is_req req) es) ≡ Some check
    → cond b ((e.0, f check) ∷ es) (e ∷ set_value (is_req req) es (f check)) ≡ (if b then (e.0, f e.1) ∷ es else e ∷ changed req f es)) [
      | true ↦ λ this. let one : e.1 ≡ check = cc this in ap (λ (c : OpenCheck). (e.0, f c) ∷ es) (sym one)
      | false ↦ λ behind. ap (λ rest. e ∷ rest) (set_changed req f check es behind)
    ]) at

pub absent_stays : (req : ReqId) (f : OpenCheck → OpenCheck) (es : List (ReqId × OpenCheck)) → lookup (is_req req) es ≡ None → es ≡ changed req f es
absent_stays req f [] none = refl
absent_stays req f (e ∷ es) none =
    (elim (is_req req e.0) as (λ b. cond b (Some e.1) (lookup (is_req req) es) ≡ None → e ∷ es ≡ (if b then (e.0, f e.1) ∷ es else e ∷ changed req f es)) [
      | true ↦ λ this. (cc this)
      | false ↦ λ behind. ap (λ rest. e ∷ rest) (absent_stays req f es behind)
    ]) none

-- where the number is not among the rest, all of the rest stay
others_stay : (req first : ReqId) (es : List (ReqId × OpenCheck)) → is_req req first ≡ true → AllByRecursion (λ other. is_req first other ≡ false) (keys_of es) → ended req es ≡ es
others_stay req first [] same apart = refl
others_stay req first (e ∷ es) same apart =
    let far : is_req first e.0 ≡ false = apart.0 in
    let differs : is_req req e.0 ≡ false = grind (arith, nat_tests, same, far) in
    rw differs (ap (λ rest. e ∷ rest) (others_stay req first es same apart.1))

pub removed_ended : (req : ReqId) (es : List (ReqId × OpenCheck)) → IsDistinct is_req (keys_of es) → remove_entry (is_req req) es ≡ ended req es
removed_ended req [] apart = refl
removed_ended req (e ∷ es) apart =
    let none : is_req req e.0 ≡ true → ended req es ≡ es = λ same. others_stay req e.0 es same (IsDistinct-head is_req e.0 (keys_of es) apart) in
    let rest : remove_entry (is_req req) es ≡ ended req es = removed_ended req es (IsDistinct-tail is_req e.0 (keys_of es) apart) in
    (elim (is_req req e.0) as (λ b. is_req req e.0 ≡ b → cond b es (e ∷ remove_entry (is_req req) es) ≡ cond (not b) (e ∷ ended req es) (ended req es)) [
      | true ↦ λ same. sym (none same)
      | false ↦ λ _. ap (λ es'. e ∷ es') rest
    ]) refl

-- ---- the entry at a place

pub set_at_changed : (f : OpenCheck → OpenCheck) (i : ℕ) (check : OpenCheck) (es : List (ReqId × OpenCheck)) → slice_get (values_of es) i ≡ Some check → set_value_at es i (f check) ≡ changed_at f i es
set_at_changed f i check [] at = refl
set_at_changed f zero check (e ∷ es) at = let one : e.1 ≡ check = cc at in ap (λ (c : OpenCheck). (e.0, f c) ∷ es) (sym one)
set_at_changed f (suc i) check (e ∷ es) at = ap (λ rest. e ∷ rest) (set_at_changed f i check es at)

pub none_at_changed : (f : OpenCheck → OpenCheck) (i : ℕ) (es : List (ReqId × OpenCheck)) → slice_get (values_of es) i ≡ None → es ≡ changed_at f i es
none_at_changed f i [] none = refl
none_at_changed f zero (e ∷ es) none = (cc)
none_at_changed f (suc i) (e ∷ es) none = ap (λ rest. e ∷ rest) (none_at_changed f i es none)

pub length-changed_at : (f : OpenCheck → OpenCheck) (i : ℕ) (es : List (ReqId × OpenCheck)) → length (changed_at f i es) ≡ length es
length-changed_at f i [] = refl
length-changed_at f zero (e ∷ es) = refl
length-changed_at f (suc i) (e ∷ es) = ap suc (length-changed_at f i es)

pub changed_more : (f : OpenCheck → OpenCheck) (i : ℕ) (es : List (ReqId × OpenCheck)) → i < length es
    → take (i + 1) (changed_at f i es) ++ map (λ (e : ReqId × OpenCheck). (e.0, f e.1)) (drop (i + 1) (changed_at f i es)) ≡ take i es ++ map (λ (e : ReqId × OpenCheck). (e.0, f e.1)) (drop i es)
changed_more f i [] within = absurd (omega arith)
changed_more f zero (e ∷ es) within = refl
changed_more f (suc i) (e ∷ es) within =
    let next : suc i + 1 ≡ suc (i + 1) = omega arith in
    let behind : i < length es = omega arith in
    rw next (ap (λ rest. e ∷ rest) (changed_more f i es behind))
