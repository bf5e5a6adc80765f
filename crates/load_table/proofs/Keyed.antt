-- What a change of the entries of a table does to its loads.
use Rattle.std.proofs.Common.{◌≡◌, ℕ, suc, ◌+◌, Bool, true, false, not, List, [], ◌∷◌, length, map, find, slice_get, Some, None, is_some, nat_lt, refl, sym, ap, subst, arith, cond, ◌∙◌, if◌then◌else◌}
use Rattle.std.proofs.lemmas.Bool.Decides.{nat_tests}
use Rattle.std.proofs.lemmas.Map.Keys.{IsDistinct-head, IsDistinct-tail}
use Rattle.std.specs.List.{AllByRecursion, IsDistinct, position, position_or_len}
use Rattle.std.specs.Map.{keys_of, values_of, lookup, remove_entry, set_value}
use Rattle.tab_ids.specs.declared.NavId.{NavId}
use Rattle.indexmap.specs.IndexMap.{insert_entry, set_value_at}
use Rattle.load_table.specs.declared.load.Load.{Load}
use Rattle.load_table.specs.declared.phase.Phase.{Phase}
use Rattle.load_table.specs.Loads.{is_nav, is_of, ongoing_load, HasOneEach, begun, cancelled, in_phase, moved_on}
use Rattle.load_table.specs.Entries.{AreKeyed}

-- equal numbers are of one navigable
same_nav : (a b : NavId) → is_nav a b ≡ true → a ≡ b
same_nav a b same = let number : a.0 ≡ b.0 = grind (arith, nat_tests, same) in ap (λ n. record { 0 = n }) number

-- the numbers are those of the loads
keys_are_navs : (es : List (NavId × Load)) → AreKeyed es → keys_of es ≡ map (λ (load : Load). load.nav) (values_of es)
keys_are_navs [] keyed = refl
keys_are_navs (e ∷ es) keyed = cc (keys_are_navs es keyed.1)

pub one_each : (es : List (NavId × Load)) → AreKeyed es → IsDistinct is_nav (keys_of es) → HasOneEach (values_of es)
one_each es keyed apart = subst (IsDistinct is_nav) (keys_are_navs es keyed) apart

-- a look-up finds the navigable's load
pub found : (nav : NavId) (es : List (NavId × Load)) → AreKeyed es → lookup (is_nav nav) es ≡ ongoing_load nav (values_of es)
found nav [] keyed = refl
found nav (e ∷ es) keyed = rw (keyed.0, found nav es keyed.1) refl

-- a load that is put in
pub keyed_insert : (load : Load) (es : List (NavId × Load)) → AreKeyed es → AreKeyed (insert_entry is_nav es load.nav load)
keyed_insert load [] keyed = (refl, tt)
keyed_insert load (e ∷ es) keyed =
    (elim (is_nav load.nav e.0) as (λ b. is_nav load.nav e.0 ≡ b → AreKeyed (if b then (e.0, load) ∷ es else e ∷ insert_entry is_nav es load.nav load)) [
      | true ↦ λ same. (sym (same_nav load.nav e.0 same), keyed.1)
      | false ↦ λ _. (keyed.0, keyed_insert load es keyed.1)
    ]) refl

pub values_insert : (load : Load) (es : List (NavId × Load)) → AreKeyed es → values_of (insert_entry is_nav es load.nav load) ≡ begun load (values_of es)
values_insert load [] keyed = refl
values_insert load (e ∷ es) keyed =
    let P : NavId → Type 0 = λ n. values_of (insert_entry is_nav (e ∷ es) load.nav load) ≡ (if is_nav load.nav n then load ∷ values_of es else e.1 ∷ begun load (values_of es)) in
    subst P keyed.0 ((elim (is_nav load.nav e.0) as (λ b. values_of (if b then (e.0, load) ∷ es else e ∷ insert_entry is_nav es load.nav load) ≡ (if b then load ∷ values_of es else e.1 ∷ begun load (values_of es))) [
      | true ↦ refl
      | false ↦ ap (λ loads. e.1 ∷ loads) (values_insert load es keyed.1)
    ]))

-- a phase that is changed, by number
pub keyed_set : (nav : NavId) (phase : Phase) (load : Load) (es : List (NavId × Load)) → AreKeyed es → lookup (is_nav nav) es ≡ Some load → AreKeyed (set_value (is_nav nav) es (in_phase phase load))
keyed_set nav phase load [] keyed at = tt
keyed_set nav phase load (e ∷ es) keyed at =
    (elim (is_nav nav e.0) as (λ b. cond b (Some e.1) (lookup (is_nav nav) es) ≡ Some load → AreKeyed (cond b ((e.0, in_phase phase load) ∷ es) (e ∷ set_value (is_nav nav) es (in_phase phase load)))) [
      | true ↦ λ this. let one : e.1 ≡ load = cc this in (keyed.0 ∙ ap (λ (l : Load). l.nav) one, keyed.1)
      | false ↦ λ behind. (keyed.0, keyed_set nav phase load es keyed.1 behind)
    ]) at

pub values_set : (nav : NavId) (phase : Phase) (load : Load) (es : List (NavId × Load)) → AreKeyed es → lookup (is_nav nav) es ≡ Some load
    → values_of (set_value (is_nav nav) es (in_phase phase load)) ≡ moved_on (is_of nav) phase (values_of es)
values_set nav phase load [] keyed at = refl
values_set nav phase load (e ∷ es) keyed at =
    let P : NavId → Type 0 = λ n. values_of (set_value (is_nav nav) (e ∷ es) (in_phase phase load)) ≡ (if is_nav nav n then in_phase phase e.1 ∷ values_of es else e.1 ∷ moved_on (is_of nav) phase (values_of es)) in
    subst P keyed.0 ((elim (is_nav nav e.0) as (λ b. cond b (Some e.1) (lookup (is_nav nav) es) ≡ Some load → values_of (cond b ((e.0, in_phase phase load) ∷ es) (e ∷ set_value (is_nav nav) es (in_phase phase load))) ≡ (if b then in_phase phase e.1 ∷ values_of es else e.1 ∷ moved_on (is_of nav) phase (values_of es))) [
      | true ↦ λ this. let one : e.1 ≡ load = cc this in ap (λ (l : Load). in_phase phase l ∷ values_of es) (sym one)
      | false ↦ λ behind. ap (λ loads. e.1 ∷ loads) (values_set nav phase load es keyed.1 behind)
    ]) at)

-- where no load passes, none moves on
moved_on-none : (test : Load → Bool) (phase : Phase) (loads : List Load) → find test loads ≡ None → moved_on test phase loads ≡ loads
moved_on-none test phase [] none = refl
moved_on-none test phase (load ∷ loads) none =
    (elim (test load) as (λ b. cond b (Some load) (find test loads) ≡ None → (if b then in_phase phase load ∷ loads else load ∷ moved_on test phase loads) ≡ load ∷ loads) [
      | true ↦ λ this. (cc this)
      | false ↦ λ behind. ap (λ ls. load ∷ ls) (moved_on-none test phase loads behind)
    ]) none

pub values_absent : (nav : NavId) (phase : Phase) (es : List (NavId × Load)) → AreKeyed es → lookup (is_nav nav) es ≡ None → values_of es ≡ moved_on (is_of nav) phase (values_of es)
values_absent nav phase es keyed none = sym (moved_on-none (is_of nav) phase (values_of es) (sym (found nav es keyed) ∙ none))

-- a load that is taken out
pub keyed_remove : (test : NavId → Bool) (es : List (NavId × Load)) → AreKeyed es → AreKeyed (remove_entry test es)
keyed_remove test [] keyed = tt
keyed_remove test (e ∷ es) keyed =
    elim (test e.0) as (λ b. AreKeyed (cond b es (e ∷ remove_entry test es))) [ true ↦ keyed.1 | false ↦ (keyed.0, keyed_remove test es keyed.1) ]

others_of_none : (nav first : NavId) (es : List (NavId × Load)) → AreKeyed es → is_nav nav first ≡ true → AllByRecursion (λ other. is_nav first other ≡ false) (keys_of es) → cancelled nav (values_of es) ≡ values_of es
others_of_none nav first [] keyed same apart = refl
others_of_none nav first (e ∷ es) keyed same apart =
    let differs : is_nav nav e.1.nav ≡ false = rw (← keyed.0) (let far : is_nav first e.0 ≡ false = apart.0 in grind (arith, nat_tests, same, far)) in
    rw differs (ap (λ loads. e.1 ∷ loads) (others_of_none nav first es keyed.1 same apart.1))

pub values_remove : (nav : NavId) (es : List (NavId × Load)) → AreKeyed es → IsDistinct is_nav (keys_of es) → values_of (remove_entry (is_nav nav) es) ≡ cancelled nav (values_of es)
values_remove nav [] keyed apart = refl
values_remove nav (e ∷ es) keyed apart =
    let none : is_nav nav e.0 ≡ true → cancelled nav (values_of es) ≡ values_of es =
    λ same. others_of_none nav e.0 es keyed.1 same (IsDistinct-head is_nav e.0 (keys_of es) apart) in
    let rest : values_of (remove_entry (is_nav nav) es) ≡ cancelled nav (values_of es) = values_remove nav es keyed.1 (IsDistinct-tail is_nav e.0 (keys_of es) apart) in
    let P : NavId → Type 0 = λ n. values_of (remove_entry (is_nav nav) (e ∷ es)) ≡ cond (not (is_nav nav n)) (e.1 ∷ cancelled nav (values_of es)) (cancelled nav (values_of es)) in
    subst P keyed.0 ((elim (is_nav nav e.0) as (λ b. is_nav nav e.0 ≡ b → values_of (cond b es (e ∷ remove_entry (is_nav nav) es)) ≡ cond (not b) (e.1 ∷ cancelled nav (values_of es)) (cancelled nav (values_of es))) [
      | true ↦ λ same. sym (none same)
      | false ↦ λ _. ap (λ loads. e.1 ∷ loads) rest
    ]) refl)

-- ---- the load at the first place that passes a test

-- whether one passes is whether the first place is within the list
find-place : (test : Load → Bool) (loads : List Load) → is_some (find test loads) ≡ nat_lt (position_or_len test loads) (length loads)
find-place test [] = grind (arith, nat_tests)
find-place test (load ∷ loads) =
    let ih : is_some (find test loads) ≡ nat_lt (position_or_len test loads) (length loads) = find-place test loads in
    grind (arith, nat_tests, ih)

-- what a write at the next place is
set_at-next : (e : NavId × Load) (es : List (NavId × Load)) (i : ℕ) (load : Load) → set_value_at (e ∷ es) (1 + i) load ≡ e ∷ set_value_at es i load
set_at-next e es i load = let one : 1 + i ≡ suc i = omega arith in rw one refl

get-next : (first : Load) (loads : List Load) (i : ℕ) → slice_get (first ∷ loads) (1 + i) ≡ slice_get loads i
get-next first loads i = let one : 1 + i ≡ suc i = omega arith in rw one refl

-- the load at the first place is the one that is found
at-place : (test : Load → Bool) (loads : List Load) → is_some (find test loads) ≡ true → slice_get loads (position_or_len test loads) ≡ find test loads
at-place test [] some = (cc)
at-place test (load ∷ loads) some =
    (elim (test load) as (λ b. is_some (cond b (Some load) (find test loads)) ≡ true → slice_get (load ∷ loads) (cond (not b) (1 + position_or_len test loads) 0) ≡ cond b (Some load) (find test loads)) [
      | true ↦ λ _. refl
      | false ↦ λ behind. get-next load loads (position_or_len test loads) ∙ at-place test loads behind
    ]) some

-- a write there is the first that passes in its new phase
values-place : (test : Load → Bool) (phase : Phase) (load : Load) (es : List (NavId × Load)) → find test (values_of es) ≡ Some load
    → values_of (set_value_at es (position_or_len test (values_of es)) (in_phase phase load)) ≡ moved_on test phase (values_of es)
values-place test phase load [] this = (cc)
values-place test phase load (e ∷ es) this =
    (elim (test e.1) as (λ b. cond b (Some e.1) (find test (values_of es)) ≡ Some load
    → values_of (set_value_at (e ∷ es) (cond (not b) (1 + position_or_len test (values_of es)) 0) (in_phase phase load)) ≡ (if b then in_phase phase e.1 ∷ values_of es else e.1 ∷ moved_on test phase (values_of es))) [
      | true ↦ λ here. let one : e.1 ≡ load = cc here in ap (λ (l : Load). in_phase phase l ∷ values_of es) (sym one)
      | false ↦ λ behind. ap values_of (set_at-next e es (position_or_len test (values_of es)) (in_phase phase load)) ∙ ap (λ loads. e.1 ∷ loads) (values-place test phase load es behind)
    ]) this

keyed-place : (test : Load → Bool) (phase : Phase) (load : Load) (es : List (NavId × Load)) → AreKeyed es → find test (values_of es) ≡ Some load
    → AreKeyed (set_value_at es (position_or_len test (values_of es)) (in_phase phase load))
keyed-place test phase load [] keyed this = tt
keyed-place test phase load (e ∷ es) keyed this =
    (elim (test e.1) as (λ b. cond b (Some e.1) (find test (values_of es)) ≡ Some load
    → AreKeyed (set_value_at (e ∷ es) (cond (not b) (1 + position_or_len test (values_of es)) 0) (in_phase phase load))) [
      | true ↦ λ here. let one : e.1 ≡ load = cc here in (keyed.0 ∙ ap (λ (l : Load). l.nav) one, keyed.1)
      | false ↦ λ behind. subst AreKeyed (sym (set_at-next e es (position_or_len test (values_of es)) (in_phase phase load))) (keyed.0, keyed-place test phase load es keyed.1 behind)
    ]) this

-- the same, from the place that a search found
pub found_at : (test : Load → Bool) (loads : List Load) (i : ℕ) (load : Load) → position test loads ≡ Some i → slice_get loads i ≡ Some load → find test loads ≡ Some load
found_at test loads i load at is =
    let some : is_some (find test loads) ≡ true = rw (find-place test loads) (grind (arith, at)) in
    let place : position_or_len test loads ≡ i = grind (arith, at) in
    sym (at-place test loads some) ∙ ap (slice_get loads) place ∙ is

pub none_found : (test : Load → Bool) (loads : List Load) → position test loads ≡ None → find test loads ≡ None
none_found test loads at =
    let none : is_some (find test loads) ≡ false = rw (find-place test loads) (grind (arith, at)) in
    grind (arith, none)

pub values_at : (test : Load → Bool) (phase : Phase) (es : List (NavId × Load)) (i : ℕ) (load : Load) → position test (values_of es) ≡ Some i → slice_get (values_of es) i ≡ Some load
    → values_of (set_value_at es i (in_phase phase load)) ≡ moved_on test phase (values_of es)
values_at test phase es i load at is =
    let place : position_or_len test (values_of es) ≡ i = grind (arith, at) in
    rw (← place) (values-place test phase load es (found_at test (values_of es) i load at is))

pub keyed_at : (test : Load → Bool) (phase : Phase) (es : List (NavId × Load)) (i : ℕ) (load : Load) → AreKeyed es → position test (values_of es) ≡ Some i → slice_get (values_of es) i ≡ Some load
    → AreKeyed (set_value_at es i (in_phase phase load))
keyed_at test phase es i load keyed at is =
    let place : position_or_len test (values_of es) ≡ i = grind (arith, at) in
    rw (← place) (keyed-place test phase load es keyed (found_at test (values_of es) i load at is))

pub none_moves : (test : Load → Bool) (phase : Phase) (loads : List Load) → position test loads ≡ None → loads ≡ moved_on test phase loads
none_moves test phase loads at = sym (moved_on-none test phase loads (none_found test loads at))
