-- Lists of records under a map that keeps their numbers: what is found, and what a change of one makes of them.
use Rattle.std.proofs.Common.{◌≡◌, ℕ, zero, suc, ◌+◌, ◌-◌, Bool, true, false, cond, ◌||◌, ◌==◌, List, [], ◌∷◌, map, Option, Some, None, refl, sym, ap, ◌∙◌, arith}
use Rattle.std.specs.Prelude.{find, slice_get, slice_set, option_map}
use Rattle.std.specs.Option.{option_map_or}
use Rattle.std.proofs.lemmas.Bool.Decides.{nat_tests}
use Rattle.std.proofs.lemmas.Option.{slice_get-map}
use Rattle.tab_ids.specs.declared.ProcId.{ProcId}
use Rattle.tab_ids.specs.declared.ReqId.{ReqId}
use Rattle.log_model.specs.Seen.{Asked, Desk, desk_in, empty_desk, request_in}
use Rattle.log_model.specs.After.{on_desk}
use Rattle.log_model.specs.AfterRequests.{on_request}
use Rattle.unasked.specs.Premises.{has_desk}
use Rattle.seen_laws.specs.Unasked.{quiet_desk}

-- ---- any lists

-- a map goes past a change of each item
pub map_past : {A B : Type 0} (u : A → B) (f : A → A) (g : B → B) (xs : List A) → ((x : A) → u (f x) ≡ g (u x)) → map u (map f xs) ≡ map g (map u xs)
map_past u f g [] same = refl
map_past u f g (x ∷ xs) same = λ i. same x i ∷ map_past u f g xs same i

-- a map doesn't see a change of each item
pub map_still : {A B : Type 0} (u : A → B) (f : A → A) (xs : List A) → ((x : A) → u (f x) ≡ u x) → map u (map f xs) ≡ map u xs
map_still u f [] same = refl
map_still u f (x ∷ xs) same = λ i. same x i ∷ map_still u f xs same i

-- a map that changes nothing
pub map_none : {A : Type 0} (f : A → A) (xs : List A) → ((x : A) → f x ≡ x) → map f xs ≡ xs
map_none f [] same = refl
map_none f (x ∷ xs) same = λ i. same x i ∷ map_none f xs same i

-- a map goes past an item that is set
pub set_map : {A B : Type 0} (u : A → B) (xs : List A) (k : ℕ) (x : A) → map u (slice_set xs k x) ≡ slice_set (map u xs) k (u x)
set_map u [] k x = refl
set_map u (y ∷ xs) zero x = refl
set_map u (y ∷ xs) (suc k) x = ap (λ l. u y ∷ l) (set_map u xs k x)

-- an item that is set to itself
pub set_itself : {A : Type 0} (xs : List A) (k : ℕ) (x : A) → slice_get xs k ≡ Some x → slice_set xs k x ≡ xs
set_itself [] k x at = refl
set_itself (y ∷ xs) zero x at = cc
set_itself (y ∷ xs) (suc k) x at = ap (λ l. y ∷ l) (set_itself xs k x at)

-- an item that is set twice
pub set_twice : {A : Type 0} (xs : List A) (k : ℕ) (x y : A) → slice_set (slice_set xs k x) k y ≡ slice_set xs k y
set_twice [] k x y = refl
set_twice (z ∷ xs) zero x y = refl
set_twice (z ∷ xs) (suc k) x y = ap (λ l. z ∷ l) (set_twice xs k x y)

-- an item that is set is there
pub set_there : {A : Type 0} (xs : List A) (k : ℕ) (x y : A) → slice_get xs k ≡ Some x → slice_get (slice_set xs k y) k ≡ Some y
set_there [] k x y at = cc
set_there (z ∷ xs) zero x y at = refl
set_there (z ∷ xs) (suc k) x y at = set_there xs k x y at

-- two maps that make the same of each item
pub map_same : {A B : Type 0} (u v : A → B) (xs : List A) → ((k : ℕ) (x : A) → slice_get xs k ≡ Some x → u x ≡ v x) → map u xs ≡ map v xs
map_same u v [] same = refl
map_same u v (x ∷ xs) same = λ i. same 0 x refl i ∷ map_same u v xs (λ k y at. same (suc k) y at) i

-- two maps that make the same of each item but one
pub map_but : {A B : Type 0} (u v : A → B) (xs : List A) (k : ℕ) (x : A) → slice_get xs k ≡ Some x → ((j : ℕ) (y : A) → slice_get xs j ≡ Some y → (j ≡ k → ⊥) → v y ≡ u y) → map v xs ≡ slice_set (map u xs) k (v x)
map_but u v [] k x at same = refl
map_but u v (y ∷ xs) zero x at same =
    let it : y ≡ x = cc in
    λ i. v (it i) ∷ sym (map_same u v xs (λ j z here. sym (same (suc j) z here (λ e. absurd (let never : ⊥ = omega (arith, e) in never))))) i
map_but u v (y ∷ xs) (suc k) x at same =
    λ i. same 0 y refl (λ e. absurd (let never : ⊥ = omega (arith, e) in never)) i ∷ map_but u v xs k x at (λ j z here apart. same (suc j) z here (λ e. apart (let so : j ≡ k = omega (arith, e) in so))) i

-- two tests that say the same of each item find the same
pub find_same : {A : Type 0} (t v : A → Bool) (xs : List A) → ((k : ℕ) (x : A) → slice_get xs k ≡ Some x → t x ≡ v x) → find t xs ≡ find v xs
find_same t v [] same = refl
find_same t v (x ∷ xs) same = λ i. cond (same 0 x refl i) (Some x) (find_same t v xs (λ k y at. same (suc k) y at) i)

-- where a test fails of each item, nothing is found
pub find_none : {A : Type 0} (t : A → Bool) (xs : List A) → ((k : ℕ) (x : A) → slice_get xs k ≡ Some x → t x ≡ false) → find t xs ≡ None
find_none t [] none = refl
find_none t (x ∷ xs) none =
    ap (λ b. cond b (Some x) (find t xs)) (none 0 x refl) ∙ find_none t xs (λ k y at. none (suc k) y at)

-- what is found has a place, and passes the test
pub find_at : {A : Type 0} (t : A → Bool) (xs : List A) (x : A) → find t xs ≡ Some x → (k : ℕ) × (slice_get xs k ≡ Some x) × (t x ≡ true)
find_at t [] x found = absurd cc
find_at {A} t (y ∷ xs) x found = by_test (t y) refl found (λ f. find_at t xs x f)
  where
    by_test : (b : Bool) → t y ≡ b → (let o : Option A = cond b (Some y) (find t xs) in o) ≡ Some x → (find t xs ≡ Some x → (k : ℕ) × (slice_get xs k ≡ Some x) × (t x ≡ true)) → (k : ℕ) × (slice_get (y ∷ xs) k ≡ Some x) × (t x ≡ true)
    by_test true e f more = let it : y ≡ x = cc in (0, f, sym (ap t it) ∙ e)
    by_test false e f more = let rest = more f in (suc rest.0, rest.1, rest.2)

-- ---- requests

-- a request in a place is found under the number of the place
pub found_in : (asked : List Asked) (k : ℕ) (q : Asked) → slice_get asked k ≡ Some q → request_in asked (record { 0 = k + 1 }) ≡ Some q
found_in asked k q at =
    let real : ((k + 1) == 0) ≡ false = grind (arith, nat_tests) in
    let place : ((k + 1) - 1) ≡ k = omega arith in
    rw real (ap (λ n. slice_get asked n) place ∙ at)

-- and has a number
pub found_real : (asked : List Asked) (req : ReqId) (q : Asked) → request_in asked req ≡ Some q → (req.0 == 0) ≡ false
found_real asked req q = by_number (req.0 == 0)
  where
    by_number : (b : Bool) → (let o : Option Asked = cond b None (slice_get asked (req.0 - 1)) in o) ≡ Some q → b ≡ false
    by_number true e = cc
    by_number false e = refl

-- a request that is found has its place
pub found_at : (asked : List Asked) (req : ReqId) (q : Asked) → request_in asked req ≡ Some q → slice_get asked (req.0 - 1) ≡ Some q
found_at asked req q = by_number (req.0 == 0)
  where
    by_number : (b : Bool) → (let o : Option Asked = cond b None (slice_get asked (req.0 - 1)) in o) ≡ Some q → slice_get asked (req.0 - 1) ≡ Some q
    by_number true e = cc
    by_number false e = e

-- what is found under a map
pub request_map : (u : Asked → Asked) (asked : List Asked) (req : ReqId) → request_in (map u asked) req ≡ option_map u (request_in asked req)
request_map u asked req = by_number (req.0 == 0)
  where
    by_number : (b : Bool) → (let o : Option Asked = cond b None (slice_get (map u asked) (req.0 - 1)) in o) ≡ option_map u (cond b None (slice_get asked (req.0 - 1)))
    by_number true = refl
    by_number false = slice_get-map u asked (req.0 - 1)

-- a map goes past a change of one request
pub on_past : (u f g : Asked → Asked) (req : ReqId) (asked : List Asked) → ((q : Asked) → request_in asked req ≡ Some q → u (f q) ≡ g (u q)) → map u (on_request req f asked) ≡ on_request req g (map u asked)
on_past u f g req asked same =
    rw (request_map u asked req) (by_found (request_in asked req) refl)
  where
    by_found : (o : Option Asked) → request_in asked req ≡ o → map u (option_map_or (λ q. slice_set asked (req.0 - 1) (f q)) o asked) ≡ option_map_or (λ q. slice_set (map u asked) (req.0 - 1) (g q)) (option_map u o) (map u asked)
    by_found None e = refl
    by_found (Some q) e =
        set_map u asked (req.0 - 1) (f q) ∙ ap (λ (x : Asked). slice_set (map u asked) (req.0 - 1) x) (same q e)

-- a map doesn't see a change of one request
pub on_still : (u f : Asked → Asked) (req : ReqId) (asked : List Asked) → ((q : Asked) → request_in asked req ≡ Some q → u (f q) ≡ u q) → map u (on_request req f asked) ≡ map u asked
on_still u f req asked same = by_found (request_in asked req) refl
  where
    by_found : (o : Option Asked) → request_in asked req ≡ o → map u (option_map_or (λ q. slice_set asked (req.0 - 1) (f q)) o asked) ≡ map u asked
    by_found None e = refl
    by_found (Some q) e =
        set_map u asked (req.0 - 1) (f q)
        ∙ ap (λ (x : Asked). slice_set (map u asked) (req.0 - 1) x) (same q e)
        ∙ set_itself (map u asked) (req.0 - 1) (u q) (slice_get-map u asked (req.0 - 1) ∙ ap (λ o. option_map u o) (found_at asked req q e))

-- two changes of one request are one
pub on_twice : (f g : Asked → Asked) (req : ReqId) (asked : List Asked) → on_request req g (on_request req f asked) ≡ on_request req (λ q. g (f q)) asked
on_twice f g req asked = by_number (req.0 == 0)
  where
    by_found : (o : Option Asked) → slice_get asked (req.0 - 1) ≡ o → option_map_or (λ q. slice_set (option_map_or (λ q. slice_set asked (req.0 - 1) (f q)) o asked) (req.0 - 1) (g q)) (slice_get (option_map_or (λ q. slice_set asked (req.0 - 1) (f q)) o asked) (req.0 - 1)) (option_map_or (λ q. slice_set asked (req.0 - 1) (f q)) o asked) ≡ option_map_or (λ q. slice_set asked (req.0 - 1) (g (f q))) o asked
    by_found None e = rw e refl
    by_found (Some q) e =
        rw (set_there asked (req.0 - 1) q (f q) e) (set_twice asked (req.0 - 1) (f q) (g (f q)))

    by_number : (b : Bool) → (let once : List Asked = option_map_or (λ q. slice_set asked (req.0 - 1) (f q)) (cond b None (slice_get asked (req.0 - 1))) asked in option_map_or (λ q. slice_set once (req.0 - 1) (g q)) (cond b None (slice_get once (req.0 - 1))) once) ≡ option_map_or (λ q. slice_set asked (req.0 - 1) (g (f q))) (cond b None (slice_get asked (req.0 - 1))) asked
    by_number true = refl
    by_number false = by_found (slice_get asked (req.0 - 1)) refl

-- ---- desks

-- what is found among quiet desks
pub desk_map : (desks : List Desk) (proc : ProcId) → desk_in (map quiet_desk desks) proc ≡ quiet_desk (desk_in desks proc)
desk_map [] proc = refl
desk_map (desk ∷ desks) proc =
    elim (desk.proc.0 == proc.0) as (λ b. cond b (quiet_desk desk) (desk_in (map quiet_desk desks) proc) ≡ quiet_desk (cond b desk (desk_in desks proc))) [
      | true ↦ refl
      | false ↦ desk_map desks proc
    ]

-- a quiet desk that is changed
pub desk_past : (f g : Desk → Desk) (proc : ProcId) (desks : List Desk) → quiet_desk (f (desk_in desks proc)) ≡ g (quiet_desk (desk_in desks proc)) → map quiet_desk (on_desk proc f desks) ≡ on_desk proc g (map quiet_desk desks)
desk_past f g proc [] same = ap (λ d. d ∷ []) same
desk_past f g proc (desk ∷ desks) same = by_test (desk.proc.0 == proc.0) same (desk_past f g proc desks)
  where
    by_test : (b : Bool) → quiet_desk (f (cond b desk (desk_in desks proc))) ≡ g (quiet_desk (cond b desk (desk_in desks proc))) → (quiet_desk (f (desk_in desks proc)) ≡ g (quiet_desk (desk_in desks proc)) → map quiet_desk (on_desk proc f desks) ≡ on_desk proc g (map quiet_desk desks)) → map quiet_desk (cond b (f desk ∷ desks) (desk ∷ on_desk proc f desks)) ≡ cond b (g (quiet_desk desk) ∷ map quiet_desk desks) (quiet_desk desk ∷ on_desk proc g (map quiet_desk desks))
    by_test true here more = ap (λ d. d ∷ map quiet_desk desks) here
    by_test false here more = ap (λ l. quiet_desk desk ∷ l) (more here)

-- a change of a desk that stays quiet
pub desk_still : (f : Desk → Desk) (proc : ProcId) (desks : List Desk) → has_desk desks proc ≡ true → quiet_desk (f (desk_in desks proc)) ≡ quiet_desk (desk_in desks proc) → map quiet_desk (on_desk proc f desks) ≡ map quiet_desk desks
desk_still f proc [] there same = cc
desk_still f proc (desk ∷ desks) there same = by_test (desk.proc.0 == proc.0) there same (desk_still f proc desks)
  where
    by_test : (b : Bool) → (b || has_desk desks proc) ≡ true → quiet_desk (f (cond b desk (desk_in desks proc))) ≡ quiet_desk (cond b desk (desk_in desks proc)) → (has_desk desks proc ≡ true → quiet_desk (f (desk_in desks proc)) ≡ quiet_desk (desk_in desks proc) → map quiet_desk (on_desk proc f desks) ≡ map quiet_desk desks) → map quiet_desk (cond b (f desk ∷ desks) (desk ∷ on_desk proc f desks)) ≡ map quiet_desk (desk ∷ desks)
    by_test true there here more = ap (λ d. d ∷ map quiet_desk desks) here
    by_test false there here more = ap (λ l. quiet_desk desk ∷ l) (more there here)

-- a process without a desk has nothing
pub no_desk : (desks : List Desk) (proc : ProcId) → has_desk desks proc ≡ false → desk_in desks proc ≡ empty_desk proc
no_desk [] proc none = refl
no_desk (desk ∷ desks) proc none = by_test (desk.proc.0 == proc.0) none (no_desk desks proc)
  where
    by_test : (b : Bool) → (b || has_desk desks proc) ≡ false → (has_desk desks proc ≡ false → desk_in desks proc ≡ empty_desk proc) → (let d : Desk = cond b desk (desk_in desks proc) in d) ≡ empty_desk proc
    by_test true none more = cc
    by_test false none more = more none

-- a process whose desk has something has one
pub desk_there : (has : Desk → Bool) (desks : List Desk) (proc : ProcId) → has (empty_desk proc) ≡ false → has (desk_in desks proc) ≡ true → has_desk desks proc ≡ true
desk_there has desks proc empty some = by_desk (has_desk desks proc) refl
  where
    by_desk : (b : Bool) → has_desk desks proc ≡ b → b ≡ true
    by_desk true e = refl
    by_desk false e = sym empty ∙ ap has (sym (no_desk desks proc e)) ∙ some
