-- What is held back stays, where a row leaves what was made of each request.
use Rattle.std.proofs.Common.{◌≡◌, ℕ, zero, suc, ◌-◌, Bool, true, false, cond, not, ◌||◌, ◌==◌, List, [], ◌∷◌, ◌++◌, Option, Some, None, refl, sym, ap, ◌∙◌, arith}
use Rattle.std.specs.Prelude.{filter_map, slice_get, slice_set, option_and_then}
use Rattle.std.specs.Option.{option_map_or}
use Rattle.std.proofs.lemmas.Bool.Decides.{nat_tests}
use Rattle.tab_ids.specs.declared.DocId.{DocId}
use Rattle.tab_ids.specs.declared.ReqId.{ReqId}
use Rattle.log_model.specs.declared.made.Made.{Made}
use Rattle.log_model.specs.declared.request.Request.{Request}
use Rattle.log_model.specs.Seen.{Asked, request_in}
use Rattle.log_model.specs.After.{new_request}
use Rattle.log_model.specs.Equal.{has_req}
use Rattle.log_model.specs.AfterRequests.{on_request, without_req}
use Rattle.seen_facts.specs.Coord.Leading.{held_back}

pub fun_ext : {A B : Type 0} {f g : A → B} → ((x : A) → f x ≡ g x) → f ≡ g
fun_ext h = λ i x. h x i

-- a reader of items that doesn't see a change of one of them
set_alike : {A B : Type 0} (read : Option A → B) (xs : List A) (m n : ℕ) (x y : A) → slice_get xs m ≡ Some x → read (Some y) ≡ read (Some x) → read (slice_get (slice_set xs m y) n) ≡ read (slice_get xs n)
set_alike read [] m n x y at same = cc
set_alike read (z ∷ xs) zero zero x y at same = same ∙ ap read (sym at)
set_alike read (z ∷ xs) zero (suc n) x y at same = refl
set_alike read (z ∷ xs) (suc m) zero x y at same = refl
set_alike read (z ∷ xs) (suc m) (suc n) x y at same = set_alike read xs m n x y at same

-- a reader of requests that doesn't see a change of one of them
pub on_alike : {B : Type 0} (read : Option Asked → B) (asked : List Asked) (req : ReqId) (f : Asked → Asked) (r : ReqId) → ((q : Asked) → read (Some (f q)) ≡ read (Some q)) → read (request_in (on_request req f asked) r) ≡ read (request_in asked r)
on_alike read asked req f r same = by_number (req.0 == 0) (r.0 == 0)
  where
    by_found : (o : Option Asked) → slice_get asked (req.0 - 1) ≡ o → read (slice_get (option_map_or (λ q. slice_set asked (req.0 - 1) (f q)) o asked) (r.0 - 1)) ≡ read (slice_get asked (r.0 - 1))
    by_found None e = refl
    by_found (Some q) e = set_alike read asked (req.0 - 1) (r.0 - 1) q (f q) e (same q)

    by_number : (b c : Bool) → read (cond c None (slice_get (option_map_or (λ q. slice_set asked (req.0 - 1) (f q)) (cond b None (slice_get asked (req.0 - 1))) asked) (r.0 - 1))) ≡ read (cond c None (slice_get asked (r.0 - 1)))
    by_number b true = refl
    by_number true false = refl
    by_number false false = by_found (slice_get asked (req.0 - 1)) refl

-- what was made of a request, if anything
abbrev pub made_of : Option Asked → Option Made
made_of o = option_and_then (λ (q : Asked). q.made) o

pub held_alike : (asked next : List Asked) (parked : List ReqId) → ((r : ReqId) → made_of (request_in next r) ≡ made_of (request_in asked r)) → held_back next parked ≡ held_back asked parked
held_alike asked next parked same = ap (λ (f : ReqId → Option Made). filter_map f parked) (fun_ext same)

-- a change of a request that leaves what was made of it
pub held_on : (asked : List Asked) (parked : List ReqId) (req : ReqId) (f : Asked → Asked) → ((q : Asked) → (f q).made ≡ q.made) → held_back (on_request req f asked) parked ≡ held_back asked parked
held_on asked parked req f same =
    held_alike asked (on_request req f asked) parked (λ r. on_alike made_of asked req f r same)

-- one request more, of which nothing is made yet
more_alike : (asked : List Asked) (q : Asked) (n : ℕ) → q.made ≡ None → made_of (slice_get (asked ++ q ∷ []) n) ≡ made_of (slice_get asked n)
more_alike [] q zero none = none
more_alike [] q (suc n) none = refl
more_alike (x ∷ asked) q zero none = refl
more_alike (x ∷ asked) q (suc n) none = more_alike asked q n none

pub held_more : (asked : List Asked) (parked : List ReqId) (req : ReqId) (doc : Option DocId) (what : Request) → held_back (asked ++ new_request req doc what ∷ []) parked ≡ held_back asked parked
held_more asked parked req doc what =
    held_alike asked (asked ++ new_request req doc what ∷ []) parked (λ r. by_number r (r.0 == 0))
  where
    by_number : (r : ReqId) (b : Bool) → made_of (cond b None (slice_get (asked ++ new_request req doc what ∷ []) (r.0 - 1))) ≡ made_of (cond b None (slice_get asked (r.0 - 1)))
    by_number r true = refl
    by_number r false = more_alike asked (new_request req doc what) (r.0 - 1) refl

-- ---- the rows

-- a request that isn't held back isn't missed among those that are
pub without_same : (parked : List ReqId) (req : ReqId) → has_req parked req ≡ false → without_req req parked ≡ parked
without_same [] req none = refl
without_same (r ∷ parked) req none = by_tests (r.0 == req.0) (has_req parked req) refl none (without_same parked req)
  where
    by_tests : (b c : Bool) → has_req parked req ≡ c → (b || c) ≡ false → (has_req parked req ≡ false → without_req req parked ≡ parked) → cond (not b) (r ∷ without_req req parked) (without_req req parked) ≡ r ∷ parked
    by_tests true c e none more = cc
    by_tests false true e none more = cc
    by_tests false false e none more = ap (λ (l : List ReqId). r ∷ l) (more e)

-- what was made of a request that isn't held back is none of what is
pub held_else : (asked next : List Asked) (parked : List ReqId) (req : ReqId) → has_req parked req ≡ false → ((r : ReqId) → (r.0 == req.0) ≡ false → made_of (request_in next r) ≡ made_of (request_in asked r)) → held_back next parked ≡ held_back asked parked
held_else asked next [] req none same = refl
held_else asked next (r ∷ parked) req none same =
    by_tests (r.0 == req.0) (has_req parked req) refl refl none (λ none_. held_else asked next parked req none_ same)
  where
    front : (o : Option Made) (l : List Made) → List Made
    front None l = l
    front (Some made) l = made ∷ l

    by_front : (f : ReqId → Option Made) → filter_map f (r ∷ parked) ≡ front (f r) (filter_map f parked)
    by_front f = by_made (f r) refl
      where
        by_made : (o : Option Made) → f r ≡ o → filter_map f (r ∷ parked) ≡ front o (filter_map f parked)
        by_made None e = rw e refl
        by_made (Some made) e = rw e refl

    by_tests : (b c : Bool) → (r.0 == req.0) ≡ b → has_req parked req ≡ c → (b || c) ≡ false → (has_req parked req ≡ false → held_back next parked ≡ held_back asked parked) → held_back next (r ∷ parked) ≡ held_back asked (r ∷ parked)
    by_tests true c e f none_ rest = cc
    by_tests false true e f none_ rest = cc
    by_tests false false e f none_ rest =
        by_front (λ (x : ReqId). made_of (request_in next x))
        ∙ ap (λ (o : Option Made). front o (held_back next parked)) (same r e)
        ∙ ap (λ (l : List Made). front (made_of (request_in asked r)) l) (rest f)
        ∙ sym (by_front (λ (x : ReqId). made_of (request_in asked x)))

-- a reader of requests that a change of another one leaves
else_alike : {A : Type 0} (xs : List A) (m n : ℕ) (y : A) → (m == n) ≡ false → slice_get (slice_set xs m y) n ≡ slice_get xs n
else_alike [] m n y apart = refl
else_alike (z ∷ xs) zero zero y apart = cc
else_alike (z ∷ xs) zero (suc n) y apart = refl
else_alike (z ∷ xs) (suc m) zero y apart = refl
else_alike (z ∷ xs) (suc m) (suc n) y apart =
    else_alike xs m n y (let less : (m == n) ≡ false = grind (arith, nat_tests, apart) in less)

pub on_else : (asked : List Asked) (req : ReqId) (f : Asked → Asked) (r : ReqId) → (r.0 == req.0) ≡ false → request_in (on_request req f asked) r ≡ request_in asked r
on_else asked req f r apart = by_number (req.0 == 0) (r.0 == 0) refl refl
  where
    by_found : ((req.0 - 1) == (r.0 - 1)) ≡ false → (o : Option Asked) → slice_get (option_map_or (λ q. slice_set asked (req.0 - 1) (f q)) o asked) (r.0 - 1) ≡ slice_get asked (r.0 - 1)
    by_found places None = refl
    by_found places (Some q) = else_alike asked (req.0 - 1) (r.0 - 1) (f q) places

    by_number : (b c : Bool) → (req.0 == 0) ≡ b → (r.0 == 0) ≡ c → (let o : Option Asked = cond c None (slice_get (option_map_or (λ q. slice_set asked (req.0 - 1) (f q)) (cond b None (slice_get asked (req.0 - 1))) asked) (r.0 - 1)) in o) ≡ cond c None (slice_get asked (r.0 - 1))
    by_number b true d e = refl
    by_number true false d e = refl
    by_number false false d e =
        by_found (let places : ((req.0 - 1) == (r.0 - 1)) ≡ false = grind (arith, nat_tests, d, e, apart) in places) (slice_get asked (req.0 - 1))

-- so any change of a request that isn't held back leaves what is
pub held_apart : (asked : List Asked) (parked : List ReqId) (req : ReqId) (f : Asked → Asked) → has_req parked req ≡ false → held_back (on_request req f asked) parked ≡ held_back asked parked
held_apart asked parked req f none =
    held_else asked (on_request req f asked) parked req none (λ r apart. ap (λ (o : Option Asked). made_of o) (on_else asked req f r apart))
