-- How many requests have ended: a change ends one, and no row makes one open again.
use Rattle.std.proofs.Common.{◌≡◌, ℕ, zero, suc, ◌+◌, ◌-◌, ◌≤◌, Bool, true, false, cond, ◌==◌, List, [], ◌∷◌, ◌++◌, length, Option, Some, None, refl, subst, arith}
use Rattle.std.specs.Prelude.{slice_get, slice_set, is_none}
use Rattle.std.specs.Option.{option_map_or}
use Rattle.tab_ids.specs.declared.ReqId.{ReqId}
use Rattle.log_model.specs.declared.outcome.Ending.{Ending}
use Rattle.log_model.specs.Equal.{holds}
use Rattle.log_model.specs.Seen.{Asked, request_in}
use Rattle.log_model.specs.AfterRequests.{on_request}
use Rattle.log_model.specs.Once.{is_open}

-- 1 for a request that has ended, else 0
abbrev pub as_ended : Option Ending → ℕ
as_ended None = 0
as_ended (Some ending) = 1

-- how many of the requests have ended
abbrev pub ended_in : List Asked → ℕ
ended_in [] = 0
ended_in (q ∷ asked) = as_ended q.ending + ended_in asked

-- as many requests as before, of which none is open again
pub record IsLater (asked next : List Asked) : Type 0 where
  pub long : length next ≡ length asked
  pub ended : ended_in asked ≤ ended_in next

pub at_most_one : (ending : Option Ending) → as_ended ending ≤ 1
at_most_one None = omega arith
at_most_one (Some ending) = omega arith

-- no more have ended than there are
pub ended_few : (asked : List Asked) → ended_in asked ≤ length asked
ended_few [] = omega arith
ended_few (q ∷ asked) = omega (arith, ended_few asked, at_most_one q.ending)

pub same_later : (asked : List Asked) → IsLater asked asked
same_later asked = record { long = refl; ended = omega arith }

pub later_then : (a b c : List Asked) → IsLater a b → IsLater b c → IsLater a c
later_then a b c first then_ =
    record { long = omega (arith, first.long, then_.long); ended = omega (arith, first.ended, then_.ended) }

-- ---- one request more

pub ended_more : (asked : List Asked) (q : Asked) → ended_in (asked ++ q ∷ []) ≡ ended_in asked + as_ended q.ending
ended_more [] q = omega arith
ended_more (first ∷ asked) q = omega (arith, ended_more asked q)

-- ---- one request changed

set_long : (asked : List Asked) (n : ℕ) (q : Asked) → length (slice_set asked n q) ≡ length asked
set_long [] n q = refl
set_long (first ∷ asked) zero q = refl
set_long (first ∷ asked) (suc n) q = omega (arith, set_long asked n q)

set_ended : (asked : List Asked) (n : ℕ) (q new : Asked) → slice_get asked n ≡ Some q → ended_in (slice_set asked n new) + as_ended q.ending ≡ ended_in asked + as_ended new.ending
set_ended [] n q new at = cc
set_ended (first ∷ asked) zero q new at =
    let same : first ≡ q = cc in
    subst (λ (r : Asked). (as_ended new.ending + ended_in asked) + as_ended r.ending ≡ (as_ended first.ending + ended_in asked) + as_ended new.ending) same (omega arith)
set_ended (first ∷ asked) (suc n) q new at = omega (arith, set_ended asked n q new at)

-- no request is open again
pub on_later : (asked : List Asked) (req : ReqId) (f : Asked → Asked) → ((q : Asked) → as_ended q.ending ≤ as_ended (f q).ending) → IsLater asked (on_request req f asked)
on_later asked req f keeps = by_number (req.0 == 0)
  where
    by_found : (o : Option Asked) → slice_get asked (req.0 - 1) ≡ o → IsLater asked (option_map_or (λ q. slice_set asked (req.0 - 1) (f q)) o asked)
    by_found None e = same_later asked
    by_found (Some q) e =
        record {
          long = set_long asked (req.0 - 1) (f q);
          ended = omega (arith, set_ended asked (req.0 - 1) q (f q) e, keeps q);
        }

    by_number : (b : Bool) → IsLater asked (option_map_or (λ q. slice_set asked (req.0 - 1) (f q)) (cond b None (slice_get asked (req.0 - 1))) asked)
    by_number true = same_later asked
    by_number false = by_found (slice_get asked (req.0 - 1)) refl

-- an open request ends
pub on_ends : (asked : List Asked) (req : ReqId) (f : Asked → Asked) → ((q : Asked) → as_ended (f q).ending ≡ 1) → holds is_open (request_in asked req) ≡ true → ended_in (on_request req f asked) ≡ ended_in asked + 1
on_ends asked req f ends open_ = by_number (req.0 == 0) open_
  where
    by_ending : (ending : Option Ending) → is_none ending ≡ true → as_ended ending ≡ 0
    by_ending None e = refl
    by_ending (Some ending) e = cc

    by_found : (o : Option Asked) → slice_get asked (req.0 - 1) ≡ o → holds is_open o ≡ true → ended_in (option_map_or (λ q. slice_set asked (req.0 - 1) (f q)) o asked) ≡ ended_in asked + 1
    by_found None e is = cc
    by_found (Some q) e is =
        omega (arith, set_ended asked (req.0 - 1) q (f q) e, ends q, by_ending q.ending is)

    by_number : (b : Bool) → holds is_open (cond b None (slice_get asked (req.0 - 1))) ≡ true → ended_in (option_map_or (λ q. slice_set asked (req.0 - 1) (f q)) (cond b None (slice_get asked (req.0 - 1))) asked) ≡ ended_in asked + 1
    by_number true is = cc
    by_number false is = by_found (slice_get asked (req.0 - 1)) refl is
