-- How many requests pass a test, once one of them has changed.
use Rattle.seen_facts.proofs.Coord.Unread.{next}
use Rattle.entry_store.proofs.StepBounds.{filter-fewer}
use Rattle.log_model.specs.After.{ended}
use Rattle.log_model.specs.AfterRequests.{entries_taken, on_request}
use Rattle.log_model.specs.Seen.{Asked, Seen, request_in}
use Rattle.log_model.specs.declared.change.Change.{Change}
use Rattle.log_model.specs.declared.row_kind.Actor.{Actor}
use Rattle.std.proofs.Common.{Bool, List, None, Option, Some, [], ap, arith, cond, false, length, refl, suc, sym, true, zero, ℕ, ◌+◌, ◌-◌, ◌==◌, ◌∙◌, ◌∷◌, ◌≡◌, ◌≤◌}
use Rattle.std.proofs.lemmas.List.{length-set}
use Rattle.std.specs.Option.{option_map_or}
use Rattle.std.specs.Prelude.{filter, slice_get, slice_set}
use Rattle.tab_facts.specs.TabGoing.Going.{count_of}
use Rattle.tab_ids.specs.declared.ReqId.{ReqId}
use Rattle.log_model.specs.declared.outcome.Ending.TheVariants as endings
use Rattle.log_model.specs.declared.row_kind.RowKind.TheVariants as rows

pub some_same : {A : Type 0} {a b : A} → (let o : Option A = Some a in o) ≡ Some b → a ≡ b
some_same e = cc

module _ (test : Asked → Bool) where
  -- ---- one of them comes to pass

  set_more : (asked : List Asked) (n : ℕ) (q new : Asked) → slice_get asked n ≡ Some q → test q ≡ false → test new ≡ true → count_of test (slice_set asked n new) ≡ count_of test asked + 1
  set_more [] n q new at before then_ = absurd cc
  set_more (x ∷ asked) zero q new at before then_ =
      by_tests (test x) (test new) (ap (λ (y : Asked). test y) (some_same at) ∙ before) then_
    where
      by_tests : (b c : Bool) → b ≡ false → c ≡ true → length (let l : List Asked = cond c (new ∷ filter test asked) (filter test asked) in l) ≡ length (let l : List Asked = cond b (x ∷ filter test asked) (filter test asked) in l) + 1
      by_tests false true e f = omega arith
      by_tests true c e f = absurd cc
      by_tests false false e f = absurd cc
  set_more (x ∷ asked) (suc n) q new at before then_ = by_test (test x) (set_more asked n q new at before then_)
    where
      by_test : (b : Bool) → count_of test (slice_set asked n new) ≡ count_of test asked + 1 → length (let l : List Asked = cond b (x ∷ filter test (slice_set asked n new)) (filter test (slice_set asked n new)) in l) ≡ length (let l : List Asked = cond b (x ∷ filter test asked) (filter test asked) in l) + 1
      by_test true more = omega (arith, more)
      by_test false more = more

  -- or passes as it did
  set_same : (asked : List Asked) (n : ℕ) (q new : Asked) → slice_get asked n ≡ Some q → test new ≡ test q → count_of test (slice_set asked n new) ≡ count_of test asked
  set_same [] n q new at same = refl
  set_same (x ∷ asked) zero q new at same = by_tests (test x) (test new) (same ∙ ap (λ (y : Asked). test y) (sym (some_same at)))
    where
      by_tests : (b c : Bool) → c ≡ b → length (let l : List Asked = cond c (new ∷ filter test asked) (filter test asked) in l) ≡ length (let l : List Asked = cond b (x ∷ filter test asked) (filter test asked) in l)
      by_tests true true e = refl
      by_tests false false e = refl
      by_tests true false e = absurd cc
      by_tests false true e = absurd cc
  set_same (x ∷ asked) (suc n) q new at same = by_test (test x) (set_same asked n q new at same)
    where
      by_test : (b : Bool) → count_of test (slice_set asked n new) ≡ count_of test asked → length (let l : List Asked = cond b (x ∷ filter test (slice_set asked n new)) (filter test (slice_set asked n new)) in l) ≡ length (let l : List Asked = cond b (x ∷ filter test asked) (filter test asked) in l)
      by_test true more = omega (arith, more)
      by_test false more = more

  -- by its number
  pub count_more : (asked : List Asked) (req : ReqId) (f : Asked → Asked) (q : Asked) → request_in asked req ≡ Some q → test q ≡ false → test (f q) ≡ true → count_of test (on_request req f asked) ≡ count_of test asked + 1
  count_more asked req f q there before then_ = by_number (req.0 == 0) there
    where
      by_number : (b : Bool) → (let o : Option Asked = cond b None (slice_get asked (req.0 - 1)) in o) ≡ Some q → count_of test (option_map_or (λ (x : Asked). slice_set asked (req.0 - 1) (f x)) (let o : Option Asked = cond b None (slice_get asked (req.0 - 1)) in o) asked) ≡ count_of test asked + 1
      by_number true e = absurd cc
      by_number false e = rw e (set_more asked (req.0 - 1) q (f q) e before then_)

  pub count_same : (asked : List Asked) (req : ReqId) (f : Asked → Asked) → ((q : Asked) → request_in asked req ≡ Some q → test (f q) ≡ test q) → count_of test (on_request req f asked) ≡ count_of test asked
  count_same asked req f same = by_number (req.0 == 0) same
    where
      by_found : (o : Option Asked) → slice_get asked (req.0 - 1) ≡ o → ((q : Asked) → o ≡ Some q → test (f q) ≡ test q) → count_of test (option_map_or (λ (x : Asked). slice_set asked (req.0 - 1) (f x)) o asked) ≡ count_of test asked
      by_found None e its = refl
      by_found (Some q) e its = set_same asked (req.0 - 1) q (f q) e (its q refl)

      by_number : (b : Bool) → ((q : Asked) → (let o : Option Asked = cond b None (slice_get asked (req.0 - 1)) in o) ≡ Some q → test (f q) ≡ test q) → count_of test (option_map_or (λ (x : Asked). slice_set asked (req.0 - 1) (f x)) (let o : Option Asked = cond b None (slice_get asked (req.0 - 1)) in o) asked) ≡ count_of test asked
      by_number true its = refl
      by_number false its = by_found (slice_get asked (req.0 - 1)) refl its

  -- at most as many as there are
  pub count_few : (asked : List Asked) → count_of test asked ≤ length asked
  count_few asked = filter-fewer test asked

-- there are as many requests, once one is changed
pub as_many : (asked : List Asked) (req : ReqId) (f : Asked → Asked) → length (on_request req f asked) ≡ length asked
as_many asked req f = by_number (req.0 == 0)
  where
    by_found : (o : Option Asked) → length (option_map_or (λ (x : Asked). slice_set asked (req.0 - 1) (f x)) o asked) ≡ length asked
    by_found None = refl
    by_found (Some q) = length-set asked (req.0 - 1) (f q)

    by_number : (b : Bool) → length (option_map_or (λ (x : Asked). slice_set asked (req.0 - 1) (f x)) (let o : Option Asked = cond b None (slice_get asked (req.0 - 1)) in o) asked) ≡ length asked
    by_number true = refl
    by_number false = by_found (slice_get asked (req.0 - 1))

-- ---- an applied change

module _ (s : Seen) (event : ℕ) (actor : Actor) (req : ReqId) (change : Change) where
  abbrev applied_to : List Asked
  applied_to = (next s event actor (rows.Applied req change)).requests

  pub applied_long : length applied_to ≡ length s.requests
  applied_long =
      as_many (on_request req (λ (x : Asked). record x { change = Some change }) (ended s.requests req endings.Applied)) req (λ (x : Asked). record x { took = entries_taken s.history change })
      ∙ (as_many (ended s.requests req endings.Applied) req (λ (x : Asked). record x { change = Some change })
      ∙ as_many s.requests req (λ (x : Asked). record x { ending = Some endings.Applied }))

  -- what reads neither a request's change nor what it took
  same_last : (test : Asked → Bool) → ((x : Asked) → test (record x { change = Some change }) ≡ test x) → ((x : Asked) → test (record x { took = entries_taken s.history change }) ≡ test x) → count_of test applied_to ≡ count_of test (ended s.requests req endings.Applied)
  same_last test changes_ takes =
      count_same test (on_request req (λ (x : Asked). record x { change = Some change }) (ended s.requests req endings.Applied)) req (λ (x : Asked). record x { took = entries_taken s.history change }) (λ x at. takes x)
      ∙ count_same test (ended s.requests req endings.Applied) req (λ (x : Asked). record x { change = Some change }) (λ x at. changes_ x)

  pub applied_more : (test : Asked → Bool) (q : Asked) → ((x : Asked) → test (record x { change = Some change }) ≡ test x) → ((x : Asked) → test (record x { took = entries_taken s.history change }) ≡ test x) → request_in s.requests req ≡ Some q → test q ≡ false → test (record q { ending = Some endings.Applied }) ≡ true → count_of test applied_to ≡ count_of test s.requests + 1
  applied_more test q changes_ takes there before then_ =
      same_last test changes_ takes ∙ count_more test s.requests req (λ (x : Asked). record x { ending = Some endings.Applied }) q there before then_
