-- What follows of a load from where it is: it is at one place alone, and where nothing is at hand and nothing waits, each open load is on its way.
use Rattle.std.proofs.Common.{◌≡◌, ◌⊎◌, inl, inr, ◌+◌, ◌<◌, Bool, true, false, List, Option, Some, refl, ap, ◌∙◌, subst, arith}
use Rattle.tab_ids.specs.declared.ReqId.{ReqId}
use Rattle.log_model.specs.Seen.{Seen, Asked, request_of}
use Rattle.log_model.specs.Places.{is_load, is_ongoing_load}
use Rattle.log_model.specs.Once.{is_open}
use Rattle.seen_facts.specs.Request.Whereabouts.{times_found, times_due, is_of_load}
use Rattle.seen_facts.specs.LoadWhereabouts.Whereabouts.{waits_to_fragment, times_on_way, AreLoadsOnce}
use Rattle.seen_facts.proofs.LoadWhereabouts.Counts.{count, few}

none_of : (b : Bool) → count b ≡ 0 → b ≡ false
none_of true none = cc
none_of false none = refl

one_of_two : (a b : Bool) → count a + count b ≡ 1 → (a ≡ true) ⊎ (b ≡ true)
one_of_two true b one = inl refl
one_of_two false true one = inr refl
one_of_two false false one = cc

module _ (s : Seen) (hand : List ReqId) (req : ReqId) (q : Asked) (found : request_of s req ≡ Some q) (load : is_load q.what ≡ true) (each : AreLoadsOnce s hand) where
  once : times_found req s.desks s.joined s.parked hand + (count (is_ongoing_load q) + count (waits_to_fragment q)) ≡ count (is_open q)
  once =
      subst (λ (o : Option Asked). times_found req s.desks s.joined s.parked hand + times_on_way o ≡ times_due o) found (each req (ap is_of_load found ∙ load))

  -- one that has begun waits for no fragment order
  pub begun_still : is_ongoing_load q ≡ true → waits_to_fragment q ≡ false
  begun_still ongoing =
      none_of (waits_to_fragment q) (let one : count (is_ongoing_load q) ≡ 1 = ap count ongoing in let small : count (is_open q) < 2 = few (is_open q) in omega (arith, once, one, small))

  -- and is found nowhere else
  pub begun_nowhere : is_ongoing_load q ≡ true → times_found req s.desks s.joined s.parked hand ≡ 0
  begun_nowhere ongoing =
      let one : count (is_ongoing_load q) ≡ 1 = ap count ongoing in
      let small : count (is_open q) < 2 = few (is_open q) in
      omega (arith, once, one, small)

  -- nor is one that waits
  pub waiting_nowhere : waits_to_fragment q ≡ true → times_found req s.desks s.joined s.parked hand ≡ 0
  waiting_nowhere waits =
      let one : count (waits_to_fragment q) ≡ 1 = ap count waits in
      let small : count (is_open q) < 2 = few (is_open q) in
      omega (arith, once, one, small)

  -- one that has ended is nowhere
  pub ended_nowhere : is_open q ≡ false → times_found req s.desks s.joined s.parked hand ≡ 0
  ended_nowhere over_ =
      let none : count (is_open q) ≡ 0 = ap count over_ in omega (arith, once, none)

  -- an open one that is at no desk, not in the queue, not held back and not at hand is on its way
  pub open_on_way : is_open q ≡ true → times_found req s.desks s.joined s.parked hand ≡ 0 → (is_ongoing_load q ≡ true) ⊎ (waits_to_fragment q ≡ true)
  open_on_way unended nowhere =
      one_of_two (is_ongoing_load q) (waits_to_fragment q) (let one : count (is_open q) ≡ 1 = ap count unended in omega (arith, once, one, nowhere))
