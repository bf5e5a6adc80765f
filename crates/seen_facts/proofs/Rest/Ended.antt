-- Where nothing is in transit, each request has ended: it is found nowhere, no load is ongoing, and no order is on its way.
use Rattle.std.proofs.Common.{◌≡◌, ◌⊎◌, inl, inr, Bool, true, false, [], Option, Some, None, refl, sym, ap, ◌∙◌, arith}
use Rattle.std.specs.Prelude.{is_some}
use Rattle.std.specs.List.{list_all}
use Rattle.tab_ids.specs.declared.ReqId.{ReqId}
use Rattle.log_model.specs.declared.outcome.Ending.{Ending}
use Rattle.log_model.specs.Logs.{is_still}
use Rattle.log_model.specs.Places.{is_load, is_ongoing_load}
use Rattle.log_model.specs.Seen.{Seen, Asked, request_in}
use Rattle.seen_facts.specs.Request.Whereabouts.{times_found, times_due, is_of_load}
use Rattle.seen_facts.specs.Rest.Between.{IsComposedWithLoads, IsOrdered}
use Rattle.seen_facts.proofs.Rest.Still.{none_over, none_ordered}
use Rattle.seen_facts.proofs.Rest.Stands.{all_requests, none_passed, none_joined}
use Rattle.seen_facts.proofs.Rest.Seated.{none_ongoing}

module _ (s : Seen) (is : IsComposedWithLoads s) (still : is_still s ≡ true) where
  -- each request that is found nowhere has ended
  ended : (req : ReqId) (q : Asked) → request_in s.requests req ≡ Some q → is_some q.ending ≡ true
  ended req q at = by_ending q.ending refl
    where
      nowhere : times_found req s.desks s.joined s.parked [] ≡ 0
      nowhere = rw (none_over req s.desks still) (rw (none_joined s is still) (rw (is.plain.unparked (none_passed s is still)) refl))

      by_way : (is_ongoing_load q ≡ true) ⊎ IsOrdered s → ⊥
      by_way (inl going) = none_ongoing s is still req q at going
      by_way (inr ordered) = none_ordered s is still ordered

      never_open : (b : Bool) → is_load q.what ≡ b → q.ending ≡ None → ⊥
      never_open true load unended = by_way (is.plain.trips req q at load unended nowhere)
      never_open false other unended =
          let one : times_due (Some q) ≡ 1 = rw unended refl in
          let due : times_due (request_in s.requests req) ≡ 0 = sym (is.once req (ap is_of_load at ∙ other)) ∙ nowhere in
          let never : 0 ≡ 1 = sym due ∙ ap times_due at ∙ one in
          omega (arith, never)

      by_ending : (o : Option Ending) → q.ending ≡ o → is_some q.ending ≡ true
      by_ending (Some ending) e = rw e refl
      by_ending None e = absurd (never_open (is_load q.what) refl e)

  pub all_ended : list_all (λ (q : Asked). is_some q.ending) s.requests ≡ true
  all_ended = all_requests s.requests (λ (q : Asked). is_some q.ending) ended
