-- Where nothing is in transit, all stand at the current step, no traversal runs or waits, and no load is ready.
use Rattle.std.proofs.Common.{◌≡◌, ◌⊎◌, inl, inr, ℕ, suc, ◌+◌, ◌-◌, Bool, true, false, cond, not, ◌&&◌, ◌||◌, ◌==◌, List, [], ◌∷◌, length, Option, Some, None, refl, sym, ap, ◌∙◌, arith}
use Rattle.std.specs.Prelude.{is_some, slice_get}
use Rattle.std.specs.List.{list_all}
use Rattle.std.specs.Option.{option_map_or}
use Rattle.std.proofs.lemmas.Bool.{and_parts, and_from}
use Rattle.std.proofs.lemmas.Bool.Decides.{nat_tests}
use Rattle.tab_ids.specs.declared.ReqId.{ReqId}
use Rattle.tab_ids.specs.declared.Step.{Step}
use Rattle.log_model.specs.ActsAtOnce.{has_reason_to_run, has_no_step_waiting, is_ready_load, ends_stepped}
use Rattle.log_model.specs.Equal.{implies}
use Rattle.log_model.specs.History.{used_step_at}
use Rattle.log_model.specs.Logs.{is_still}
use Rattle.log_model.specs.Places.{is_under_way, is_traversal, is_reload, has_passed, running_traversal, passed_traversal, aim_of, all_stand}
use Rattle.log_model.specs.Queue.{is_step_under_way, is_queue_free}
use Rattle.log_model.specs.Seen.{Seen, Asked, Place, request_in}
use Rattle.seen_facts.specs.Coord.OnItsWay.{IsHeldUp, EachOnItsWay}
use Rattle.seen_facts.proofs.Coord.OnItsWays.{all_stand_here}
use Rattle.seen_facts.specs.Hang.Members.{Has}
use Rattle.seen_facts.proofs.Hang.Members.{slice_has, find_has, has_found}
use Rattle.seen_facts.proofs.Hang.Hung.{places_distinct}
use Rattle.seen_facts.specs.Walk.Serving.{Waits}
use Rattle.seen_facts.proofs.Walk.OnWays.{each_on_its_way}
use Rattle.seen_facts.proofs.Walk.Placed.{each_found}
use Rattle.seen_facts.specs.Rest.Between.{IsComposedWithLoads}
use Rattle.seen_facts.proofs.Rest.Still.{empty_of, none_waits}

implied : (a b : Bool) → implies a b ≡ true → a ≡ true → b ≡ true
implied true b e is = e
implied false b e is = cc

-- ---- requests by their numbers

all_by_number : (asked : List Asked) (test : Asked → Bool) → ((i : ℕ) (q : Asked) → slice_get asked i ≡ Some q → test q ≡ true) → list_all test asked ≡ true
all_by_number [] test each = refl
all_by_number (q ∷ asked) test each = rw (each 0 q refl) (all_by_number asked test (λ i x at. each (suc i) x at))

numbered : (asked : List Asked) (i : ℕ) (q : Asked) → slice_get asked i ≡ Some q → request_in asked (record { 0 = i + 1 }) ≡ Some q
numbered asked i q at =
    let some : ((i + 1) == 0) ≡ false = grind (arith, nat_tests) in
    let back : (i + 1) - 1 ≡ i = omega arith in
    rw some (ap (λ (n : ℕ). slice_get asked n) back ∙ at)

pub all_requests : (asked : List Asked) (test : Asked → Bool) → ((req : ReqId) (q : Asked) → request_in asked req ≡ Some q → test q ≡ true) → list_all test asked ≡ true
all_requests asked test each = all_by_number asked test (λ i q at. each (record { 0 = i + 1 }) q (numbered asked i q at))

pub request_has : (asked : List Asked) (req : ReqId) (q : Asked) → request_in asked req ≡ Some q → Has asked q
request_has asked req q at = by_test (req.0 == 0) at
  where
    by_test : (b : Bool) → cond b None (slice_get asked (req.0 - 1)) ≡ Some q → Has asked q
    by_test true h = cc
    by_test false h = slice_has asked (req.0 - 1) q h

pub get_of : {A : Type 0} (l : List A) (q : A) → Has l q → (i : ℕ) × (slice_get l i ≡ Some q)
get_of [] q there = absurd there
get_of (x ∷ l) q (inl same) = (0, ap (λ y. Some y) same)
get_of (x ∷ l) q (inr more) = let m = get_of l q more in (suc m.0, m.1)

module _ (s : Seen) (is : IsComposedWithLoads s) (still : is_still s ≡ true) where
  on_its_way : EachOnItsWay s.history.rows s.places (aim_of s) (Waits s.history.rows s.documents (aim_of s))
  on_its_way = each_on_its_way s is.sound is.hangs (aim_of s) (λ nav place found. (is.served.each nav).serve place found)

  -- nobody waits, whatever the place: those that are there are found
  waits_there : (i : ℕ) (place : Place) → slice_get s.places i ≡ Some place → Waits s.history.rows s.documents (aim_of s) place → ⊥
  waits_there i place there = none_waits s is still (aim_of s) place.nav place (each_found s.places (places_distinct s is.sound is.hangs) i place there)

  record IsThere (place : Place) : Type 0 where
    index : ℕ
    there : slice_get s.places index ≡ Some place

  abbrev WaitsThere : Place → Type 0
  WaitsThere place = IsThere place × Waits s.history.rows s.documents (aim_of s) place

  with_there : EachOnItsWay s.history.rows s.places (aim_of s) WaitsThere
  with_there = record { each = λ i place there wanted falls. by_case i place there (on_its_way.each i place there wanted falls) }
    where
      by_case : (i : ℕ) (place : Place) → slice_get s.places i ≡ Some place → Waits s.history.rows s.documents (aim_of s) place ⊎ IsHeldUp s.history.rows s.places (aim_of s) place → WaitsThere place ⊎ IsHeldUp s.history.rows s.places (aim_of s) place
      by_case i place there (inl waits) = inl (record { index = i; there = there }, waits)
      by_case i place there (inr up) = inr up

  -- so all stand at the aim
  pub stand_at_aim : all_stand s (aim_of s) ≡ true
  stand_at_aim = all_stand_here s.history.rows s.places (aim_of s) WaitsThere with_there (λ place both. waits_there both.0.index place both.0.there both.1)

  -- ---- no traversal runs

  steps_parts : (has_reason_to_run s ≡ true) × (implies (is_queue_free s) (has_no_step_waiting s) ≡ true)
  unfolding ends_stepped
  steps_parts = and_parts (has_reason_to_run s) (implies (is_queue_free s) (has_no_step_waiting s)) is.stepped

  pub none_passed : passed_traversal s ≡ None
  none_passed = by_found (passed_traversal s) refl
    where
      by_found : (o : Option Asked) → passed_traversal s ≡ o → passed_traversal s ≡ None
      by_found None e = e
      by_found (Some q) e =
          let falls : not (all_stand s (aim_of s)) ≡ true = implied (is_some (passed_traversal s)) (not (all_stand s (aim_of s))) steps_parts.0 (ap (λ o. is_some o) e) in
          let no_ : false ≡ true = ap not (sym stand_at_aim) ∙ falls in cc

  -- a step that has begun would be one that has passed
  none_under_way : (req : ReqId) (q : Asked) → request_in s.requests req ≡ Some q → is_step_under_way q ≡ true → ⊥
  none_under_way req q at going =
      let its = is.plain.steps req q at going in
      let begun = (and_parts (is_under_way q) (is_traversal q.what || is_reload q.what) going).0 in
      let test : (is_under_way q && is_traversal q.what && has_passed s q) ≡ true = and_from (is_under_way q && is_traversal q.what) (has_passed s q) (and_from (is_under_way q) (is_traversal q.what) begun its.0) its.1 in
      let found = has_found (λ (x : Asked). is_under_way x && is_traversal x.what && has_passed s x) s.requests q (request_has s.requests req q at) test in
      let no_ : None ≡ Some found.0 = sym none_passed ∙ found.1 in cc

  pub none_runs : running_traversal s ≡ None
  none_runs = by_found (running_traversal s) refl
    where
      by_found : (o : Option Asked) → running_traversal s ≡ o → running_traversal s ≡ None
      by_found None e = e
      by_found (Some q) e =
          let h = find_has (λ (x : Asked). is_under_way x && is_traversal x.what) s.requests q e in
          let parts = and_parts (is_under_way q) (is_traversal q.what) h.1 in
          let at = get_of s.requests q h.0 in
          absurd (none_under_way (record { 0 = at.0 + 1 }) q (numbered s.requests at.0 q at.1) (and_from (is_under_way q) (is_traversal q.what || is_reload q.what) parts.0 (ap (λ (b : Bool). b || is_reload q.what) parts.1)))

  pub aim_is : aim_of s ≡ s.history.current
  aim_is = ap (λ (o : Option Asked). option_map_or (λ (q : Asked). option_map_or (λ (goal : Step). used_step_at s.history.rows goal.0) q.goal s.history.current) o s.history.current) none_passed

  pub stand_now : all_stand s s.history.current ≡ true
  stand_now = ap (λ (n : ℕ). all_stand s n) (sym aim_is) ∙ stand_at_aim

  -- ---- none waits

  free : is_queue_free s ≡ true
  free =
      and_from (list_all (λ (q : Asked). not (is_step_under_way q)) s.requests) (all_stand s s.history.current)
      (all_requests s.requests (λ (q : Asked). not (is_step_under_way q)) (λ req q at. by_test (is_step_under_way q) (none_under_way req q at)))
      stand_now
    where
      by_test : (b : Bool) → (b ≡ true → ⊥) → not b ≡ true
      by_test true never = absurd (never refl)
      by_test false never = refl

  waiting_parts : ((length s.joined == 0) ≡ true) × (list_all (λ (q : Asked). not (is_ready_load s q)) s.requests ≡ true)
  waiting_parts =
      and_parts (length s.joined == 0) (list_all (λ (q : Asked). not (is_ready_load s q)) s.requests) (implied (is_queue_free s) (has_no_step_waiting s) steps_parts.1 free)

  pub none_joined : s.joined ≡ []
  none_joined = empty_of s.joined waiting_parts.0

  pub none_ready : list_all (λ (q : Asked). not (is_ready_load s q)) s.requests ≡ true
  none_ready = waiting_parts.1
