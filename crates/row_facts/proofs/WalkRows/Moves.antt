-- A request that goes on moves whom it moved, where the navigables hang as before and were given what they were.
use Rattle.log_model.specs.Causes.{any_place, changed_one_of, is_passed_traversal, nav_of_change}
use Rattle.log_model.specs.Equal.{holds}
use Rattle.log_model.specs.History.{has_nav, same_entry}
use Rattle.log_model.specs.Places.{has_passed, is_traversal, way_of, way_to}
use Rattle.log_model.specs.Seen.{Asked, Place, Seen, place_of, request_of}
use Rattle.log_model.specs.declared.change.Change.{Change}
use Rattle.log_model.specs.declared.job.Why.{Why}
use Rattle.seen_facts.proofs.Mover.Stays.{GoOn, GoesOn, GoesTo, KeepWays, any_more, any_of, one_of}
use Rattle.seen_facts.specs.Mover.Movers.{IsMovedBy, MovesAway, took_of}
use Rattle.row_facts.proofs.Owed.Requests.{asks_of, read_same}
use Rattle.seen_facts.proofs.Request.Readers.{SameReads}
use Rattle.std.proofs.Common.{Bool, List, None, Option, Some, [], ap, false, inl, inr, refl, sym, true, ◌&&◌, ◌==◌, ◌||◌, ◌∙◌, ◌∷◌, ◌≡◌, ◌⊎◌}
use Rattle.std.proofs.lemmas.Bool.{and_from, and_parts, or_left}
use Rattle.std.specs.List.{list_any}
use Rattle.std.specs.Option.{option_map_or}
use Rattle.std.specs.Prelude.{option_and_then}
use Rattle.tab_ids.specs.declared.NavId.{NavId}
use Rattle.tab_ids.specs.declared.ReqId.{ReqId}
use Rattle.seen_facts.proofs.Walk.Placed.{found_nav}
use Rattle.row_facts.proofs.WalkRows.Passed.{StayGone, answer_of, passes_still}

-- ---- one request

module _ (s t : Seen) (ways : KeepWays s.places t.places) (q new : Asked) (on : GoesOn q new) (passed : has_passed s q ≡ true → has_passed t new ≡ true) where
  -- where one on the way up passes a test, one on it passes a weaker one then
  any_way : (f g : NavId → Bool) (nav : NavId) → ((n : NavId) → f n ≡ true → g n ≡ true) → list_any f (way_to s nav) ≡ true → list_any g (way_to t nav) ≡ true
  any_way f g nav more is = by_place (place_of s nav) refl is
    where
      first : (b : Bool) → (b || false) ≡ true → b ≡ true
      first true is = refl
      first false is = is

      -- one that had no place is the first on its way, whether or not it has one now
      by_new : (o : Option Place) → place_of t nav ≡ o → g nav ≡ true → list_any g (option_map_or way_of o (nav ∷ [])) ≡ true
      by_new None at passes = or_left (g nav) false passes
      by_new (Some place) at passes =
          or_left (g place.nav) (list_any g place.above) (ap g (found_nav t.places nav place at) ∙ passes)

      by_place : (o : Option Place) → place_of s nav ≡ o → list_any f (option_map_or way_of o (nav ∷ [])) ≡ true → list_any g (way_to t nav) ≡ true
      by_place None at is = by_new (place_of t nav) refl (more nav (first (f nav) is))
      by_place (Some place) at is =
          let it = ways nav place at in
          let same : way_of it.new ≡ way_of place = ap (λ (n : NavId). n ∷ it.new.above) it.nav_is ∙ ap (λ (l : List NavId). place.nav ∷ l) it.above in
          let then_ : way_to t nav ≡ way_of place = ap (λ (o : Option Place). option_map_or way_of o (nav ∷ [])) it.found ∙ same in
          ap (list_any g) then_ ∙ any_more f g (way_of place) more is

  -- as a traversal that has begun and passed
  traverses_still : is_passed_traversal s q ≡ true → is_passed_traversal t new ≡ true
  traverses_still is =
      let one = and_parts (is_traversal q.what && q.is_started) (has_passed s q) is in
      let two = and_parts (is_traversal q.what) q.is_started one.0 in
      and_from (is_traversal new.what && new.is_started) (has_passed t new) (and_from (is_traversal new.what) new.is_started (ap is_traversal on.what ∙ two.0) (on.begun two.1)) (passed one.1)

  -- by a change of it or one above
  changed_still : (nav : NavId) → changed_one_of q (way_to s nav) ≡ true → changed_one_of new (way_to t nav) ≡ true
  changed_still nav is = by_change q.change refl
    where
      by_nav : (o : Option NavId) → holds (has_nav (way_to s nav)) o ≡ true → holds (has_nav (way_to t nav)) o ≡ true
      by_nav None is = absurd cc
      by_nav (Some n) is = any_way (λ m. m.0 == n.0) (λ m. m.0 == n.0) nav (λ m same. same) is

      by_change : (o : Option Change) → q.change ≡ o → changed_one_of new (way_to t nav) ≡ true
      by_change None none =
          let never : false ≡ true = sym (ap (λ (o : Option Change). holds (has_nav (way_to s nav)) (option_and_then nav_of_change o)) none) ∙ is in
          absurd cc
      by_change (Some change) its =
          ap (λ (o : Option Change). holds (has_nav (way_to t nav)) (option_and_then nav_of_change o)) (on.change change its)
          ∙ by_nav (nav_of_change change) (sym (ap (λ (o : Option Change). holds (has_nav (way_to s nav)) (option_and_then nav_of_change o)) its) ∙ is)

  -- by a change that took an entry which it or one above was given
  took_still : (nav : NavId) → holds (took_of q) (place_of s nav) ≡ true → holds (took_of new) (place_of t nav) ≡ true
  took_still nav is = by_place (place_of s nav) refl is
    where
      by_place : (o : Option Place) → place_of s nav ≡ o → holds (took_of q) o ≡ true → holds (took_of new) (place_of t nav) ≡ true
      by_place None at is = absurd cc
      by_place (Some place) at is =
          let it = ways nav place at in
          let grown : took_of q it.new ≡ true =
          any_more (λ entry. list_any (same_entry entry) place.ever_given) (λ entry. list_any (same_entry entry) it.new.ever_given) q.took (λ entry h. it.given (same_entry entry) h) is in
          ap (holds (took_of new)) it.found ∙ on.took (λ entry. list_any (same_entry entry) it.new.ever_given) grown

  -- however it does
  moves_still : (nav : NavId) → MovesAway s q nav → MovesAway t new nav
  moves_still nav moves =
      any_of (is_passed_traversal t new) (changed_one_of new (way_to t nav)) (any_place t (way_to t nav) (took_of new)) (by_case (one_of (is_passed_traversal s q) (changed_one_of q (way_to s nav)) (any_place s (way_to s nav) (took_of q)) moves))
    where
      by_case : (is_passed_traversal s q ≡ true) ⊎ ((changed_one_of q (way_to s nav) ≡ true) ⊎ (any_place s (way_to s nav) (took_of q) ≡ true)) → (is_passed_traversal t new ≡ true) ⊎ ((changed_one_of new (way_to t nav) ≡ true) ⊎ (any_place t (way_to t nav) (took_of new) ≡ true))
      by_case (inl is) = inl (traverses_still is)
      by_case (inr (inl is)) = inr (inl (changed_still nav is))
      by_case (inr (inr is)) =
          inr (inr (any_way (λ n. holds (took_of q) (place_of s n)) (λ n. holds (took_of new) (place_of t n)) nav took_still is))

-- ---- who is moved by it

-- the request is there still, goes on, and has passed if it had
pub record GoesOnIn (s t : Seen) (req : ReqId) (q : Asked) : Type 0 where
  pub goes : GoesTo t.requests req q
  pub passed : has_passed s q ≡ true → has_passed t goes.new ≡ true

-- so it moves whom it moved
pub moved_by : (s t : Seen) (why : Why) (nav : NavId) → KeepWays s.places t.places → (by : IsMovedBy s why nav) → GoesOnIn s t by.req by.q → IsMovedBy t why nav
moved_by s t why nav ways by it =
    record {
      req = by.req;
      q = it.goes.new;
      why = by.why;
      there = it.goes.found;
      moves = moves_still s t ways by.q it.goes.new it.goes.on it.passed nav by.moves;
    }

-- each request goes on, with the same asked and answered of it
pub goes_on : (s t : Seen) → GoOn s.requests t.requests → SameReads asks_of s.requests t.requests → SameReads answer_of s.requests t.requests → StayGone s.documents t.documents → (req : ReqId) (q : Asked) → request_of s req ≡ Some q → GoesOnIn s t req q
goes_on s t on asks answers gone req q at =
    let goes = on req q at in
    record {
      goes = goes;
      passed = passes_still s t gone q goes.new (read_same asks_of s.requests t.requests asks req q goes.new at goes.found) (read_same answer_of s.requests t.requests answers req q goes.new at goes.found);
    }
