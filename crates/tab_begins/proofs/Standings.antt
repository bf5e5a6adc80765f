-- Where all stand, who is shown stands; and tests of several navigables.
use Rattle.log_model.proofs.Refl.{nat_eq_refl}
use Rattle.log_model.specs.History.{has_nav}
use Rattle.log_model.specs.Places.{has_arrived, is_asleep, is_awake, is_given_target, is_standing}
use Rattle.log_model.specs.Seen.{Place, Status, asleep, awake, lost}
use Rattle.log_model.specs.declared.row.Row.{Row}
use Rattle.std.proofs.Common.{Bool, List, [], ap, false, not, refl, true, ℕ, ◌&&◌, ◌==◌, ◌||◌, ◌∷◌, ◌≡◌}
use Rattle.std.proofs.lemmas.Bool.{and_parts}
use Rattle.std.specs.List.{list_all, list_any}
use Rattle.tab_ids.specs.declared.NavId.{NavId}
use Rattle.seen_facts.specs.Walk.Serving.{is_in_place, is_needing}

-- one that stands is awake on its target
pub in_place : (rows_ : List Row) (step : ℕ) (place : Place) → (place.status ≡ lost → ⊥) → is_standing rows_ step place ≡ true → is_in_place rows_ step place ≡ true
in_place rows_ step place never stand =
    rw (by_status place.status refl parts.1) (and_parts (is_given_target rows_ step place) (not place.is_unmet) parts.0).0
  where
    parts : ((is_given_target rows_ step place && not place.is_unmet) ≡ true) × (has_arrived place ≡ true)
    parts = and_parts (is_given_target rows_ step place && not place.is_unmet) (has_arrived place) stand

    by_status : (status : Status) → place.status ≡ status → has_arrived (record place { status = status }) ≡ true → is_awake (record place { status = status }) ≡ true
    by_status (awake doc) is arrived = refl
    by_status lost is arrived = absurd (never is)
    by_status asleep is arrived = absurd cc

-- and needs nothing
pub met_none : (rows_ : List Row) (step : ℕ) (place : Place) → (place.status ≡ lost → ⊥) → is_standing rows_ step place ≡ true → is_needing rows_ step place ≡ false
met_none rows_ step place never stand =
    rw more.0 (by_test place.is_unmet more.1 (by_status place.status refl parts.1))
  where
    parts : ((is_given_target rows_ step place && not place.is_unmet) ≡ true) × (has_arrived place ≡ true)
    parts = and_parts (is_given_target rows_ step place && not place.is_unmet) (has_arrived place) stand

    more : (is_given_target rows_ step place ≡ true) × (not place.is_unmet ≡ true)
    more = and_parts (is_given_target rows_ step place) (not place.is_unmet) parts.0

    by_status : (status : Status) → place.status ≡ status → has_arrived (record place { status = status }) ≡ true → is_asleep (record place { status = status }) ≡ false
    by_status (awake doc) is arrived = refl
    by_status lost is arrived = refl
    by_status asleep is arrived = absurd cc

    by_test : (b : Bool) → not b ≡ true → is_asleep place ≡ false → (is_asleep place || b || false) ≡ false
    by_test false met up = rw up refl
    by_test true met up = absurd cc

-- the third of three tests
pub third : (a b : Bool) → (a || b || true) ≡ true
third true b = refl
third false true = refl
third false false = refl

-- a test that each of some passes
pub all_of : (f : NavId → Bool) (navs : List NavId) → ((nav : NavId) → has_nav navs nav ≡ true → f nav ≡ true) → list_all f navs ≡ true
all_of f [] each = refl
all_of f (nav ∷ navs) each =
    rw (each nav (ap (λ (b : Bool). b || has_nav navs nav) (nat_eq_refl nav.0))) (all_of f navs (λ x has. each x (later nav x has)))
  where
    later : (first x : NavId) → has_nav navs x ≡ true → has_nav (first ∷ navs) x ≡ true
    later first x has = by_test (first.0 == x.0)
      where
        by_test : (b : Bool) → (b || has_nav navs x) ≡ true
        by_test true = refl
        by_test false = has

-- a test that each of some passes not
pub none_of : (f : NavId → Bool) (navs : List NavId) → ((nav : NavId) → has_nav navs nav ≡ true → f nav ≡ false) → list_any f navs ≡ false
none_of f [] each = refl
none_of f (nav ∷ navs) each =
    rw (each nav (ap (λ (b : Bool). b || has_nav navs nav) (nat_eq_refl nav.0))) (none_of f navs (λ x has. each x (later nav x has)))
  where
    later : (first x : NavId) → has_nav navs x ≡ true → has_nav (first ∷ navs) x ≡ true
    later first x has = by_test (first.0 == x.0)
      where
        by_test : (b : Bool) → (b || has_nav navs x) ≡ true
        by_test true = refl
        by_test false = has
