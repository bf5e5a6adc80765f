-- A walk: all navigables, none before one above it; and what it leaves alone as it serves one of them.
-- This project's own; HTML Standard, "Apply the history step", goes through the navigables from the top down.
use Rattle.std.specs.Prelude.{◌≡◌, ℕ, ◌<◌, true, false, ◌==◌, List, option_map, slice_get, Some}
use Rattle.tab_ids.specs.declared.NavId.{NavId}
use Rattle.tab_ids.specs.declared.StateId.{StateId}
use Rattle.log_model.specs.History.{has_nav}
use Rattle.log_model.specs.Places.{aim_of, is_below}
use Rattle.log_model.specs.Seen.{Seen, Place, place_of}
use Rattle.seen_facts.specs.Walk.Serving.{IsMaking, IsServedAt}

-- the other navigable is neither this one nor below it
pub record IsApart (s : Seen) (nav other : NavId) : Type 0 where
  pub differs : (other.0 == nav.0) ≡ false
  pub beside : (place : Place) → place_of s other ≡ Some place → is_below nav place ≡ false

-- rows that serve one navigable leave the others as they are
pub record LeavesOthers (s t : Seen) (nav : NavId) : Type 0 where
  pub history : t.history ≡ s.history
  pub aim : aim_of t ≡ aim_of s
  pub others : (other : NavId) → IsApart s nav other → place_of t other ≡ place_of s other
  pub ways : (other : NavId) → option_map (λ (p : Place). p.above) (place_of t other) ≡ option_map (λ (p : Place). p.above) (place_of s other)
  pub making : (state : StateId) → IsMaking s.documents state → IsMaking t.documents state

-- the navigables in an order in which none comes before one above it
pub record IsWalk (s : Seen) (walk : List NavId) : Type 0 where
  pub all : (nav : NavId) (place : Place) → place_of s nav ≡ Some place → has_nav walk nav ≡ true
  pub apart : (i j : ℕ) (one other : NavId) → i < j → slice_get walk i ≡ Some one → slice_get walk j ≡ Some other → IsApart s other one

-- the first ones of a walk are served
pub record AreServedUpTo (s : Seen) (walk : List NavId) (n : ℕ) : Type 0 where
  pub each : (k : ℕ) (nav : NavId) → k < n → slice_get walk k ≡ Some nav → IsServedAt s nav
