-- A walk that has served its first navigables: each later one that is visited, needs something and was shown a document before is moved by the reason.
-- This project's own; HTML Standard, "Apply the history step", goes through the navigables from the top down.
use Rattle.log_model.specs.Seen.{Place, Seen, place_of}
use Rattle.log_model.specs.declared.job.Why.{Why}
use Rattle.seen_facts.specs.Mover.Movers.{IsMovedBy}
use Rattle.std.specs.Prelude.{List, Some, slice_get, ℕ, ◌<◌, ◌≡◌, ◌≢◌, ◌≤◌}
use Rattle.tab_ids.specs.declared.NavId.{NavId}
use Rattle.row_facts.specs.WalkRows.Since.{IsVisitedInNeed}

-- the navigable is none of the first of the walk, this many
abbrev pub IsLater : List NavId → ℕ → NavId → Type 0
IsLater walk n nav = (k : ℕ) → k < n → slice_get walk k ≢ Some nav

-- each later one that the walk visits, that needs something and was shown a document before, is moved by the reason
abbrev pub MovesLater : Seen → Why → List NavId → ℕ → Type 0
MovesLater s why walk n =
    (nav : NavId) (place : Place) → IsLater walk n nav → place_of s nav ≡ Some place → IsVisitedInNeed s place → 1 ≤ place.epoch.0 → IsMovedBy s why nav
