-- Who moved each navigable: one that was shown a document after its first, or fell asleep after it was shown one, was moved away by the request for which it is as it is.
-- HTML Standard, "navigate", "traverse the history by a delta" and "destroy a child navigable"; asleep navigables, epochs and reasons are this project's own.
use Rattle.std.specs.Prelude.{◌≡◌, ℕ, Bool, true, false, ◌||◌, nat_lt, List, [], Some, None}
use Rattle.std.specs.List.{list_any}
use Rattle.tab_ids.specs.declared.NavId.{NavId}
use Rattle.tab_ids.specs.declared.ReqId.{ReqId}
use Rattle.log_model.specs.declared.job.Why.{Why}
use Rattle.log_model.specs.declared.job.Why.TheVariants as whys
use Rattle.seen_facts.specs.Asked.Asking.{HavePassed}
use Rattle.log_model.specs.Causes.{any_place, changed_one_of, is_passed_traversal}
use Rattle.log_model.specs.History.{same_entry}
use Rattle.log_model.specs.Places.{way_to}
use Rattle.log_model.specs.Seen.{Seen, Asked, Place, Status, awake, lost, asleep, place_of, request_in, request_of}

-- the request took an entry that the place was given
abbrev pub took_of : Asked → Place → Bool
took_of q place = list_any (λ entry. list_any (same_entry entry) place.ever_given) q.took

-- the request moved the navigable: as a passed traversal, by a change of it or one above, or by a change that took an entry which it or one above was given (the second part of has_moved_away)
abbrev pub moves_away : Seen → Asked → NavId → Bool
moves_away s q nav = is_passed_traversal s q || changed_one_of q (way_to s nav) || any_place s (way_to s nav) (took_of q)

-- the same, as a fact
abbrev pub MovesAway : Seen → Asked → NavId → Type 0
MovesAway s q nav = moves_away s q nav ≡ true

-- the reason is a request that is there, and moved the navigable
pub record IsMovedBy (s : Seen) (reason : Why) (nav : NavId) : Type 0 where
  pub req : ReqId
  pub q : Asked
  pub why : reason ≡ whys.Req req
  pub there : request_of s req ≡ Some q
  pub moves : MovesAway s q nav

-- the request for which the navigable is as it is moved it away
abbrev pub IsMovedAway : Seen → Place → Type 0
IsMovedAway s place = IsMovedBy s place.why place.nav

-- with this status and epoch: it is awake, and this isn't its first document; or it is asleep, and was shown one
abbrev pub was_moved_at : Status → ℕ → Bool
was_moved_at (awake doc) epoch = nat_lt 1 epoch
was_moved_at asleep epoch = nat_lt 0 epoch
was_moved_at lost epoch = false

-- the navigable was shown a document after its first, or fell asleep after it was shown one
abbrev pub was_moved : Place → Bool
was_moved place = was_moved_at place.status place.epoch.0

-- each navigable that was moved was so by its reason
abbrev pub AreMovedAway : Seen → Type 0
AreMovedAway s = (nav : NavId) (place : Place) → place_of s nav ≡ Some place → was_moved place ≡ true → IsMovedAway s place

-- the request has its number, and a change, or entries that it took, only once it has ended
pub record ChangesAsItEnds (req : ReqId) (q : Asked) : Type 0 where
  pub nr : q.nr ≡ req
  pub unchanged : q.ending ≡ None → q.change ≡ None
  pub untaken : q.ending ≡ None → q.took ≡ []

-- each of the requests is so
abbrev pub AllChangeAsTheyEnd : List Asked → Type 0
AllChangeAsTheyEnd asked = (req : ReqId) (q : Asked) → request_in asked req ≡ Some q → ChangesAsItEnds req q

-- all of it
pub record AreMovers (s : Seen) : Type 0 where
  pub ends : AllChangeAsTheyEnd s.requests
  pub passed : HavePassed s
  pub away : AreMovedAway s
