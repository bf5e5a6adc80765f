-- Whom requests have moved: a traversal that hasn't begun nobody, and each only those that have a place; and what documents made of traversals.
-- This project's own.
use Rattle.tab_facts.specs.Frame.Lasting.{Wish, wish}
use Rattle.tab_facts.specs.FrameTab.Alive.{HasPlace}
use Rattle.log_model.specs.History.{has_nav}
use Rattle.log_model.specs.Once.{delta_of}
use Rattle.log_model.specs.Places.{is_traversal}
use Rattle.log_model.specs.Seen.{Asked, Place, Seen}
use Rattle.log_model.specs.declared.made.Made.{Made}
use Rattle.log_model.specs.declared.request.Request.{Request}
use Rattle.seen_facts.specs.Each.Runs.{EachAsked}
use Rattle.std.specs.Prelude.{Bool, List, Some, [], false, true, ℤ, ◌≡◌}
use Rattle.tab_ids.specs.declared.NavId.{NavId}
use Rattle.tab_ids.specs.declared.ReqId.{ReqId}
use Rattle.log_model.specs.declared.made.What.TheVariants as whats

-- what a request asks, whether it has begun, and whom it has moved
pub record Course : Type 0 where
  pub what : Request
  pub is_started : Bool
  pub moved : List NavId

abbrev pub course : Asked → Course
course q = record { what = q.what; is_started = q.is_started; moved = q.moved }

-- a traversal that hasn't begun has moved nobody; another request may move a navigable and never begin, as one that adds a frame does
abbrev pub IsUnmovedYet : Course → Type 0
IsUnmovedYet c = is_traversal c.what ≡ true → c.is_started ≡ false → c.moved ≡ []

-- whom it has moved has a place
abbrev pub IsMovedThere : List Place → Course → Type 0
IsMovedThere places c = (nav : NavId) → has_nav c.moved nav ≡ true → HasPlace places nav

-- of a traversal by a delta a document made nothing but that it goes by that
abbrev pub IsMadeToGo : Wish → Type 0
IsMadeToGo w = (made : Made) (delta : ℤ) → w.made ≡ Some made → delta_of w.what ≡ Some delta → made.what ≡ whats.Go delta

-- all of it, of each request
pub record AreMoves (s : Seen) : Type 0 where
  pub unmoved : EachAsked (λ (req : ReqId) (q : Asked). IsUnmovedYet (course q)) s.requests
  pub there : EachAsked (λ (req : ReqId) (q : Asked). IsMovedThere s.places (course q)) s.requests
  pub goes : EachAsked (λ (req : ReqId) (q : Asked). IsMadeToGo (wish q)) s.requests
