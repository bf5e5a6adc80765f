-- What goes on from row to row of an event in a tab with frames, loads and documents that are left or kept, in which nobody died and nobody is asked: all that holds between two rows, what lasts, that numbers were given one by one with requests, and whose reports are held back.
-- This project's own; what jumps the queue is the HTML Standard's "synchronous navigation steps".
use Rattle.seen_facts.specs.Hang.Members.{Has}
use Rattle.tab_facts.specs.Last.Lasting.{AreLasting}
use Rattle.log_model.specs.Equal.{has_req}
use Rattle.log_model.specs.History.{has_nav}
use Rattle.log_model.specs.Points.{nav_of_request}
use Rattle.log_model.specs.Seen.{Asked, Place, Seen, place_of, request_of}
use Rattle.log_model.specs.declared.made.Made.{Made}
use Rattle.log_model.specs.declared.row.Row.{Row}
use Rattle.std.specs.Prelude.{Bool, List, None, Option, Some, filter, length, true, ℕ, ◌+◌, ◌<◌, ◌≡◌, ◌≤◌}
use Rattle.tab_ids.specs.declared.NavId.{NavId}
use Rattle.tab_ids.specs.declared.ReqId.{ReqId}
pub use Rattle.tab_facts.specs.TabWhole.Tab.{IsTab, has_ended}

-- how many requests are so
abbrev pub count_of : (Asked → Bool) → List Asked → ℕ
count_of test asked = length (filter test asked)

-- numbers were given one by one: an entry of the coordinator's but the first came with a request that ended, an epoch but the first with an order
pub record AreCounted (s : Seen) : Type 0 where
  pub entries : s.entries ≤ 1 + count_of has_ended s.requests
  pub epochs : (nav : NavId) (place : Place) → place_of s nav ≡ Some place → place.epoch.0 ≤ s.jobs + 1

-- the steps of the history came one by one, with requests that ended
pub record AreSteps (s : Seen) : Type 0 where
  pub rows_ : (row : Row) → Has s.history.rows row → row.step.0 ≤ count_of has_ended s.requests
  pub current : s.history.current ≤ count_of has_ended s.requests

-- where a traversal runs, each request whose report is held back is of a navigable that it has moved
abbrev pub AreHeldUp : Option ReqId → Seen → Type 0
AreHeldUp None s = Unit {0}
AreHeldUp (Some run) s =
    (req : ReqId) (q r : Asked) (nav : NavId) → has_req s.parked req ≡ true → request_of s req ≡ Some q → nav_of_request q.what ≡ Some nav → request_of s run ≡ Some r → has_nav r.moved nav ≡ true

-- with this traversal running, and these requests and this at hand of what documents made
pub record IsGoing (run : Option ReqId) (loads : List ReqId) (hand : List Made) (s : Seen) : Type 0 where
  pub tab : IsTab run loads hand s
  pub lasting : AreLasting s
  pub counted : AreCounted s
  pub steps : AreSteps s
  pub held : AreHeldUp run s
  -- there is room for two requests more
  pub room : length s.requests + 2 < 4294967296
