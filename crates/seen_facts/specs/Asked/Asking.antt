-- What is true between two rows of the requests of a tab with loads: their unload checks have passed, only a traversal or a load begins, and one traversal runs at most.
-- HTML Standard, "navigate", "navigate to a fragment" and "traverse the history by a delta"; what an order adds to its request is this project's own.
use Rattle.std.specs.Prelude.{◌≡◌, true, false, Option, Some, None, is_some}
use Rattle.tab_ids.specs.declared.NavId.{NavId}
use Rattle.tab_ids.specs.declared.ReqId.{ReqId}
use Rattle.log_model.specs.declared.request.Request.{Request}
use Rattle.log_model.specs.declared.request.Request.TheVariants as requests
use Rattle.log_model.specs.History.{has_nav}
use Rattle.log_model.specs.Places.{has_passed, is_load, is_traversal}
use Rattle.log_model.specs.Seen.{Seen, Asked, request_in}
use Rattle.seen_facts.specs.Each.Items.{NoneDied}
use Rattle.seen_facts.specs.Each.Runs.{EachAsked, OnlyRuns}

-- a traversal or a load by the user, or a poke
abbrev pub IsTabRequest : Request → Type 0
IsTabRequest (requests.Go delta) = Unit {0}
IsTabRequest (requests.Load nav mode address) = Unit {0}
IsTabRequest (requests.Poke nav action) = Unit {0}
IsTabRequest _ = ⊥

-- each request has passed its unload check: whom it asked has answered or is gone, and the user wasn't asked or lets the page go
abbrev pub HavePassed : Seen → Type 0
HavePassed s = EachAsked (λ req q. has_passed s q ≡ true) s.requests

-- the request has its number, and is one of a tab
pub record IsAskedPlainly (req : ReqId) (q : Asked) : Type 0 where
  pub nr : q.nr ≡ req
  pub what : IsTabRequest q.what
  -- a traversal or a load alone begins, a traversal with its goal
  pub unstarted : is_traversal q.what ≡ false → is_load q.what ≡ false → q.is_started ≡ false
  pub goal : is_traversal q.what ≡ true → q.is_started ≡ true → is_some q.goal ≡ true
  -- a document is sent to a fragment for a load alone, which then never begins
  pub sent : is_load q.what ≡ false → q.fragment ≡ None
  pub begun : q.is_started ≡ true → q.fragment ≡ None
  -- whom it showed a document it has moved
  pub moved : (nav : NavId) → has_nav q.activated nav ≡ true → has_nav q.moved nav ≡ true

-- this traversal is there, if one runs
pub record IsThere (s : Seen) (run : ReqId) : Type 0 where
  pub q : Asked
  pub found : request_in s.requests run ≡ Some q
  pub traverses : is_traversal q.what ≡ true

-- all are so, and have passed their checks; this traversal runs, or none, which is there; and nobody has died
pub record ArePlain (run : Option ReqId) (s : Seen) : Type 0 where
  pub each : EachAsked IsAskedPlainly s.requests
  pub passed : HavePassed s
  pub only : OnlyRuns run s
  pub runs : (req : ReqId) → run ≡ Some req → IsThere s req
  pub died : NoneDied s
