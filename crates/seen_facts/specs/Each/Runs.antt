-- A fact of each request, and which traversal runs.
-- This project's own.
use Rattle.std.specs.Prelude.{◌≡◌, Bool, false, ◌&&◌, ◌==◌, List, Option, Some, None}
use Rattle.tab_ids.specs.declared.ReqId.{ReqId}
use Rattle.log_model.specs.Seen.{Seen, Asked, request_in}
use Rattle.log_model.specs.Places.{is_traversal, is_under_way}

-- a fact of each request
abbrev pub EachAsked : (ReqId → Asked → Type 0) → List Asked → Type 0
EachAsked F asked = (req : ReqId) (q : Asked) → request_in asked req ≡ Some q → F req q

-- a traversal that has begun and not ended
abbrev pub is_run : Asked → Bool
is_run q = is_under_way q && is_traversal q.what

-- the request is this one
abbrev pub is_this : Option ReqId → ReqId → Bool
is_this None req = false
is_this (Some this) req = this.0 == req.0

-- it alone runs, or none
abbrev pub OnlyRuns : Option ReqId → Seen → Type 0
OnlyRuns run s = EachAsked (λ req q. is_run q ≡ is_this run req) s.requests
