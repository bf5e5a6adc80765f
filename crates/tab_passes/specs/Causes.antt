-- What orders may be for.
-- This project's own.
use Rattle.log_model.specs.Checks.{may_go_on}
use Rattle.log_model.specs.Places.{is_load, is_traversal}
use Rattle.log_model.specs.Seen.{Asked, Seen, request_of}
use Rattle.log_model.specs.declared.job.Why.{Why}
use Rattle.std.specs.Prelude.{None, Option, Some, is_some, true, ◌||◌, ◌≡◌}
use Rattle.tab_ids.specs.declared.ReqId.{ReqId}
use Rattle.log_model.specs.declared.job.Why.TheVariants as whys

-- a traversal has begun; a load has begun, or sent a document to a fragment
pub record HasSetOut (q : Asked) : Type 0 where
  pub traverses : is_traversal q.what ≡ true → q.is_started ≡ true
  pub loads : is_load q.what ≡ true → (q.is_started || is_some q.fragment) ≡ true

-- the request may go on, and has set out
pub record MayServe (s : Seen) (req : ReqId) : Type 0 where
  pub goes : may_go_on s req ≡ true
  pub begun : (q : Asked) → request_of s req ≡ Some q → HasSetOut q

-- an order for this may be sent
abbrev pub MayCause : Seen → Why → Type 0
MayCause s why = (req : ReqId) → why ≡ whys.Req req → MayServe s req

-- an order that shows a document is for the traversal that runs, where one does
abbrev pub show_why : Option ReqId → Why → Why
show_why None cause = cause
show_why (Some req) cause = whys.Req req
