-- Who moved a navigable: a traversal that has begun.
-- This project's own.
use Rattle.std.specs.Prelude.{◌≡◌, true, Some}
use Rattle.tab_ids.specs.declared.ReqId.{ReqId}
use Rattle.log_model.specs.declared.job.Why.TheVariants as whys
use Rattle.log_model.specs.Seen.{Seen, Asked, Place, request_of}
use Rattle.log_model.specs.Places.{is_traversal}

-- a traversal that has begun is the reason why the navigable is as it is
pub record IsMover (s : Seen) (place : Place) : Type 0 where
  pub req : ReqId
  pub q : Asked
  pub why : place.why ≡ whys.Req req
  pub there : request_of s req ≡ Some q
  pub traverses : is_traversal q.what ≡ true
  pub begun : q.is_started ≡ true
