-- When a change may be applied: what holds of what the log has come to.
-- HTML Standard, "URL and history update steps", "apply the history step", "synchronous navigation steps"; the exact conditions are this project's own.
use Rattle.std.specs.Prelude.{◌≡◌, true, false, [], Some, None}
use Rattle.tab_ids.specs.declared.ReqId.{ReqId}
use Rattle.log_model.specs.declared.change.Change.{Change}
use Rattle.log_model.specs.declared.made.Made.{Made}
use Rattle.log_model.specs.Equal.{has_req}
use Rattle.log_model.specs.History.{fits}
use Rattle.log_model.specs.Seen.{Seen, Asked, request_of}
use Rattle.log_model.specs.Places.{is_load, aim_of, all_stand, has_passed}
use Rattle.log_model.specs.AfterRequests.{changes_history}
use Rattle.log_model.specs.Once.{due_change, is_in_order}
use Rattle.log_model.specs.Queue.{is_taken_up_at_once}
use Rattle.log_model.specs.Checks.{is_checked}

-- the request is open, and this is its change, which fits and is in order; its report isn't held back
pub record IsDue (s : Seen) (req : ReqId) (q : Asked) (change : Change) : Type 0 where
  pub at : request_of s req ≡ Some q
  pub open_ : q.ending ≡ None
  pub unparked : has_req s.parked req ≡ false
  pub due : due_change s q ≡ Some change
  pub fit : fits s.history change ≡ true
  pub in_order : is_in_order s change ≡ true

-- what a document made of it is to be taken up now, from the report that the event takes
pub record IsTakenUp (s : Seen) (q : Asked) (made : Made) : Type 0 where
  pub unstarted : q.is_started ≡ false
  pub unchecked : is_checked q ≡ false
  pub makes : q.made ≡ Some made
  pub changes : changes_history made.what ≡ true
  pub at_once : is_taken_up_at_once s made ≡ true

-- it is a traversal that ends: it has passed, all stand at the aim, and no report is held back for it
pub record IsAtGoal (s : Seen) (q : Asked) : Type 0 where
  pub unmade : q.made ≡ None
  pub no_load : is_load q.what ≡ false
  pub passed : has_passed s q ≡ true
  pub stand : all_stand s (aim_of s) ≡ true
  pub none_parked : s.parked ≡ []
