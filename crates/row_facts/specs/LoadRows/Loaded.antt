-- When a load is applied: as a step of the queue, while its document is there.
-- HTML Standard, "navigate" and "finalize a cross-document navigation"; the exact moment is this project's own.
use Rattle.log_model.specs.ActsAtOnce.{has_document}
use Rattle.log_model.specs.Checks.{may_go_on}
use Rattle.log_model.specs.Equal.{has_req}
use Rattle.log_model.specs.History.{fits}
use Rattle.log_model.specs.Once.{change_of_load, is_in_order}
use Rattle.log_model.specs.Places.{is_shown}
use Rattle.log_model.specs.Queue.{is_queue_free}
use Rattle.log_model.specs.Seen.{Asked, Document, Seen, request_of}
use Rattle.log_model.specs.declared.change.Change.{Change}
use Rattle.log_model.specs.declared.request.Mode.{Mode}
use Rattle.std.specs.List.{list_all}
use Rattle.std.specs.Prelude.{List, None, Some, false, nat_lt, true, ℕ, ◌≡◌}
use Rattle.tab_ids.specs.declared.NavId.{NavId}
use Rattle.tab_ids.specs.declared.ReqId.{ReqId}
use Rattle.log_model.specs.declared.request.Request.TheVariants as requests

-- the request is an open load that has begun and passed its unload check, and this is its change, which fits and is in order; the queue is free, its navigable is shown, and its document is there
pub record IsLoadToApply (s : Seen) (req : ReqId) (nav : NavId) (mode : Mode) (address : List ℕ) (q : Asked) (change : Change) : Type 0 where
  pub at : request_of s req ≡ Some q
  pub what : q.what ≡ requests.Load nav mode address
  pub open_ : q.ending ≡ None
  pub started : q.is_started ≡ true
  pub unmade : q.made ≡ None
  pub due : change_of_load s q nav address ≡ Some change
  pub fit : fits s.history change ≡ true
  pub in_order : is_in_order s change ≡ true
  pub free : is_queue_free s ≡ true
  pub shown : is_shown s.history.rows s.history.current nav ≡ true
  pub ready : has_document s q ≡ true
  pub passed : may_go_on s req ≡ true
  pub unparked : has_req s.parked req ≡ false

-- each document has a number from 1 on
abbrev pub AreDocumentsNumbered : Seen → Type 0
AreDocumentsNumbered s = list_all (λ (d : Document). nat_lt 0 d.nr.0) s.documents ≡ true
