-- When what a document made ends: it is applied, refused, or dropped, as its report is taken or after the traversal for which it was held back.
-- HTML Standard, "URL and history update steps", "create a new child navigable", "destroy a child navigable"; what is held back, and the causes, are this project's own.
use Rattle.log_model.specs.ActsAtOnce.{is_taken_here}
use Rattle.log_model.specs.Equal.{has_req, implies}
use Rattle.log_model.specs.History.{fits}
use Rattle.log_model.specs.Once.{due_change, is_in_order}
use Rattle.log_model.specs.Places.{goes}
use Rattle.log_model.specs.Queue.{is_traverse}
use Rattle.log_model.specs.Seen.{Asked, Seen, request_of}
use Rattle.log_model.specs.declared.action.Action.{Action}
use Rattle.log_model.specs.declared.change.Change.{Change}
use Rattle.log_model.specs.declared.made.Made.{Made}
use Rattle.log_model.specs.declared.row_kind.LogRow.{LogRow}
use Rattle.seen_laws.specs.Blocks.{Here, point_at}
use Rattle.std.specs.List.{list_any}
use Rattle.std.specs.Prelude.{List, None, Some, false, true, ◌≡◌}
use Rattle.tab_ids.specs.declared.NavId.{NavId}
use Rattle.tab_ids.specs.declared.ReqId.{ReqId}
use Rattle.log_model.specs.declared.request.Request.TheVariants as requests

-- the report isn't held back, or a traversal was applied in this event
abbrev pub IsFree : Here → ReqId → Type 0
IsFree h req = implies (has_req h.now.parked req) (list_any is_traverse h.done) ≡ true

-- the event takes the report, or it was held back as the event began and a traversal was applied since
abbrev pub IsTakenNow : Here → LogRow → Made → Type 0
IsTakenNow h row made = (later : List LogRow) → is_taken_here (point_at h later) row made ≡ true

-- the request is open, and this is its change, which fits and is in order
pub record IsDueNow (s : Seen) (req : ReqId) (q : Asked) (change : Change) : Type 0 where
  pub at : request_of s req ≡ Some q
  pub open_ : q.ending ≡ None
  pub due : due_change s q ≡ Some change
  pub fit : fits s.history change ≡ true
  pub in_order : is_in_order s change ≡ true

-- the request is open, a poke that asks for no traversal; of it this was made
pub record IsPoked (s : Seen) (req : ReqId) (q : Asked) (made : Made) : Type 0 where
  pub at : request_of s req ≡ Some q
  pub open_ : q.ending ≡ None
  pub nav : NavId
  pub action : Action
  pub what : q.what ≡ requests.Poke nav action
  pub no_step : goes action ≡ false
  pub makes : q.made ≡ Some made
