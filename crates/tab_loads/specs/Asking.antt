-- A load that the user asks for, once its event has begun: what is so before it is dropped, sent to a fragment or begins, and after.
-- HTML Standard, "navigate"; for which request a load of a way that doesn't stand is dropped is this project's own.
use Rattle.log_model.specs.Causes.{denial_at_acceptance}
use Rattle.log_model.specs.Places.{aim_of, all_stand}
use Rattle.log_model.specs.declared.request.Mode.{Mode}
use Rattle.log_model.specs.declared.row_kind.RowKind.{RowKind}
use Rattle.move_queue.specs.Queue.{Queue}
use Rattle.log_model.specs.Orders.{due_questions}
use Rattle.seen_laws.specs.InEvent.{InEvent, log_of, now_of}
use Rattle.tab_loads.specs.Telling.{fragment_in}
use Rattle.std.specs.Prelude.{List, None, [], false, is_some, true, ℕ, ◌∷◌, ◌≡◌}
use Rattle.tab_doors.specs.Working.{KeepsRun}
use Rattle.tab_doors.specs.declared.tables.Tables.{Tables}
use Rattle.tab_ids.specs.declared.NavId.{NavId}
use Rattle.tab_ids.specs.declared.ReqId.{ReqId}
use Rattle.tab_ids.specs.declared.StateId.{StateId}
use Rattle.tab_loads.specs.Loading.{CameTo, IsLoadAsk, MayWalk, cause_of, hand_of, pass_of}
use Rattle.tab_loads.specs.declared.loaded.Loaded.{Loaded}
use Rattle.tab_passes.specs.Passing.{InPass}
use Rattle.tab_stands.specs.Offs.{AreOffKnown}
use Rattle.tab_stands.specs.PassedOn.{IsReady}
use Rattle.tab_stands.specs.Standing.{HasBegun}
use Rattle.log_model.specs.declared.request.Request.TheVariants as requests

-- ---- before

-- an event, the loads in their unload check, the load that the user asks for in the event, the queue, and the requests that are noted for stray documents
pub record InLoad : Type 0 where
  pub event : InEvent
  pub loads : List ReqId
  pub req : ReqId
  pub nav : NavId
  pub mode : Mode
  pub address : List ℕ
  pub queue : Queue
  pub noted : List (StateId × ReqId)

-- the event with the load at hand, and those in their check
abbrev pub first_of : InLoad → InPass
first_of l = record { event = l.event; loads = l.req ∷ l.loads; hand = [] }

-- the event has begun, there is no reason against the load, where a traversal runs not all stand, it is known why navigables don't stand, and when a walk may leave a document
pub record IsAsked (l : InLoad) (t : Tables) : Type 0 where
  pub asks : IsLoadAsk l.event l.req l.nav l.mode l.address
  pub undenied : denial_at_acceptance l.event.start (requests.Load l.nav l.mode l.address) ≡ None
  pub begun : HasBegun (first_of l) t l.queue l.noted
  pub busy : is_some t.running ≡ true → all_stand (now_of l.event []) (aim_of (now_of l.event [])) ≡ false
  pub off : AreOffKnown t.running (now_of l.event [])
  pub walks : MayWalk l.event t.running

-- the load is no fragment navigation, as the tables tell, and asks nobody
pub record BeginsAnew (l : InLoad) (t : Tables) : Type 0 where
  pub fragment : fragment_in t l.nav l.address ≡ None
  pub nobody : due_questions (log_of l.event []) (requests.Load l.nav l.mode l.address) None ≡ []

-- ---- after

-- what became of it, and that a pass may follow
pub record HasCome (l : InLoad) (t u : Tables) (out : List RowKind) (noted : List (StateId × ReqId)) (loaded : Loaded) : Type 0 where
  pub came : CameTo l.event l.req l.nav l.mode l.address out loaded
  pub ready : IsReady (pass_of l.event (hand_of l.req loaded l.loads)) out u l.queue noted (cause_of l.req loaded)
  pub kept : KeepsRun t u
