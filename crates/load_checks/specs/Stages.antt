-- Where an event was cut, between the two parts of a pass or at rest, the unload checks of loads go on: what is known there, and what is so once a load has passed.
-- HTML Standard, "checking if unloading is canceled" and "navigate". Where an event is cut, and the table of checks, are this project's own.
use Rattle.load_midway.specs.Midway.{gone_on}
use Rattle.load_prompts.specs.Prompting.{MayGoOn, prompted_cut}
use Rattle.load_table.specs.Loads.{cancelled, ongoing_load}
use Rattle.load_table.specs.declared.load.Load.{Load}
use Rattle.log_model.specs.Equal.{has_req}
use Rattle.log_model.specs.Places.{is_traversal}
use Rattle.log_model.specs.Seen.{Asked, Seen, request_of}
use Rattle.log_model.specs.declared.job.Why.{Why}
use Rattle.log_model.specs.declared.request.Mode.TheVariants as modes
use Rattle.log_model.specs.declared.request.Mode.{Mode}
use Rattle.log_model.specs.declared.request.Request.TheVariants as requests
use Rattle.log_model.specs.declared.request.Request.{Request}
use Rattle.log_model.specs.declared.row_kind.RowKind.{RowKind}
use Rattle.move_queue.specs.Queue.{Queue}
use Rattle.row_facts.specs.FrameRows.Lawful.{held_at_first}
use Rattle.row_facts.specs.Owed.Owed.{IsLoose}
use Rattle.seen_facts.specs.LoadEnds.Standing.{is_reached}
use Rattle.seen_laws.specs.InEvent.{EndAsWanted, InEvent, log_of, now_of}
use Rattle.std.specs.Option.{option_map_or}
use Rattle.std.specs.Prelude.{Bool, List, None, Some, [], false, map, true, ◌++◌, ◌≡◌}
use Rattle.tab_doors.specs.declared.tables.Tables.{Tables}
use Rattle.tab_ids.specs.declared.NavId.{NavId}
use Rattle.tab_ids.specs.declared.ReqId.{ReqId}
use Rattle.tab_ids.specs.declared.StateId.{StateId}
use Rattle.tab_prompts.specs.Asking.{BeginsAsked}
use Rattle.tab_prompts.specs.Prompts.{is_waiting}
use Rattle.tab_settles.specs.Held.{HasCleared}
use Rattle.tab_settles.specs.PassedOn.{InPass}
use Rattle.tab_settles.specs.Settling.{HasSettled, MakesServe, OrdersAreSound}
use Rattle.tab_stands.specs.GoingOn.{GoesOn}
use Rattle.unasked_tab.proofs.Reordered.{AreAsOften}
use Rattle.unload_check.specs.Checks.{OpenCheck, ended, outcome_at}
use Rattle.unload_check.specs.declared.check.Check.TheVariants as checks

-- an event, the requests at hand, the queue, the requests that are noted for stray documents, and what orders are for; a pass has gone by up to its walk alone, or whole
pub record InStage : Type 0 where
  pub event : InEvent
  pub loads : List ReqId
  pub queue : Queue
  pub noted : List (StateId × ReqId)
  pub cause : Why
  pub cleared : Bool

-- the pass
abbrev pub pass_in : InStage → InPass
pass_in w = record { event = w.event; loads = w.loads; hand = [] }

-- it has gone by so
abbrev pub StandsIn : Bool → InPass → List RowKind → Tables → Queue → List (StateId × ReqId) → Why → Type 0
StandsIn true p out t queue noted cause = HasCleared false p out t queue noted cause
StandsIn false p out t queue noted cause = HasSettled p out t queue noted cause

abbrev pub Stands : InStage → List RowKind → Tables → Type 0
Stands w out t = StandsIn w.cleared (record { event = w.event; loads = w.loads; hand = [] }) out t w.queue w.noted w.cause

-- ---- the loads in their checks

-- the requests of these loads
abbrev pub reqs_of : List Load → List ReqId
reqs_of loads = map (λ (load : Load). load.req) loads

-- the load's navigable stands with all above it and has no other ongoing load, the load wasn't held back as the event began, and if its check goes on it has passed it
pub record IsAskingHere (e : InEvent) (t : Tables) (load : Load) : Type 0 where
  pub reached : is_reached (now_of e []) load.nav ≡ true
  pub apart : ongoing_load load.nav t.loads ≡ None
  pub unheld : has_req (held_at_first e) load.req ≡ false
  pub goes : (q : Asked) → request_of (log_of e []) load.req ≡ Some q → outcome_at load.req t.checks ≡ Some checks.Go → MayGoOn (log_of e []) t.checks load.req q

abbrev pub AreAskingHere : InEvent → Tables → Type 0
AreAskingHere e t = (nav : NavId) (load : Load) → ongoing_load nav t.asking ≡ Some load → IsAskingHere e t load

-- no traversal's check waits
abbrev pub NoneWaits : InEvent → Tables → Type 0
NoneWaits e t =
    (req : ReqId) (q : Asked) → request_of (log_of e []) req ≡ Some q → is_traversal q.what ≡ true → is_waiting t.checks req ≡ false

-- behind the event's cut, where nothing more was put out and no run of discarded documents lasts: a pass has gone by, up to its walk or whole; what is known of its checks, and of the loads in them, which are all that is at hand; no traversal's check waits; and orders on their way are for what they may be
pub record IsCutAt (w : InStage) (t : Tables) : Type 0 where
  pub stands : Stands w [] t
  pub begins : BeginsAsked w.event t.checks
  pub ran : w.event.ran ≡ []
  pub makes : MakesServe (now_of w.event [])
  pub sound : OrdersAreSound (now_of w.event [])
  pub quiet : NoneWaits w.event t
  pub hand : AreAsOften w.loads (reqs_of t.asking)
  pub loads : AreAskingHere w.event t

-- ---- one passes

-- the navigable's load is in its check, which goes on
pub record GoesAt (t : Tables) (nav : NavId) : Type 0 where
  pub load : Load
  pub its : ongoing_load nav t.asking ≡ Some load
  pub goes : outcome_at load.req t.checks ≡ Some checks.Go

-- it, and the load whose turn it is
pub record InLoadTurn : Type 0 where
  pub stage : InStage
  pub load : Load

-- whether what the request asks for takes the place of the given entry, as the log has it
abbrev pub mode_of : Request → Mode
mode_of (requests.Load nav mode address) = mode
mode_of _ = modes.Auto

abbrev pub mode_in : Seen → ReqId → Mode
mode_in s req = option_map_or (λ (q : Asked). mode_of q.what) (request_of s req) modes.Auto

-- the stage, with the event as it goes on, and these at hand
abbrev pub stage_on : InStage → InEvent → List ReqId → InStage
stage_on w at loads = record w { event = at; loads = loads }

-- the event cut behind the rows by which the request passed, where the table of checks was as given before
abbrev pub passed_cut : InEvent → ReqId → List RowKind → List (ReqId × OpenCheck) → InEvent
passed_cut e req out checks = prompted_cut (gone_on e req) out (ended req checks) []

-- it has passed, and has no check in the table any more: the event goes on behind what was put out, and was cut there, where all is as it was; of the loads in their checks it alone is none any more; nothing is owed that later rows could undo, if that was so; and what follows is as it is wanted there, if with what was put out it is as it was wanted
pub record HasLetPass (w : InStage) (nav : NavId) (t u : Tables) (out : List RowKind) : Type 0 where
  pub load : Load
  pub its : ongoing_load nav t.asking ≡ Some load
  pub at : InEvent
  pub is : at ≡ passed_cut w.event load.req out t.checks
  pub checks : u.checks ≡ ended load.req t.checks
  pub goes : GoesOn w.event out at
  pub cut : IsCutAt (stage_on w at (reqs_of u.asking)) u
  pub asking : u.asking ≡ cancelled nav t.asking
  pub loose : IsLoose w.event [] → IsLoose at []
  pub wanted : (more : List RowKind) → EndAsWanted w.event (out ++ more) → EndAsWanted at more
