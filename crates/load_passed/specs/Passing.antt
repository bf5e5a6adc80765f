-- A load passes its unload check: it is ongoing from then on, and its document is to be made.
-- HTML Standard, "navigate", "checking if unloading is canceled" and "attempt to populate the history entry's document". Who is in its check, the table of checks, and the log without questions are this project's own.
use Rattle.log_model.specs.ActsAtOnce.{ends_told}
use Rattle.log_model.specs.declared.job.Why.{Why}
use Rattle.tab_settles.specs.Held.{HasCleared}
use Rattle.tab_settles.specs.Offs.{LateKnown}
use Rattle.tab_facts.specs.TabGoing.Going.{IsGoing}
use Rattle.load_doors.specs.Tied.{AreTied}
use Rattle.seen_facts.specs.Walk.Serving.{AreServed}
use Rattle.tab_facts.specs.FrameWhole.Tab.{AreAwakeWithRows}
use Rattle.row_facts.specs.RestRows.Moving.{AllRest}
use Rattle.leave_facts.proofs.Carried.{AreLeftDuly}
use Rattle.load_table.specs.Loads.{begun, cancelled, ongoing_load}
use Rattle.load_table.specs.declared.load.Load.{Load}
use Rattle.load_table.specs.declared.phase.Phase.TheVariants as phases
use Rattle.log_model.specs.Equal.{has_req}
use Rattle.log_model.specs.Places.{aim_of, all_stand, is_ongoing_load}
use Rattle.log_model.specs.Seen.{Asked, Seen, request_of}
use Rattle.log_model.specs.declared.job.Job.{Job}
use Rattle.log_model.specs.declared.job.Task.TheVariants as tasks
use Rattle.log_model.specs.declared.job.Why.TheVariants as whys
use Rattle.log_model.specs.declared.request.Mode.{Mode}
use Rattle.log_model.specs.declared.request.Request.TheVariants as requests
use Rattle.log_model.specs.declared.row_kind.RowKind.TheVariants as rows
use Rattle.log_model.specs.declared.row_kind.RowKind.{RowKind}
use Rattle.move_queue.specs.Queue.{Queue}
use Rattle.row_facts.specs.FrameRows.Lawful.{held_at_first}
use Rattle.row_facts.specs.Owed.Owed.{IsLoose, IsOwed}
use Rattle.seen_facts.specs.LoadEnds.Standing.{LoadsStand, is_reached}
use Rattle.seen_laws.specs.InEvent.{InEvent, log_of, now_of}
use Rattle.std.specs.Prelude.{Option, Bool, List, None, Some, [], false, length, true, ℕ, ◌∷◌, ◌≡◌, ◌≤◌}
use Rattle.tab_doors.specs.Working.{IsAtWork}
use Rattle.tab_doors.specs.declared.tables.Tables.{Tables}
use Rattle.tab_ids.specs.declared.NavId.{NavId}
use Rattle.tab_ids.specs.declared.ReqId.{ReqId}
use Rattle.tab_ids.specs.declared.StateId.{StateId}
use Rattle.tab_one_pass.specs.Passing.{HasPassed}
use Rattle.tab_passed.specs.Passing.{PassesCheck}
use Rattle.tab_settles.specs.PassedOn.{AreBlamed, AreLeftStrays, HasQueue, InPass, IsOpen, IsTaking, LoadsLive, LoadsMadeOwn, MayCause, MayStand}
use Rattle.tab_settles.specs.Settling.{FreesVisited, HasPut, HasSettled, IsCalmAfter, IsCalmBefore, IsQueueing, IsReady, MakesServe, MovedAreShown, OrdersAreSound}
use Rattle.unasked_tab.proofs.Begun.{with_begun}
use Rattle.unasked_tab.proofs.Reordered.{AreAsOften}
use Rattle.unasked_tab.specs.Passing.{IsFreshState}
use Rattle.unload_check.specs.Checks.{OpenCheck}

-- ---- who passes

-- the request, which was in its check as the event began, and isn't any more, is an ongoing load of the navigable, with this document state; it replaces the given entry, or doesn't
pub record IsLoadToPass (was : ReqId → Bool) (e : InEvent) (req : ReqId) (q : Asked) (nav : NavId) (mode : Mode) (address : List ℕ) (replace : Bool) (state : StateId) : Type 0 where
  pub passes : PassesCheck was e req q
  pub what : q.what ≡ requests.Load nav mode address
  pub ongoing : is_ongoing_load q ≡ true
  pub state_is : q.state ≡ Some state
  pub replaces : replace ≡ q.replaces

-- an event, what its log without questions would be had the load not passed, the requests at hand once it has, the load, the queue, and the requests that are noted for stray documents
pub record InLoadPass : Type 0 where
  pub event : InEvent
  pub before : Seen
  pub loads : List ReqId
  pub req : ReqId
  pub nav : NavId
  pub mode : Mode
  pub address : List ℕ
  pub replace : Bool
  pub state : StateId
  pub queue : Queue
  pub noted : List (StateId × ReqId)

-- a pass of the event, with these at hand
abbrev pub pass_of : InLoadPass → InPass
pass_of l = record { event = l.event; loads = l.loads; hand = [] }

-- ---- the tables then

-- the load in the table, which asks for no document yet
abbrev pub passed_load : InLoadPass → Load
passed_load l =
    record { req = l.req; nav = l.nav; address = l.address; replace = l.replace; state = l.state; phase = phases.Asking }

-- the load is ongoing and none of those in their checks, and the table of checks is this one
abbrev pub load_tables : Tables → Load → List (ReqId × OpenCheck) → Tables
load_tables t load checks =
    record t { loads = begun load t.loads; asking = cancelled load.nav t.asking; checks = checks }

-- ---- before it passes

-- the log without questions but for that the load hasn't begun: a coordinator goes on in it, with these requests at hand, the load among them, which is open and went nowhere; the tables tell of it; the load's document state is nothing's yet, its navigable stands with all above it, and no load of that is ongoing
pub record IsUnbegun (l : InLoadPass) (loads : List ReqId) (s : Seen) (t : Tables) (p : Asked) : Type 0 where
  pub going : IsGoing t.running loads [] s
  pub tied : AreTied s t
  pub hand : AreAsOften loads (l.req ∷ l.loads)
  pub there : request_of s l.req ≡ Some p
  pub what : p.what ≡ requests.Load l.nav l.mode l.address
  pub open_ : p.ending ≡ None
  pub unstarted : p.is_started ≡ false
  pub unsent : p.fragment ≡ None
  pub fresh : IsFreshState s l.state
  pub reached : is_reached s l.nav ≡ true
  pub alone : ongoing_load l.nav t.loads ≡ None

-- what goes on there beside it: what isn't shown rests; so many documents are kept; the queue has what waits; ongoing loads live on, and what was made of one is its own; orders on their way are for what they may be; whom the traversal that runs has moved was shown a document by it, and who is shown and late is so for the load that was applied last
pub record GoesOnBeside (l : InLoadPass) (t : Tables) : Type 0 where
  pub rests : AllRest l.before
  pub few : length l.before.kept ≤ t.kept.keep
  pub queued : HasQueue l.before t.running l.queue.waiting
  pub live : LoadsLive l.before
  pub theirs : LoadsMadeOwn l.before
  pub makes : MakesServe l.before
  pub sound : OrdersAreSound l.before
  pub moved : MovedAreShown t.running l.before
  pub late : LateKnown t.running l.before

-- ---- it has passed, and has no document yet

-- as the event stands the load has passed: a coordinator is at work with it in the table, in a log without questions that is as before but for that the load has begun; it wasn't held back, what is owed is paid whatever orders come, and by any rows where all stand, and what waits is known
pub record IsToMake (l : InLoadPass) (u : Tables) : Type 0 where
  pub loads : List ReqId
  pub t : Tables
  pub p : Asked
  pub unbegun : IsUnbegun l loads l.before t p
  pub beside : GoesOnBeside l t
  pub unheld : has_req (held_at_first l.event) l.req ≡ false
  pub q : Asked
  pub starts : q.is_started ≡ true
  pub state_is : q.state ≡ Some l.state
  pub replaces : l.replace ≡ q.replaces
  pub tables : u ≡ load_tables t (passed_load l) u.checks
  pub now : now_of l.event [] ≡ with_begun l.before l.req q
  pub work : IsAtWork l.event [] u
  pub owed : IsOwed l.event []
  pub loose : all_stand (now_of l.event []) (aim_of (now_of l.event [])) ≡ true → IsLoose l.event []
  pub duly : AreLeftDuly (log_of l.event [])
  pub queueing : IsQueueing (record { event = l.event; loads = l.loads; hand = [] }) [] u l.queue
  pub header : u.kept.keep ≡ l.event.header.keep

-- ---- how the tab was before it passed

-- at rest: who is visited was served, who is awake was told, and for each stray document a request was noted; where no traversal runs the tab was calm
pub record WasSettled (l : InLoadPass) (run : Option ReqId) : Type 0 where
  pub passed : HasPassed l.event l.before
  pub strays : AreLeftStrays l.before l.noted
  pub served : AreServed l.before
  pub told : ends_told l.before ≡ true
  pub calm : IsCalmAfter run l.before

-- a pass might follow, with orders for this cause
pub record WasReady (l : InLoadPass) (run : Option ReqId) (cause : Why) : Type 0 where
  pub open_ : IsOpen l.event run cause l.before
  pub loads : MayStand run l.before
  pub frees : FreesVisited l.event l.before
  pub blamed : AreBlamed l.before l.noted
  pub calm : IsCalmBefore run cause l.before

-- one went by up to its walk
pub record WasCleared (l : InLoadPass) (run : Option ReqId) (cause : Why) : Type 0 where
  pub ready : WasReady l run cause
  pub stand : LoadsStand l.before
  pub rows_ : AreAwakeWithRows l.before
  pub strays : AreLeftStrays l.before l.noted

-- the event's own row was logged, and nothing put out: a pass might follow whatever its orders are for
pub record WasTaken (l : InLoadPass) (run : Option ReqId) : Type 0 where
  pub taken : IsTaking l.event run l.noted l.before
  pub frees : FreesVisited l.event l.before

-- ---- a pass may follow

-- one row was put out, the order that makes the load's document, for it
pub record MakesDocument (l : InLoadPass) (out : List RowKind) : Type 0 where
  pub job : Job
  pub task : job.task ≡ tasks.Populate l.nav l.state l.address false
  pub why : job.why ≡ whys.Req l.req
  pub is : out ≡ rows.Sent job ∷ []

-- the load is past its check, and its document is to be made: nothing is owed that later rows could undo, if that was so, and orders on their way are for what they may be, as they may be for the load; a tab that was at rest is so, a pass may follow where one might, and one that went by up to its walk did; behind an event's own row one may follow for the load
pub record IsPastLoad (l : InLoadPass) (u : Tables) (out : List RowKind) : Type 0 where
  pub makes_it : MakesDocument l out
  pub own : MayCause (now_of l.event out) (whys.Req l.req)
  pub causes : (why : Why) → MayCause l.before why → MayCause (now_of l.event out) why
  pub settled : (cause : Why) → MayCause (now_of l.event out) cause → WasSettled l u.running → HasSettled (record { event = l.event; loads = l.loads; hand = [] }) out u l.queue l.noted cause
  pub ready : (cause : Why) → WasReady l u.running cause → IsReady (record { event = l.event; loads = l.loads; hand = [] }) out u l.queue l.noted cause
  pub cleared : (cause : Why) → WasCleared l u.running cause → HasCleared false (record { event = l.event; loads = l.loads; hand = [] }) out u l.queue l.noted cause
  pub taken : WasTaken l u.running → IsReady (record { event = l.event; loads = l.loads; hand = [] }) out u l.queue l.noted (whys.Req l.req)
  pub put : HasPut l.event [] out
  pub loose : IsLoose l.event [] → IsLoose l.event out
  pub makes : MakesServe (now_of l.event out)
  pub sound : OrdersAreSound (now_of l.event out)
