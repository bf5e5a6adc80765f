-- A tab with loads is brought to rest by one pass after the other, with a turn of the queue between two of them.
-- HTML Standard, "apply the history step" and "session history traversal queue"; what is held back, and that all this goes by passes, is this project's own.
use Rattle.log_model.specs.Places.{aim_of, all_stand}
use Rattle.tab_releases.specs.Releasing.{InPass, IsPassing, LoadsMadeOwn, MayCause, Tables}
pub use Rattle.tab_doors.specs.Working.{MayDiscardIn}
pub use Rattle.tab_releases.specs.PassedOn.{FreesVisited, IsPassingIn}
pub use Rattle.tab_releases.specs.Releasing.{HoldsParked, IsTurning, IsWaiting}
use Rattle.tab_facts.specs.Calm.Calm.{AreRooted, IsCalm, IsCalmAround, IsCalmYet, UnmovedAreHere}
use Rattle.tab_facts.specs.Frame.Lasting.{wish}
use Rattle.row_facts.specs.FrameRows.Lawful.{has_traversed, held_at_first}
use Rattle.seen_facts.specs.Hang.Members.{Has}
use Rattle.tab_facts.specs.Order.Orders.{IsOfCoord, AreOrders}
use Rattle.tab_facts.specs.FrameTab.Asking.{NoneHeld}
use Rattle.log_model.specs.ActsAtOnce.{ends_told}
use Rattle.seen_facts.specs.LoadEnds.Standing.{is_off}
use Rattle.log_model.specs.Causes.{nav_of_change, takes_report}
use Rattle.log_model.specs.Equal.{has_req}
use Rattle.log_model.specs.History.{has_nav}
use Rattle.log_model.specs.LoadsEndInTime.{is_begun_load}
use Rattle.log_model.specs.Points.{nav_of_request}
use Rattle.log_model.specs.Seen.{Asked, Document, Place, Seen, awake, document_of, place_of, request_of}
use Rattle.log_model.specs.declared.change.Change.{Change}
use Rattle.log_model.specs.declared.job.Job.{Job}
use Rattle.log_model.specs.declared.job.Task.{Task}
use Rattle.log_model.specs.declared.job.Why.{Why}
use Rattle.log_model.specs.declared.row_kind.RowKind.{RowKind}
use Rattle.move_queue.specs.Queue.{Queue}
use Rattle.move_queue.specs.declared.queue_step.QueueStep.{QueueStep}
use Rattle.seen_facts.proofs.Request.Readers.{SameReads}
use Rattle.seen_laws.specs.InEvent.{InEvent, now_of}
use Rattle.tab_releases.specs.PassedOn.{IsNoneDue, IsToAsk}
use Rattle.seen_laws.specs.Unasked.{is_question}
use Rattle.std.specs.Prelude.{Bool, List, None, Option, Some, [], false, length, not, true, ℕ, ◌++◌, ◌+◌, ◌≡◌, ◌⊎◌, if◌then◌else◌}
use Rattle.tab_releases.specs.PassedOn.{AreBlamed, AreLeftStrays, HasPassed, HasQueue, IsOpen, LoadsLive, MayStand, show_why}
use Rattle.tab_facts.specs.TabEvents.Between.{AreSwept, orders_go}
use Rattle.tab_ids.specs.declared.DocId.{DocId}
use Rattle.tab_ids.specs.declared.NavId.{NavId}
use Rattle.tab_ids.specs.declared.ReqId.{ReqId}
use Rattle.tab_ids.specs.declared.StateId.{StateId}
use Rattle.tab_settles.specs.Offs.{LateKnown}
use Rattle.tab_settles.specs.declared.reasons.Reasons.{Reasons}
use Rattle.seen_facts.specs.Walk.Serving.{AreServed}
use Rattle.log_model.specs.declared.change.Change.TheVariants as changes
use Rattle.log_model.specs.declared.job.Task.TheVariants as tasks
use Rattle.log_model.specs.declared.job.Why.TheVariants as whys
use Rattle.log_model.specs.declared.row_kind.Actor.TheVariants as actors
use Rattle.log_model.specs.declared.row_kind.RowKind.TheVariants as rows

-- ---- what orders are for

-- an order that tells length and index is for the request that the event accepts or whose report it takes, else for the step that was logged last, else for the cause
abbrev pub tells_of : Reasons → Why
tells_of reasons = show_why reasons.handled (show_why reasons.logged reasons.cause)

-- orders are for this request from now on, where there is one
abbrev pub followed : Option ReqId → Reasons → Reasons
followed last reasons = record reasons { cause = show_why last reasons.cause }

-- ---- what a pass puts out, and leaves

-- the row is an order that asks nothing, or drops a request
abbrev pub IsOrderOrDrop : RowKind → Type 0
IsOrderOrDrop (rows.Sent job) = not (is_question job.task) ≡ true
IsOrderOrDrop (rows.Dropped req cause) = Unit {0}
IsOrderOrDrop _ = ⊥

-- there are as many requests, which ask what they asked, and each document that was there is its navigable's
pub record LeavesPut (s t : Seen) : Type 0 where
  pub many : length t.requests ≡ length s.requests
  pub wishes : SameReads wish s.requests t.requests
  pub homes : (doc : DocId) (d : Document) → document_of s doc ≡ Some d → (new : Document) × (document_of t doc ≡ Some new) × (new.nav ≡ d.nav)

-- the order makes a document
abbrev pub IsMake : Task → Type 0
IsMake (tasks.Populate nav state address initial) = Unit {0}
IsMake _ = ⊥

-- the order asks nobody, and sends no document to a fragment
abbrev pub IsPlainTask : Task → Type 0
IsPlainTask (tasks.Ask slot cause) = ⊥
IsPlainTask (tasks.DoFragment req mode address) = ⊥
IsPlainTask _ = Unit {0}

-- rows of a coordinator were put out, behind those that were there; each order among them asks nobody and sends no document to a fragment, and each that makes a document is for what orders may be for
pub record HasPut (e : InEvent) (was out : List RowKind) : Type 0 where
  pub more : List RowKind
  pub is : out ≡ was ++ more
  pub each : (row : RowKind) → Has more row → IsOfCoord row
  pub plain : (job : Job) → Has more (rows.Sent job) → IsPlainTask job.task
  pub makes : (job : Job) → Has more (rows.Sent job) → IsMake job.task → MayCause (now_of e out) job.why

-- each order on its way that makes a document, or of which a report tells, is for what orders may be for
abbrev pub MakesServe : Seen → Type 0
MakesServe s = AreOrders (λ (job : Job). IsMake job.task → MayCause s job.why) s

-- the document is of the navigable of the request, which is there
pub record IsOfItsLoad (s : Seen) (doc : DocId) (req : ReqId) : Type 0 where
  pub q : Asked
  pub found : request_of s req ≡ Some q
  pub d : Document
  pub there : document_of s doc ≡ Some d
  pub its : nav_of_request q.what ≡ Some d.nav

-- the order to the document asks nobody, and sends it to a fragment for a load of its own navigable
abbrev pub IsSoundTask : Seen → DocId → Task → Type 0
IsSoundTask s doc (tasks.Ask slot cause) = ⊥
IsSoundTask s doc (tasks.DoFragment req mode address) = IsOfItsLoad s doc req
IsSoundTask s doc _ = Unit {0}

-- so it is of each order on its way, or of which a report tells
abbrev pub OrdersAreSound : Seen → Type 0
OrdersAreSound s = AreOrders (λ (job : Job). IsSoundTask s job.doc job.task) s

-- ---- who is moved

-- the navigable that the change reloads, or to which it gives the new document of the load that the request is
abbrev pub moved_by : Seen → ReqId → Change → Option NavId
moved_by s req (changes.Reload nav) = Some nav
moved_by s req (changes.Push nav entry state address memo) = if is_begun_load s req then Some nav else None
moved_by s req (changes.Replace nav over entry state address memo) = if is_begun_load s req then Some nav else None
moved_by s req _ = None

-- the navigable doesn't stand at the aim, and so not all do
pub record IsAway (s : Seen) (nav : NavId) : Type 0 where
  pub off : is_off s nav ≡ true
  pub unsettled : all_stand s (aim_of s) ≡ false

-- the rows that were put out begin no load, and the navigable that one of them reloads, or gives a load's new document, doesn't stand then
pub record LeavesOff (e : InEvent) (was out : List RowKind) : Type 0 where
  pub more : List RowKind
  pub is : out ≡ was ++ more
  pub begins : (req : ReqId) → is_begun_load (now_of e out) req ≡ is_begun_load (now_of e was) req
  pub off : (req : ReqId) (change : Change) (nav : NavId) → Has more (rows.Applied req change) → moved_by (now_of e out) req change ≡ Some nav → IsAway (now_of e out) nav

-- so it is of the rows of a turn, before which all stood
pub record HasTurned (e : InEvent) (old new : List RowKind) : Type 0 where
  pub moved : LeavesOff e old new
  pub stood : all_stand (now_of e old) (aim_of (now_of e old)) ≡ true

-- ---- the queue, and what is held back

-- the event takes a report and accepts no request, and what is held back was so before the event began; so it may be taken up once a traversal has ended
pub record MayRelease (e : InEvent) (out : List RowKind) : Type 0 where
  pub by_coord : e.actor ≡ actors.Coord
  pub takes : takes_report e.own ≡ true
  pub many : length (now_of e out).requests ≡ length e.start.requests
  pub old : (req : ReqId) → has_req (now_of e out).parked req ≡ true → (has_req (held_at_first e) req ≡ true) × (has_req e.start.parked req ≡ true)

-- the queue has what waits and what is held back; nothing is where no traversal runs, or once one has ended in the event; and what is may be taken up, where all stand at the aim
pub record IsQueueing (p : InPass) (out : List RowKind) (t : Tables) (queue : Queue) : Type 0 where
  pub waits : IsWaiting p.event out
  pub queued : HasQueue (now_of p.event out) t.running queue.waiting
  pub parked : HoldsParked (now_of p.event out) queue.parked
  pub held : NoneHeld t.running (now_of p.event out)
  pub over : has_traversed p.event out ≡ true → (now_of p.event out).parked ≡ []
  pub releasing : ((now_of p.event out).parked ≡ [] → ⊥) → all_stand (now_of p.event out) (aim_of (now_of p.event out)) ≡ true → MayRelease p.event out

-- how many turns are left at most: one that begins and one that ends for each step that waits, and the end of the one that runs
abbrev pub turns_left : Option ReqId → List QueueStep → ℕ
turns_left None waiting = length waiting + length waiting
turns_left (Some run) waiting = 1 + (length waiting + length waiting)

-- where a traversal in its check holds the queue, none runs
abbrev pub NoneRunsWhileHeld : Bool → Option ReqId → Type 0
NoneRunsWhileHeld holds run = holds ≡ true → run ≡ None

-- ---- how calm the tab is

-- the request is the last load with a new document that was applied, by a change of the navigable; not all have stood since
pub record IsLastLoad (s : Seen) (at : NavId) (req : ReqId) : Type 0 where
  pub mover : Asked
  pub found : request_of s req ≡ Some mover
  pub change : Change
  pub changed : mover.change ≡ Some change
  pub its : nav_of_change change ≡ Some at
  pub last : s.last_step ≡ Some req
  pub unstood : s.has_stood ≡ false

-- the cause is that load, of this navigable
pub record IsAppliedFor (cause : Why) (s : Seen) (at : NavId) : Type 0 where
  pub req : ReqId
  pub for_ : cause ≡ whys.Req req
  pub last : IsLastLoad s at req

-- before a pass for a cause: where no traversal runs it is calm but for navigables without an entry, or around one of which a load, the cause, was just applied; where one does, whom it hasn't moved is where it is to be, and who is awake is rooted
abbrev pub IsCalmBefore : Option ReqId → Why → Seen → Type 0
IsCalmBefore None cause s = IsCalmYet s ⊎ ((at : NavId) × (IsCalmAround s at × IsAppliedFor cause s at))
IsCalmBefore (Some run) cause s = UnmovedAreHere s × AreRooted s

-- after it: where no traversal runs the tab is calm
abbrev pub IsCalmAfter : Option ReqId → Seen → Type 0
IsCalmAfter None s = IsCalm s
IsCalmAfter (Some run) s = UnmovedAreHere s × AreRooted s

-- ---- whom a traversal has moved

-- who is awake, and was moved by the traversal that runs, was shown a document by it
abbrev pub MovedAreShown : Option ReqId → Seen → Type 0
MovedAreShown run s =
    (req : ReqId) (q : Asked) (nav : NavId) (place : Place) (doc : DocId) → run ≡ Some req → request_of s req ≡ Some q → place_of s nav ≡ Some place → place.status ≡ awake doc → has_nav q.moved nav ≡ true → has_nav q.activated nav ≡ true

-- ---- from pass to pass

-- a pass may follow, whose orders are for this cause; nothing is at hand, and ongoing loads live on; so it is where documents are swept, too
pub record IsReadyIn (sweeps : Bool) (p : InPass) (out : List RowKind) (t : Tables) (queue : Queue) (blame : List (StateId × ReqId)) (cause : Why) : Type 0 where
  pub passing : IsPassingIn sweeps p out t
  pub empty : p.hand ≡ []
  pub header : t.kept.keep ≡ p.event.header.keep
  pub open_ : IsOpen p.event t.running cause (now_of p.event out)
  pub loads : MayStand t.running (now_of p.event out)
  pub frees : FreesVisited p.event (now_of p.event out)
  pub blamed : AreBlamed (now_of p.event out) blame
  pub calm : IsCalmBefore t.running cause (now_of p.event out)
  pub late : LateKnown t.running (now_of p.event out)
  pub moved : MovedAreShown t.running (now_of p.event out)
  pub live : LoadsLive (now_of p.event out)
  pub theirs : LoadsMadeOwn (now_of p.event out)
  pub queueing : IsQueueing p out t queue

-- where none are
abbrev pub IsReady : InPass → List RowKind → Tables → Queue → List (StateId × ReqId) → Why → Type 0
IsReady p out t queue blame cause = IsReadyIn false p out t queue blame cause

-- a pass has gone by: who is visited is served, who is awake was told, no document is stray or an order is on its way, and for each stray one that is left a request is noted; ongoing loads live on; orders may be for the cause
pub record HasSettled (p : InPass) (out : List RowKind) (t : Tables) (queue : Queue) (blame : List (StateId × ReqId)) (cause : Why) : Type 0 where
  pub passing : IsPassing p out t
  pub empty : p.hand ≡ []
  pub header : t.kept.keep ≡ p.event.header.keep
  pub may : MayCause (now_of p.event out) cause
  pub passed : HasPassed p.event (now_of p.event out)
  pub strays : AreLeftStrays (now_of p.event out) blame
  pub served : AreServed (now_of p.event out)
  pub told : ends_told (now_of p.event out) ≡ true
  pub swept : AreSwept (now_of p.event out) ⊎ (orders_go (now_of p.event out) ≡ true)
  pub calm : IsCalmAfter t.running (now_of p.event out)
  pub late : LateKnown t.running (now_of p.event out)
  pub moved : MovedAreShown t.running (now_of p.event out)
  pub live : LoadsLive (now_of p.event out)
  pub theirs : LoadsMadeOwn (now_of p.event out)
  pub queueing : IsQueueing p out t queue

-- ---- where no more is due

-- no traversal runs, and all stand; the first step that waits is a traversal's, which is to ask somebody before it begins
pub record AsksFirst (e : InEvent) (out : List RowKind) (run : Option ReqId) (waiting : List QueueStep) : Type 0 where
  pub idle : run ≡ None
  pub stand : all_stand (now_of e out) (now_of e out).history.current ≡ true
  pub req : ReqId
  pub first : IsToAsk e out waiting req

-- no turn is due, or the traversal whose turn it is is to ask first
abbrev pub IsOver : InEvent → List RowKind → Option ReqId → List QueueStep → Type 0
IsOver e out run waiting = IsNoneDue (now_of e out) run waiting ⊎ AsksFirst e out run waiting
