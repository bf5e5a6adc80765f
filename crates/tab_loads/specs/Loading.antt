-- The rule of loads: a load that the user asks for is refused, dropped, sent to a fragment, or begins in the place of the one before, and its document is to be made.
-- HTML Standard, "navigate", "navigate to a fragment" and "Navigables" ("ongoing navigation"); that the ways up have to stand, and that a load of a way that doesn't is dropped, is this project's own.
use Rattle.leave_questions.specs.Questions.{load_questions}
use Rattle.load_doors.specs.Logged.{IsOwnRead}
use Rattle.log_model.specs.Orders.{due_questions}
use Rattle.tab_doors.specs.Working.{MayDiscardIn}
use Rattle.tab_doors.specs.declared.tables.Tables.{Tables}
use Rattle.tab_ids.specs.declared.DocId.{DocId}
use Rattle.tab_stands.specs.PassedOn.{NoneRunsWhileHeld}
use Rattle.unasked_dues.specs.Checking.{NoneChecksBefore}
use Rattle.tab_stands.specs.Standing.{InCheck}
use Rattle.row_facts.specs.LoadRows.Beginning.{is_to_fragment}
use Rattle.log_model.specs.Causes.{denial_at_acceptance}
use Rattle.log_model.specs.Places.{aim_of, is_placed, way_to}
use Rattle.log_model.specs.Seen.{Place, Seen, awake, place_of}
use Rattle.log_model.specs.declared.job.Job.{Job}
use Rattle.log_model.specs.declared.job.Why.{Why}
use Rattle.log_model.specs.declared.outcome.Denial.{Denial}
use Rattle.log_model.specs.declared.request.Mode.{Mode}
use Rattle.log_model.specs.declared.row_kind.RowKind.{RowKind}
use Rattle.seen_laws.specs.InEvent.{InEvent, OwesNothing, log_of, now_of}
use Rattle.std.specs.List.{list_all}
use Rattle.std.specs.Prelude.{Bool, List, None, Option, Some, [], false, is_some, length, slice_get, true, ℕ, ◌++◌, ◌+◌, ◌∷◌, ◌≡◌, ◌⊎◌}
use Rattle.tab_drops.specs.Dropping.{IsLoadOf}
use Rattle.tab_ids.specs.declared.NavId.{NavId}
use Rattle.tab_ids.specs.declared.ReqId.{ReqId}
use Rattle.tab_loads.specs.declared.loaded.Loaded.{Loaded}
use Rattle.tab_loads.specs.declared.loaded.Loaded.TheVariants.{Asks, Begun, CutOff, Refused, ToFragment}
use Rattle.tab_passes.specs.Passing.{InPass}
use Rattle.log_model.specs.declared.job.Task.TheVariants as tasks
use Rattle.log_model.specs.declared.job.Why.TheVariants as whys
use Rattle.log_model.specs.declared.outcome.Cause.TheVariants as drops
use Rattle.log_model.specs.declared.request.Request.TheVariants as requests
use Rattle.log_model.specs.declared.row_kind.Actor.TheVariants as actors
use Rattle.log_model.specs.declared.row_kind.RowKind.TheVariants as rows

-- ---- what is asked

-- in this event the user asks for the load, by the next number; it isn't in its check, and no ongoing load of the navigable is; nothing was put out before, so nothing is owed, and the event's own row is read off
pub record IsLoadAsk (e : InEvent) (req : ReqId) (nav : NavId) (mode : Mode) (address : List ℕ) : Type 0 where
  pub by_user : e.actor ≡ actors.Ui
  pub own : e.own ≡ rows.Accepted req None (requests.Load nav mode address)
  pub next : req.0 ≡ length e.start.requests + 1
  pub outside : e.checking req ≡ false
  pub apart : NoneChecksBefore e.checking (log_of e []) req nav
  pub uncut : e.before ≡ []
  pub undue : OwesNothing e
  pub read : IsOwnRead e

-- a walk leaves a document only where no step is in its check: none was as the event began, or a traversal in its check holds the queue, so that none runs
pub record MayWalk (e : InEvent) (run : Option ReqId) : Type 0 where
  pub holds : Bool
  pub alone : NoneRunsWhileHeld holds run
  pub free : holds ≡ false → MayDiscardIn false e

-- whether a load of the navigable asks somebody before it begins, as the tables tell: a document that it leaves has an unload handler
abbrev pub are_asked_at : List (DocId × ℕ) → Tables → NavId → Bool
are_asked_at slots t nav = is_some (slice_get (load_questions slots t.tree nav) 0)

-- an event, and what is in its unload check as it begins
pub record InCall : Type 0 where
  pub event : InEvent
  pub check : InCheck

-- a pass of the event with nothing at hand but these loads in their check
abbrev pub pass_of : InEvent → List ReqId → InPass
pass_of e loads = record { event = e; loads = loads; hand = [] }

-- ---- what is put out

-- the navigable and all above it are shown and stand at the aim
abbrev pub is_way_placed : Seen → NavId → Bool
is_way_placed s nav = list_all (is_placed s (aim_of s)) (way_to s nav)

-- there was a reason against it as the event began, for which it was refused
pub record WasRefused (e : InEvent) (req : ReqId) (nav : NavId) (mode : Mode) (address : List ℕ) (out : List RowKind) : Type 0 where
  pub reason : Denial
  pub due : denial_at_acceptance e.start (requests.Load nav mode address) ≡ Some reason
  pub is : out ≡ rows.Refused req reason ∷ []

-- on its way one isn't shown or doesn't stand, and it was dropped for another request
pub record WasCutOff (s : Seen) (req : ReqId) (nav : NavId) (out : List RowKind) : Type 0 where
  pub by : ReqId
  pub away : is_way_placed s nav ≡ false
  pub is : out ≡ rows.Dropped req (drops.By by) ∷ []

-- the navigable's place, and whether the address is a fragment navigation from the entry that it was given
pub record IsToFragment (s : Seen) (nav : NavId) (address : List ℕ) (is : Bool) : Type 0 where
  pub place : Place
  pub there : place_of s nav ≡ Some place
  pub placed : is_way_placed s nav ≡ true
  pub is_it : is_to_fragment s address place ≡ is

-- the document that it is awake on was sent to the fragment
pub record WasSent (s : Seen) (req : ReqId) (nav : NavId) (mode : Mode) (address : List ℕ) (out : List RowKind) : Type 0 where
  pub fragment : IsToFragment s nav address true
  pub job : Job
  pub task : job.task ≡ tasks.DoFragment req mode address
  pub why : job.why ≡ whys.Req req
  pub doc : fragment.place.status ≡ awake job.doc
  pub is : out ≡ rows.Sent job ∷ []

-- the navigable's ongoing load, if there is one, was dropped for it
abbrev pub HasGivenWay : Seen → ReqId → NavId → List RowKind → Type 0
HasGivenWay s req nav out =
    ((out ≡ []) × ((old : ReqId) → IsLoadOf s old nav → ⊥)) ⊎ ((old : ReqId) × (IsLoadOf s old nav) × (out ≡ rows.Dropped old (drops.By req) ∷ []))

-- it has begun in the place of the one before, and its document is to be made, for the next document state
pub record HasLoadBegun (s : Seen) (req : ReqId) (nav : NavId) (address : List ℕ) (out : List RowKind) : Type 0 where
  pub anew : IsToFragment s nav address false
  pub gave : List RowKind
  pub gives : HasGivenWay s req nav gave
  pub job : Job
  pub task : job.task ≡ tasks.Populate nav (record { 0 = s.states + 1 }) address false
  pub why : job.why ≡ whys.Req req
  pub is : out ≡ gave ++ rows.Started req None ∷ rows.Sent job ∷ []

-- it is to begin, and is due to ask somebody before; nothing was put out
pub record IsToAsk (e : InEvent) (nav : NavId) (mode : Mode) (address : List ℕ) (out : List RowKind) : Type 0 where
  pub anew : IsToFragment (now_of e []) nav address false
  pub asks : is_some (slice_get (due_questions (log_of e []) (requests.Load nav mode address) None) 0) ≡ true
  pub is : out ≡ []

-- what became of it
abbrev pub CameTo : InEvent → ReqId → NavId → Mode → List ℕ → List RowKind → Loaded → Type 0
CameTo e req nav mode address out Refused = WasRefused e req nav mode address out
CameTo e req nav mode address out CutOff = (denial_at_acceptance e.start (requests.Load nav mode address) ≡ None) × WasCutOff (now_of e []) req nav out
CameTo e req nav mode address out ToFragment = (denial_at_acceptance e.start (requests.Load nav mode address) ≡ None) × WasSent (now_of e []) req nav mode address out
CameTo e req nav mode address out Asks = (denial_at_acceptance e.start (requests.Load nav mode address) ≡ None) × IsToAsk e nav mode address out
CameTo e req nav mode address out Begun = (denial_at_acceptance e.start (requests.Load nav mode address) ≡ None) × HasLoadBegun (now_of e []) req nav address out

-- what orders that follow may be for
abbrev pub cause_of : ReqId → Loaded → Why
cause_of req Begun = whys.Req req
cause_of req _ = whys.Start

-- what is at hand then: the loads in their check, and the load itself, where it is to ask
abbrev pub hand_of : ReqId → Loaded → List ReqId → List ReqId
hand_of req Asks loads = req ∷ loads
hand_of req _ loads = loads
