-- What a coordinator keeps between two events, and what it has done as an event ends.
-- HTML Standard, "session history traversal queue", "navigate" and "checking if unloading is canceled"; that nobody is asked and nobody dies is this project's own premise today.
use Rattle.asking_facts.specs.Known.{AskingKnown}
use Rattle.tab_doors.specs.Working.{StartsPlain}
use Rattle.seen_laws.specs.Unasked.{unasked}
use Rattle.coord.specs.declared.ask.Ask.{Ask}
use Rattle.coord.specs.declared.ask.Ask.TheVariants as asks
use Rattle.coord.specs.declared.coordinator.Coordinator.{Coordinator}
use Rattle.seen_facts.specs.Hang.Members.{Has}
use Rattle.seen_facts.specs.LoadEnds.Standing.{is_change_unsettled}
use Rattle.log_model.specs.Seen.{Seen}
use Rattle.log_model.specs.declared.change.Change.{Change}
use Rattle.log_model.specs.declared.job.Why.{Why}
use Rattle.log_model.specs.declared.request.Mode.{Mode}
use Rattle.log_model.specs.declared.request.Request.{Request}
use Rattle.log_model.specs.declared.row_kind.RowKind.{RowKind}
use Rattle.tab_facts.specs.Order.Orders.{IsOfCoord}
use Rattle.tab_facts.specs.Running.Running.{AreFoundRunning}
use Rattle.tab_facts.specs.Running.Telling.{AreTelling}
use Rattle.seen_laws.specs.Blocks.{EachPass}
use Rattle.seen_laws.specs.InEvent.{InEvent, OwesNothing, WantsNothing, log_of, now_of, rows_of, start_of}
use Rattle.slot_facts.specs.Slots.{AreSlots}
use Rattle.std.specs.Prelude.{Bool, List, None, [], false, length, true, ℕ, ◌++◌, ◌+◌, ◌≡◌}
use Rattle.tab_ids.specs.declared.NavId.{NavId}
use Rattle.tab_ids.specs.declared.ReqId.{ReqId}
use Rattle.tab_loads.specs.Loading.{CameTo, pass_of}
use Rattle.tab_loads.specs.declared.loaded.Loaded.{Loaded}
use Rattle.tab_stands.specs.Offs.{AreShownUnder}
use Rattle.tab_stands.specs.PassedOn.{IsReady, MakesServe, OrdersAreSound, moved_by}
use Rattle.tab_stands.specs.Standing.{HasRoomFor, IsTakenUp}
use Rattle.tab_doors.specs.PassedOn.{NoneChecked}
use Rattle.tab_stands.specs.Standing as tab
use Rattle.log_model.specs.declared.request.Request.TheVariants as requests
use Rattle.log_model.specs.declared.row_kind.Actor.TheVariants as actors
use Rattle.log_model.specs.declared.row_kind.RowKind.TheVariants as rows

-- no request is in its unload check
abbrev pub nobody : ReqId → Bool
nobody req = false

-- but for its slots: its tables, its queue and the requests that are noted for stray documents stand for what the log has come to, and it keeps as many documents as its settings say
pub record StandsBut (s : Seen) (c : Coordinator) : Type 0 where
  pub stands : tab.StandsFor tab.none_in_check s c.tables c.queue c.blame.entries
  pub keep : c.tables.kept.keep ≡ c.header.keep
  pub lasts : tab.LastsInLog nobody c.tables.asking s
  -- nobody was asked so far, and no request has an unload check
  pub plain : unasked nobody s ≡ s
  pub unchecked : NoneChecked c.tables.checks
  -- each fragment order on its way finds its document running as its turn comes
  pub found : AreFoundRunning s
  -- each report of a fragment order that waits tells of what was made of it
  pub telling : AreTelling s

-- so it does, and it has the slots of the handlers of the documents whose making was reported
pub record StandsFor (s : Seen) (c : Coordinator) : Type 0 where
  pub but : StandsBut s c
  pub slots : AreSlots s c.slots.entries

-- ---- an event begins

-- but for its slots, the coordinator stands for what the log had come to as the event began, with the event's settings; there is room for requests, nothing was put out before, so nothing is owed and nothing wanted of the rows to come, and no request is in a check
pub record IsOpenIn (e : InEvent) (c : Coordinator) : Type 0 where
  pub header : c.header ≡ e.header
  pub stands : StandsBut e.start c
  pub room : HasRoomFor e.start
  pub uncut : e.before ≡ []
  pub undue : OwesNothing e
  pub unwanted : WantsNothing e
  pub unchecked : e.checking ≡ nobody

-- so it does, and its slots are those of then
pub record IsOpenTo (e : InEvent) (c : Coordinator) : Type 0 where
  pub in_ : IsOpenIn e c
  pub slots : AreSlots e.start c.slots.entries

-- ---- an event ends

-- the navigable that one of the rows reloads, or gives a load's new document, doesn't stand by then
abbrev pub ChangesLeaveOff : Seen → List RowKind → Type 0
ChangesLeaveOff s out = (req : ReqId) (change : Change) → Has out (rows.Applied req change) → is_change_unsettled s req change ≡ true

-- none of the rows reloads a navigable, or gives one a load's new document
abbrev pub MoveNobody : Seen → List RowKind → Type 0
MoveNobody s out = (req : ReqId) (change : Change) → Has out (rows.Applied req change) → moved_by s req change ≡ None

-- the event ends with these rows, each of which passes, and which leave unsettled whom their changes move; the coordinator stands for what the log has come to, and its settings are the event's
pub record HasActed (e : InEvent) (out : List RowKind) (c : Coordinator) : Type 0 where
  pub stands : StandsFor (log_of e out) c
  pub header : c.header ≡ e.header
  pub passes : EachPass (start_of e) (rows_of e out) []
  pub off : ChangesLeaveOff (log_of e out) out

-- a pass may follow, for this cause; no request is in a check, nothing is wanted of the rows to come, and nobody was asked as the event's own row was logged; what was delivered was taken up, if it was to be; the rows so far are a coordinator's, and move nobody; orders that make documents are for what orders may be for, and all are sound; as the event began each document shown was shown under its navigable's epoch, and what is known of questions, prompts and answers was known; fragment orders find their documents running, and reports of them tell of what was made; and the coordinator's slots are those of the log
pub record IsToSettle (e : InEvent) (out : List RowKind) (c : Coordinator) (cause : Why) : Type 0 where
  pub header : c.header ≡ e.header
  pub unchecked : e.checking ≡ nobody
  pub unwanted : WantsNothing e
  pub starts : StartsPlain e
  pub ready : IsReady (pass_of e []) out c.tables c.queue c.blame.entries cause
  pub makes : MakesServe (now_of e out)
  pub sound : OrdersAreSound (now_of e out)
  pub coord : (row : RowKind) → Has out row → IsOfCoord row
  pub unmoved : MoveNobody (now_of e out) out
  pub shows : AreShownUnder (log_of e [])
  pub known : AskingKnown (log_of e [])
  pub taken : IsTakenUp e out
  pub found : AreFoundRunning (now_of e out)
  pub telling : AreTelling (now_of e out)
  pub slots : AreSlots (log_of e out) c.slots.entries

-- ---- what the user asks for

-- the request
abbrev pub asked_for : Ask → Request
asked_for (asks.Load nav mode address) = requests.Load nav mode address
asked_for (asks.Go delta) = requests.Go delta

-- in this event the user asks for it, by the next number
pub record IsAsk (e : InEvent) (req : ReqId) (ask : Ask) : Type 0 where
  pub by_user : e.actor ≡ actors.Ui
  pub own : e.own ≡ rows.Accepted req None (asked_for ask)
  pub next : req.0 ≡ length e.start.requests + 1

-- the first rows say what became of the load; others may follow
pub record LoadCame (e : InEvent) (req : ReqId) (nav : NavId) (mode : Mode) (address : List ℕ) (out : List RowKind) : Type 0 where
  pub loaded : Loaded
  pub first : List RowKind
  pub came : CameTo e req nav mode address first loaded
  pub more : List RowKind
  pub is : out ≡ first ++ more

-- what became of a load that was asked for; a traversal has joined the queue
abbrev pub AskCame : InEvent → ReqId → Ask → List RowKind → Type 0
AskCame e req (asks.Load nav mode address) out = LoadCame e req nav mode address out
AskCame e req (asks.Go delta) out = Unit {0}
