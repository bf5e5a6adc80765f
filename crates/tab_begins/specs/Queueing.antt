-- The queue of a tab with loads: the traversals that joined, in order, and a step for each ready load; and what is so once steps have had their turns.
-- HTML Standard, "session history traversal queue" and "traverse the history by a delta"; that ready loads wait in it is this project's own.
use Rattle.tab_facts.specs.Calm.Calm.{AreRooted, IsCalmAround, UnmovedAreHere}
use Rattle.tab_facts.specs.Calm.Loads.{LoadsHaveDocuments}
use Rattle.seen_facts.specs.Hang.Members.{Has}
use Rattle.load_table.specs.Loads.{ongoing_load}
use Rattle.load_table.specs.declared.load.Load.{Load}
use Rattle.load_table.specs.declared.phase.Phase.{Phase}
use Rattle.log_model.specs.ActsAtOnce.{is_ready_load}
use Rattle.log_model.specs.After.{is_load_request}
use Rattle.log_model.specs.Causes.{nav_of_change}
use Rattle.log_model.specs.Equal.{holds}
use Rattle.leave_questions.specs.Questions.{traverse_questions}
use Rattle.log_model.specs.Once.{delta_of, loads, step_at_delta}
use Rattle.log_model.specs.Orders.{Question, due_questions}
use Rattle.step_index.specs.Held.{history_held}
use Rattle.tab_applies.specs.PassedOn.{step_by}
use Rattle.tab_ids.specs.declared.DocId.{DocId}
use Rattle.log_model.specs.Places.{all_stand}
use Rattle.log_model.specs.Seen.{Asked, Seen, request_in, request_of}
use Rattle.move_queue.specs.declared.queue_step.QueueStep.{QueueStep}
use Rattle.move_queue.specs.declared.queue_step.QueueStep.TheVariants.{Ready, Reload, Traverse}
use Rattle.seen_facts.proofs.Request.Readers.{SameReads}
use Rattle.seen_laws.specs.InEvent.{InEvent, log_of, now_of}
use Rattle.std.specs.Prelude.{Bool, List, None, Option, Some, [], false, filter, is_some, length, option_and_then, slice_get, true, ℕ, ℤ, ◌++◌, ◌&&◌, ◌<◌, ◌==◌, ◌∷◌, ◌≡◌, ◌⊎◌}
use Rattle.tab_begins.specs.declared.turn.Turn.{Turn}
use Rattle.tab_begins.specs.declared.turn.Turn.TheVariants.{Asks, Rests, Refused, Went}
use Rattle.log_model.specs.declared.change.Change.{Change}
use Rattle.log_model.specs.declared.job.Why.{Why}
use Rattle.log_model.specs.declared.row_kind.RowKind.{RowKind}
pub use Rattle.tab_one_pass.specs.Passing.{AreLeftStrays, HasPassed, IsOpen, LoadsLive, MayCause, MayStand}
use Rattle.tab_doors.specs.declared.tables.Tables.{Tables}
use Rattle.tab_ids.specs.declared.NavId.{NavId}
use Rattle.tab_ids.specs.declared.ReqId.{ReqId}
use Rattle.tab_ids.specs.declared.StateId.{StateId}
use Rattle.tab_ids.specs.declared.Step.{Step}
use Rattle.std.specs.Option.{option_map_or}
pub use Rattle.tab_one_pass.specs.PassedOn.{AreBlamed, IsLoadApplied}
use Rattle.load_table.specs.declared.phase.Phase.TheVariants as phases
use Rattle.log_model.specs.declared.job.Why.TheVariants as whys
use Rattle.log_model.specs.declared.row_kind.RowKind.TheVariants as rows

-- ---- the steps that wait

-- the delta of a traversal, by the user or by a document
abbrev pub delta_in : List Asked → ReqId → Option ℤ
delta_in asked req = option_and_then (λ (q : Asked). delta_of q.what) (request_in asked req)

-- the step of the queue is the traversal of the request
abbrev pub IsStepOf : List Asked → ReqId → QueueStep → Type 0
IsStepOf asked req (Traverse nr delta) = (nr ≡ req) × (delta_in asked req ≡ Some delta)
IsStepOf asked req _ = ⊥

-- the steps are those of the requests, in order
abbrev pub AreStepsOf : List Asked → List ReqId → List QueueStep → Type 0
AreStepsOf asked [] [] = Unit {0}
AreStepsOf asked (req ∷ joined) (step ∷ steps) = IsStepOf asked req step × AreStepsOf asked joined steps
AreStepsOf asked _ _ = ⊥

-- the request is the first that joined, and the steps are those behind it
pub record IsAheadOf (s : Seen) (req : ReqId) (steps : List QueueStep) : Type 0 where
  pub rest : List ReqId
  pub joined : s.joined ≡ req ∷ rest
  pub steps_ : AreStepsOf s.requests rest steps

-- the traversals that joined: all, or those behind the one that runs
abbrev pub HaveJoined : Seen → Option ReqId → List QueueStep → Type 0
HaveJoined s None steps = AreStepsOf s.requests s.joined steps
HaveJoined s (Some run) steps = IsAheadOf s run steps

-- a traversal's
abbrev pub is_traverse : QueueStep → Bool
is_traverse (Traverse req delta) = true
is_traverse _ = false

-- no reload's
abbrev pub IsOfTab : QueueStep → Type 0
IsOfTab (Reload req nav) = ⊥
IsOfTab _ = Unit {0}

-- for each ongoing load whose document is there a step waits
abbrev pub AwaitTurns : Seen → List QueueStep → Type 0
AwaitTurns s waiting =
    (req : ReqId) (q : Asked) (nav : NavId) → request_of s req ≡ Some q → is_ready_load s q ≡ true → loads nav q.what ≡ true → Has waiting (Ready req nav)

-- the traversals among the steps are those that joined, in order; a step waits for each ready load; and none is a reload's. A step of a load that has ended may wait on
pub record HasQueue (s : Seen) (run : Option ReqId) (waiting : List QueueStep) : Type 0 where
  pub traversals : HaveJoined s run (filter is_traverse waiting)
  pub ready : AwaitTurns s waiting
  pub steps : (step : QueueStep) → Has waiting step → IsOfTab step

-- ---- what leaves it

-- the request is a load of the navigable that is ready
pub record IsReadyLoadOf (s : Seen) (req : ReqId) (nav : NavId) : Type 0 where
  pub q : Asked
  pub at : request_of s req ≡ Some q
  pub ready : is_ready_load s q ≡ true
  pub its : loads nav q.what ≡ true

-- the same requests have joined, each asks what it asked, and each load that is ready then was so
pub record LeavesQueue (s t : Seen) : Type 0 where
  pub joined : t.joined ≡ s.joined
  pub whats : SameReads (λ (q : Asked). q.what) s.requests t.requests
  pub ready : (req : ReqId) (nav : NavId) → IsReadyLoadOf t req nav → IsReadyLoadOf s req nav

-- ---- once steps have had their turns

-- how calm the tab is then: but for the navigable of the load that the request is, which was just applied, and those below, or for whom the traversal has moved
abbrev pub IsCalmFor : Option ReqId → ReqId → Seen → Type 0
IsCalmFor None req s = (at : NavId) × (IsCalmAround s at × IsLoadApplied s at req)
IsCalmFor (Some run) req s = UnmovedAreHere s × AreRooted s

-- a pass may follow, for the request that has begun or was applied; and ongoing loads live on
pub record MayFollow (e : InEvent) (run : Option ReqId) (blame : List (StateId × ReqId)) (req : ReqId) (s : Seen) : Type 0 where
  pub open_ : IsOpen e run (whys.Req req) s
  pub loads : MayStand run s
  pub blamed : AreBlamed s blame
  pub calm : IsCalmFor run req s
  pub live : LoadsLive s

-- no traversal runs, and all is as after a pass
pub record IsAtRest (e : InEvent) (run : Option ReqId) (blame : List (StateId × ReqId)) (s : Seen) : Type 0 where
  pub idle : run ≡ None
  pub passed : HasPassed e s
  pub strays : AreLeftStrays s blame
  pub loading : LoadsHaveDocuments s

-- all stand at the current step, and orders may be for whom they might before
pub record IsPassedOver (s n : Seen) : Type 0 where
  pub stand : all_stand n n.history.current ≡ true
  pub causes : (why : Why) → MayCause s why → MayCause n why

-- ---- as the table tells

-- the document is there
abbrev pub is_there : Phase → Bool
is_there (phases.Ready doc) = true
is_there _ = false

-- the request is the navigable's ongoing load, and its document is there
abbrev pub is_ready_in : List Load → NavId → ReqId → Bool
is_ready_in table nav req = holds (λ (load : Load). load.req.0 == req.0 && is_there load.phase) (ongoing_load nav table)

-- that load; another one where there is none
abbrev pub load_in : List Load → NavId → ReqId → Load
load_in table nav req =
    option_map_or (λ (load : Load). load) (ongoing_load nav table) (record { req = req; nav = nav; address = []; replace = false; state = record { 0 = 0 }; phase = phases.Asking })

-- the step's turn is due: that of a load is where it is ready, any other's always
abbrev pub is_due_in : List Load → QueueStep → Bool
is_due_in table (Ready req nav) = is_ready_in table nav req
is_due_in table (Traverse req delta) = true
is_due_in table (Reload req nav) = true

-- none of these steps is due
abbrev pub AreUndue : List Load → List QueueStep → Type 0
AreUndue table steps = (step : QueueStep) → Has steps step → is_due_in table step ≡ false

-- the step is the first that is due, and these wait behind it
pub record IsFirstDue (table : List Load) (waiting : List QueueStep) (step : QueueStep) (rest : List QueueStep) : Type 0 where
  pub before : List QueueStep
  pub whole : waiting ≡ before ++ step ∷ rest
  pub undue : AreUndue table before
  pub due : is_due_in table step ≡ true

-- ---- what is put out

-- the row begins, applies or ends a request
abbrev pub IsOfTurn : RowKind → Type 0
IsOfTurn (rows.Started req goal) = Unit {0}
IsOfTurn (rows.Applied req change) = Unit {0}
IsOfTurn (rows.Refused req reason) = Unit {0}
IsOfTurn (rows.Dropped req cause) = Unit {0}
IsOfTurn _ = ⊥

-- the rows that were put out are such rows, behind those that were there
pub record HasGrown (was out : List RowKind) : Type 0 where
  pub more : List RowKind
  pub is : out ≡ was ++ more
  pub each : (row : RowKind) → Has more row → IsOfTurn row

-- so it is, where no load begins among them, and of each request that is applied the navigable is in need then, since that load was applied last
pub record LeavesInNeed (e : InEvent) (old new : List RowKind) : Type 0 where
  pub grown : HasGrown old new
  pub begins : (req : ReqId) (goal : Option Step) → Has grown.more (rows.Started req goal) → is_load_request (now_of e old) req ≡ false
  pub needs : (req : ReqId) (change : Change) → Has grown.more (rows.Applied req change) → (nav : NavId) × ((nav_of_change change ≡ Some nav) × IsLoadApplied (now_of e new) nav req)

-- ---- whose turn is next

-- nothing was done: not all stand at the current step, or no step waits
pub record HasRested (e : InEvent) (t u : Tables) (was blame : List (StateId × ReqId)) (old new : List RowKind) (waiting : List QueueStep) : Type 0 where
  pub out : new ≡ old
  pub tables : u ≡ t
  pub noted : blame ≡ was
  pub why : (all_stand (now_of e old) (now_of e old).history.current ≡ false) ⊎ (waiting ≡ [])

-- whom a traversal by the delta asks, as the tables tell: nobody where it leads nowhere
abbrev pub asked_by : List (DocId × ℕ) → Tables → ℤ → List Question
asked_by slots t delta =
    option_map_or (λ (step : ℕ). traverse_questions slots (history_held t.store).rows step t.tree) (step_by (history_held t.store) delta) []

-- some are asked
abbrev pub are_asked_by : List (DocId × ℕ) → Tables → ℤ → Bool
are_asked_by slots t delta = is_some (slice_get (asked_by slots t delta) 0)

-- a traversal's step is the first that waits, and as it begins it is to ask somebody in the log itself, to go to the step that its delta leads to
pub record IsToAsk (e : InEvent) (out : List RowKind) (waiting : List QueueStep) (req : ReqId) : Type 0 where
  pub delta : ℤ
  pub rest : List QueueStep
  pub front : waiting ≡ Traverse req delta ∷ rest
  pub goal : Step
  pub there : step_at_delta (now_of e out) delta ≡ Some goal.0
  pub q : Asked
  pub at : request_of (log_of e out) req ≡ Some q
  pub asks : is_some (slice_get (due_questions (log_of e out) q.what (Some goal)) 0) ≡ true

-- so it is, and nothing was done
pub record WaitsToAsk (e : InEvent) (t u : Tables) (was blame : List (StateId × ReqId)) (old new : List RowKind) (waiting : List QueueStep) (req : ReqId) : Type 0 where
  pub out : new ≡ old
  pub tables : u ≡ t
  pub noted : blame ≡ was
  pub first : IsToAsk e old waiting req

-- the request was applied by the next row
pub record IsAppliedNext (old new : List RowKind) (req : ReqId) : Type 0 where
  pub change : Change
  pub later : List RowKind
  pub is : new ≡ old ++ rows.Applied req change ∷ later

-- whose turn it was: the traversal that runs now, or, where none does, the load that was applied
abbrev pub HadTurn : List RowKind → List RowKind → ReqId → Option ReqId → Type 0
HadTurn old new req None = IsAppliedNext old new req
HadTurn old new req (Some run) = run ≡ req

-- where a step had its turn, or waits to ask, all stood at the current step
abbrev pub HasStood : Seen → Turn → Type 0
HasStood s Rests = Unit {0}
HasStood s (Asks req) = all_stand s s.history.current ≡ true
HasStood s Refused = all_stand s s.history.current ≡ true
HasStood s (Went req) = all_stand s s.history.current ≡ true

-- what the turn came to: nothing was done; or the traversal whose turn it is waits to ask; or a traversal was refused, and all is as after a pass; or the request whose turn it was has begun or was applied, so that a pass may follow for it
abbrev pub CameTo : InEvent → Tables → Tables → List (StateId × ReqId) → List (StateId × ReqId) → List RowKind → List RowKind → List QueueStep → Turn → Type 0
CameTo e t u was blame old new waiting Rests = HasRested e t u was blame old new waiting
CameTo e t u was blame old new waiting (Asks req) = WaitsToAsk e t u was blame old new waiting req
CameTo e t u was blame old new waiting Refused = IsAtRest e u.running blame (now_of e new) × IsPassedOver (now_of e old) (now_of e new)
CameTo e t u was blame old new waiting (Went req) = HadTurn old new req u.running × MayFollow e u.running blame req (now_of e new)

-- where a step had its turn, fewer wait
abbrev pub FewerWait : List QueueStep → List QueueStep → Turn → Type 0
FewerWait old new Rests = Unit {0}
FewerWait old new (Asks req) = Unit {0}
FewerWait old new _ = length new < length old
