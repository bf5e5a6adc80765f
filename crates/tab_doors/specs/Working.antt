-- A coordinator that works in an event: its tables stand for what the log has come to, and the rows so far pass.
-- This project's own.
use Rattle.unasked_dues.specs.Checking.{AreNumbered, NoStepChecks, NonePasses}
use Rattle.unasked_dues.specs.Reading.{AreDebts, BeginSole, WereRead}
use Rattle.checking_facts.specs.Checks.{AreInCheck}
use Rattle.tab_doors.specs.AskingLoads.{TiesAsking}
use Rattle.tab_doors.specs.Look.{Look, look_of}
use Rattle.tab_doors.specs.Keeping.{Move, kept_in}
use Rattle.tab_doors.specs.Ties.{AreInitial, Holds, IsRunning}
use Rattle.tab_doors.specs.declared.tables.Tables.{Tables}
use Rattle.checking_facts.specs.Prompts.{AreAskedDuly, EachEndsOff, PassIf, PromptsFor, noted_by, told_by}
use Rattle.unload_check.specs.Checks.{OpenCheck}
use Rattle.seen_facts.specs.Kept.Keeping.{kept_states}
use Rattle.seen_facts.specs.LoadTies.Tying.{TiesLoads}
use Rattle.log_model.specs.Seen.{Asked, request_in, Seen}
use Rattle.log_model.specs.declared.job.Job.{Job}
use Rattle.log_model.specs.declared.job.Task.{Task}
use Rattle.log_model.specs.declared.row_kind.Actor.{Actor}
use Rattle.log_model.specs.declared.row_kind.LogRow.{LogRow}
use Rattle.log_model.specs.declared.row_kind.RowKind.{RowKind}
use Rattle.seen_laws.specs.Blocks.{MayLog}
use Rattle.seen_laws.specs.InEvent.{AreAsWanted, EachGoes, InEvent, here_of, log_of, now_of, row_of}
use Rattle.seen_laws.specs.Sending.{leads}
use Rattle.std.specs.Prelude.{Bool, List, None, Option, Some, [], false, length, true, ◌+◌, ◌∷◌, ◌≡◌, ◌≤◌}
use Rattle.tab_ids.specs.declared.DocId.{DocId}
use Rattle.tab_ids.specs.declared.ReqId.{ReqId}
use Rattle.tab_ids.specs.declared.Step.{Step}
use Rattle.log_model.specs.declared.job.Task.TheVariants as tasks
use Rattle.log_model.specs.declared.row_kind.Actor.TheVariants as actors
use Rattle.log_model.specs.declared.row_kind.RowKind.TheVariants as rows

-- what the log has come to, as the tables tell of it
abbrev pub look_now : InEvent → List RowKind → Option ReqId → Look
look_now e out run = look_of (now_of e out) run

-- the user or the coordinator acts
abbrev pub IsWorker : Actor → Type 0
IsWorker actors.Ui = Unit {0}
IsWorker actors.Coord = Unit {0}
IsWorker _ = ⊥

-- the traversal that runs leads to this step
abbrev pub HasGoal : List Asked → Option ReqId → Step → Type 0
HasGoal asked run goal = (req : ReqId) (q : Asked) → run ≡ Some req → request_in asked req ≡ Some q → q.goal ≡ Some goal

-- ---- what is still to come in a move

-- the document that a row shows, if it is an order that shows one
abbrev pub shown_by : RowKind → Option DocId
shown_by (rows.Sent job) = by_task job.doc job.task
  where
    by_task : DocId → Task → Option DocId
    by_task doc (tasks.Activate entry epoch length index memo address) = Some doc
    by_task doc _ = None
shown_by _ = None

-- that of the first of these rows that shows one
abbrev pub next_shown : List LogRow → Option DocId
next_shown [] = None
next_shown (row ∷ later) = first (shown_by row.row) (next_shown later)
  where
    first : Option DocId → Option DocId → Option DocId
    first (Some doc) later = Some doc
    first None later = later

-- where a move to a document has begun, the next document that is shown is that one
abbrev pub IsAhead : Option Move → List LogRow → Type 0
IsAhead None later = Unit {0}
IsAhead (Some move) later = next_shown later ≡ Some move.doc

-- what is to come behind these rows: it has what is ahead, and with them it is as the rows before the cut want it
abbrev pub IsToCome : Option Move → InEvent → List RowKind → List LogRow → Type 0
IsToCome move e out later = IsAhead move later × AreAsWanted e out later

-- the own row and those put out so far pass each test, whatever comes later, as long as it is what is to come, and prompts as it is due by a table that had these checks before the first of them
abbrev pub AreLawfulFor : Option Move → InEvent → List (ReqId × OpenCheck) → List RowKind → Type 0
AreLawfulFor move e checks out = PassIf (IsToCome move e out) e (noted_by e.ran checks out) out

-- the order may be sent here, as long as what comes later has what is ahead, and the prompts that the order makes due
abbrev pub MaySend : Option Move → InEvent → List RowKind → Job → Type 0
MaySend move e out job = MayLog (here_of e out) (row_of e (rows.Sent job) ∷ []) (λ later. IsAhead move later × PromptsFor e out (rows.Sent job) later)

-- as the event's own row was logged nobody had been asked
abbrev pub StartsPlain : InEvent → Type 0
StartsPlain e = log_of e [] ≡ now_of e []

-- the aim may be read off: no traversal in its check has passed. While documents are swept that is let go
abbrev pub IsCalmIn : Bool → (ReqId → Bool) → Seen → Type 0
IsCalmIn false checking s = NonePasses checking s
IsCalmIn true checking s = Unit {0}

-- a document may be discarded: no step under way was in its check as the event began or was cut, unless documents are swept
abbrev pub MayDiscardIn : Bool → InEvent → Type 0
MayDiscardIn false e = NoStepChecks e.checking (log_of e [])
MayDiscardIn true e = Unit {0}

-- ---- all of it, where a move has begun, or none has, and where documents are swept, or none are

pub record IsAtWorkIn (sweeps : Bool) (move : Option Move) (e : InEvent) (out : List RowKind) (t : Tables) : Type 0 where
  pub own : leads e.own ≡ true
  pub worker : IsWorker e.actor
  -- each row is seen in the log without questions, and read off; as the event began, and after each row, requests had their numbers, and whoever isn't in its check had passed
  pub goes : EachGoes e [] out
  pub numbered : AreNumbered e.start
  pub read : WereRead e out
  -- each load that began among the rows is the only one of its navigable; and what those before the cut owe is paid in the log if it is in the log without questions
  pub sole : BeginSole e out (log_of e out)
  pub debts : AreDebts e
  -- it is known who is in a check, and of those who hasn't passed; no step under way is, if none was as the event began or was cut
  pub checks : AreInCheck e.checking (log_of e out)
  pub calm : IsCalmIn sweeps e.checking (log_of e out)
  pub unheld : NoStepChecks e.checking (log_of e []) → NoStepChecks e.checking (log_of e out)
  -- none of the rows refuses a request in its check; one may be dropped in it
  pub off : EachEndsOff e.checking out
  pub holds : Holds (look_now e out t.running) t
  pub runs : IsRunning (now_of e out).requests t.running
  pub goal : HasGoal (now_of e out).requests t.running t.goal
  -- each document but the first was made by an order
  pub few : length (now_of e out).documents ≤ (now_of e out).jobs + 1
  pub initial : AreInitial (now_of e out).initial_states t.initial.entries
  pub loads : TiesLoads (now_of e out) t.loads
  -- and those in their checks, of the log itself, in which they have begun
  pub asking : TiesAsking e.checking (log_of e out) t.asking
  pub kept : t.kept.states ≡ kept_in move t.kept.keep (kept_states (now_of e out))
  -- the table of checks holds those of the requests in their check, told of the documents that the rows discarded; and the rows pass, if the prompts come that are due
  pub asked : AreAskedDuly e.checking e.start (log_of e out) (told_by e.ran t.checks out)
  pub lawful : AreLawfulFor move e t.checks out

-- where none are
abbrev pub IsAtWorkFor : Option Move → InEvent → List RowKind → Tables → Type 0
IsAtWorkFor move e out t = IsAtWorkIn false move e out t

-- where none has
abbrev pub IsAtWork : InEvent → List RowKind → Tables → Type 0
IsAtWork e out t = IsAtWorkFor None e out t

-- an event, and whether documents are swept in it
pub record InSweep : Type 0 where
  pub event : InEvent
  pub sweeps : Bool

-- ---- what a door leaves as it was

-- the store, the traversal that runs, how many documents may be kept, and the unload checks are as they were
pub record KeepsStore (t u : Tables) : Type 0 where
  pub store : u.store ≡ t.store
  pub running : u.running ≡ t.running
  pub goal : u.goal ≡ t.goal
  pub keep : u.kept.keep ≡ t.kept.keep
  pub checks : u.checks ≡ t.checks

-- the traversal that runs is as it was, and so are how many documents may be kept, and the unload checks
pub record KeepsRun (t u : Tables) : Type 0 where
  pub running : u.running ≡ t.running
  pub goal : u.goal ≡ t.goal
  pub keep : u.kept.keep ≡ t.kept.keep
  pub checks : u.checks ≡ t.checks
