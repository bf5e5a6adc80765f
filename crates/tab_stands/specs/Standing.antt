-- What a coordinator of a tab with loads keeps between two events, and how an event of it begins and ends.
-- HTML Standard, "session history traversal queue", "apply the history step" and "checking if unloading is canceled"; that nobody dies in such a tab is this project's own premise.
use Rattle.tab_doors.specs.AskingLoads.{TiesAsking}
use Rattle.load_table.specs.declared.load.Load.{Load}
use Rattle.asking_facts.specs.Known.{AskingKnown}
use Rattle.checking_facts.specs.Checks.{AreInCheck}
use Rattle.leave_facts.proofs.Carried.{AreLeftDuly}
use Rattle.load_doors.specs.Logged.{IsLogged}
pub use Rattle.load_doors.specs.Logged.{IsOwnRead, seen_start}
use Rattle.tab_doors.specs.Working.{AreLawfulFor, StartsPlain}
use Rattle.unload_check.specs.Checks.{OpenCheck}
use Rattle.tab_facts.specs.Last.Lasting.{AreLasting}
use Rattle.row_facts.specs.Left.Left.{WereShown}
use Rattle.load_doors.specs.Tied.{AreTied}
use Rattle.seen_facts.specs.LoadEnds.Standing.{LoadsStand}
use Rattle.log_model.specs.After.{after}
use Rattle.log_model.specs.Seen.{Seen, nothing}
use Rattle.log_model.specs.declared.row_kind.LogRow.{LogRow}
use Rattle.log_model.specs.declared.row_kind.RowKind.{RowKind}
use Rattle.move_queue.specs.Queue.{Queue}
use Rattle.row_facts.specs.Owed.Owed.{IsLoose}
use Rattle.seen_laws.specs.Blocks.{EachPass}
use Rattle.seen_laws.specs.InEvent.{InEvent, IsTakenIn, OwesNothing, here_of, later_of, log_of, now_of, rows_of, seen_here, start_of}
use Rattle.std.specs.Prelude.{Bool, List, None, Option, [], false, length, true, ℕ, ◌++◌, ◌+◌, ◌<◌, ◌≡◌}
use Rattle.tab_settles.specs.PassedOn.{AreCounted, AreHeldUp, AreLeftStrays, AreSteps, HasQueue, InPass, IsPassing, IsTaking, LoadsMadeOwn, ParentsShown, TakersServe}
use Rattle.tab_doors.specs.declared.tables.Tables.{Tables}
use Rattle.tab_facts.specs.TabEvents.Between.{IsBetweenChecks}
use Rattle.tab_ids.specs.declared.ProcId.{ProcId}
use Rattle.tab_ids.specs.declared.ReqId.{ReqId}
use Rattle.tab_ids.specs.declared.StateId.{StateId}
use Rattle.tab_settles.specs.Settling.{HoldsParked, IsCalmAfter, MakesServe, MovedAreShown, NoneRunsWhileHeld, OrdersAreSound}
use Rattle.tab_settles.specs.Offs.{LateKnown}
use Rattle.tab_stands.specs.Checked.{ChecksStand}
use Rattle.tab_stands.specs.Offs.{AreOffKnown, AreShownUnder}
pub use Rattle.tab_settles.specs.Settling.{IsQueueing}
use Rattle.log_model.specs.declared.row_kind.Actor.TheVariants as actors
use Rattle.log_model.specs.declared.row_kind.RowKind.TheVariants as rows

-- ---- between two events

-- what lasts from event to event beside what holds between two, with this traversal running
pub record Lasts (run : Option ReqId) (s : Seen) : Type 0 where
  pub lasting : AreLasting s
  pub counted : AreCounted s
  pub steps : AreSteps s
  pub held : AreHeldUp run s
  -- who was shown last was shown, and who is above another was shown a document
  pub were : WereShown s
  pub parents : ParentsShown s
  -- orders may be for each request that took a navigable's last entries
  pub takers : TakersServe s
  -- where no traversal runs the tab is calm; where one does, whom it hasn't moved is where it is to be
  pub calm : IsCalmAfter run s
  -- who is awake, and was moved by the traversal that runs, was shown a document by it
  pub moved : MovedAreShown run s
  -- what was made of a load is a new entry, by a document of its navigable
  pub made : LoadsMadeOwn s
  -- orders on their way that make documents are for what orders may be for; nobody is asked, and documents are sent to fragments for loads of their own navigables
  pub makes : MakesServe s
  pub sound : OrdersAreSound s
  -- why a navigable that is shown may not stand
  pub off : AreOffKnown run s

-- what lasts of the log itself: it is known who is in a check, and the table tells of the loads that are; which navigables were shown a document, as their epochs tell; whom requests leave was asked; and of questions, prompts and answers it is known what is to be known
pub record LastsInLog (checking : ReqId → Bool) (table : List Load) (s : Seen) : Type 0 where
  pub checks : AreInCheck checking s
  pub asking : TiesAsking checking s table
  pub shows : AreShownUnder s
  pub duly : AreLeftDuly s
  pub known : AskingKnown s

-- what is in its unload check between two events: these loads, which are at hand, and one traversal, which holds the queue, or none
pub record InCheck : Type 0 where
  pub loads : List ReqId
  pub holds : Bool

-- nothing is
abbrev pub none_in_check : InCheck
none_in_check = record { loads = []; holds = false }

-- the coordinator's tables, its queue and the requests that are noted for stray documents stand for what the log would have come to had nobody been asked, with this in its check
pub record StandsFor (check : InCheck) (s : Seen) (t : Tables) (moves : Queue) (blame : List (StateId × ReqId)) : Type 0 where
  pub between : IsBetweenChecks t.kept.keep t.running check.loads check.holds s
  -- while a traversal in its check holds the queue, none runs
  pub alone : NoneRunsWhileHeld check.holds t.running
  pub lasts : Lasts t.running s
  pub tied : AreTied s t
  pub strays : AreLeftStrays s blame
  pub queue : HasQueue s t.running moves.waiting
  pub parked : HoldsParked s moves.parked

-- a tab that was just opened at an address, with its document in a process: what its log has come to
abbrev pub opened_at : List ℕ → ProcId → Seen
opened_at address proc =
    after nothing (record {
      event = 0;
      actor = actors.Start;
      row = rows.Opened (record { maker = 0; nr = 1 }) (record { 0 = 1 }) (record { 0 = 1 }) proc None address;
    })

-- ---- an event begins

-- nothing was put out before, so nothing is owed; nobody is in a check as the event begins, and both then and once its own row was logged the log is as it would be had nobody been asked
pub record StartsUnasked (e : InEvent) : Type 0 where
  pub uncut : e.before ≡ []
  pub undue : OwesNothing e
  pub unchecked : (req : ReqId) → e.checking req ≡ false
  pub begins : seen_here e [] ≡ here_of e []
  pub plain : StartsPlain e

-- the event's own row was logged: what is known then of the log itself, and what lasts of it; and the row passes, if what comes later has what it asks
pub record HasLogged (e : InEvent) (checks : List (ReqId × OpenCheck)) (table : List Load) : Type 0 where
  pub logged : IsLogged e checks
  pub lasts : LastsInLog e.checking table (log_of e [])
  pub lawful : AreLawfulFor None e checks []

-- there is room for the requests that an event may accept
abbrev pub HasRoomFor : Seen → Type 0
HasRoomFor s = length s.requests + 3 < 4294967296

-- the event's own row was logged, and nothing was put out yet: all goes on with what is at hand, what a document made may be taken or a load may begin, and ongoing loads stand; who is awake and was moved by the traversal that runs was shown a document by it, and who is shown and late is so for the load that was applied last
pub record HasBegun (p : InPass) (t : Tables) (queue : Queue) (blame : List (StateId × ReqId)) : Type 0 where
  pub passing : IsPassing p [] t
  pub header : t.kept.keep ≡ p.event.header.keep
  pub taking : IsTaking p.event t.running blame (now_of p.event [])
  pub loose : IsLoose p.event []
  pub stand : LoadsStand (now_of p.event [])
  pub moved : MovedAreShown t.running (now_of p.event [])
  pub theirs : LoadsMadeOwn (now_of p.event [])
  pub makes : MakesServe (now_of p.event [])
  pub late : LateKnown t.running (now_of p.event [])
  pub shows : AreShownUnder (log_of p.event [])
  pub sound : OrdersAreSound (now_of p.event [])
  pub queueing : IsQueueing p [] t queue

-- ---- an event ends

-- where the event delivers a report that is to be taken up at once, these rows take it up, whatever comes later
abbrev pub IsTakenUp : InEvent → List RowKind → Type 0
IsTakenUp e out = (later : List LogRow) → IsTakenIn e (later_of e out ++ later)

-- an event in which nobody was asked ends with these rows, each of which passes, and in which the coordinator does nothing: it stands for what the log has come to
pub record HasIdled (check : InCheck) (e : InEvent) (out : List RowKind) (t : Tables) (queue : Queue) (blame : List (StateId × ReqId)) : Type 0 where
  pub stands : StandsFor check (log_of e out) t queue blame
  pub lasts : LastsInLog e.checking t.asking (log_of e out)
  pub passes : EachPass (start_of e) (rows_of e out) []

-- the event ends with these rows, each of which passes; the coordinator stands for what the log would have come to had nobody been asked, with this in its check; what lasts of the log itself lasts, and the table of checks stands for it
pub record HasActed (check : InCheck) (e : InEvent) (out : List RowKind) (t : Tables) (queue : Queue) (blame : List (StateId × ReqId)) : Type 0 where
  pub stands : StandsFor check (now_of e out) t queue blame
  pub lasts : LastsInLog e.checking t.asking (log_of e out)
  pub asks : ChecksStand e.checking (log_of e out) t.checks
  pub passes : EachPass (start_of e) (rows_of e out) []
