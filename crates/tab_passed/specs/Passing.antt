-- A traversal passes its unload check by an event's own row: the user leaves, or the last answer is delivered and no document wants a prompt.
-- HTML Standard, "checking if unloading is canceled" and "traverse the history by a delta". Who is in its check, the table of checks, and the log without questions are this project's own.
use Rattle.checking_facts.specs.Checks.{SameBut}
use Rattle.checking_facts.specs.Prompts.{AreAskedDuly, told_by}
use Rattle.load_table.specs.declared.load.Load.{Load}
use Rattle.log_model.specs.After.{has_stood_now}
use Rattle.log_model.specs.Places.{is_traversal}
use Rattle.log_model.specs.Seen.{Asked, Seen, request_of}
use Rattle.log_model.specs.declared.job.Why.TheVariants as whys
use Rattle.log_model.specs.declared.request.Request.{Request}
use Rattle.log_model.specs.declared.row_kind.LogRow.{LogRow}
use Rattle.move_queue.specs.Queue.{Queue}
use Rattle.move_queue.specs.declared.queue_step.QueueStep.{QueueStep}
use Rattle.move_queue.specs.declared.queue_step.QueueStep.TheVariants.{Traverse}
use Rattle.seen_laws.specs.InEvent.{InEvent, IsTakenIn, OwesNothing, log_of, now_of}
use Rattle.seen_laws.specs.Sending.{leads}
use Rattle.std.specs.Prelude.{Bool, List, None, Some, [], false, not, true, ℤ, ◌&&◌, ◌==◌, ◌∷◌, ◌≡◌}
use Rattle.tab_answers.proofs.Stood.{quieted}
use Rattle.tab_doors.specs.AskingLoads.{TiesAsking}
use Rattle.tab_doors.specs.Working.{AreLawfulFor, IsWorker}
use Rattle.tab_doors.specs.declared.tables.Tables.{Tables}
use Rattle.tab_ids.specs.declared.ReqId.{ReqId}
use Rattle.tab_ids.specs.declared.Step.{Step}
use Rattle.tab_stands.specs.Standing.{LastsInLog, seen_start}
use Rattle.unasked_dues.specs.Checking.{AreNumbered, NoStepChecks, NonePasses}
use Rattle.unload_check.specs.Checks.{OpenCheck}
use Rattle.row_facts.specs.Owed.Owed.{IsLoose}
use Rattle.tab_ids.specs.declared.StateId.{StateId}
use Rattle.tab_settles.specs.Settling.{OrdersAreSound}
use Rattle.tab_stands.specs.PassedOn.{IsReady, MakesServe}

-- ---- who passes

-- the request was in its check as the event began, and isn't any more; each other one is in its check, or isn't, as it was
pub record PassesCheck (was : ReqId → Bool) (e : InEvent) (req : ReqId) (q : Asked) : Type 0 where
  pub at : request_of e.start req ≡ Some q
  pub on : was req ≡ true
  pub off : e.checking req ≡ false
  pub same : SameBut req was e.checking

-- it is a traversal with this goal
pub record IsToPass (was : ReqId → Bool) (e : InEvent) (req : ReqId) (q : Asked) (goal : Step) : Type 0 where
  pub passes : PassesCheck was e req q
  pub goes : is_traversal q.what ≡ true
  pub to : q.goal ≡ Some goal

-- the table of loads in their checks is this one once the request, which asks for this, isn't in its check any more, whatever the log has come to
abbrev pub LeavesAsking : (ReqId → Bool) → (ReqId → Bool) → ReqId → Request → List Load → List Load → Type 0
LeavesAsking was checking req what table next =
    (s : Seen) → ((q : Asked) → request_of s req ≡ Some q → q.what ≡ what) → TiesAsking was s table → TiesAsking checking s next

-- those in their check but for this one
abbrev pub without : (ReqId → Bool) → ReqId → ReqId → Bool
without was req r = not (r.0 == req.0) && was r

-- ---- what the own row leaves

-- the log without questions, as an own row leaves it that isn't seen there
abbrev pub start_quiet : InEvent → Seen
start_quiet e = quieted (seen_start e) e.event (has_stood_now (seen_start e).has_stood (seen_start e))

-- nothing was put out before, so nothing is owed; as the event began requests had their numbers; a row that may stand first was logged, which isn't seen in the log without questions; what lasts of the log itself lasts, no traversal in its check has passed, and a table with these checks stands for that; and the row passes, if what comes later has what it asks, which is nothing that takes a report up
pub record HasPassedBy (e : InEvent) (checks : List (ReqId × OpenCheck)) (table : List Load) : Type 0 where
  pub uncut : e.before ≡ []
  pub undue : OwesNothing e
  pub numbered : AreNumbered e.start
  pub led : leads e.own ≡ true
  pub worker : IsWorker e.actor
  pub unseen : now_of e [] ≡ start_quiet e
  pub lasts : LastsInLog e.checking table (log_of e [])
  pub calm : NonePasses e.checking (log_of e [])
  pub asked : AreAskedDuly e.checking e.start (log_of e []) (told_by e.ran checks [])
  pub lawful : AreLawfulFor None e checks []
  pub takes : (later : List LogRow) → IsTakenIn e later

-- ---- the tables and the queue then

-- the traversal runs, to its goal, and the table of checks is this one
abbrev pub passed_tables : Tables → ReqId → Step → List (ReqId × OpenCheck) → Tables
passed_tables t req goal checks = record t { running = Some req; goal = goal; checks = checks }

-- its step waits first, before these
abbrev pub IsInFront : Queue → ReqId → ℤ → List QueueStep → Type 0
IsInFront queue req delta rest = queue.waiting ≡ Traverse req delta ∷ rest

-- ---- a pass may follow

-- the traversal is past its check: a pass may follow for it, of the tables with it running and of the queue without its step; no step under way is in its check any more, nothing is owed, and orders on their way are for what they may be
pub record IsPastCheck (e : InEvent) (loads : List ReqId) (u : Tables) (queue : Queue) (blame : List (StateId × ReqId)) (req : ReqId) : Type 0 where
  pub own : HasPassedBy e u.checks u.asking
  pub free : NoStepChecks e.checking (log_of e [])
  pub ready : IsReady (record { event = e; loads = loads; hand = [] }) [] u queue blame (whys.Req req)
  pub loose : IsLoose e []
  pub makes : MakesServe (now_of e [])
  pub sound : OrdersAreSound (now_of e [])
