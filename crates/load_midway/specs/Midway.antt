-- A load passes its unload check in the midst of an event, where it was cut: what is known there, and what is so once it has gone on.
-- HTML Standard, "navigate" and "checking if unloading is canceled". Who is in its check, the table of checks, where an event is cut, and the log without questions are this project's own.
use Rattle.load_midway.specs.Owing.{due_beside}
use Rattle.load_passed.specs.Passing.{InLoadPass, IsToMake, WasCleared, WasSettled, load_tables, passed_load}
use Rattle.load_table.specs.Loads.{ongoing_load}
use Rattle.log_model.specs.Checks.{due_prompt}
use Rattle.log_model.specs.Equal.{has_req}
use Rattle.log_model.specs.Places.{has_passed, is_ongoing_load}
use Rattle.log_model.specs.Seen.{Asked, request_of}
use Rattle.log_model.specs.declared.job.Why.{Why}
use Rattle.log_model.specs.declared.request.Mode.{Mode}
use Rattle.log_model.specs.declared.request.Request.TheVariants as requests
use Rattle.check_facts.specs.Prompting.{todo_of}
use Rattle.move_queue.specs.Queue.{Queue}
use Rattle.row_facts.specs.FrameRows.Lawful.{held_at_first}
use Rattle.row_facts.specs.Owed.Owed.{IsLoose}
use Rattle.seen_facts.specs.LoadEnds.Standing.{is_reached}
use Rattle.seen_laws.specs.InEvent.{InEvent, cut, log_of, now_of, running}
use Rattle.std.specs.Prelude.{Bool, List, None, Some, [], false, true, ℕ, ◌≡◌}
use Rattle.tab_doors.specs.declared.tables.Tables.{Tables}
use Rattle.tab_ids.specs.declared.NavId.{NavId}
use Rattle.tab_ids.specs.declared.ReqId.{ReqId}
use Rattle.tab_ids.specs.declared.StateId.{StateId}
use Rattle.tab_passed.specs.Passing.{without}
use Rattle.tab_prompts.specs.Asking.{BeginsAsked}
use Rattle.tab_settles.specs.Held.{HasCleared}
use Rattle.tab_settles.specs.Offs.{LateKnown}
use Rattle.tab_settles.specs.PassedOn.{InPass, IsPassing, LoadsLive, LoadsMadeOwn}
use Rattle.tab_settles.specs.Settling.{HasSettled, IsQueueing, MakesServe, MovedAreShown, OrdersAreSound}
use Rattle.unload_check.specs.Checks.{ended}

-- ---- before

-- behind the event's cut, where nothing more was put out: a coordinator goes on; what is known of its checks; ongoing loads live on, and what was made of one is its own; whom the traversal that runs has moved was shown a document by it, and who is shown and late is so for the load that was applied last; orders on their way are for what they may be
pub record IsCutFor (p : InPass) (t : Tables) (queue : Queue) : Type 0 where
  pub passing : IsPassing p [] t
  pub empty : p.hand ≡ []
  pub header : t.kept.keep ≡ p.event.header.keep
  pub queueing : IsQueueing p [] t queue
  pub begins : BeginsAsked p.event t.checks
  pub live : LoadsLive (now_of p.event [])
  pub theirs : LoadsMadeOwn (now_of p.event [])
  pub moved : MovedAreShown t.running (now_of p.event [])
  pub late : LateKnown t.running (now_of p.event [])
  pub makes : MakesServe (now_of p.event [])
  pub sound : OrdersAreSound (now_of p.event [])

-- a load of the navigable, with this document state, is ongoing, is in its check, and has passed it: no prompt is due, and the table notes none for it; it wasn't held back as the event began, its navigable stands with all above it, and no other load of that is ongoing
pub record IsToGoOn (e : InEvent) (t : Tables) (req : ReqId) (q : Asked) (nav : NavId) (mode : Mode) (address : List ℕ) (replace : Bool) (state : StateId) : Type 0 where
  pub at : request_of (log_of e []) req ≡ Some q
  pub what : q.what ≡ requests.Load nav mode address
  pub ongoing : is_ongoing_load q ≡ true
  pub state_is : q.state ≡ Some state
  pub replaces : replace ≡ q.replaces
  pub on : e.checking req ≡ true
  pub passed : has_passed (log_of e []) q ≡ true
  pub undue : due_prompt (log_of e []) q ≡ None
  pub unnoted : todo_of t.checks req ≡ None
  pub unheld : has_req (held_at_first e) req ≡ false
  pub reached : is_reached (now_of e []) nav ≡ true
  pub alone : ongoing_load nav t.loads ≡ None

-- ---- after

-- the event cut there, with no rows more, and the load not in its check any more
abbrev pub gone_on : InEvent → ReqId → InEvent
gone_on e req = running (cut e [] (without e.checking req) (due_beside e req)) e.ran

-- the load in it; these requests are at hand then
abbrev pub load_on : InEvent → List ReqId → Queue → List (StateId × ReqId) → ReqId → NavId → Mode → List ℕ → Bool → StateId → InLoadPass
load_on e rest queue blame req nav mode address replace state =
    record {
      event = gone_on e req;
      before = now_of e [];
      loads = rest;
      req = req;
      nav = nav;
      mode = mode;
      address = address;
      replace = replace;
      state = state;
      queue = queue;
      noted = blame;
    }

-- it has gone on, and its document is to be made; what is known of the event's checks is so anew; nothing is owed that later rows could undo, if that was so; and the tab is as it was: at rest, or up to the walk of a pass
pub record HasGoneOn (l : InLoadPass) (p : InPass) (t : Tables) : Type 0 where
  pub make : IsToMake l (load_tables t (passed_load l) (ended l.req t.checks))
  pub begins : BeginsAsked l.event (ended l.req t.checks)
  pub loose : IsLoose p.event [] → IsLoose l.event []
  pub settled : (cause : Why) → HasSettled p [] t l.queue l.noted cause → WasSettled l t.running
  pub cleared : (cause : Why) → HasCleared false p [] t l.queue l.noted cause → WasCleared l t.running cause
