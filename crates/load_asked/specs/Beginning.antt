-- A load that is to ask begins, and asks: it is in its unload check from then on, and the event is cut behind its questions.
-- HTML Standard, "navigate", "checking if unloading is canceled" and "Navigables" ("ongoing navigation"). Who is in its check, its table, the cut, and the log without questions are this project's own.
use Rattle.asking_facts.specs.Asking.{AreQuestions, begun_asking}
use Rattle.asking_facts.specs.Known.{AskingKnown}
use Rattle.load_table.specs.Loads.{begun, ongoing_load}
use Rattle.load_table.specs.declared.load.Load.{Load}
use Rattle.load_table.specs.declared.phase.Phase.TheVariants as phases
use Rattle.log_model.specs.AfterRequests.{load_replaces}
use Rattle.log_model.specs.Orders.{Question, due_questions}
use Rattle.log_model.specs.declared.job.Job.{Job}
use Rattle.log_model.specs.declared.job.Why.TheVariants as whys
use Rattle.log_model.specs.declared.request.Request.TheVariants as requests
use Rattle.log_model.specs.declared.request.Request.{Request}
use Rattle.log_model.specs.declared.row_kind.RowKind.{RowKind}
use Rattle.row_facts.specs.Owed.Owed.{owes_seen}
use Rattle.seen_facts.specs.LoadEnds.Standing.{is_reached}
use Rattle.seen_laws.specs.InEvent.{InEvent, cut, log_of, now_of}
use Rattle.std.specs.Prelude.{Bool, List, None, [], true, ℕ, ◌+◌, ◌∷◌, ◌≡◌}
use Rattle.tab_asked.specs.Asked.{entered_by}
use Rattle.tab_doors.specs.declared.tables.Tables.{Tables}
use Rattle.tab_ids.specs.declared.NavId.{NavId}
use Rattle.tab_ids.specs.declared.ReqId.{ReqId}
use Rattle.tab_loads.specs.Asking.{InLoad, first_of}
use Rattle.tab_loads.specs.Loading.{IsLoadAsk, IsToAsk}
use Rattle.tab_prompts.specs.Asking.{BeginsAsked}
use Rattle.tab_settles.specs.PassedOn.{InPass}
use Rattle.tab_settles.specs.Settling.{IsReady}
use Rattle.tab_stands.specs.GoingOn.{GoesOn}
use Rattle.unasked.proofs.Whole.{silent}

-- ---- before it begins

-- the load was accepted by the event and is to ask somebody; nothing was put out, and a pass may follow with it at hand; no load of its navigable is ongoing, in its check or past it; and what is known of checks and prompts as the event began is so
pub record IsToBegin (l : InLoad) (t : Tables) : Type 0 where
  pub asks : IsLoadAsk l.event l.req l.nav l.mode l.address
  pub came : IsToAsk l.event l.nav l.mode l.address []
  pub ready : IsReady (first_of l) [] t l.queue l.noted whys.Start
  pub alone : ongoing_load l.nav t.loads ≡ None
  pub unasked : ongoing_load l.nav t.asking ≡ None
  pub begins : BeginsAsked l.event t.checks
  pub known : AskingKnown (log_of l.event [])

-- ---- what is put out

-- what the user asked for
abbrev pub what_of : InLoad → Request
what_of l = requests.Load l.nav l.mode l.address

-- whom it asks
abbrev pub due_of : InLoad → List Question
due_of l = due_questions (log_of l.event []) (what_of l) None

-- the event cut where the load has begun and these orders were sent, with the load in its check
abbrev pub then_begun : InLoad → List Job → InEvent
then_begun l jobs =
    cut l.event (begun_asking l.req None jobs) (entered_by l.event.checking l.req) (owes_seen l.event [])

-- a pass of that event, with the load at hand still
abbrev pub pass_then : InLoad → List Job → InPass
pass_then l jobs = record { event = then_begun l jobs; loads = l.req ∷ l.loads; hand = [] }

-- ---- the tables then

-- a load in its check, with this document state
abbrev pub asking_load : ReqId → NavId → List ℕ → Bool → ℕ → Load
asking_load req nav address replace state =
    record { req = req; nav = nav; address = address; replace = replace; state = record { 0 = state }; phase = phases.Asking }

-- the load is among those in their checks, and one more document state was numbered
abbrev pub entered_tables : Tables → Load → Tables
entered_tables t load = record t { states = t.states + 1; asking = begun load t.asking }

-- its own, where one before it is replaced or isn't
abbrev pub own_load : InLoad → Load
own_load l =
    asking_load l.req l.nav l.address (load_replaces (now_of l.event []) (what_of l)) ((log_of l.event []).states + 1)

-- orders were counted, the load is among those in their checks, and the table of checks changed
pub record HasOnlyAsked (l : InLoad) (t u : Tables) : Type 0 where
  pub tables : u ≡ record (entered_tables t (own_load l)) { sent = u.sent; checks = u.checks }

-- ---- it has begun, and asked

-- its row was put out, and an order for each question; the event goes on behind them, with the load in its check and at hand still, and a pass may follow; what is known of checks and prompts is so anew; of the log without questions no more changed than the event's number, that no order was just finished, and how many orders and document states there are; the load's navigable stands with all above it; and the tables have it
pub record HasAsked (l : InLoad) (t u : Tables) (out : List RowKind) : Type 0 where
  pub jobs : List Job
  pub are : AreQuestions (log_of l.event []) l.req (due_of l) jobs
  pub is : out ≡ begun_asking l.req None jobs
  pub goes : GoesOn l.event (begun_asking l.req None jobs) (then_begun l jobs)
  pub ready : IsReady (pass_then l jobs) [] u l.queue l.noted whys.Start
  pub begins : BeginsAsked (then_begun l jobs) u.checks
  pub known : AskingKnown (log_of (then_begun l jobs) [])
  pub seen : now_of (then_begun l jobs) [] ≡ silent (now_of l.event []) l.event.event (log_of (then_begun l jobs) []).jobs (log_of (then_begun l jobs) []).states
  pub reached : is_reached (now_of (then_begun l jobs) []) l.nav ≡ true
  pub only : HasOnlyAsked l t u
