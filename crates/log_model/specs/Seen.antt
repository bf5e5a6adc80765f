-- What a log has come to: everything that a rule reads of the rows so far.
-- This project's own. The history, the documents' views and the used steps in it are the HTML Standard's, as their modules say.
use Rattle.std.specs.Prelude.{ℕ, ◌-◌, Bool, true, ◌==◌, List, [], ◌∷◌, find, slice_get, Option, None, if◌then◌else◌}
use Rattle.tab_ids.specs.declared.NavId.{NavId}
use Rattle.tab_ids.specs.declared.StateId.{StateId}
use Rattle.tab_ids.specs.declared.ProcId.{ProcId}
use Rattle.tab_ids.specs.declared.DocId.{DocId}
use Rattle.tab_ids.specs.declared.JobId.{JobId}
use Rattle.tab_ids.specs.declared.ReqId.{ReqId}
use Rattle.tab_ids.specs.declared.EntryId.{EntryId}
use Rattle.tab_ids.specs.declared.Epoch.{Epoch}
use Rattle.tab_ids.specs.declared.Step.{Step}
use Rattle.tab_ids.specs.declared.Death.{Death}
use Rattle.log_model.specs.declared.change.Change.{Change}
use Rattle.log_model.specs.declared.handler.Verdict.{Verdict}
use Rattle.log_model.specs.declared.job.Job.{Job}
use Rattle.log_model.specs.declared.job.Order.{Order}
use Rattle.log_model.specs.declared.job.Why.{Why}
use Rattle.log_model.specs.declared.made.Made.{Made}
use Rattle.log_model.specs.declared.made.Report.{Report}
use Rattle.log_model.specs.declared.outcome.Ending.{Ending}
use Rattle.log_model.specs.declared.request.Poke.{Poke}
use Rattle.log_model.specs.declared.request.Request.{Request}
use Rattle.log_model.specs.History.{History}
use Rattle.log_model.specs.Views.{View}

-- a document: where it belongs, its view while it is there, and the length and index that it was last told, if it shows no guess since
pub record Document : Type 0 where
  pub nr : DocId
  pub nav : NavId
  pub state : StateId
  pub proc : ProcId
  pub incarnation : ℕ
  pub slot : Option ℕ
  pub view : Option View
  pub told : Option (ℕ × ℕ)
  -- the report of its making was delivered
  pub is_ready : Bool
  -- that report was delivered after the last applied reload of its navigable
  pub is_fresh : Bool
  -- it was sent a Freeze, and no Activate since
  pub is_frozen : Bool
  -- it was sent a Discard
  pub is_discarded : Bool
  -- the death that ended its incarnation
  pub dead_by : Option Death
  -- the report of that death was delivered
  pub is_known_dead : Bool
  -- the number of its entry that was applied last; 0 at first
  pub last_applied : ℕ

-- the four lists of a process: the pokes of its input, its mail, the order in hand, and the reports that wait
pub record Desk : Type 0 where
  pub proc : ProcId
  pub input : List Poke
  pub mail : List Job
  pub in_hand : Option Order
  pub reports : List Report
  -- its deaths, one for each incarnation that ended
  pub killed : List Death
  -- how many of these were reported
  pub known : ℕ

-- an order that asks a document whether it may be left, the document's answer, and whether the report of it was delivered
pub record Asking : Type 0 where
  pub job : JobId
  pub doc : DocId
  pub verdict : Option Verdict
  pub is_delivered : Bool

-- a request, in the order of acceptance: how it ended, if it did
pub record Asked : Type 0 where
  pub ending : Option Ending
  pub nr : ReqId
  pub what : Request
  -- the document that is poked
  pub doc : Option DocId
  -- it began as a load, traversal or reload; a traversal's goal
  pub is_started : Bool
  pub goal : Option Step
  -- of a load that began: the document state that was numbered for it, and whether it is to replace the given entry
  pub state : Option StateId
  pub replaces : Bool
  -- the documents that navigables were awake on when it began
  pub awake_then : List DocId
  -- the orders that ask documents for it
  pub asks : List Asking
  -- the document for whose sake the user is asked, and whether the answer is to stay
  pub prompted : Option DocId
  pub answered : Option Bool
  -- what a document made of it
  pub made : Option Made
  -- the document of its fragment order, and whether the order found it not running
  pub fragment : Option DocId
  pub is_not_found : Bool
  -- its applied change, and the entries that this change took from the history
  pub change : Option Change
  pub took : List EntryId
  -- the navigables that an order for it showed a document, and those that an order for it showed one or put to sleep
  pub activated : List NavId
  pub moved : List NavId

-- a navigable is awake on a document, known lost to a death, or asleep
pub data Status : Type 0 where
  awake : DocId → Status
  lost : Status
  asleep : Status

-- the place of a navigable: how it stands, its epoch, its given entry, and why it is so
pub record Place : Type 0 where
  pub nav : NavId
  -- the navigables above it, its parent first; the document states on which it and these hang, its own first
  pub above : List NavId
  pub owners : List StateId
  pub status : Status
  pub epoch : Epoch
  pub given : Option EntryId
  pub why : Why
  -- the document that it was shown last, the order that did it, and whether the report of that was delivered
  pub last : Option DocId
  pub last_job : Option JobId
  pub is_delivered : Bool
  -- the report of such an order was ever delivered
  pub was_activated : Bool
  -- the request that added it, and the request whose change took its last rows
  pub added_by : Option ReqId
  pub taken_by : Option ReqId
  -- an applied reload of it has no later Activate; or none of a document that was made after it
  pub is_pending : Bool
  pub is_unmet : Bool
  -- the entries that it was ever given, and the documents that it was ever awake on
  pub ever_given : List EntryId
  pub ever_awake : List DocId

-- what a log has come to
pub record Seen : Type 0 where
  pub events : ℕ
  pub history : History
  pub documents : List Document
  pub desks : List Desk
  pub requests : List Asked
  pub jobs : ℕ
  -- the navigables ever made, in the order of making
  pub places : List Place
  -- the documents kept for traversal, the one left last in front
  pub kept : List DocId
  -- the traversals and reloads that joined the queue and have no outcome, in this order
  pub joined : List ReqId
  -- the requests whose reports are held back for the running traversal, in the order of delivery
  pub parked : List ReqId
  -- how many document states, entries of the coordinator and deaths were numbered
  pub states : ℕ
  pub entries : ℕ
  pub deaths : ℕ
  -- the document states whose documents are initial about:blank ones
  pub initial_states : List StateId
  -- the order that the row before finished
  pub just_finished : Option Job
  -- the reload, or load with a new document, that was applied last, and whether all navigables stood at the current step since
  pub last_step : Option ReqId
  pub has_stood : Bool

-- before any row
abbrev pub nothing : Seen
nothing =
    record {
      events = 0;
      history = record { rows = []; current = 0; added = [] };
      documents = [];
      desks = [];
      requests = [];
      jobs = 0;
      places = [];
      kept = [];
      joined = [];
      parked = [];
      states = 0;
      entries = 0;
      deaths = 0;
      initial_states = [];
      just_finished = None;
      last_step = None;
      has_stood = true;
    }

-- the document of a number
abbrev pub document_of : Seen → DocId → Option Document
document_of s doc = find (λ (d : Document). d.nr.0 == doc.0) s.documents

-- the desk of a process that no row has named
abbrev pub empty_desk : ProcId → Desk
empty_desk proc =
    record { proc = proc; input = []; mail = []; in_hand = None; reports = []; killed = []; known = 0 }

-- the desk of a process among these
abbrev pub desk_in : List Desk → ProcId → Desk
desk_in [] proc = empty_desk proc
desk_in (desk ∷ desks) proc = if desk.proc.0 == proc.0 then desk else desk_in desks proc

-- the desk of a process
abbrev pub desk_of : Seen → ProcId → Desk
desk_of s proc = desk_in s.desks proc

-- the request of a number among these; they are numbered from 1 in the order of acceptance
abbrev pub request_in : List Asked → ReqId → Option Asked
request_in asked req = if req.0 == 0 then None else slice_get asked (req.0 - 1)

-- the request of a number
abbrev pub request_of : Seen → ReqId → Option Asked
request_of s req = request_in s.requests req

-- the place of a navigable among these
abbrev pub place_in : List Place → NavId → Option Place
place_in places nav = find (λ (place : Place). place.nav.0 == nav.0) places

-- the place of a navigable: awake, lost or asleep
abbrev pub place_of : Seen → NavId → Option Place
place_of s nav = place_in s.places nav
