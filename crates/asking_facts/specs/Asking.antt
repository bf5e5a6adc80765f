-- A request that begins, and whom it asks: the orders of its questions, and the table of checks once they were sent.
-- HTML Standard, "checking if unloading is canceled" and "traverse the history by a delta". That all are asked at once, in the order of the walk, and the table are this project's own.
use Rattle.std.specs.Prelude.{◌≡◌, ℕ, ℤ, ◌+◌, true, false, ◌||◌, List, [], ◌∷◌, map, Option, Some, None}
use Rattle.std.specs.List.{list_all}
use Rattle.tab_ids.specs.declared.NavId.{NavId}
use Rattle.tab_ids.specs.declared.ReqId.{ReqId}
use Rattle.tab_ids.specs.declared.Step.{Step}
use Rattle.log_model.specs.declared.job.Job.{Job}
use Rattle.log_model.specs.declared.job.Task.{Task}
use Rattle.log_model.specs.declared.job.Task.TheVariants as tasks
use Rattle.log_model.specs.declared.job.Why.TheVariants as whys
use Rattle.log_model.specs.declared.request.Mode.{Mode}
use Rattle.log_model.specs.declared.request.Request.TheVariants as requests
use Rattle.log_model.specs.declared.row_kind.LogRow.{LogRow}
use Rattle.log_model.specs.declared.row_kind.RowKind.{RowKind}
use Rattle.log_model.specs.declared.row_kind.RowKind.TheVariants as rows
use Rattle.log_model.specs.Causes.{denial_of_reload, may_begin_here}
use Rattle.log_model.specs.History.{has_row}
use Rattle.log_model.specs.Equal.{implies}
use Rattle.log_model.specs.Once.{delta_of, may_begin_request, step_at_delta}
use Rattle.log_model.specs.Orders.{Question, due_questions}
use Rattle.log_model.specs.Places.{aim_of, is_placed, is_reload, is_traversal, way_to}
use Rattle.log_model.specs.Points.{is_accepted_here}
use Rattle.log_model.specs.Queue.{begins_in_turn}
use Rattle.log_model.specs.Seen.{Asked, Asking, Document, Place, Seen, desk_of, place_of, request_of}
use Rattle.unload_check.specs.Checks.{OpenCheck, after_all_deaths, begun, opened}
use Rattle.seen_laws.specs.Blocks.{Here, point_at}
use Rattle.seen_laws.specs.Owing.{Pays}
use Rattle.seen_laws.specs.Sending.{IsTo}
use Rattle.row_facts.specs.LoadRows.Beginning.{is_to_fragment}
use Rattle.checking_facts.specs.Prompts.{Told}

-- ---- the questions

-- the order asks the question for the request: it has this number, and goes to the document, which isn't gone, in its process, in the incarnation that is known
pub record IsQuestion (s : Seen) (req : ReqId) (number : ℕ) (question : Question) (job : Job) : Type 0 where
  pub nr : job.nr.0 ≡ number
  pub doc : job.doc ≡ question.0
  pub task : job.task ≡ tasks.Ask question.1 question.2
  pub why : job.why ≡ whys.Req req
  pub incarnation : job.incarnation ≡ (desk_of s job.proc).known
  pub document : Document
  pub to : IsTo s job document

-- the orders ask these questions, one after the other, from this number on
abbrev pub AreQuestionsFrom : Seen → ReqId → ℕ → List Question → List Job → Type 0
AreQuestionsFrom s req number [] [] = Unit {0}
AreQuestionsFrom s req number (question ∷ questions) (job ∷ jobs) =
    IsQuestion s req number question job × AreQuestionsFrom s req (number + 1) questions jobs
AreQuestionsFrom s req number _ _ = ⊥

-- from the next number on
abbrev pub AreQuestions : Seen → ReqId → List Question → List Job → Type 0
AreQuestions s req questions jobs = AreQuestionsFrom s req (s.jobs + 1) questions jobs

-- somebody is asked
abbrev pub AreSome : List Question → Type 0
AreSome [] = ⊥
AreSome (question ∷ questions) = Unit {0}

-- the rows that send them, and with that of the request that begins
abbrev pub questions_sent : List Job → List RowKind
questions_sent jobs = map (λ (job : Job). rows.Sent job) jobs

abbrev pub begun_asking : ReqId → Option Step → List Job → List RowKind
begun_asking req goal jobs = rows.Started req goal ∷ questions_sent jobs

-- ---- the request that begins

-- a request that begins asks these questions; it hasn't begun, is open, and asked nobody
pub record BeginsToAsk (s : Seen) (req : ReqId) (goal : Option Step) (questions : List Question) (q : Asked) : Type 0 where
  pub at : request_of s req ≡ Some q
  pub unstarted : q.is_started ≡ false
  pub open_ : q.ending ≡ None
  pub unasked : q.asks ≡ []
  pub due : due_questions s q.what goal ≡ questions

-- the row passes the tests of a request that begins, but for whom it asks
pub record PassesBut (h : Here) (row : LogRow) (req : ReqId) (goal : Option Step) (q : Asked) (later : List LogRow) : Type 0 where
  pub once : may_begin_request (point_at h later) row goal q ≡ true
  pub caused : may_begin_here h.now q ≡ true
  pub queued : implies (is_traversal q.what || is_reload q.what) (begins_in_turn h.now req) ≡ true

-- so it does whatever comes later, if the event's end pays what it owes
abbrev pub MayBeginTo : Here → LogRow → ReqId → Option Step → Asked → Type 0
MayBeginTo h row req goal q = (later : List LogRow) → Pays h (row ∷ []) later → PassesBut h row req goal q later

-- a traversal begins in its turn, to the step that its delta leads to
pub record IsTurnOf (s : Seen) (req : ReqId) (goal : Step) (q : Asked) : Type 0 where
  pub delta : ℤ
  pub asks : delta_of q.what ≡ Some delta
  pub there : step_at_delta s delta ≡ Some goal.0
  pub turn : begins_in_turn s req ≡ true

-- a load that was accepted in this event begins: its navigable and all above it are shown and stand at the aim, and it is no fragment navigation
pub record IsLoadOf (h : Here) (req : ReqId) (nav : NavId) (mode : Mode) (address : List ℕ) (q : Asked) : Type 0 where
  pub number : q.nr ≡ req
  pub what : q.what ≡ requests.Load nav mode address
  pub accepted : is_accepted_here (point_at h []) req ≡ true
  pub placed : list_all (is_placed h.now (aim_of h.now)) (way_to h.now nav) ≡ true
  pub place : Place
  pub there : place_of h.now nav ≡ Some place
  pub anew : is_to_fragment h.now address place ≡ false

-- a reload begins in its turn: its navigable has an entry, and nothing is a reason to refuse it
pub record IsReloadOf (s : Seen) (req : ReqId) (nav : NavId) (q : Asked) : Type 0 where
  pub what : q.what ≡ requests.Reload nav
  pub has : has_row nav s.history.rows ≡ true
  pub undenied : denial_of_reload s nav ≡ None
  pub turn : begins_in_turn s req ≡ true

-- ---- the table

-- a question just sent
abbrev pub new_asking : Job → Asking
new_asking job = record { job = job.nr; doc = job.doc; verdict = None; is_delivered = false }

-- the request with these questions sent for it
abbrev pub with_questions : List Job → Asked → Asked
with_questions jobs q = record q { asks = map new_asking jobs }

-- the table that was told of the run, with the check that the request begins of its questions
abbrev pub checks_begun : Told → ReqId → List Question → List (ReqId × OpenCheck)
checks_begun told req questions =
    begun req (opened (map (λ (question : Question). question.0) questions)) (after_all_deaths told.run told.checks)

-- ---- who hasn't begun

-- a request that hasn't begun asked nobody
abbrev pub NoneAskedEarly : Seen → Type 0
NoneAskedEarly s = (req : ReqId) (q : Asked) → request_of s req ≡ Some q → q.is_started ≡ false → q.asks ≡ []

-- what is asked of an order: a question is for a request that has begun
abbrev pub IsForBegun : Seen → Job → Task → Type 0
IsForBegun s job (tasks.Ask slot cause) =
    (req : ReqId) (q : Asked) → job.why ≡ whys.Req req → request_of s req ≡ Some q → q.is_started ≡ true
IsForBegun s job _ = Unit {0}

-- and of a row
abbrev pub AsksBegun : Seen → RowKind → Type 0
AsksBegun s (rows.Sent job) = IsForBegun s job job.task
AsksBegun s _ = Unit {0}
