-- The prompts that the rows of an event owe, as the table of checks tells that the coordinator had before the first of them.
-- HTML Standard, "checking if unloading is canceled". That a table is told of a run of discarded documents once that has ended is this project's own.
use Rattle.std.specs.Prelude.{◌≡◌, ◌⊎◌, ◌++◌, Bool, true, false, List, [], ◌∷◌, fold, Option, Some, None}
use Rattle.tab_ids.specs.declared.DocId.{DocId}
use Rattle.tab_ids.specs.declared.ReqId.{ReqId}
use Rattle.log_model.specs.declared.job.Job.{Job}
use Rattle.log_model.specs.declared.job.Task.{Task}
use Rattle.log_model.specs.declared.job.Task.TheVariants as tasks
use Rattle.log_model.specs.declared.row_kind.RowKind.{RowKind}
use Rattle.log_model.specs.declared.row_kind.RowKind.TheVariants as rows
use Rattle.log_model.specs.declared.row_kind.LogRow.{LogRow}
use Rattle.log_model.specs.Checks.{due_prompt, prompts_duly}
use Rattle.log_model.specs.Places.{has_passed, is_gone}
use Rattle.log_model.specs.Seen.{Asked, Document, Seen, document_of, request_of}
use Rattle.unload_check.specs.Checks.{OpenCheck, after_all_deaths, check_of}
use Rattle.seen_facts.proofs.Request.Readers.{SameReads}
use Rattle.seen_facts.specs.Hang.Members.{Has}
use Rattle.seen_laws.specs.Blocks.{MayLog, point_at}
use Rattle.seen_laws.specs.InEvent.{InEvent, here_of, row_of, rows_of, start_of}
use Rattle.check_facts.proofs.Rows.{plain_of}
use Rattle.check_facts.specs.Checking.{AreSaid, checked_of}
use Rattle.check_facts.specs.Having.{AllGoWith, AreHeld, OpenChecked}
use Rattle.check_facts.specs.Prompting.{DropsNone, HaveNumbers, IsRestAsking, NothingElseDue, PromptedSettled, StaySettled, none_ran, todo_of}
pub use Rattle.check_facts.specs.Rows.{IsUndropped}
use Rattle.unasked_dues.specs.Checking.{IsForOther}

-- ---- the table is told

-- the table of checks, and the documents discarded in the run that lasts, of which it wasn't told yet
pub record Told : Type 0 where
  pub checks : List (ReqId × OpenCheck)
  pub run : List DocId

-- the document that the row discards
abbrev pub discarded_by : RowKind → Option DocId
discarded_by (rows.Sent job) = by_task job.doc job.task
  where
    by_task : DocId → Task → Option DocId
    by_task doc tasks.Discard = Some doc
    by_task doc _ = None
discarded_by _ = None

-- a row that discards a document lengthens the run; any other ends it, and the table is told of it
abbrev pub tell_for : Told → Option DocId → Told
tell_for told (Some doc) = record told { run = told.run ++ doc ∷ [] }
tell_for told None = record { checks = after_all_deaths told.run told.checks; run = [] }

abbrev pub tell_row : Told → RowKind → Told
tell_row told kind = tell_for told (discarded_by kind)

-- the table once these rows were put out, where this run lasted before
abbrev pub told_by : List DocId → List (ReqId × OpenCheck) → List RowKind → Told
told_by ran checks out = fold tell_row (record { checks = checks; run = ran }) out

-- and told of all that was discarded
abbrev pub told_all : List DocId → List (ReqId × OpenCheck) → List RowKind → List (ReqId × OpenCheck)
told_all ran checks out = after_all_deaths (told_by ran checks out).run (told_by ran checks out).checks

-- the prompts that it notes, and by then
abbrev pub noted_in : Told → ReqId → Option DocId
noted_in told = todo_of told.checks

abbrev pub noted_by : List DocId → List (ReqId × OpenCheck) → List RowKind → ReqId → Option DocId
noted_by ran checks out = noted_in (told_by ran checks out)

-- ---- what is carried

-- a request has passed its check while the run lasts: the table has none of it any more, and no prompt is due
pub record HasGoneOn (now : Seen) (checks : List (ReqId × OpenCheck)) (req : ReqId) : Type 0 where
  pub none : check_of req checks ≡ None
  pub passed : (q : Asked) → request_of now req ≡ Some q → has_passed now q ≡ true
  pub undue : (q : Asked) → request_of now req ≡ Some q → due_prompt now q ≡ None

-- as the run that lasts began a table held each check, and nothing was due but what it noted; since then only documents were discarded, those of the run; of that table the coordinator has all checks, but of requests that have passed since
pub record HasRun (start now : Seen) (told : Told) : Type 0 where
  pub was : Seen
  pub all : List (ReqId × OpenCheck)
  pub same : (req : ReqId) → (check_of req told.checks ≡ check_of req all) ⊎ HasGoneOn now told.checks req
  pub held : AreHeld was all
  pub said : AreSaid was
  pub numbered : HaveNumbers was
  pub prompted : PromptedSettled was
  pub checked : OpenChecked was
  pub nothing : NothingElseDue start (todo_of all) was
  pub asks : SameReads plain_of was.requests now.requests
  pub reads : SameReads checked_of was.requests now.requests
  pub drops : DropsNone was now
  pub gone : (doc : DocId) → is_gone was doc ≡ true → is_gone now doc ≡ true
  pub goes : AllGoWith was now told.run

-- who has a check in the table is in its check; what was settled as the event began is, and so is who has a prompt
pub record AreAskedDuly (checking : ReqId → Bool) (start now : Seen) (told : Told) : Type 0 where
  pub within : (req : ReqId) → checking req ≡ false → check_of req told.checks ≡ None
  pub stays : StaySettled start now
  pub prompted : PromptedSettled now
  pub run : HasRun start now told

-- ---- what is asked of a row

-- an order that asks nothing; what it makes, shows or freezes a document for isn't in its check; and one that it discards is there
abbrev pub SendsBeside : (ReqId → Bool) → Seen → Job → Task → Type 0
SendsBeside checking s job (tasks.Ask slot cause) = ⊥
SendsBeside checking s job (tasks.Populate nav state address initial) = IsForOther checking job.why
SendsBeside checking s job (tasks.Activate entry epoch length index memo address) = IsForOther checking job.why
SendsBeside checking s job tasks.Freeze = IsForOther checking job.why
SendsBeside checking s job tasks.Discard = (d : Document) × (document_of s job.doc ≡ Some d)
SendsBeside checking s job _ = Unit {0}

-- a row beside the checks: it asks nobody, and goes on with nothing that is in its check; what it applies or refuses wasn't dropped
abbrev pub GoesBeside : (ReqId → Bool) → Seen → RowKind → Type 0
GoesBeside checking s (rows.Started req goal) = checking req ≡ false
GoesBeside checking s (rows.Applied req change) = (checking req ≡ false) × IsUndropped s req
GoesBeside checking s (rows.Refused req reason) = (checking req ≡ false) × IsUndropped s req
GoesBeside checking s (rows.Dropped req cause) = checking req ≡ false
GoesBeside checking s (rows.Sent job) = SendsBeside checking s job job.task
GoesBeside checking s _ = ⊥

-- a row of a coordinator that refuses no request in its check, though it may drop one
abbrev pub EndsOff : (ReqId → Bool) → RowKind → Type 0
EndsOff checking (rows.Sent job) = Unit {0}
EndsOff checking (rows.Started req goal) = Unit {0}
EndsOff checking (rows.Applied req change) = Unit {0}
EndsOff checking (rows.Refused req reason) = checking req ≡ false
EndsOff checking (rows.Dropped req cause) = Unit {0}
EndsOff checking _ = ⊥

-- each of these is one
abbrev pub EachEndsOff : (ReqId → Bool) → List RowKind → Type 0
EachEndsOff checking out = (row : RowKind) → Has out row → EndsOff checking row

-- ---- the rows so far pass

-- a row that discards a document asks that the prompts which are due then come
abbrev pub PromptsOf : Option DocId → InEvent → List RowKind → RowKind → List LogRow → Type 0
PromptsOf (Some doc) e out kind later = prompts_duly (point_at (here_of e out) later) (row_of e kind) ≡ true
PromptsOf None e out kind later = Unit {0}

abbrev pub PromptsFor : InEvent → List RowKind → RowKind → List LogRow → Type 0
PromptsFor e out kind later = PromptsOf (discarded_by kind) e out kind later

-- the own row and those put out so far pass each test, whatever comes later, if that has what it is to have, and prompts as it is due
unfoldable pub PassIf : (List LogRow → Type 0) → InEvent → (ReqId → Option DocId) → List RowKind → Type 0
PassIf Rest e todo out = MayLog (start_of e) (rows_of e out) (λ later. IsRestAsking e todo none_ran out later × Rest later)

-- ---- where nobody was asked

-- no request asked a document, and no prompt was up
abbrev pub NobodyAsked : Seen → Type 0
NobodyAsked s = (req : ReqId) (q : Asked) → request_of s req ≡ Some q → (q.asks ≡ []) × (q.prompted ≡ None)

-- no request has a check
abbrev pub NoneChecked : List (ReqId × OpenCheck) → Type 0
NoneChecked checks = (req : ReqId) → check_of req checks ≡ None
