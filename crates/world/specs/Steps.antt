-- What a step of a world answers, and what it logs.
-- This project's own.
use Rattle.std.specs.Prelude.{◌≡◌, ℕ, ◌+◌, ◌<◌, ◌≤◌, true, ◌==◌, ◌&&◌, List, [], ◌∷◌, ◌++◌, map, length, slice_get, Bool, false, Option, Some, None, is_some, option_and_then, option_map, option_to_list, Result, Ok, Err, IsSomeAnd, if◌then◌else◌}
use Rattle.tab_ids.specs.declared.ProcId.{ProcId}
use Rattle.tab_ids.specs.declared.ReqId.{ReqId}
use Rattle.tab_ids.specs.declared.NavId.{NavId}
use Rattle.log_model.specs.declared.change.Change.TheVariants as changes
use Rattle.log_model.specs.declared.handler.HandlerKind.{HandlerKind}
use Rattle.log_model.specs.declared.request.Poke.{Poke}
use Rattle.log_model.specs.declared.job.Job.{Job}
use Rattle.log_model.specs.declared.job.Order.{Order}
use Rattle.log_model.specs.declared.made.Made.{Made}
use Rattle.log_model.specs.declared.made.What.{What}
use Rattle.log_model.specs.declared.made.What.TheVariants as whats
use Rattle.log_model.specs.declared.outcome.Denial.TheVariants as denials
use Rattle.log_model.specs.declared.request.Request.TheVariants as requests
use Rattle.log_model.specs.declared.row_kind.Actor.{Actor}
use Rattle.log_model.specs.declared.row_kind.Actor.TheVariants as actors
use Rattle.log_model.specs.declared.row_kind.LogRow.{LogRow}
use Rattle.log_model.specs.declared.row_kind.RowKind.{RowKind}
use Rattle.log_model.specs.declared.row_kind.RowKind.TheVariants as rows
use Rattle.log_model.specs.Causes.{denial_of_poke}
use Rattle.log_model.specs.Equal.{holds}
use Rattle.log_model.specs.Formed.{last_of, poked_document}
use Rattle.log_model.specs.Logs.{seen_of, is_prompt_up}
use Rattle.log_model.specs.Seen.{Seen, Document, Desk, desk_of, document_of, request_of}
use Rattle.log_model.specs.Views.{View, made_by, made_for}
use Rattle.proc_work.specs.Answers.{has_kind_of}
use Rattle.proc_work.specs.Same.{same_order}
use Rattle.proc_work.specs.Work.{Done, done_of}
use Rattle.world.specs.declared.event.Event.{Event}
use Rattle.world.specs.declared.event.Event.TheVariants as events
use Rattle.world.specs.declared.event.Reply.{Reply}
use Rattle.world.specs.declared.event.Reply.TheVariants as replies
use Rattle.world.specs.declared.error.StepError.{StepError}
use Rattle.world.specs.declared.error.StepError.TheVariants as errors
use Rattle.world.specs.Kept.{WorldState}
use Rattle.world.specs.Notes.{row_with}
use Rattle.world.specs.Open.{row_limit, view_in}
use Rattle.world.specs.Shows.{made_at_end}

-- the events that a world takes
abbrev pub IsBuilt : Event → Type 0
IsBuilt (events.Load nav mode address) = Unit {0}
IsBuilt (events.Go delta) = Unit {0}
IsBuilt (events.Poke nav action) = Unit {0}
IsBuilt (events.Answer req stay) = Unit {0}
IsBuilt events.Evict = Unit {0}
IsBuilt (events.Act proc) = Unit {0}
IsBuilt (events.Begin proc) = Unit {0}
IsBuilt (events.Finish proc done) = Unit {0}
IsBuilt (events.Deliver proc) = Unit {0}

-- ---- an event that logs nothing

-- a process with an order in hand takes up no other one
abbrev pub begin_idles : Option Order → ℕ → Option Reply
begin_idles (Some order) waiting = Some replies.Busy
begin_idles None waiting = if waiting == 0 then Some replies.Empty else None

-- the finished order is this one, and the handler that it asked, if any, is of the kind of its slot
abbrev pub is_work_on : List HandlerKind → Done → Order → Bool
is_work_on kinds done order = same_order done.order order && has_kind_of kinds order.job.task done.kind

-- the answer to an event that logs nothing, by the kinds of the handlers, the desks of the processes, and what else the log has come to: no prompt of the request is up, no document is kept, nothing waits there, an order is in hand, or the finished order isn't the one in hand, or a handler of another kind was asked
abbrev pub idle_at : List HandlerKind → (ProcId → Desk) → Seen → Event → Option Reply
idle_at kinds desk s (events.Load nav mode address) = None
idle_at kinds desk s (events.Go delta) = None
idle_at kinds desk s (events.Poke nav action) = None
idle_at kinds desk s (events.Answer req stay) = if holds is_prompt_up (request_of s req) then None else Some replies.NoPrompt
idle_at kinds desk s events.Evict = if length s.kept == 0 then Some replies.NothingKept else None
idle_at kinds desk s (events.Act proc) = if length (desk proc).input == 0 then Some replies.Empty else None
idle_at kinds desk s (events.Begin proc) = begin_idles (desk proc).in_hand (length (desk proc).mail)
idle_at kinds desk s (events.Finish proc done) =
    if holds (is_work_on kinds done) (desk proc).in_hand then None else Some replies.Stale
idle_at kinds desk s (events.Deliver proc) = if length (desk proc).reports == 0 then Some replies.Empty else None

-- so by what the log has come to
abbrev pub idle_reply : List HandlerKind → Seen → Event → Option Reply
idle_reply kinds s event = idle_at kinds (desk_of s) s event

-- ---- an event that logs

-- who acts in it
abbrev pub actor_of : Event → Actor
actor_of (events.Load nav mode address) = actors.Ui
actor_of (events.Go delta) = actors.Ui
actor_of (events.Poke nav action) = actors.Ui
actor_of (events.Answer req stay) = actors.Ui
actor_of events.Evict = actors.Ui
actor_of (events.Act proc) = actors.Proc proc
actor_of (events.Begin proc) = actors.Proc proc
actor_of (events.Finish proc done) = actors.Proc proc
actor_of (events.Deliver proc) = actors.Coord

-- a row of the event
abbrev pub row_in : Seen → Event → RowKind → LogRow
row_in s event kind = row_with s.events (actor_of event) kind

-- the number of the request that is accepted next
abbrev pub next_request : Seen → ReqId
next_request s = record { 0 = length s.requests + 1 }

-- the document that a poke of the navigable reaches, where no reason denies it
abbrev pub reached_in : Seen → NavId → Option Document
reached_in s nav = if is_some (denial_of_poke s nav) then None else poked_document s nav

-- what a document makes of the poke of a request, or that its address is refused
abbrev pub act_row : ProcId → View → ReqId → Option What → RowKind
act_row proc view req (Some what) = rows.Made proc (made_for view req what)
act_row proc view req None = rows.Refused req denials.BadAddress

-- so where its view runs; a document that is gone or doesn't run refuses the poke
abbrev pub acted_row : ProcId → Poke → Option View → RowKind
acted_row proc poke (Some view) =
    if view.running then act_row proc view poke.req (made_by view poke.action) else rows.Refused poke.req denials.NoDocument
acted_row proc poke None = rows.Refused poke.req denials.NoDocument

-- an order as it is taken up: whether its document has unsaved edits is noted
abbrev pub order_for : Seen → Job → Order
order_for s job = record { job = job; dirty = holds (λ (view : View). view.dirty) (view_in s job.doc) }

-- the row that tells what was made, if anything
abbrev pub rows_of_made : ProcId → Option Made → List RowKind
rows_of_made proc made = map (λ (m : Made). rows.Made proc m) (option_to_list made)

-- a document edited itself
abbrev pub is_edit : What → Bool
is_edit whats.Edit = true
is_edit _ = false

-- what is logged straight behind the row of what a document made of a poke: an edit is applied at once
abbrev pub behind_made : Made → List RowKind
behind_made made = if is_edit made.what then rows.Applied made.req changes.Edit ∷ [] else []

-- so behind any own row of a process that acts
abbrev pub behind : RowKind → List RowKind
behind (rows.Made proc made) = behind_made made
behind _ = []

-- the document that is kept longest
abbrev pub longest_kept : Seen → Option Document
longest_kept s = option_and_then (document_of s) (last_of s.kept)

-- the answer to an event that logs, its own row, and what is logged after that: the work of the coordinator, where it is told of something
abbrev pub Begins : Seen → Event → Reply → RowKind → List RowKind → Type 0
Begins s (events.Load nav mode address) reply own out =
    (reply ≡ replies.Accepted (next_request s)) × (own ≡ rows.Accepted (next_request s) None (requests.Load nav mode address))
Begins s (events.Go delta) reply own out =
    (reply ≡ replies.Accepted (next_request s)) × (own ≡ rows.Accepted (next_request s) None (requests.Go delta))
Begins s (events.Poke nav action) reply own out =
    (reply ≡ replies.Accepted (next_request s))
    × (own ≡ rows.Accepted (next_request s) (option_map (λ (d : Document). d.nr) (reached_in s nav)) (requests.Poke nav action))
Begins s (events.Answer req stay) reply own out = (reply ≡ replies.Answered) × (own ≡ rows.Answered req stay)
Begins s events.Evict reply own out =
    (reply ≡ replies.Evicted) × IsSomeAnd (longest_kept s) (λ d. own ≡ rows.Evicted d.state)
Begins s (events.Act proc) reply own out =
    (reply ≡ replies.Acted) × (out ≡ behind own)
    × IsSomeAnd (slice_get (desk_of s proc).input 0) (λ poke. own ≡ acted_row proc poke (view_in s poke.doc))
Begins s (events.Begin proc) reply own out =
    (out ≡ [])
    × IsSomeAnd (slice_get (desk_of s proc).mail 0) (λ job. (reply ≡ replies.Took (order_for s job)) × (own ≡ rows.Taken proc job.nr true (order_for s job).dirty))
Begins s (events.Finish proc done) reply own out =
    (reply ≡ replies.Finished)
    × IsSomeAnd (desk_of s proc).in_hand (λ order. (done ≡ done_of order done.kind) × (own ≡ rows.Finished proc order.job.nr done.outcome) × (out ≡ rows_of_made proc (made_at_end (view_in s order.job.doc) order.job.task)))
Begins s (events.Deliver proc) reply own out = (reply ≡ replies.Delivered) × (own ≡ rows.Delivered proc)

-- the event has happened: the log has its rows at its end
pub record HasHappened (event : Event) (reply : Reply) (old new : List LogRow) : Type 0 where
  pub own : RowKind
  pub out : List RowKind
  pub begins : Begins (seen_of old) event reply own out
  pub log : new ≡ old ++ row_in (seen_of old) event own ∷ map (row_in (seen_of old) event) out

-- ---- a step

-- an open world steps, where this is the answer of an event that logs nothing, or there is none: where an event that logs meets the limit, nothing changes; after want of memory or an overflow the world is closed, and its log stands as after the last event
abbrev pub StepsAs : WorldState → Event → Option Reply → Result Reply StepError → WorldState → Type 0
StepsAs old event (Some idle) (Ok reply) new = (reply ≡ idle) × (new ≡ old)
StepsAs old event (Some idle) (Err error) new = ⊥
StepsAs old event None (Ok reply) new =
    (length old.log < row_limit) × HasHappened event reply old.log new.log
    × (new ≡ record old { log = new.log })
StepsAs old event None (Err errors.Closed) new = ⊥
StepsAs old event None (Err errors.LogFull) new = (row_limit ≤ length old.log) × (new ≡ old)
StepsAs old event None (Err (errors.UrlOverflow overflowed)) new =
    (length old.log < row_limit) × (new ≡ record old { closed = true })
StepsAs old event None (Err errors.OutOfMemory) new =
    (length old.log < row_limit) × (new ≡ record old { closed = true })

-- an open world answers an event exactly by what its log has come to, or fails
abbrev pub Steps : WorldState → Event → Result Reply StepError → WorldState → Type 0
Steps old event result new = StepsAs old event (idle_reply old.kinds (seen_of old.log) event) result new
