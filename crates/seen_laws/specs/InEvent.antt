-- An event in which the coordinator works: its own row, and the rows put out so far.
-- This project's own.
use Rattle.std.specs.Prelude.{◌≡◌, ℕ, Bool, true, false, not, ◌&&◌, ◌==◌, List, [], ◌∷◌, ◌++◌, map}
use Rattle.std.specs.List.{list_any, filter_map}
use Rattle.tab_ids.specs.declared.DocId.{DocId}
use Rattle.tab_ids.specs.declared.ReqId.{ReqId}
use Rattle.log_model.specs.declared.header.Header.{Header}
use Rattle.log_model.specs.declared.row_kind.Actor.{Actor}
use Rattle.log_model.specs.declared.row_kind.LogRow.{LogRow}
use Rattle.log_model.specs.declared.row_kind.RowKind.{RowKind}
use Rattle.log_model.specs.declared.row_kind.RowKind.TheVariants as rows
use Rattle.log_model.specs.After.{after}
use Rattle.log_model.specs.Seen.{Seen}
use Rattle.seen_laws.specs.Unasked.{is_question, unasked}
use Rattle.log_model.specs.Orders.{question_in}
use Rattle.log_model.specs.Queue.{is_delivered_duly}
use Rattle.seen_laws.specs.Blocks.{Here, point_at, on_row, on_rows, MayLog}
use Rattle.seen_laws.specs.Owing.{owes, Pays}

-- the settings, what the log had come to as the event began, its number, its actor and its own row
pub record InEvent : Type 0 where
  pub header : Header
  pub start : Seen
  pub event : ℕ
  pub actor : Actor
  pub own : RowKind
  -- the rows put out before the coordinator's last cut; what comes after goes by another `checking`
  pub before : List RowKind
  -- the documents that the last of these discarded, where no row has ended that run and the table of unload checks wasn't told of it
  pub ran : List DocId
  -- the requests that are in their unload check, as the coordinator has it
  pub checking : ReqId → Bool
  -- what the rows before the cut owe: whether what the log comes to without questions as the event ends pays it
  pub due : Seen → Bool
  -- what the rows before the cut want of the rows behind it, all of them taken together
  pub wants : List LogRow → Bool

-- a row of the event
abbrev pub row_of : InEvent → RowKind → LogRow
row_of e kind = record { event = e.event; actor = e.actor; row = kind }

-- where the event stands before its own row, after it, at the cut, and after these rows more
abbrev pub start_of : InEvent → Here
start_of e = record { header = e.header; start = e.start; now = e.start; done = [] }

abbrev pub own_of : InEvent → Here
own_of e = on_row (start_of e) (row_of e e.own)

abbrev pub first_of : InEvent → Here
first_of e = on_rows (own_of e) (map (row_of e) e.before)

abbrev pub here_of : InEvent → List RowKind → Here
here_of e out = on_rows (first_of e) (map (row_of e) out)

-- all rows of the event so far behind its own one, and with it
abbrev pub later_of : InEvent → List RowKind → List LogRow
later_of e out = map (row_of e) e.before ++ map (row_of e) out

abbrev pub rows_of : InEvent → List RowKind → List LogRow
rows_of e out = row_of e e.own ∷ later_of e out

-- the event, where this is wanted of the rows behind the cut
abbrev pub wanting : InEvent → (List LogRow → Bool) → InEvent
wanting e wants = record e { wants = wants }

-- the event, where this run of discarded documents lasts
abbrev pub running : InEvent → List DocId → InEvent
running e ran = record e { ran = ran }

-- the event cut behind these rows, where the table of unload checks was told of what they discarded: what comes after goes by this `checking`, they owe this, and of what comes after is wanted what was wanted of them and it
abbrev pub cut : InEvent → List RowKind → (ReqId → Bool) → (Seen → Bool) → InEvent
cut e out checking due =
    record e { before = e.before ++ out; ran = []; checking = checking; due = due; wants = λ behind. e.wants (map (row_of e) out ++ behind) }

-- so it is, and this is wanted of what comes after, too
abbrev pub cut_wanting : InEvent → List RowKind → (ReqId → Bool) → (Seen → Bool) → (List LogRow → Bool) → InEvent
cut_wanting e out checking due test =
    wanting (cut e out checking due) (λ behind. test behind && e.wants (map (row_of e) out ++ behind))

-- these rows and those that come later are as the rows before the cut want them
abbrev pub AreAsWanted : InEvent → List RowKind → List LogRow → Type 0
AreAsWanted e out later = e.wants (map (row_of e) out ++ later) ≡ true

-- these are, and none comes later
abbrev pub EndAsWanted : InEvent → List RowKind → Type 0
EndAsWanted e out = e.wants (map (row_of e) out) ≡ true

-- where the event isn't cut nothing is owed, and no run of discarded documents lasts
pub record OwesNothing (e : InEvent) : Type 0 where
  pub due : (end : Seen) → e.due end ≡ true
  pub ran : e.ran ≡ []

-- nothing is wanted: so it is where the event isn't cut
abbrev pub WantsNothing : InEvent → Type 0
WantsNothing e = (behind : List LogRow) → e.wants behind ≡ true

-- what the log has come to by then
abbrev pub log_of : InEvent → List RowKind → Seen
log_of e out = (here_of e out).now

-- the row is seen in the log as it would be had nobody been asked
abbrev pub is_seen : (ReqId → Bool) → RowKind → Bool
is_seen checking (rows.Started req goal) = not (checking req)
is_seen checking (rows.Applied req change) = not (checking req)
is_seen checking (rows.Prompted req doc) = false
is_seen checking (rows.Answered req stay) = false
is_seen checking (rows.Sent job) = not (is_question job.task)
is_seen checking _ = true

-- what the log would have come to by then had nobody been asked
unfoldable pub now_of : InEvent → List RowKind → Seen
now_of e out = unasked e.checking (log_of e out)

-- where the event stands there
abbrev pub seen_here : InEvent → List RowKind → Here
seen_here e out = record (here_of e out) { start = unasked e.checking e.start; now = now_of e out }

-- what the row makes of the log without questions is read off what it makes of the log
abbrev pub IsReadOff : InEvent → List RowKind → RowKind → Type 0
IsReadOff e out kind =
    unasked e.checking (after (log_of e out) (row_of e kind)) ≡ after (unasked e.checking (log_of e out)) (row_of e kind)

-- it is seen there, and read off
pub record GoesThere (e : InEvent) (out : List RowKind) (kind : RowKind) : Type 0 where
  pub seen : is_seen e.checking kind ≡ true
  pub read : IsReadOff e out kind

-- each of these rows is, where they come behind those
pub record EachGoes (e : InEvent) (was more : List RowKind) : Type 0 where
  pub each : (before later : List RowKind) (kind : RowKind) → before ++ kind ∷ later ≡ more → GoesThere e (was ++ before) kind

-- nothing is asked of what comes later
abbrev pub Anything : List LogRow → Type 0
Anything later = Unit {0}

-- the row begins the request
abbrev pub begins : ReqId → RowKind → Bool
begins req (rows.Started r goal) = r.0 == req.0
begins req _ = false

-- where a report is delivered that is to be taken up at once, these rows of the event take it up
abbrev pub IsTakenIn : InEvent → List LogRow → Type 0
IsTakenIn e later = is_delivered_duly (point_at (start_of e) later) (row_of e e.own) ≡ true

-- what the event's rows so far ask of what comes later in it
pub record IsRest (e : InEvent) (out : List RowKind) (later : List LogRow) : Type 0 where
  -- a request that began among them asks no document any more
  pub asks : (req : ReqId) → list_any (begins req) (e.before ++ out) ≡ true → filter_map (question_in req) later ≡ []
  -- what the event delivers is taken up among them or later
  pub taken : IsTakenIn e (later_of e out ++ later)
  -- and the event's end pays what they owe to it
  pub owed : Pays (start_of e) (rows_of e out) later

-- the own row and those put out so far pass each test, whatever comes later
unfoldable pub AreLegal : InEvent → List RowKind → Type 0
AreLegal e out = MayLog (start_of e) (rows_of e out) (IsRest e out)

-- what is owed is paid by what the log has come to
abbrev pub IsPaid : InEvent → List RowKind → Type 0
IsPaid e out = owes (start_of e) (rows_of e out) (here_of e out).now ≡ true

-- they owe nothing, whatever the event's end is
abbrev pub IsClear : InEvent → List RowKind → Type 0
IsClear e out = (end : Seen) → owes (start_of e) (rows_of e out) end ≡ true
