-- What a rule reads at a row of an event: the event's own row, what it takes, and what stands before and after in it.
-- This project's own.
use Rattle.std.specs.Prelude.{Bool, true, false, ◌&&◌, ◌==◌, nat_lt, List, [], ◌∷◌, ◌++◌, length, fold, Option, Some, None, is_some}
use Rattle.tab_ids.specs.declared.NavId.{NavId}
use Rattle.tab_ids.specs.declared.ReqId.{ReqId}
use Rattle.log_model.specs.declared.job.Job.{Job}
use Rattle.log_model.specs.declared.made.Report.{Report}
use Rattle.log_model.specs.declared.outcome.Denial.{Denial}
use Rattle.log_model.specs.declared.request.Request.{Request}
use Rattle.log_model.specs.declared.request.Request.TheVariants as requests
use Rattle.log_model.specs.declared.row_kind.LogRow.{LogRow}
use Rattle.log_model.specs.declared.row_kind.RowKind.{RowKind}
use Rattle.log_model.specs.declared.row_kind.RowKind.TheVariants as rows
use Rattle.log_model.specs.Equal.{holds, same_denial}
use Rattle.log_model.specs.Seen.{Seen, Asked, request_of}
use Rattle.log_model.specs.AfterPlaces.{report_taken}
use Rattle.log_model.specs.After.{after}
use Rattle.log_model.specs.Events.{Point}

-- ---- the event

-- the rows of the event, in order
abbrev pub rows_of_event : Point → LogRow → List LogRow
rows_of_event p row = p.done ++ row ∷ p.later

-- the first row of an event, which is its own
abbrev pub own_row : Point → LogRow → RowKind
own_row p row = first p.done row
  where
    first : List LogRow → LogRow → RowKind
    first [] row = row.row
    first (own ∷ done) row = own.row

-- the report that the event takes
abbrev pub taken_report : Point → LogRow → Option Report
taken_report p row = report_taken p.start (own_row p row)

-- what the log has come to after the row, and at the end of the event
abbrev pub next_of : Point → LogRow → Seen
next_of p row = after p.now row

abbrev pub end_of : Point → LogRow → Seen
end_of p row = fold after p.now (row ∷ p.later)

-- the request was accepted in this event
abbrev pub is_accepted_here : Point → ReqId → Bool
is_accepted_here p req = nat_lt (length p.start.requests) req.0

-- the request had begun before the event
abbrev pub had_started : Point → ReqId → Bool
had_started p req = holds (λ (q : Asked). q.is_started) (request_of p.start req)

-- the request had its outcome before the event
abbrev pub had_ended : Point → ReqId → Bool
had_ended p req = holds (λ (q : Asked). is_some q.ending) (request_of p.start req)

-- ---- kinds of rows

-- the order that a row sends
abbrev pub order_of : LogRow → Option Job
order_of row = sent row.row
  where
    sent : RowKind → Option Job
    sent (rows.Sent job) = Some job
    sent _ = None

-- the request that a row ends
abbrev pub ends_in : LogRow → Option ReqId
ends_in row = by_kind row.row
  where
    by_kind : RowKind → Option ReqId
    by_kind (rows.Applied req change) = Some req
    by_kind (rows.Refused req reason) = Some req
    by_kind (rows.Dropped req cause) = Some req
    by_kind _ = None

-- the request that a row applies or refuses
abbrev pub is_taken_up_in : ReqId → LogRow → Bool
is_taken_up_in req row = by_kind row.row
  where
    by_kind : RowKind → Bool
    by_kind (rows.Applied r change) = r.0 == req.0
    by_kind (rows.Refused r reason) = r.0 == req.0
    by_kind _ = false

-- the row refuses the request for this reason
abbrev pub is_refused_in : ReqId → Denial → LogRow → Bool
is_refused_in req reason row = by_kind row.row
  where
    by_kind : RowKind → Bool
    by_kind (rows.Refused r why) = r.0 == req.0 && same_denial why reason
    by_kind _ = false

-- the row refuses the request
abbrev pub refuses : ReqId → LogRow → Bool
refuses req row = by_kind row.row
  where
    by_kind : RowKind → Bool
    by_kind (rows.Refused r reason) = r.0 == req.0
    by_kind _ = false

-- ---- requests

-- the navigable of a request: that of a load or reload, or of the poked document
abbrev pub nav_of_request : Request → Option NavId
nav_of_request (requests.Load nav mode address) = Some nav
nav_of_request (requests.Go delta) = None
nav_of_request (requests.Reload nav) = Some nav
nav_of_request (requests.Poke nav action) = Some nav

-- the request is a poke
abbrev pub is_poke : Request → Bool
is_poke (requests.Poke nav action) = true
is_poke _ = false
