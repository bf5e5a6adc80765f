-- The order of the traversal queue, and what may jump it.
-- HTML Standard, "session history traversal queue" and "synchronous navigation steps"; the exact form is this project's own.
use Rattle.std.specs.Prelude.{Bool, true, false, not, ◌&&◌, ◌||◌, ◌==◌, List, filter, filter_map, slice_get, Option, Some, None, option_and_then}
use Rattle.std.specs.List.{list_all, list_any}
use Rattle.tab_ids.specs.declared.ReqId.{ReqId}
use Rattle.log_model.specs.declared.change.Change.{Change}
use Rattle.log_model.specs.declared.change.Change.TheVariants as changes
use Rattle.log_model.specs.declared.made.Made.{Made}
use Rattle.log_model.specs.declared.outcome.Denial.{Denial}
use Rattle.log_model.specs.declared.outcome.Denial.TheVariants as denials
use Rattle.log_model.specs.declared.row_kind.LogRow.{LogRow}
use Rattle.log_model.specs.declared.row_kind.RowKind.{RowKind}
use Rattle.log_model.specs.declared.row_kind.RowKind.TheVariants as rows
use Rattle.log_model.specs.Equal.{holds, implies, same_list, same_req, has_req}
use Rattle.log_model.specs.Seen.{Seen, Asked, request_of}
use Rattle.log_model.specs.Places.{is_shown, is_load, is_traversal, is_reload, is_under_way, aim_of, all_stand}
use Rattle.log_model.specs.AfterRequests.{made_of_report, changes_history, is_in_place, is_held_up}
use Rattle.log_model.specs.Events.{Point}
use Rattle.log_model.specs.Points.{taken_report, is_accepted_here, ends_in, is_taken_up_in, nav_of_request}

-- ---- what jumps the queue: "synchronous navigation steps"

-- what a delivered report tells is taken up at once: it changes the history and is in place, and the running traversal hasn't shown its navigable a document
abbrev pub is_taken_up_at_once : Seen → Made → Bool
is_taken_up_at_once s made = changes_history made.what && is_in_place s made && not (is_held_up s made)

-- a delivered report that is to be taken up at once is applied or refused in its event
abbrev pub is_delivered_duly : Point → LogRow → Bool
is_delivered_duly p row = by_made p (option_and_then made_of_report (taken_report p row))
  where
    by_made : Point → Option Made → Bool
    by_made p None = true
    by_made p (Some made) = implies (is_taken_up_at_once p.now made) (list_any (is_taken_up_in made.req) p.later)

-- what a document made is applied only where it is to be taken up now
abbrev pub is_jump : Seen → Asked → Bool
is_jump s q = by_made s q.made
  where
    by_made : Seen → Option Made → Bool
    by_made s None = true
    by_made s (Some made) = implies (changes_history made.what) (is_taken_up_at_once s made)

-- ---- held back reports

-- the row applies a traversal
abbrev pub is_traverse : LogRow → Bool
is_traverse row = by_kind row.row
  where
    by_kind : RowKind → Bool
    by_kind (rows.Applied req (changes.Traverse goal)) = true
    by_kind _ = false

-- a held back report ends only after the traversal of the same event
abbrev pub is_unparked_duly : Point → ReqId → Bool
is_unparked_duly p req = implies (has_req p.now.parked req) (list_any is_traverse p.done)

-- the held back requests that rows end, in order
abbrev pub parked_ends : Seen → List LogRow → List ReqId
parked_ends s later = filter (has_req s.parked) (filter_map ends_in later)

-- as a traversal is applied, the held back reports are taken up after it in the same event, in the order of delivery
abbrev pub unparks : Point → Bool
unparks p = same_list same_req (parked_ends p.now p.later) p.now.parked

-- a traversal is applied only where all stand at the aim
abbrev pub is_traversed_duly : Point → Change → Bool
is_traversed_duly p (changes.Traverse goal) = all_stand p.now (aim_of p.now) && unparks p
is_traversed_duly p _ = true

-- ---- the steps of the queue

-- a traversal or reload is under way
abbrev pub is_step_under_way : Asked → Bool
is_step_under_way q = is_under_way q && (is_traversal q.what || is_reload q.what)

-- a step of the queue may begin: none is under way, and all stand at the current step
abbrev pub is_queue_free : Seen → Bool
is_queue_free s = list_all (λ q. not (is_step_under_way q)) s.requests && all_stand s s.history.current

-- the request is the first of the traversals and reloads that joined and haven't ended
abbrev pub is_first_joined : Seen → ReqId → Bool
is_first_joined s req = holds (λ (first : ReqId). first.0 == req.0) (slice_get s.joined 0)

-- a traversal or reload begins, or is refused as it begins, in its turn
abbrev pub begins_in_turn : Seen → ReqId → Bool
begins_in_turn s req = is_queue_free s && is_first_joined s req

-- the refusal is one of a step that begins: a traversal without a step, or a reload that was accepted before or has no document
abbrev pub is_refused_step : Point → Asked → Denial → Bool
is_refused_step p q reason =
    (is_traversal q.what && is_no_step reason) || (is_reload q.what && (is_no_document reason || not (is_accepted_here p q.nr)))
  where
    is_no_step : Denial → Bool
    is_no_step denials.NoStep = true
    is_no_step _ = false

    is_no_document : Denial → Bool
    is_no_document denials.NoDocument = true
    is_no_document _ = false

-- a load with a new document is applied as a step of the queue, where its navigable is shown
abbrev pub is_load_step : Seen → Asked → Bool
is_load_step s q =
    implies (q.is_started && is_load q.what) (is_queue_free s && holds (is_shown s.history.rows s.history.current) (nav_of_request q.what))

-- ---- the whole

-- steps of the queue begin in their turn, and what documents made jumps it only as it may
abbrev pub is_queued_row : Point → LogRow → Bool
is_queued_row p row = by_kind p row p.now row.row
  where
    by_kind : Point → LogRow → Seen → RowKind → Bool
    by_kind p row s (rows.Delivered proc) = is_delivered_duly p row
    by_kind p row s (rows.Started req goal) =
        holds (λ (q : Asked). implies (is_traversal q.what || is_reload q.what) (begins_in_turn s req)) (request_of s req)
    by_kind p row s (rows.Applied req change) =
        is_unparked_duly p req && is_traversed_duly p change && holds (λ q. is_jump s q && is_load_step s q) (request_of s req)
    by_kind p row s (rows.Refused req reason) =
        is_unparked_duly p req
        && holds (λ q. implies (is_refused_step p q reason) (begins_in_turn s req)) (request_of s req)
    by_kind p row s (rows.Dropped req cause) = is_unparked_duly p req
    by_kind p row s _ = true
