-- Rows whose cause is read as their event ends: what they owe to it.
-- This project's own.
use Rattle.std.specs.Prelude.{◌≡◌, Bool, true, ◌&&◌, ◌||◌, List, [], ◌∷◌, fold}
use Rattle.tab_ids.specs.declared.ReqId.{ReqId}
use Rattle.log_model.specs.declared.outcome.Cause.TheVariants as drops
use Rattle.log_model.specs.declared.request.Request.{Request}
use Rattle.log_model.specs.declared.request.Request.TheVariants as requests
use Rattle.log_model.specs.declared.row_kind.LogRow.{LogRow}
use Rattle.log_model.specs.declared.row_kind.RowKind.{RowKind}
use Rattle.log_model.specs.declared.row_kind.RowKind.TheVariants as rows
use Rattle.log_model.specs.Equal.{holds}
use Rattle.log_model.specs.Seen.{Seen, Asked, request_of}
use Rattle.log_model.specs.After.{after}
use Rattle.log_model.specs.Causes.{by_event, by_mover}
use Rattle.log_model.specs.Once.{has_no_earlier_load}
use Rattle.seen_laws.specs.Blocks.{Here, point_at, on_row, on_rows, MayLog}

-- a load, and no earlier one of its navigable is ongoing; any other request is so
abbrev pub is_sole_load : Request → ReqId → Seen → Bool
is_sole_load (requests.Load nav mode address) req end = has_no_earlier_load end req nav
is_sole_load _ req end = true

-- what a row owes to what the log comes to as the event ends: a load that another request drops has its cause there, and one that begins is sole
abbrev pub owes_row : Here → LogRow → Seen → Bool
owes_row h row end = by_kind h row.row end
  where
    by_kind : Here → RowKind → Seen → Bool
    by_kind h (rows.Dropped req (drops.By r)) end =
        holds (λ (q : Asked). by_event (point_at h []) end q r || holds (by_mover h.now q) (request_of h.now r)) (request_of h.now req)
    by_kind h (rows.Started req goal) end =
        holds (λ (q : Asked). is_sole_load q.what q.nr end) (request_of h.now req)
    by_kind h _ end = true

-- what rows owe to it
abbrev pub owes : Here → List LogRow → Seen → Bool
owes h [] end = true
owes h (row ∷ rows) end = owes_row h row end && owes (on_row h row) rows end

-- the later rows lead to what pays it
abbrev pub Pays : Here → List LogRow → List LogRow → Type 0
Pays h rows later = owes h rows (fold after (on_rows h rows).now later) ≡ true

-- the rows may be logged here, if the event's end pays what they owe
abbrev pub MayLogOwing : Here → List LogRow → Type 0
MayLogOwing h rows = MayLog h rows (Pays h rows)
