-- The rows of an event so far, where a traversal that ends has reports held back for it: they are taken up later in the event, in order.
-- This project's own; the queue is the HTML Standard's "session history traversal queue", what jumps it "synchronous navigation steps".
use Rattle.log_model.specs.Equal.{has_req}
use Rattle.log_model.specs.Points.{ends_in}
use Rattle.log_model.specs.Queue.{is_traverse}
use Rattle.log_model.specs.declared.row_kind.LogRow.{LogRow}
use Rattle.log_model.specs.declared.row_kind.RowKind.{RowKind}
use Rattle.seen_laws.specs.Blocks.{MayLog}
use Rattle.seen_laws.specs.InEvent.{InEvent, IsRest, later_of, now_of, own_of, row_of, rows_of, start_of}
use Rattle.std.specs.List.{list_any}
use Rattle.std.specs.Prelude.{Bool, List, [], filter, filter_map, true, ◌++◌, ◌∷◌, ◌≡◌}
use Rattle.tab_ids.specs.declared.ReqId.{ReqId}

-- the rows apply a traversal
abbrev pub has_traversed : InEvent → List RowKind → Bool
has_traversed e out = list_any is_traverse (later_of e out)

-- the reports that are held back as the event's own row has come
abbrev pub held_at_first : InEvent → List ReqId
held_at_first e = (own_of e).now.parked

-- the requests among these that rows end, in order
abbrev pub ends_among : List ReqId → List LogRow → List ReqId
ends_among reqs later = filter (has_req reqs) (filter_map ends_in later)

-- what the event's rows so far ask of what comes later in it
pub record IsRestOf (e : InEvent) (out : List RowKind) (later : List LogRow) : Type 0 where
  pub rest : IsRest e out later
  -- once they have applied a traversal, the reports that are held back still are taken up later, in order
  pub held : has_traversed e out ≡ true → ends_among (held_at_first e) later ≡ (now_of e out).parked

-- the own row and those put out so far pass each test, whatever comes later
unfoldable pub AreLawful : InEvent → List RowKind → Type 0
AreLawful e out = MayLog (start_of e) (rows_of e out) (IsRestOf e out)

-- what the reports held back ask of the rows that come later, once a row has come, is what it leaves of what they asked before it
abbrev pub KeepsHeld : InEvent → List RowKind → RowKind → Type 0
KeepsHeld e out kind =
    (later : List LogRow) → ends_among (held_at_first e) later ≡ (now_of e (out ++ kind ∷ [])).parked → ends_among (held_at_first e) (row_of e kind ∷ later) ≡ (now_of e out).parked
