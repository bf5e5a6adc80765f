-- What is few stays few with each row of an event; one more is allowed to the first of them.
use Rattle.std.proofs.Common.{◌≡◌, ℕ, ◌+◌, ◌≤◌, Bool, true, ◌&&◌, length, Option, Some, None, refl, arith}
use Rattle.std.proofs.lemmas.Bool.{and_parts}
use Rattle.log_model.specs.declared.row_kind.Actor.{Actor}
use Rattle.log_model.specs.declared.row_kind.LogRow.{LogRow}
use Rattle.log_model.specs.declared.row_kind.RowKind.{RowKind}
use Rattle.log_model.specs.declared.row_kind.RowKind.TheVariants as rows
use Rattle.log_model.specs.Equal.{holds}
use Rattle.log_model.specs.Seen.{Seen, Asked, request_of}
use Rattle.log_model.specs.After.{after, history_after}
use Rattle.log_model.specs.Events.{Point}
use Rattle.log_model.specs.Formed.{is_work, may_follow}
use Rattle.log_model.specs.Once.{is_open, is_once_row}
use Rattle.log_model.specs.Orders.{is_ordered_row}
use Rattle.log_counts.proofs.Rows.{one_more_row}
use Rattle.log_counts.proofs.Endings.{ended_in, ended_few}
use Rattle.log_counts.proofs.Requests.{accepts, requests_then, requests_come, applied_ends}
use Rattle.log_counts.proofs.Desks.{Each, DeskWithin, each_beyond, desks_within}
use Rattle.log_counts.proofs.Told.{sent_within}

-- ---- only the first row of an event accepts

-- neither what the coordinator does, nor any other row that may follow
work_accepts : (kind : RowKind) → is_work kind ≡ true → accepts kind ≡ 0
work_accepts (rows.Accepted req doc what) work = cc
work_accepts _ work = refl

pub later_accepts : (own kind : RowKind) → may_follow own kind ≡ true → accepts kind ≡ 0
later_accepts (rows.Accepted req doc what) kind may = work_accepts kind may
later_accepts own (rows.Accepted req doc what) may = cc
later_accepts _ _ may = refl

pub at_most_accepts : (kind : RowKind) → accepts kind ≤ 1
at_most_accepts (rows.Accepted req doc what) = omega arith
at_most_accepts _ = omega arith

-- ---- what stays

-- there are fewer requests than the number, at most one entry more than requests that have ended, and no order tells an index beyond the number
pub record IsFew (n : ℕ) (s : Seen) : Type 0 where
  pub requests : length s.requests + 1 ≤ n
  pub rows : length s.history.rows ≤ 1 + ended_in s.requests
  pub desks : Each (DeskWithin n) s.desks

-- no more entries than the number
pub rows_few : (n : ℕ) (s : Seen) → IsFew n s → length s.history.rows ≤ n
rows_few n s few = omega (arith, few.rows, few.requests, ended_few s.requests)

-- the request of a change is open
open_there : (o : Option Asked) (test : Asked → Bool) → holds (λ q. is_open q && test q) o ≡ true → holds is_open o ≡ true
open_there None test is = is
open_there (Some q) test is = (and_parts (is_open q) (test q) is).0

-- a new entry has a request that ends
entries_few : (p : Point) (event : ℕ) (actor : Actor) (kind : RowKind) → is_once_row p (record { event = event; actor = actor; row = kind }) ≡ true → length p.now.history.rows ≤ 1 + ended_in p.now.requests → length (history_after p.now.history kind).rows ≤ 1 + ended_in (requests_then p.now kind)
entries_few p event actor (rows.Opened entry state doc proc slot address) once few = omega arith
entries_few p event actor (rows.Applied req change) once few =
    omega (arith, few, one_more_row p.now.history change, applied_ends p.now req change (open_there (request_of p.now req) _ once))
entries_few p event actor kind once few = omega (arith, few, (requests_come p.now kind).ended)

-- the step: a row, with as many more as it accepts
pub row_few : (n m : ℕ) (p : Point) (row : LogRow) → n + accepts row.row ≤ m → IsFew n p.now → is_once_row p row ≡ true → is_ordered_row p row ≡ true → IsFew m (after p.now row)
row_few n m p row more few once ordered =
    let long = (requests_come p.now row.row).long in
    let above : n ≤ m = omega (arith, more) in
    let within : length p.now.history.rows ≤ m = omega (arith, above, rows_few n p.now few) in
    record {
      requests = omega (arith, more, few.requests, long);
      rows = entries_few p row.event row.actor row.row once few.rows;
      desks = desks_within m p.now row.event row.actor row.row (sent_within m p row.event row.actor row.row within ordered) (each_beyond n m p.now.desks above few.desks);
    }
