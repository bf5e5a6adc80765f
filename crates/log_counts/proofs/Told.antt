-- The order that a row sends tells an index within the history.
use Rattle.std.proofs.Common.{◌≡◌, ℕ, ◌≤◌, Bool, true, ◌==◌, length, List, Option, Some, None, arith}
use Rattle.std.proofs.lemmas.Bool.{and_parts}
use Rattle.std.proofs.lemmas.Bool.Decides.{nat_tests}
use Rattle.log_model.specs.declared.job.Job.{Job}
use Rattle.log_model.specs.declared.job.Task.{Task}
use Rattle.log_model.specs.declared.job.Task.TheVariants as tasks
use Rattle.log_model.specs.declared.row.Row.{Row}
use Rattle.log_model.specs.declared.row_kind.Actor.{Actor}
use Rattle.log_model.specs.declared.row_kind.LogRow.{LogRow}
use Rattle.log_model.specs.declared.row_kind.RowKind.{RowKind}
use Rattle.log_model.specs.declared.row_kind.RowKind.TheVariants as rows
use Rattle.log_model.specs.Equal.{holds, same_pair}
use Rattle.log_model.specs.History.{history_length, history_index}
use Rattle.log_model.specs.Seen.{document_of}
use Rattle.log_model.specs.Places.{pair_in, shower_of}
use Rattle.log_model.specs.Events.{Point}
use Rattle.log_model.specs.Orders.{has_cause, is_ordered_row}
use Rattle.log_counts.specs.Counts.{told_index}
use Rattle.log_counts.proofs.Rows.{index_within}
use Rattle.log_counts.proofs.Desks.{SentWithin}

-- what follows from an item that passes the test
held : {A C : Type 0} (test : A → Bool) (o : Option A) → holds test o ≡ true → ((a : A) → test a ≡ true → C) → C
held test None holds_ follows = cc
held test (Some a) holds_ follows = follows a holds_

-- a pair of the history has an index within it
pair_within : (pair : ℕ × ℕ) (rows_ : List Row) (step : ℕ) → same_pair pair (pair_in rows_ step) ≡ true → pair.1 ≤ length rows_
pair_within pair rows_ step same =
    let parts = and_parts (pair.0 == history_length rows_) (pair.1 == history_index rows_ step) same in
    let here : pair.1 ≡ history_index rows_ step = grind (arith, nat_tests, parts.1) in
    omega (arith, here, index_within rows_ step)

-- the order's cause says which pair it tells
cause_within : (p : Point) (row : LogRow) (job : Job) (task : Task) → has_cause p row job task ≡ true → told_index task ≤ length p.now.history.rows
cause_within p row job (tasks.Activate entry epoch length_ index memo address) cause =
    held _ (document_of p.now job.doc) cause (λ d is. pair_within (length_, index) p.now.history.rows _ (and_parts _ _ is).1)
cause_within p row job (tasks.Update length_ index) cause =
    held _ (shower_of p.now job.doc) cause (λ place is. pair_within (length_, index) p.now.history.rows _ (and_parts _ _ is).1)
cause_within p row job _ cause = omega arith

-- so the order that a row sends tells an index within the history
pub sent_within : (n : ℕ) (p : Point) (event : ℕ) (actor : Actor) (kind : RowKind) → length p.now.history.rows ≤ n → is_ordered_row p (record { event = event; actor = actor; row = kind }) ≡ true → SentWithin n kind
sent_within n p event actor (rows.Sent job) few ordered =
    omega (arith, few, cause_within p _ job job.task (and_parts _ _ ordered).1)
sent_within n p event actor _ few ordered = tt
