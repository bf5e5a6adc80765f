-- A log has sent no more orders than it has rows.
use Rattle.std.proofs.Common.{ℕ, ◌+◌, ◌≤◌, List, [], ◌∷◌, length, fold, arith}
use Rattle.log_model.specs.declared.row_kind.LogRow.{LogRow}
use Rattle.log_model.specs.declared.row_kind.RowKind.{RowKind}
use Rattle.log_model.specs.declared.row_kind.RowKind.TheVariants as rows
use Rattle.log_model.specs.After.{after, jobs_after}
use Rattle.log_model.specs.Logs.{seen_of}
use Rattle.log_model.specs.Seen.{Seen, nothing}

-- a row sends one order at most
one_order : (jobs : ℕ) (kind : RowKind) → jobs_after jobs kind ≤ jobs + 1
one_order jobs (rows.Sent job) = omega arith
one_order jobs _ = omega arith

-- so do more rows, one each
jobs_below : (s : Seen) (log : List LogRow) → (fold after s log).jobs ≤ s.jobs + length log
jobs_below s [] = omega arith
jobs_below s (row ∷ log) = omega (arith, jobs_below (after s row) log, one_order s.jobs row.row)

-- the law
pub jobs_few : (log : List LogRow) → (seen_of log).jobs ≤ length log
unfolding seen_of
jobs_few log = let below : (fold after nothing log).jobs ≤ 0 + length log = jobs_below nothing log in omega (arith, below)
