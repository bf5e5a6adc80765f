-- What a row more, or several, do to what a log has come to.
use Rattle.std.proofs.Common.{◌≡◌, ℕ, ◌+◌, List, [], ◌∷◌, ◌++◌, refl}
use Rattle.std.specs.Prelude.{fold}
use Rattle.std.proofs.lemmas.List.Sums.{fold-append}
use Rattle.log_model.specs.declared.row_kind.LogRow.{LogRow}
use Rattle.log_model.specs.Seen.{Seen}
use Rattle.log_model.specs.After.{after}
use Rattle.log_model.specs.Logs.{seen_of}

-- more rows are taken in after the others
pub seen_of_append : (log new : List LogRow) → seen_of (log ++ new) ≡ fold after (seen_of log) new
unfolding seen_of
seen_of_append log new = fold-append _ _ log new

-- the number of the next event, by the rows alone
abbrev pub next_event : ℕ → List LogRow → ℕ
next_event n rows = fold (λ (m : ℕ) (row : LogRow). row.event + 1) n rows

-- the next event's number is one more than the last row's
pub events_fold : (s : Seen) (rows : List LogRow) → (fold after s rows).events ≡ next_event s.events rows
events_fold s [] = refl
events_fold s (row ∷ rows) = events_fold (after s row) rows
