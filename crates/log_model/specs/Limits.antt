-- How long a log may be: at how many rows an event may begin.
-- This project's own.
use Rattle.std.specs.Prelude.{ℕ, ◌+◌, nat_lt, IsTrue, List, [], ◌∷◌, length}
use Rattle.std.specs.List.{list_all}
use Rattle.log_model.specs.declared.row_kind.LogRow.{LogRow}
use Rattle.log_model.specs.Events.{events_of}

-- how many rows stand before each event, where so many stand before the first
unfoldable pub starts_from : ℕ → List (List LogRow) → List ℕ
starts_from n [] = []
starts_from n (rows ∷ events) = n ∷ starts_from (n + length rows) events

-- no event begins at so many rows or more
unfoldable pub BeginsBelow : ℕ → List LogRow → Type 0
BeginsBelow limit log = IsTrue (list_all (λ (start : ℕ). nat_lt start limit) (starts_from 0 (events_of log)))
