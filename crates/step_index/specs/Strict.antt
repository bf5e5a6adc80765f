-- Rows in order.
-- This project's own.
use Rattle.std.specs.Prelude.{◌≡◌, false, not, List, [], ◌∷◌}
use Rattle.std.specs.List.{list_any}
use Rattle.log_model.specs.declared.row.Row.{Row}
use Rattle.log_model.specs.Order.{is_before}

-- each row stands before all that follow it
abbrev pub IsStrict : List Row → Type 0
IsStrict [] = Unit {0}
IsStrict (row ∷ rows) = (list_any (λ other. not (is_before row other)) rows ≡ false) × IsStrict rows
