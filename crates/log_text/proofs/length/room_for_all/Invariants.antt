use Rattle.std.proofs.Common.{◌≤◌, All, length, take}
use Rattle.std.specs.Prelude.{min}
use Rattle.log_text.specs.Lines.{line_of_row}
use Rattle.log_text.proofs.length.room_for_all.Given as goal

abbrev pub invariant-loop-row : goal.invariant-loop-row
invariant-loop-row l = All (λ row. min (length (line_of_row row)) 18446744073709551615 ≤ l.most) (take l.row-index l.rows)
