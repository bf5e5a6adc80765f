use Rattle.std.specs.Prelude.{take, ◌++◌, ◌≡◌}
use Rattle.tab_held.proofs.rows.put_all.Given as goal

-- those so far are behind
abbrev pub invariant-loop-row : goal.invariant-loop-row
invariant-loop-row l = l.out ≡ l.fn.out ++ take l.row-index l.row-items
