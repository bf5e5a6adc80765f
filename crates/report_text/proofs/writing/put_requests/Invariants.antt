use Rattle.std.proofs.Common.{◌≡◌, ◌+◌, ◌++◌, drop}
use Rattle.report_text.specs.Endings.{ending_lines}
use Rattle.report_text.proofs.writing.put_requests.Given as goal

abbrev pub invariant-loop-i : goal.invariant-loop-i
invariant-loop-i l = l.out.items ++ ending_lines (l.i + 1) (drop l.i l.endings) ≡ l.fn.out.items ++ ending_lines 1 l.endings
