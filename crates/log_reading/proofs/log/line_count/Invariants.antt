use Rattle.std.proofs.Common.{◌≡◌, ◌+◌, ◌≤◌, drop}
use Rattle.log_reading.specs.Outcomes.{lines_from, line_count}
use Rattle.log_reading.proofs.log.line_count.Given as goal

abbrev pub invariant-loop-b : goal.invariant-loop-b
invariant-loop-b l = record {
  counted : l.count + lines_from l.begins (drop l.b-index l.bytes) ≡ line_count l.bytes;
  few : l.count ≤ l.b-index;
}
