use Rattle.std.proofs.Common.{◌≡◌, ◌+◌, ◌≤◌, ◌++◌, length}
use Rattle.log_text.specs.Lines.{log_text}
use Rattle.log_reading.specs.Readable.{AreReadable}
use Rattle.log_reading.specs.Outcomes.{line_count}
use Rattle.log_reading.proofs.log.read_rest.Given as goal

abbrev pub invariant-lines : goal.invariant-lines
invariant-lines l = record {
  readable : AreReadable l.log;
  text : log_text l.log ++ l.rest ≡ log_text l.fn.log ++ l.bytes;
  few : length l.log + line_count l.rest ≤ 2000000;
}

abbrev pub decreases-lines : goal.decreases-lines
decreases-lines l = length l.rest
