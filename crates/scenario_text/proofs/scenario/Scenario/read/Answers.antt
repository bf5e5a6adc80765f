use Rattle.scenario_text.proofs.LineLaws.{reads_too_long}
use Rattle.scenario_text.proofs.scenario.Scenario.read.Goals as goal

pub returns-then-bytes-gt4194304-clause-read : goal.returns-then-bytes-gt4194304-clause-read
returns-then-bytes-gt4194304-clause-read c = rw c.refused.ensures (reads_too_long c.args.in_run c.args.built c.args.bytes.now c.if-bytes-gt4194304.true)
