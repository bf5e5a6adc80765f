use Rattle.std.proofs.Common.{◌≡◌, ◌<◌, [], rules, arith}
use Rattle.std.proofs.lemmas.Grind.{common_steps}
use Rattle.std.specs.Prelude.{Err}
use Rattle.log_reading.specs.declared.error.LogTextError.TheVariants as errors
use Rattle.log_reading.specs.Outcomes.{line_count}
use Rattle.log_reading.proofs.LogLaws.{read_back}
use Rattle.log_reading.proofs.log.read_log.Goals as goal

pub returns-then-is_empty-clause-read_back : goal.returns-then-is_empty-clause-read_back
returns-then-is_empty-clause-read_back c = let none : c.args.bytes.now ≡ [] = grind (arith, common_steps) in read_back (Err errors.NoRows) c.args.bytes.now none

pub returns-then-line_count-gt2000000-clause-read_back : goal.returns-then-line_count-gt2000000-clause-read_back
returns-then-line_count-gt2000000-clause-read_back c =
    let many : 2000000 < line_count c.args.bytes.now = search rules in read_back (Err errors.TooManyRows) c.args.bytes.now many

pub returns-clause-read_back : goal.returns-clause-read_back
returns-clause-read_back c = read_back c.read_lines.result c.args.bytes.now c.read_lines.ensures
