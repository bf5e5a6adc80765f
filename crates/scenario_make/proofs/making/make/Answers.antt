use Rattle.scenario_make.proofs.Spelling.{made_read_back, made_spelled, made_written}
use Rattle.scenario_make.proofs.making.make.Goals as goal

pub invariant_of-result : goal.invariant_of-result
invariant_of-result c = made_written c.in_ok-header.header c.in_ok-lines.lines c.args.n c.in_ok-header.ensures c.in_ok-lines.ensures

pub returns-clause-spelled : goal.returns-clause-spelled
returns-clause-spelled c = made_spelled c.in_ok-header.header c.in_ok-lines.lines c.args.n c.in_ok-header.ensures c.in_ok-lines.ensures

pub returns-clause-read_back : goal.returns-clause-read_back
returns-clause-read_back c = made_read_back c.in_ok-header.header c.in_ok-lines.lines c.args.n c.in_ok-header.ensures c.in_ok-lines.ensures
