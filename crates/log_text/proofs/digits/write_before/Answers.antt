use Rattle.std.proofs.Common.{decimal}
use Rattle.log_text.proofs.DigitLaws.{written_before}
use Rattle.log_text.proofs.digits.write_before.Goals as goal

pub returns : goal.returns
returns c = written_before c.args.bytes.now c.write_digits.new.buf (decimal c.args.number) c.args.end c.write_digits.result c.write_digits.ensures.start c.write_digits.ensures.written c.write_digits.ensures.before
