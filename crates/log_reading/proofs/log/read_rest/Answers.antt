use Rattle.std.proofs.Common.{◌++◌}
use Rattle.log_text.specs.Lines.{log_text}
use Rattle.log_reading.proofs.LogLaws.{IsKept, one_more}
use Rattle.log_reading.proofs.log.read_rest.Goals as goal

pub lines-preserved : goal.lines-preserved
lines-preserved c =
    let kept : IsKept c.lines.log c.lines.rest.now (log_text c.args.log.now ++ c.args.bytes.now) = record { readable = c.lines.invariant.readable; text = c.lines.invariant.text; few = c.lines.invariant.few } in
    let more = one_more c.lines.log c.push_row.new.self c.in-Ok.first.0 c.lines.rest.now c.in-Ok.first.1.now (log_text c.args.log.now ++ c.args.bytes.now) c.in_ok-push_row.ensures.ok c.in-Ok.ensures.0 c.in-Ok.ensures.1 kept in
    record { readable = more.readable; text = more.text; few = more.few }
