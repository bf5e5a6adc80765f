use Rattle.std.proofs.Common.{ap, ◌∙◌, arith}
use Rattle.log_text.specs.Room.{Held}
use Rattle.tab_call.proofs.WriteLaws.{line_written, line_unwritten}
use Rattle.tab_call.proofs.writing.write_rows.Goals as goal

pub returns-in-Err-clause-bytes : goal.returns-in-Err-clause-bytes
returns-in-Err-clause-bytes g c =
    let text = c.bytes.ensures ∙ ap (λ (held : Held). held.text) c.set.ensures in
    line_unwritten (g.K.Sink.taken c.args.sink.now) (g.K.Sink.taken c.loop-row.sink) (g.K.Sink.taken c.write_all.new.sink) c.args.rows.now c.loop-row.row-index c.row-item.result c.in-Err.fault c.loop-row-test.true c.row-item.is c.loop-row.invariant.taken (rw text at c.in-Err.ensures.bytes)

pub loop-row-preserved : goal.loop-row-preserved
loop-row-preserved g c =
    let text = c.bytes.ensures ∙ ap (λ (held : Held). held.text) c.set.ensures in
    record {
      taken = line_written (g.K.Sink.taken c.args.sink.now) (g.K.Sink.taken c.loop-row.sink) (g.K.Sink.taken c.write_all.new.sink) c.args.rows.now c.loop-row.row-index c.row-item.result c.loop-row-test.true c.row-item.is c.loop-row.invariant.taken (rw text at c.in-Ok.ensures.bytes);
      later = omega (arith, c.loop-row.invariant.later, c.in-Ok.ensures.cause.later);
      room = ap (λ (held : Held). held.room) c.set.ensures ∙ c.loop-row.invariant.room;
    }
