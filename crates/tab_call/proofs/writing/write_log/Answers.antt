use Rattle.log_text.specs.Lines.{log_text}
use Rattle.tab_call.proofs.WriteLaws.{writes_more, part_of_more}
use Rattle.tab_call.proofs.writing.write_log.Goals as goal

pub returns-in-Ok-clause-bytes : goal.returns-in-Ok-clause-bytes
returns-in-Ok-clause-bytes g c =
    writes_more (g.K.Sink.taken c.args.sink.now) (g.K.Sink.taken c.write_rows.new.sink) (g.K.Sink.taken c.write_all.new.sink) (log_text c.args.rows.now) c.args.report.now c.write_all.result c.in-Ok.ensures.bytes c.write_all.ensures.bytes

pub returns-in-Err-clause-bytes : goal.returns-in-Err-clause-bytes
returns-in-Err-clause-bytes g c =
    part_of_more (g.K.Sink.taken c.args.sink.now) (g.K.Sink.taken c.write_rows.new.sink) (log_text c.args.rows.now) c.args.report.now c.in-Err.fault c.in-Err.ensures.bytes
