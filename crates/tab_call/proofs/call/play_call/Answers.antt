use Rattle.std.proofs.Common.{sym}
use Rattle.tab_call.proofs.CallLaws.{asked_read, asked_follows, asked_written, completes, refuses, makes}
use Rattle.tab_call.proofs.call.play_call.Goals as goal

pub returns-clause-read : goal.returns-clause-read
returns-clause-read g c =
    asked_read _ c.asked_work.result c.carry_out.result.status (g.S.Source.left c.args.source.now) (g.S.Source.left c.carry_out.new.source) (g.S.Source.faults c.args.source.now) (g.S.Source.faults c.carry_out.new.source) c.asked_work.ensures c.carry_out.ensures.read

pub returns-clause-follows : goal.returns-clause-follows
returns-clause-follows g c =
    asked_follows _ c.asked_work.result c.carry_out.result.status (g.S.Source.left c.args.source.now) (g.S.Source.left c.carry_out.new.source) c.carry_out.result.log c.asked_work.ensures c.carry_out.ensures.follows

pub returns-clause-written : goal.returns-clause-written
returns-clause-written g c =
    asked_written _ c.asked_work.result c.carry_out.result.status (g.K.Sink.taken c.args.sink.now) (g.K.Sink.taken c.carry_out.new.sink) (g.K.Sink.faults c.args.sink.now) (g.K.Sink.faults c.carry_out.new.sink) c.carry_out.result.log c.asked_work.ensures c.carry_out.ensures.written

pub returns-clause-done : goal.returns-clause-done
returns-clause-done g c bytes scenario heard spells free =
    completes c.carry_out.result.status _ _ (g.S.Source.left c.args.source.now) (g.S.Source.left c.carry_out.new.source) (g.S.Source.faults c.args.source.now) (g.S.Source.faults c.carry_out.new.source) (g.K.Sink.taken c.args.sink.now) (g.K.Sink.taken c.carry_out.new.sink) (g.K.Sink.faults c.args.sink.now) (g.K.Sink.faults c.carry_out.new.sink) c.carry_out.result.log (rw (sym c.asked_work.ensures) c.carry_out.ensures.usage) (returns-clause-read g c) (returns-clause-follows g c) c.carry_out.ensures.written bytes scenario heard spells free

pub returns-clause-refused : goal.returns-clause-refused
returns-clause-refused g c bytes refusal heard none =
    refuses c.carry_out.result.status _ (g.S.Source.left c.args.source.now) (g.S.Source.left c.carry_out.new.source) (g.S.Source.faults c.args.source.now) (g.S.Source.faults c.carry_out.new.source) (rw (sym c.asked_work.ensures) c.carry_out.ensures.usage) (returns-clause-read g c) bytes refusal heard none

pub returns-clause-made : goal.returns-clause-made
returns-clause-made g c n is decided free =
    makes c.carry_out.result.status _ (g.S.Source.left c.args.source.now) (g.S.Source.left c.carry_out.new.source) (g.S.Source.faults c.args.source.now) (g.S.Source.faults c.carry_out.new.source) _ (g.K.Sink.taken c.args.sink.now) (g.K.Sink.taken c.carry_out.new.sink) (g.K.Sink.faults c.args.sink.now) (g.K.Sink.faults c.carry_out.new.sink) (returns-clause-read g c) c.carry_out.ensures.written n is decided free
