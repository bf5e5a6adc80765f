use Rattle.std.proofs.Common.{◌∙◌, sym, arith}
use Rattle.std.proofs.lemmas.List.{take_all, take_more_same}
use Rattle.std.proofs.lemmas.Slice.Eq.{bytes_eq-Decides}
use Rattle.scenario_text.proofs.word.is_word.Goals as goal

pub loop-i-preserved : goal.loop-i-preserved
loop-i-preserved c =
    take_more_same c.args.bytes.now c.args.word.now c.loop-i.i 0 (omega (arith, c.loop-i-test.true, c.if-bytes-word.false)) c.loop-i-test.true c.loop-i.invariant c.if-bytes-i.false

pub returns : goal.returns
returns c =
    sym ((bytes_eq-Decides c.args.bytes.now c.args.word.now).1
    (sym (take_all c.loop-i.i c.args.bytes.now (omega (arith, c.loop-i-test.false, c.if-bytes-word.false))) ∙ c.loop-i.invariant ∙ take_all c.loop-i.i c.args.word.now c.loop-i-test.false))
