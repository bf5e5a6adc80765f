use Rattle.std.proofs.Common.{◌∙◌, sym}
use Rattle.std.proofs.lemmas.List.{take_rest}
use Rattle.log_reading.proofs.CutLaws.{cut_at, cut_nowhere}
use Rattle.log_reading.proofs.cut.cut.Goals as goal

pub returns-in-Some-clause-before : goal.returns-in-Some-clause-before
returns-in-Some-clause-before c = sym (cut_at c.args.separator c.args.bytes.now c.in-Some.at (sym c.place_of.ensures ∙ c.in-Some.is)).before

pub returns-in-Some-clause-after : goal.returns-in-Some-clause-after
returns-in-Some-clause-after c = rw take_rest (sym (cut_at c.args.separator c.args.bytes.now c.in-Some.at (sym c.place_of.ensures ∙ c.in-Some.is)).after)

pub returns-in-None-clause-before : goal.returns-in-None-clause-before
returns-in-None-clause-before c = sym (cut_nowhere c.args.separator c.args.bytes.now (sym c.place_of.ensures ∙ c.in-None.is)).before

pub returns-in-None-clause-after : goal.returns-in-None-clause-after
returns-in-None-clause-after c = sym (cut_nowhere c.args.separator c.args.bytes.now (sym c.place_of.ensures ∙ c.in-None.is)).after
