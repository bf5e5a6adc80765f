use Rattle.std.proofs.Common.{◌∙◌, sym}
use Rattle.std.proofs.lemmas.List.{take_rest}
use Rattle.log_reading.proofs.LogLaws.{no_end, line_fault, same_line, other_line}
use Rattle.log_reading.proofs.log.first_row.Goals as goal

pub returns-in-None : goal.returns-in-None
returns-in-None c = no_end c.args.bytes.now (sym c.place_of.ensures ∙ c.in-None.is)

pub returns-in-Err : goal.returns-in-Err
returns-in-Err c = line_fault c.args.bytes.now c.in-Some.at c.in-Err.fault (sym c.place_of.ensures ∙ c.in-Some.is) c.in-Err.ensures.read

pub returns-then-is_same : goal.returns-then-is_same
returns-then-is_same c = (c.in-Ok.ensures.fits, rw take_rest (same_line c.args.bytes.now c.in-Some.at c.in-Ok.row (sym c.in_ok-is_same.ensures ∙ c.if-is_same.true)))

pub returns : goal.returns
returns c = other_line c.args.bytes.now c.in-Some.at c.in-Ok.row (sym c.place_of.ensures ∙ c.in-Some.is) c.in-Ok.ensures.read (sym c.in_ok-is_same.ensures ∙ c.if-is_same.false)
