use Rattle.std.proofs.Common.{sym, ◌∙◌, subst, Result, arith}
use Rattle.scenario_text.specs.Gives.{IsRefusal, Reads}
use Rattle.scenario_text.specs.Scenarios.{Scenario}
use Rattle.scenario_text.specs.declared.error.Refusal.{Refusal}
use Rattle.scenario_text.proofs.LineLaws.{reads_too_many, reads_fault, reads_on, reads_end}
use Rattle.scenario_text.proofs.StandingLaws.{left_after}
use Rattle.scenario_text.proofs.scenario.read_lines.Goals as goal

pub returns-then-number-gt65536 : goal.returns-then-number-gt65536
returns-then-number-gt65536 c =
    rw c.refused.ensures (record {
      read = sym c.lines.invariant.rest ∙ reads_too_many c.args.in_run c.args.built c.lines.number c.lines.place c.lines.rest.now _ _ c.in-Some.ensures.cut c.if-number-gt65536.true;
    })

pub returns-in-Err : goal.returns-in-Err
returns-in-Err c = record {
  read = subst (λ (total : Result Scenario Refusal). IsRefusal c.at.result total) c.lines.invariant.rest
      (reads_fault c.args.in_run c.args.built c.lines.number c.lines.place c.lines.rest.now _ _ c.in-Err.e c.at.result c.in-Some.ensures.cut c.if-number-gt65536.false c.in-Err.ensures.read c.at.ensures);
}

pub lines-preserved : goal.lines-preserved
lines-preserved c = record {
  written = c.in-Ok.ensures.written;
  left = left_after c.args.text.now c.lines.rest.now _ _ c.lines.invariant.left c.in-Some.ensures.cut;
  small = omega arith;
  rest = sym (reads_on c.args.in_run c.args.built c.lines.number c.lines.place c.take_line.new.place c.lines.rest.now _ _ c.in-Some.ensures.cut c.if-number-gt65536.false c.in-Ok.ensures.read) ∙ c.lines.invariant.rest;
}

pub returns : goal.returns
returns c = record {
  read = subst (λ (total : Result Scenario Refusal). Reads c.at_end.result total)
      (sym (reads_end c.args.in_run c.args.built c.lines.number c.lines.place c.lines.rest.now c.in_default.ensures.cut) ∙ c.lines.invariant.rest) c.at_end.ensures.read;
}
