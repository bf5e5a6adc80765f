use Rattle.std.proofs.Common.{◌+◌, ◌∙◌, sym, arith, length-drop}
use Rattle.std.proofs.lemmas.List.{take_rest}
use Rattle.scenario_text.proofs.PieceLaws.{pieces_first, pieces_only, none_before}
use Rattle.scenario_text.proofs.cut.cut.Goals as goal

pub returns-in-Some : goal.returns-in-Some
returns-in-Some c =
    let first = pieces_first c.args.separator c.args.bytes.now c.in-Some.at (sym c.place_of.ensures ∙ c.in-Some.is) in
    rw take_rest (record { cut = first.1; free = none_before c.args.separator c.args.bytes.now c.in-Some.at (sym c.place_of.ensures ∙ c.in-Some.is); shorter = omega (arith, first.0, length-drop (c.in-Some.at + 1) c.args.bytes.now) })

pub returns-in-None : goal.returns-in-None
returns-in-None c = record { cut = pieces_only c.args.separator c.args.bytes.now (sym c.place_of.ensures ∙ c.in-None.is); free = tt; shorter = tt }
