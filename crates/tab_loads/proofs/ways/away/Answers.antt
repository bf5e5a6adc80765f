use Rattle.std.proofs.Common.{Option, ap, arith, length, sym, ◌+◌, ◌-◌, ◌<◌, ◌∙◌, ◌≤◌}
use Rattle.tab_ids.specs.declared.NavId.{NavId}
use Rattle.tab_loads.proofs.Aways.{away_end, away_past, away_top, away_within}
use Rattle.tab_loads.proofs.ways.away.Goals as goal

pub returns-in-None : goal.returns-in-None
returns-in-None c =
    c.away_or-found.ensures
    ∙ sym (away_top (length c.args.tables.now.tree.navs - c.loop-i.i) c.args.tables.now c.loop-i.found c.loop-i.at (sym c.parent_of.ensures ∙ c.in-None.is))
    ∙ sym c.loop-i.invariant

pub loop-i-preserved : goal.loop-i-preserved
loop-i-preserved c =
    let low : c.loop-i.i < length c.args.tables.now.tree.navs = (let test = c.loop-i-test.true in let ends = c.len-i-end.ensures in omega (arith, test, ends)) in
    c.loop-i.invariant
    ∙ away_past (length c.args.tables.now.tree.navs) c.loop-i.i c.args.tables.now c.loop-i.found c.loop-i.at c.in-Some.parent low (sym c.parent_of.ensures ∙ c.in-Some.is)
    ∙ ap (λ (o : Option NavId). away_within (length c.args.tables.now.tree.navs - (c.loop-i.i + 1)) c.args.tables.now o c.in-Some.parent) (sym c.away_or-found.ensures)

pub returns : goal.returns
returns c =
    let past : length c.args.tables.now.tree.navs ≤ c.loop-i.i = (let test = c.loop-i-test.false in let ends = c.len-i-end.ensures in omega (arith, test, ends)) in
    c.away_or.ensures
    ∙ sym (away_end (length c.args.tables.now.tree.navs) c.loop-i.i c.args.tables.now c.loop-i.found c.loop-i.at past)
    ∙ sym c.loop-i.invariant
