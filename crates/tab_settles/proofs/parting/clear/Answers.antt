use Rattle.tab_settles.proofs.Halves.{first_asks, first_cleared, first_off, first_put}
use Rattle.tab_settles.proofs.parting.clear.Goals as goal

pub clear-requires : goal.clear-requires
clear-requires g c =
    let asks = first_asks g.h.pass _ _ _ _ _ c.requires.0 in (asks.0, (asks.1.0, (asks.1.1.0, (asks.1.1.1, c.requires.1))))

pub returns-clause-cleared : goal.returns-clause-cleared
returns-clause-cleared g c =
    first_cleared g.h.pass _ _ _ _ _ c.requires.0 _ _ _ c.in_ok-clear.ensures.passing c.in_ok-clear.ensures.left c.in_ok-clear.ensures.only c.in_ok-clear.ensures.kept c.in_ok-clear.ensures.open_ c.in_ok-clear.ensures.loads c.in_ok-clear.ensures.strays c.in_ok-clear.ensures.rows (c.in_ok-clear.ensures.frees c.requires.0.frees) c.in_ok-clear.ensures.sent c.in_ok-clear.ensures.unmoved

pub returns-clause-put : goal.returns-clause-put
returns-clause-put g c =
    first_put g.h.pass _ _ _ _ _ c.requires.0 _ _ c.clear.new.blame.entries c.in_ok-clear.ensures.passing c.in_ok-clear.ensures.left c.in_ok-clear.ensures.only c.in_ok-clear.ensures.kept

pub returns-clause-off : goal.returns-clause-off
returns-clause-off g c =
    first_off g.h.pass _ _ _ _ _ c.requires.0 _ _ c.clear.new.blame.entries c.in_ok-clear.ensures.passing c.in_ok-clear.ensures.left c.in_ok-clear.ensures.only c.in_ok-clear.ensures.kept

pub returns-clause-checks : goal.returns-clause-checks
returns-clause-checks g c = c.in_ok-clear.ensures.kept.checks

pub returns-clause-running : goal.returns-clause-running
returns-clause-running g c = c.in_ok-clear.ensures.kept.running
