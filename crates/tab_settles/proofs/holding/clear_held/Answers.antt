use Rattle.tab_settles.proofs.Parts.{clear_asks, cleared_held, cleared_loose, cleared_more, cleared_off}
use Rattle.tab_settles.proofs.holding.clear_held.Goals as goal

pub clear_out-requires : goal.clear_out-requires
clear_out-requires g c = clear_asks g.h.pass _ _ _ _ _ c.requires.0 c.requires.1.0 c.requires.1.0

pub returns-clause-cleared : goal.returns-clause-cleared
returns-clause-cleared g c =
    cleared_held g.h.pass _ _ _ _ _ c.requires.0 c.requires.1.0 _ _ _ c.in_ok-clear_out.ensures.passing c.in_ok-clear_out.ensures.left c.in_ok-clear_out.ensures.only c.in_ok-clear_out.ensures.kept c.in_ok-clear_out.ensures.open_ c.in_ok-clear_out.ensures.loads c.in_ok-clear_out.ensures.strays c.in_ok-clear_out.ensures.rows (c.in_ok-clear_out.ensures.frees c.requires.1.0.frees) c.in_ok-clear_out.ensures.sent c.requires.1.1

pub returns-clause-loose : goal.returns-clause-loose
returns-clause-loose g c = cleared_loose g.h.pass.event _ _ _ c.in_ok-clear_out.ensures.only

pub returns-clause-put : goal.returns-clause-put
returns-clause-put g c =
    cleared_more g.h.pass _ _ _ _ _ c.requires.0 c.requires.1.0 _ _ c.clear_out.new.blame.entries c.in_ok-clear_out.ensures.passing c.in_ok-clear_out.ensures.left c.in_ok-clear_out.ensures.only c.in_ok-clear_out.ensures.kept

pub returns-clause-off : goal.returns-clause-off
returns-clause-off g c =
    cleared_off g.h.pass _ _ _ _ _ c.requires.0 c.requires.1.0 _ _ c.clear_out.new.blame.entries c.in_ok-clear_out.ensures.passing c.in_ok-clear_out.ensures.left c.in_ok-clear_out.ensures.only c.in_ok-clear_out.ensures.kept

pub returns-clause-checks : goal.returns-clause-checks
returns-clause-checks g c = c.in_ok-clear_out.ensures.kept.checks
