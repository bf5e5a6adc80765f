use Rattle.tab_settles.proofs.Halves.{rest_asks, rested, rested_off, rested_put, rested_quiet}
use Rattle.tab_settles.proofs.parting.rest.Goals as goal

pub serve_and_tell-requires : goal.serve_and_tell-requires
serve_and_tell-requires g c =
    let asks = rest_asks g.h.pass _ _ _ _ _ c.requires.1.1 in (asks.0, (c.requires.0, asks.1))

pub returns-clause-settled : goal.returns-clause-settled
returns-clause-settled g c = λ blame cleared.
    rested g.h.pass _ _ _ _ _ cleared _ _ _ c.in_ok-serve_and_tell.ensures.passing c.in_ok-serve_and_tell.ensures.left c.in_ok-serve_and_tell.ensures.only c.in_ok-serve_and_tell.ensures.kept c.in_ok-serve_and_tell.ensures.served c.in_ok-serve_and_tell.ensures.told c.in_ok-serve_and_tell.ensures.passed c.in_ok-serve_and_tell.ensures.strays c.in_ok-serve_and_tell.ensures.stray c.in_ok-serve_and_tell.ensures.calm

pub returns-clause-quiet : goal.returns-clause-quiet
returns-clause-quiet g c =
    rested_quiet g.h.pass _ _ _ _ _ c.requires.1.1 _ _ _ c.in_ok-serve_and_tell.ensures.passing c.in_ok-serve_and_tell.ensures.left c.in_ok-serve_and_tell.ensures.only c.in_ok-serve_and_tell.ensures.kept

pub returns-clause-put : goal.returns-clause-put
returns-clause-put g c =
    rested_put g.h.pass _ _ _ _ _ c.requires.1.1 _ _ _ c.in_ok-serve_and_tell.ensures.passing c.in_ok-serve_and_tell.ensures.left c.in_ok-serve_and_tell.ensures.only c.in_ok-serve_and_tell.ensures.kept

pub returns-clause-off : goal.returns-clause-off
returns-clause-off g c =
    rested_off g.h.pass _ _ _ _ _ c.requires.1.1 _ _ _ c.in_ok-serve_and_tell.ensures.passing c.in_ok-serve_and_tell.ensures.left c.in_ok-serve_and_tell.ensures.only c.in_ok-serve_and_tell.ensures.kept

pub returns-clause-checks : goal.returns-clause-checks
returns-clause-checks g c = c.in_ok-serve_and_tell.ensures.kept.checks

pub returns-clause-running : goal.returns-clause-running
returns-clause-running g c = c.in_ok-serve_and_tell.ensures.kept.running
