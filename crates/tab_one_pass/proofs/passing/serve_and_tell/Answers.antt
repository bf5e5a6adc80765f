use Rattle.tab_one_pass.proofs.Calms.{passed_calm}
use Rattle.tab_one_pass.proofs.Served.{rest_left, rest_only, rest_passed, rest_served, rest_stray, rest_strays, walk_asks}
use Rattle.tab_one_pass.proofs.Wholes.{served_put}
use Rattle.tab_passes.proofs.Keeps.{kept_then}
use Rattle.tab_one_pass.proofs.passing.serve_and_tell.Goals as goal

pub serve_all-requires : goal.serve_all-requires
serve_all-requires g c =
    (c.requires.0, (c.requires.1.0, walk_asks g.p c.args.cause c.args.tells c.args.tables.now c.args.out.now c.requires.1.1))

pub returns-clause-served : goal.returns-clause-served
returns-clause-served g c =
    rest_served g.p c.args.cause c.args.tells c.args.tables.now c.args.out.now c.requires.1.1 _ _ _ c.in_ok-serve_all.ensures.only c.in_ok-serve_all.ensures.left c.in_ok-tell_all.ensures.only c.in_ok-tell_all.ensures.more c.in_ok-tell_all.ensures.passing c.in_ok-serve_all.ensures.served

pub returns-clause-passed : goal.returns-clause-passed
returns-clause-passed g c =
    rest_passed g.p c.args.cause c.args.tells c.args.tables.now c.args.out.now c.requires.1.1 _ _ _ c.in_ok-serve_all.ensures.only c.in_ok-serve_all.ensures.left c.in_ok-tell_all.ensures.only c.in_ok-tell_all.ensures.more c.in_ok-tell_all.ensures.passing c.in_ok-serve_all.ensures.walked

pub returns-clause-strays : goal.returns-clause-strays
returns-clause-strays g c =
    rest_strays g.p c.args.cause c.args.tells c.args.tables.now c.args.out.now c.requires.1.1 _ _ _ c.in_ok-serve_all.ensures.only c.in_ok-serve_all.ensures.left c.in_ok-tell_all.ensures.only c.in_ok-tell_all.ensures.more c.in_ok-tell_all.ensures.passing

pub returns-clause-stray : goal.returns-clause-stray
returns-clause-stray g c =
    rest_stray g.p c.args.cause c.args.tells c.args.tables.now c.args.out.now c.requires.1.1 _ _ _ c.in_ok-serve_all.ensures.only c.in_ok-serve_all.ensures.left c.in_ok-tell_all.ensures.only c.in_ok-tell_all.ensures.more c.in_ok-tell_all.ensures.passing

pub returns-clause-left : goal.returns-clause-left
returns-clause-left g c =
    rest_left g.p c.args.cause c.args.tells c.args.tables.now c.args.out.now c.requires.1.1 _ _ _ c.in_ok-serve_all.ensures.only c.in_ok-serve_all.ensures.left c.in_ok-tell_all.ensures.only c.in_ok-tell_all.ensures.more c.in_ok-tell_all.ensures.passing

pub returns-clause-only : goal.returns-clause-only
returns-clause-only g c =
    rest_only g.p c.args.cause c.args.tells c.args.tables.now c.args.out.now c.requires.1.1 _ _ _ c.in_ok-serve_all.ensures.only c.in_ok-serve_all.ensures.left c.in_ok-tell_all.ensures.only c.in_ok-tell_all.ensures.more c.in_ok-tell_all.ensures.passing c.in_ok-serve_all.ensures.quiet

pub returns-clause-kept : goal.returns-clause-kept
returns-clause-kept g c = kept_then _ _ _ c.in_ok-serve_all.ensures.kept c.in_ok-tell_all.ensures.kept

pub returns-clause-calm : goal.returns-clause-calm
returns-clause-calm g c =
    passed_calm g.p c.args.out.now c.args.tables.now c.requires.0 _ _ c.in_ok-tell_all.ensures.passing
    (rest_left g.p c.args.cause c.args.tells c.args.tables.now c.args.out.now c.requires.1.1 _ _ _ c.in_ok-serve_all.ensures.only c.in_ok-serve_all.ensures.left c.in_ok-tell_all.ensures.only c.in_ok-tell_all.ensures.more c.in_ok-tell_all.ensures.passing)
    (rest_passed g.p c.args.cause c.args.tells c.args.tables.now c.args.out.now c.requires.1.1 _ _ _ c.in_ok-serve_all.ensures.only c.in_ok-serve_all.ensures.left c.in_ok-tell_all.ensures.only c.in_ok-tell_all.ensures.more c.in_ok-tell_all.ensures.passing c.in_ok-serve_all.ensures.walked)
    (rest_served g.p c.args.cause c.args.tells c.args.tables.now c.args.out.now c.requires.1.1 _ _ _ c.in_ok-serve_all.ensures.only c.in_ok-serve_all.ensures.left c.in_ok-tell_all.ensures.only c.in_ok-tell_all.ensures.more c.in_ok-tell_all.ensures.passing c.in_ok-serve_all.ensures.served)
    c.args.cause c.args.tells
    (served_put g.p.event _ _ _ _ _ (rest_only g.p c.args.cause c.args.tells c.args.tables.now c.args.out.now c.requires.1.1 _ _ _ c.in_ok-serve_all.ensures.only c.in_ok-serve_all.ensures.left c.in_ok-tell_all.ensures.only c.in_ok-tell_all.ensures.more c.in_ok-tell_all.ensures.passing c.in_ok-serve_all.ensures.quiet))
