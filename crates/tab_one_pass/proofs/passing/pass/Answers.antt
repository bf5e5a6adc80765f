use Rattle.tab_one_pass.proofs.Calms.{passed_calm}
use Rattle.tab_one_pass.proofs.Passes.{left_then}
use Rattle.tab_one_pass.proofs.Wholes.{rest_asks, went_on, whole_loaded, whole_only, whole_sent}
use Rattle.tab_passes.proofs.Keeps.{kept_then}
use Rattle.tab_passes.proofs.Sweeps.{swept_on}
use Rattle.tab_one_pass.proofs.passing.pass.Goals as goal

pub give_way-requires : goal.give_way-requires
give_way-requires g c = (c.requires.0, (c.requires.1.1.0.open_, (c.requires.1.1.0.loads, c.requires.1.1.1.0)))

pub clear_out-requires : goal.clear_out-requires
clear_out-requires g c =
    (swept_on g.p c.give_way.new.out c.give_way.new.tables c.in_ok-give_way.ensures.passing, (c.in_ok-give_way.ensures.open_, (c.in_ok-give_way.ensures.loads, c.in_ok-give_way.ensures.blamed)))

pub serve_and_tell-requires : goal.serve_and_tell-requires
serve_and_tell-requires g c = (
  went_on g.p c.args.cause c.args.tells c.args.tables.now _ c.args.out.now c.give_way.new.out c.clear_out.new.out c.in_ok-give_way.ensures.kept c.give_way.new.blame.entries c.clear_out.new.tables c.in_ok-clear_out.ensures.passing c.requires.1.1.1.1.1,
  (
    c.requires.1.0,
    rest_asks g.p c.args.cause c.args.tells c.args.tables.now _ c.args.out.now c.give_way.new.out _ c.in_ok-give_way.ensures.kept c.give_way.new.blame.entries _ c.in_ok-clear_out.ensures.kept c.in_ok-clear_out.ensures.open_ c.in_ok-clear_out.ensures.rows c.in_ok-clear_out.ensures.loads c.requires.1.1.0.header (c.in_ok-clear_out.ensures.frees (c.in_ok-give_way.ensures.frees c.requires.1.1.1.1.0)),
  ),
)

pub returns-clause-strays : goal.returns-clause-strays
returns-clause-strays g c = c.in_ok-serve_and_tell.ensures.strays _ c.in_ok-clear_out.ensures.strays

pub returns-clause-left : goal.returns-clause-left
returns-clause-left g c =
    left_then _ _ _ c.in_ok-give_way.ensures.left (left_then _ _ _ c.in_ok-clear_out.ensures.left c.in_ok-serve_and_tell.ensures.left)

pub returns-clause-only : goal.returns-clause-only
returns-clause-only g c =
    whole_only g.p c.args.cause c.args.tells c.args.tables.now _ c.args.out.now c.give_way.new.out _ c.in_ok-give_way.ensures.kept c.give_way.new.blame.entries _ c.in_ok-clear_out.ensures.kept _ c.in_ok-serve_and_tell.ensures.only c.in_ok-give_way.ensures.only c.in_ok-clear_out.ensures.only

pub returns-clause-loaded : goal.returns-clause-loaded
returns-clause-loaded g c =
    whole_loaded g.p c.args.cause c.args.tells c.args.tables.now _ c.args.out.now c.give_way.new.out _ c.in_ok-give_way.ensures.kept c.give_way.new.blame.entries _ c.in_ok-clear_out.ensures.kept _ c.in_ok-serve_and_tell.ensures.only c.in_ok-give_way.ensures.left c.in_ok-clear_out.ensures.loaded c.in_ok-serve_and_tell.ensures.stray

pub returns-clause-calm : goal.returns-clause-calm
returns-clause-calm g c =
    passed_calm g.p c.args.out.now c.args.tables.now c.requires.0 _ _ c.in_ok-serve_and_tell.ensures.passing
    (left_then _ _ _ c.in_ok-give_way.ensures.left (left_then _ _ _ c.in_ok-clear_out.ensures.left c.in_ok-serve_and_tell.ensures.left))
    c.in_ok-serve_and_tell.ensures.passed
    c.in_ok-serve_and_tell.ensures.served
    _ _
    (whole_only g.p c.args.cause c.args.tells c.args.tables.now _ c.args.out.now c.give_way.new.out _ c.in_ok-give_way.ensures.kept c.give_way.new.blame.entries _ c.in_ok-clear_out.ensures.kept _ c.in_ok-serve_and_tell.ensures.only c.in_ok-give_way.ensures.only c.in_ok-clear_out.ensures.only)

pub returns-clause-sent : goal.returns-clause-sent
returns-clause-sent g c =
    whole_sent g.p c.args.cause c.args.tells c.args.tables.now _ c.args.out.now c.give_way.new.out _ c.in_ok-give_way.ensures.kept c.give_way.new.blame.entries _ c.in_ok-clear_out.ensures.kept _ c.in_ok-serve_and_tell.ensures.only c.in_ok-give_way.ensures.left c.in_ok-give_way.ensures.only c.in_ok-clear_out.ensures.sent c.in_ok-serve_and_tell.ensures.stray

pub returns-clause-kept : goal.returns-clause-kept
returns-clause-kept g c =
    kept_then _ _ _ c.in_ok-give_way.ensures.kept (kept_then _ _ _ c.in_ok-clear_out.ensures.kept c.in_ok-serve_and_tell.ensures.kept)
