use Rattle.tab_one_pass.proofs.Calms.{put_here}
use Rattle.tab_one_pass.proofs.Passes.{left_then}
use Rattle.tab_one_pass.proofs.Wholes.{cleared_put, first_sent, went_off}
use Rattle.tab_passes.proofs.Keeps.{kept_then}
use Rattle.tab_passes.proofs.Sweeps.{swept_on}
use Rattle.tab_one_pass.proofs.passing.clear.Goals as goal

pub give_way-requires : goal.give_way-requires
give_way-requires g c = (c.requires.0, (c.requires.1.0, (c.requires.1.1.0, c.requires.1.1.1.0)))

pub clear_out-requires : goal.clear_out-requires
clear_out-requires g c =
    (swept_on g.p c.give_way.new.out c.give_way.new.tables c.in_ok-give_way.ensures.passing, (c.in_ok-give_way.ensures.open_, (c.in_ok-give_way.ensures.loads, c.in_ok-give_way.ensures.blamed)))

-- no step is in its check, so no traversal has passed
pub returns-clause-passing : goal.returns-clause-passing
returns-clause-passing g c = went_off g.p _ _ c.in_ok-clear_out.ensures.passing c.requires.1.1.1.1

pub returns-clause-frees : goal.returns-clause-frees
returns-clause-frees g c = λ frees. c.in_ok-clear_out.ensures.frees (c.in_ok-give_way.ensures.frees frees)

pub returns-clause-left : goal.returns-clause-left
returns-clause-left g c = left_then _ _ _ c.in_ok-give_way.ensures.left c.in_ok-clear_out.ensures.left

pub returns-clause-only : goal.returns-clause-only
returns-clause-only g c =
    record { given = c.give_way.new.out; gives = c.in_ok-give_way.ensures.only; blame = c.give_way.new.blame.entries; clears = c.in_ok-clear_out.ensures.only }

pub returns-clause-sent : goal.returns-clause-sent
returns-clause-sent g c =
    first_sent g.p c.args.cause c.args.tables.now.running _ _ _ c.in_ok-give_way.ensures.left c.in_ok-give_way.ensures.only c.in_ok-clear_out.ensures.sent

pub returns-clause-kept : goal.returns-clause-kept
returns-clause-kept g c = kept_then _ _ _ c.in_ok-give_way.ensures.kept c.in_ok-clear_out.ensures.kept

pub returns-clause-unmoved : goal.returns-clause-unmoved
returns-clause-unmoved g c =
    λ req is here. (put_here g.p _ _ c.requires.0 _ c.args.cause c.args.cause
    (cleared_put g.p.event _ c.args.cause c.args.cause _ _ (record { given = c.give_way.new.out; gives = c.in_ok-give_way.ensures.only; blame = c.give_way.new.blame.entries; clears = c.in_ok-clear_out.ensures.only }))
    req is here).here
