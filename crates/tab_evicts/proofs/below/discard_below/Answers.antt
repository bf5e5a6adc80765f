use Rattle.std.proofs.Common.{arith, length, ◌≤◌}
use Rattle.std.proofs.lemmas.Bool.Decides.{nat_tests}
use Rattle.tab_evicts.proofs.Nones.{no_more_none, no_more_then, none_of_all, none_of_first, none_of_next}
use Rattle.tab_evicts.proofs.Spans.{stays_none, stays_then}
use Rattle.tab_evicts.proofs.below.discard_below.Goals as goal
use Rattle.tab_passes.proofs.Keeps.{kept_none, kept_then}
use Rattle.tab_passes.proofs.Onlies.{only_none, only_then}

pub loop-i-init : goal.loop-i-init
loop-i-init g c = (c.requires, only_none _ _, stays_none _, none_of_first c.args.docs.now _ _, no_more_none _ _, kept_none _)

pub loop-i-preserved : goal.loop-i-preserved
loop-i-preserved g c =
    let inv = c.loop-i.invariant in (
      c.in_ok-discard_if.ensures.letting,
      only_then _ _ _ _ inv.1 c.in_ok-discard_if.ensures.only,
      stays_then _ _ _ inv.2 c.in_ok-discard_if.ensures.stays,
      none_of_next _ _ _ _ _ _ c.at.ensures inv.3 c.in_ok-discard_if.ensures.fewer c.in_ok-discard_if.ensures.gone,
      no_more_then _ _ _ _ inv.4 c.in_ok-discard_if.ensures.fewer,
      kept_then _ _ _ inv.5 c.in_ok-discard_if.ensures.kept,
    )

pub returns-clause-gone : goal.returns-clause-gone
returns-clause-gone g c =
    let test = c.loop-i-test.false in
    let len = c.len-i-end.ensures in
    none_of_all c.args.docs.now c.loop-i.i _ _ (let past : length c.args.docs.now ≤ c.loop-i.i = grind (arith, nat_tests, test, len) in past) c.loop-i.invariant.3
