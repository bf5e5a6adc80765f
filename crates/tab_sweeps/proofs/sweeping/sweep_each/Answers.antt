use Rattle.std.proofs.Common.{arith, length, refl, ◌<◌, ◌≤◌}
use Rattle.std.proofs.lemmas.Bool.Decides.{nat_tests}
use Rattle.tab_passes.proofs.Keeps.{kept_none, kept_then}
use Rattle.tab_sweeps.proofs.Courses.{at_low, sweep_begins, sweep_passing, sweep_swept, swept_first, swept_more, swept_only, turn_none, turn_then}
use Rattle.tab_sweeps.proofs.sweeping.sweep_each.Goals as goal

pub loop-i-init : goal.loop-i-init
loop-i-init g c = (
  sweep_begins c.args.blame.now.entries c.args.strays.now g.p c.args.out.now c.args.tables.now c.requires.0 c.requires.1.0 c.requires.1.1.0 c.requires.1.1.1,
  turn_none _,
  swept_first c.args.blame.now.entries c.args.strays.now _ _,
  c.requires.1.1.1,
  kept_none _,
)

pub loop-i-preserved : goal.loop-i-preserved
loop-i-preserved g c =
    let inv = c.loop-i.invariant in
    let at = at_low c.args.strays.now c.loop-i.i (let test = c.loop-i-test.true in let len = c.len-i-end.ensures in let low : c.loop-i.i < length c.args.strays.now = grind (arith, nat_tests, test, len) in low) in (
      c.in_ok-sweep_at.ensures.sweeping,
      turn_then _ _ _ inv.1 c.in_ok-sweep_at.ensures.turn,
      swept_more c.args.blame.now.entries c.args.strays.now _ _ c.loop-i.i at.0 _ _ _ at.1 inv.1 inv.2 c.in_ok-sweep_at.ensures.only,
      inv.3,
      kept_then _ _ _ inv.4 c.in_ok-sweep_at.ensures.kept,
    )

pub sweep_at-requires : goal.sweep_at-requires
sweep_at-requires g c =
    let test = c.loop-i-test.true in
    let len = c.len-i-end.ensures in (
      record { low = (let low : c.loop-i.i < length c.args.strays.now = grind (arith, nat_tests, test, len) in low); left = refl },
      c.loop-i.invariant.0,
    )

pub returns-clause-passing : goal.returns-clause-passing
returns-clause-passing g c =
    let test = c.loop-i-test.false in
    let len = c.len-i-end.ensures in
    sweep_passing c.args.blame.now.entries c.args.strays.now g.p c.loop-i.i _ _ (let past : length c.args.strays.now ≤ c.loop-i.i = grind (arith, nat_tests, test, len) in past) c.loop-i.invariant.0

pub returns-clause-swept : goal.returns-clause-swept
returns-clause-swept g c =
    let test = c.loop-i-test.false in
    let len = c.len-i-end.ensures in
    sweep_swept c.args.blame.now.entries c.args.strays.now g.p c.loop-i.i _ _ (let past : length c.args.strays.now ≤ c.loop-i.i = grind (arith, nat_tests, test, len) in past) c.loop-i.invariant.0

pub returns-clause-only : goal.returns-clause-only
returns-clause-only g c =
    let test = c.loop-i-test.false in
    let len = c.len-i-end.ensures in
    swept_only c.args.blame.now.entries c.args.strays.now _ c.loop-i.i _ _ (let past : length c.args.strays.now ≤ c.loop-i.i = grind (arith, nat_tests, test, len) in past) c.loop-i.invariant.3.ascending c.loop-i.invariant.2
