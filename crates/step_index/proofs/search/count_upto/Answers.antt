use Rattle.std.proofs.Common.{◌≡◌, ◌+◌, ◌-◌, ◌/◌, ◌<◌, ℕ, suc, length, false, drop, add-one, arith, subst}
use Rattle.std.specs.Prelude.{nat_le}
use Rattle.std.specs.List.{list_any}
use Rattle.step_index.proofs.Searching.{upto_middle, past_middle, halved, item_at}
use Rattle.step_index.proofs.search.count_upto.Goals as goal

pub loop-low-preserved-then-key-number : goal.loop-low-preserved-then-key-number
loop-low-preserved-then-key-number g c =
    let l = c.loop-low in
    let middle : ℕ = l.low + (l.high - l.low) / 2 in
    let within : middle < length c.args.items.now = omega (arith, l.invariant.order, l.invariant.within, c.loop-low-test.true) in
    let here = item_at c.args.items.now middle c.index-items-middle.result within c.index-items-middle.is in
    let t = l.steps - c.args.steps.now in
    record {
      order = omega (arith, l.invariant.order, c.loop-low-test.true);
      within = l.invariant.within;
      upto = rw add-one (upto_middle g.T.Keyed.key c.args.items.now middle c.index-items-middle.result c.args.number c.requires.sorted here (omega (arith, c.key.ensures, c.if-key-number.true)));
      past = l.invariant.past;
      counted = omega (arith, c.tick.ensures, l.invariant.counted);
      cost =
          let e : c.tick.new.self - c.args.steps.now ≡ suc t = omega (arith, c.tick.ensures, l.invariant.counted) in
          rw e (halved t (l.high - l.low) (l.high - (middle + 1)) _ l.invariant.cost (omega (arith, c.loop-low-test.true)) (omega (arith, c.loop-low-test.true)));
    }

pub loop-low-preserved : goal.loop-low-preserved
loop-low-preserved g c =
    let l = c.loop-low in
    let middle : ℕ = l.low + (l.high - l.low) / 2 in
    let within : middle < length c.args.items.now = omega (arith, l.invariant.order, l.invariant.within, c.loop-low-test.true) in
    let here = item_at c.args.items.now middle c.index-items-middle.result within c.index-items-middle.is in
    let t = l.steps - c.args.steps.now in
    record {
      order = omega arith;
      within = omega (arith, within);
      upto = l.invariant.upto;
      past = past_middle g.T.Keyed.key c.args.items.now middle c.index-items-middle.result c.args.number c.requires.sorted here (omega (arith, c.key.ensures, c.if-key-number.false));
      counted = omega (arith, c.tick.ensures, l.invariant.counted);
      cost =
          let e : c.tick.new.self - c.args.steps.now ≡ suc t = omega (arith, c.tick.ensures, l.invariant.counted) in
          rw e (halved t (l.high - l.low) (middle - l.low) _ l.invariant.cost (omega (arith, c.loop-low-test.true)) (omega (arith, c.loop-low-test.true)));
    }

pub returns-clause-past : goal.returns-clause-past
returns-clause-past g c =
    let l = c.loop-low in
    let same : l.high ≡ l.low = omega (arith, l.invariant.order, c.loop-low-test.false) in
    subst (λ (n : ℕ). list_any (λ item. nat_le (g.T.Keyed.key item) c.args.number) (drop n c.args.items.now) ≡ false) same l.invariant.past
