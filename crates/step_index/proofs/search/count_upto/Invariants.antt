use Rattle.std.proofs.Common.{◌-◌, ◌≡◌, ◌≤◌, ◌+◌, ◌*◌, ◌^◌, false, length, take, drop}
use Rattle.std.specs.Prelude.{nat_le, nat_lt, max}
use Rattle.std.specs.List.{list_any}
use Rattle.step_index.proofs.search.count_upto.Given as goal

abbrev pub invariant-loop-low : goal.invariant-loop-low
invariant-loop-low g l =
    record {
      order : l.low ≤ l.high;
      within : l.high ≤ length l.items;
      upto : list_any (λ item. nat_lt l.number (g.T.Keyed.key item)) (take l.low l.items) ≡ false;
      past : list_any (λ item. nat_le (g.T.Keyed.key item) l.number) (drop l.high l.items) ≡ false;
      counted : l.fn.steps ≤ l.steps;
      cost : 2 ^ (l.steps - l.fn.steps) * max 1 (2 * (l.high - l.low)) ≤ 2 * length l.items + 1;
    }

abbrev pub decreases-loop-low : goal.decreases-loop-low
decreases-loop-low g l = l.high - l.low
