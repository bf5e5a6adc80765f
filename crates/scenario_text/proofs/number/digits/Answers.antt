use Rattle.std.proofs.Common.{◌≡◌, ◌<◌, get_or, sym, subst, ℕ, arith}
use Rattle.std.specs.Char.{is_ascii_digit, digit_value}
use Rattle.std.proofs.lemmas.Bool.Decides.{nat_tests}
use Rattle.std.proofs.lemmas.List.Folds.{list_all_more}
use Rattle.std.proofs.lemmas.Int.Digits.{digits_value_more}
use Rattle.scenario_text.proofs.DigitLaws.{too_large}
use Rattle.scenario_text.proofs.number.digits.Goals as goal

pub returns-then-number-gt99999 : goal.returns-then-number-gt99999
returns-then-number-gt99999 c =
    too_large c.args.bytes.now c.loop-b.b-index c.loop-b-test.true (subst (λ (n : ℕ). 99999 < n) c.loop-b.invariant.value c.if-number-gt99999.true)

pub loop-b-preserved : goal.loop-b-preserved
loop-b-preserved c =
    let digit : digit_value (get_or c.args.bytes.now c.loop-b.b-index 0) ≡ c.from.result = grind (arith, nat_tests) in
    record {
      value = omega (arith, digits_value_more 10 c.args.bytes.now c.loop-b.b-index c.loop-b-test.true, c.loop-b.invariant.value);
      digits = rw (list_all_more is_ascii_digit c.args.bytes.now c.loop-b.b-index 0 c.loop-b-test.true, c.loop-b.invariant.digits) (sym c.if-not-is_ascii_digit.ensures.value);
      small = grind (arith, nat_tests);
    }
