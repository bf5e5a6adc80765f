use Rattle.std.proofs.Common.{◌≡◌, get_or, sym, arith}
use Rattle.std.specs.Char.{is_ascii_digit, digit_value}
use Rattle.std.proofs.lemmas.Bool.Decides.{nat_tests}
use Rattle.std.proofs.lemmas.Grind.{pow_more}
use Rattle.std.proofs.lemmas.Int.Digits.{digits_value_more}
use Rattle.std.proofs.lemmas.List.Folds.{list_all_more}
use Rattle.tab_call.proofs.WordLaws.{few_digits}
use Rattle.tab_call.proofs.words.digits.Goals as goal

pub overflow_mul-number : goal.overflow_mul-number
overflow_mul-number c =
    let small = few_digits c.loop-b.b-index c.loop-b.number (omega (arith, c.loop-b-test.true, c.requires)) c.loop-b.invariant.small in
    omega (arith, small)

pub overflow_add-number : goal.overflow_add-number
overflow_add-number c =
    let small = few_digits c.loop-b.b-index c.loop-b.number (omega (arith, c.loop-b-test.true, c.requires)) c.loop-b.invariant.small in
    let digit : digit_value (get_or c.args.word.now c.loop-b.b-index 0) ≡ c.from.result = grind (arith, nat_tests) in
    grind (arith, nat_tests, small)

pub loop-b-preserved : goal.loop-b-preserved
loop-b-preserved c =
    let digit : digit_value (get_or c.args.word.now c.loop-b.b-index 0) ≡ c.from.result = grind (arith, nat_tests) in
    record {
      value = omega (arith, digits_value_more 10 c.args.word.now c.loop-b.b-index c.loop-b-test.true, c.loop-b.invariant.value, digit);
      digits = rw (list_all_more is_ascii_digit c.args.word.now c.loop-b.b-index 0 c.loop-b-test.true, c.loop-b.invariant.digits) (sym c.if-not-is_ascii_digit.ensures.value);
      small = rw (pow_more 10 c.loop-b.b-index) (grind (arith, nat_tests));
    }
