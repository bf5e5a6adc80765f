use Rattle.std.proofs.Common.{◌≡◌, get_or, sym, arith}
use Rattle.std.specs.Char.{is_ascii_digit, digit_value}
use Rattle.std.proofs.lemmas.Bool.Decides.{nat_tests}
use Rattle.std.proofs.lemmas.List.Folds.{list_all_more}
use Rattle.std.proofs.lemmas.Int.Digits.{digits_value_more}
use Rattle.log_reading.proofs.DigitLaws.{no_digit, too_large, is_number}
use Rattle.log_reading.proofs.number.number_of.Goals as goal

pub returns-then-not-is_ascii_digit-clause-read : goal.returns-then-not-is_ascii_digit-clause-read
returns-then-not-is_ascii_digit-clause-read c =
    no_digit c.args.word.now c.loop-b.b-index c.args.greatest c.loop-b-test.true (sym c.if-not-is_ascii_digit.ensures.value)

pub returns-then-next-from-clause-read : goal.returns-then-next-from-clause-read
returns-then-next-from-clause-read c =
    let digit : digit_value (get_or c.args.word.now c.loop-b.b-index 0) ≡ c.from-in-loop-b.result = grind (arith, nat_tests) in
    too_large c.args.word.now c.loop-b.b-index c.args.greatest c.loop-b-test.true
    (omega (arith, digits_value_more 10 c.args.word.now c.loop-b.b-index c.loop-b-test.true, c.loop-b.invariant.value, c.from.ensures, digit, c.if-next-from.true, c.from-in-loop-b-2.ensures))

pub loop-b-preserved : goal.loop-b-preserved
loop-b-preserved c =
    let digit : digit_value (get_or c.args.word.now c.loop-b.b-index 0) ≡ c.from-in-loop-b.result = grind (arith, nat_tests) in
    record {
      value = omega (arith, digits_value_more 10 c.args.word.now c.loop-b.b-index c.loop-b-test.true, c.loop-b.invariant.value, c.from.ensures, digit);
      digits = rw (list_all_more is_ascii_digit c.args.word.now c.loop-b.b-index 0 c.loop-b-test.true, c.loop-b.invariant.digits) (sym c.if-not-is_ascii_digit.ensures.value);
      small = omega (arith, c.if-next-from.false, c.from-in-loop-b-2.ensures);
    }

pub returns-clause-read : goal.returns-clause-read
returns-clause-read c = is_number c.args.word.now c.loop-b.b-index c.loop-b.number c.args.greatest c.loop-b-test.false c.loop-b.invariant.value c.loop-b.invariant.digits c.loop-b.invariant.small
