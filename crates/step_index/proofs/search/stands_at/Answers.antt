use Rattle.std.proofs.Common.{◌≡◌, ◌+◌, ◌<◌, ℕ, true, length, add-one, arith, sym}
use Rattle.std.proofs.lemmas.Bool.Decides.{nat_tests}
use Rattle.std.specs.Prelude.{nat_lt}
use Rattle.step_index.proofs.Searching.{upto_middle, past_middle, item_at}
use Rattle.step_index.proofs.search.stands_at.Goals as goal

pub returns-then-key-number-clause-upto : goal.returns-then-key-number-clause-upto
returns-then-key-number-clause-upto g c = λ lower.
    let within : c.args.at < length c.args.items.now = (let t = c.in-Some.ensures.lookup.0 in grind (arith, nat_tests, t)) in
    let here = item_at c.args.items.now c.args.at c.in-Some.here.now within c.in-Some.ensures.lookup.1 in
    rw add-one (upto_middle g.T.Keyed.key c.args.items.now c.args.at c.in-Some.here.now c.args.number c.requires.sorted here (omega (arith, c.key.ensures, c.if-key-number.true)))

pub returns-then-key-number-clause-past : goal.returns-then-key-number-clause-past
returns-then-key-number-clause-past g c = λ lower.
    let within : c.args.at + 1 < length c.args.items.now = (let t = c.in-Some-get.ensures.lookup.0 in grind (arith, nat_tests, t)) in
    let there = item_at c.args.items.now (c.args.at + 1) c.in-Some-get.next.now within c.in-Some-get.ensures.lookup.1 in
    let below : c.args.number < c.key-then-key-number.result = grind (arith, nat_tests, lower) in
    past_middle g.T.Keyed.key c.args.items.now (c.args.at + 1) c.in-Some-get.next.now c.args.number c.requires.sorted there (omega (arith, c.key-then-key-number.ensures, below))
