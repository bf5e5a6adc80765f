use Rattle.std.proofs.Common.{sym, arith}
use Rattle.std.proofs.lemmas.Bool.{leb-true}
use Rattle.step_index.proofs.Searching.{upto_last, no_last}
use Rattle.step_index.proofs.search.are_upto.Goals as goal

pub returns-in-Some : goal.returns-in-Some
returns-in-Some g c = λ upto.
    upto_last g.T.Keyed.key c.args.items.now c.in-Some.last.now c.args.number c.requires.sorted (sym c.in-Some.ensures.value)
    (omega (arith, c.key.ensures, leb-true c.key.result c.args.number upto))

pub returns-in-None : goal.returns-in-None
returns-in-None g c = λ _. no_last g.T.Keyed.key c.args.items.now c.args.number (sym c.in-None.ensures.value)
