use Rattle.std.proofs.Common.{◌≡◌, ◌∙◌, ◌==◌, true, false, refl, sym, ap, not}
use Rattle.history_log.proofs.LeftLaws.{left_test, not_true, not_false}
use Rattle.history_log.proofs.OwnerLaws.{opening_take}
use Rattle.history_log.proofs.left.is_left.Goals as goal

pub owner_of-requires : goal.owner_of-requires
owner_of-requires c = λ once. opening_take c.args.i c.args.rows.now (c.requires.opens_once once)

pub returns-in_default-owner_of : goal.returns-in_default-owner_of
returns-in_default-owner_of c =
    left_test c.args.proc c.args.rows.now c.args.i c.index-rows-i.result c.in-Some.req c.in-Some.doc c.owner_of.result false c.requires.here c.index-rows-i.is (sym c.poke_of.ensures ∙ c.in-Some.is) c.owner_of.ensures (rw c.in_default-owner_of.is refl)

pub returns-then-ne : goal.returns-then-ne
returns-then-ne c =
    let other : (c.in-Some-owner_of.owner.0 == c.args.proc.0) ≡ false = not_true _ (sym c.ne.ensures ∙ c.if-ne.true) in
    left_test c.args.proc c.args.rows.now c.args.i c.index-rows-i.result c.in-Some.req c.in-Some.doc c.owner_of.result false c.requires.here c.index-rows-i.is (sym c.poke_of.ensures ∙ c.in-Some.is) c.owner_of.ensures (rw (c.in-Some-owner_of.is, other) refl)

pub returns : goal.returns
returns c =
    let same : (c.in-Some-owner_of.owner.0 == c.args.proc.0) ≡ true = not_false _ (sym c.ne.ensures ∙ c.if-ne.false) in
    left_test c.args.proc c.args.rows.now c.args.i c.index-rows-i.result c.in-Some.req c.in-Some.doc c.owner_of.result (not c.is_dropped.result) c.requires.here c.index-rows-i.is (sym c.poke_of.ensures ∙ c.in-Some.is) c.owner_of.ensures (rw (c.in-Some-owner_of.is, same) (ap not c.is_dropped.ensures))
