use Rattle.std.proofs.Common.{◌∙◌, sym, arith}
use Rattle.history_log.proofs.OwnerLaws.{found_early}
use Rattle.history_log.proofs.owner.owner_of.Goals as goal

pub returns-then-is_some : goal.returns-then-is_some
returns-then-is_some c =
    found_early c.args.doc c.args.rows.now c.loop-row.row-index c.row-item.result c.loop-row.owner c.owner_after-owner.result (c.requires c.if-opens_once.true) (omega arith) c.row-item.is (sym c.if-is_some.true ∙ c.is_some.ensures) c.owner_after-owner.ensures c.loop-row.invariant
