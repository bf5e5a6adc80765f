use Rattle.std.proofs.Common.{sym, ◌∙◌}
use Rattle.tab_drops.proofs.Ones.{moved_gives, moved_turn, settled_turn}
use Rattle.tab_drops.proofs.dropping.drop_if_moved.Goals as goal

pub drop_one-requires : goal.drop_one-requires
drop_one-requires g c =
    (c.requires.0, (c.requires.1.0, moved_gives g.p c.args.out.now c.args.tables.now c.requires.0 c.args.nav c.args.by c.requires.1.1 (sym c.is_unsettled.ensures ∙ c.if-is_unsettled.true)))

pub returns-in_ok-drop_one-clause-turn : goal.returns-in_ok-drop_one-clause-turn
returns-in_ok-drop_one-clause-turn g c =
    moved_turn g.p c.args.out.now c.args.tables.now c.requires.0 c.args.nav c.args.by _ _ (sym c.is_unsettled.ensures ∙ c.if-is_unsettled.true) c.in_ok-drop_one.ensures.turn

pub returns-else-is_unsettled-clause-turn : goal.returns-else-is_unsettled-clause-turn
returns-else-is_unsettled-clause-turn g c =
    settled_turn g.p c.args.out.now c.args.tables.now c.requires.0 c.args.nav c.args.by (sym c.is_unsettled.ensures ∙ c.if-is_unsettled.false)
