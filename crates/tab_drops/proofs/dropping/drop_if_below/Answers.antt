use Rattle.std.proofs.Common.{sym, ◌∙◌}
use Rattle.tab_drops.proofs.Ones.{below_gives_way, below_turn, beside_turn}
use Rattle.tab_drops.proofs.dropping.drop_if_below.Goals as goal

pub drop_one-requires : goal.drop_one-requires
drop_one-requires g c =
    (c.requires.0, (c.requires.1.0, below_gives_way g.p c.args.out.now c.args.tables.now c.requires.0 c.args.nav c.args.top c.args.by c.requires.1.1.0 c.requires.1.1.1 (sym c.is_below.ensures ∙ c.if-is_below.true)))

pub returns-in_ok-drop_one-clause-turn : goal.returns-in_ok-drop_one-clause-turn
returns-in_ok-drop_one-clause-turn g c =
    below_turn g.p c.args.out.now c.args.tables.now c.requires.0 c.args.nav c.args.top c.args.by _ _ (sym c.is_below.ensures ∙ c.if-is_below.true) c.in_ok-drop_one.ensures.turn

pub returns-else-is_below-clause-turn : goal.returns-else-is_below-clause-turn
returns-else-is_below-clause-turn g c =
    beside_turn g.p c.args.out.now c.args.tables.now c.requires.0 c.args.nav c.args.top c.args.by (sym c.is_below.ensures ∙ c.if-is_below.false)
