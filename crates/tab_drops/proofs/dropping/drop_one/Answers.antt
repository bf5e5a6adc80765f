use Rattle.std.proofs.Common.{sym, ◌∙◌}
use Rattle.tab_drops.proofs.Ones.{one_asks, one_none, one_passing, one_turn}
use Rattle.tab_drops.proofs.dropping.drop_one.Goals as goal

pub drop_load-requires : goal.drop_load-requires
drop_load-requires g c =
    one_asks g.p c.args.out.now c.args.tables.now c.requires.0 c.args.nav c.args.by c.requires.1.1 c.in-Some.req (sym c.load_of.ensures ∙ c.in-Some.is) c.requires.1.0

pub returns-in_ok-drop_load-in-Some-clause-passing : goal.returns-in_ok-drop_load-in-Some-clause-passing
returns-in_ok-drop_load-in-Some-clause-passing g c =
    one_passing g.p c.args.out.now c.args.tables.now c.requires.0 c.args.nav c.args.by c.requires.1.1 c.in-Some.req (sym c.load_of.ensures ∙ c.in-Some.is) _ _ c.in_ok-drop_load-in-Some.ensures.out c.in_ok-drop_load-in-Some.ensures.kept c.in_ok-drop_load-in-Some.ensures.work

pub returns-in_ok-drop_load-in-Some-clause-turn : goal.returns-in_ok-drop_load-in-Some-clause-turn
returns-in_ok-drop_load-in-Some-clause-turn g c =
    one_turn g.p c.args.out.now c.args.tables.now c.requires.0 c.args.nav c.args.by c.requires.1.1 c.in-Some.req (sym c.load_of.ensures ∙ c.in-Some.is) _ c.in_ok-drop_load-in-Some.ensures.out

pub returns-in-None-clause-turn : goal.returns-in-None-clause-turn
returns-in-None-clause-turn g c =
    one_none g.p c.args.out.now c.args.tables.now c.requires.0 c.args.nav c.args.by (sym c.load_of.ensures ∙ c.in-None.is)
