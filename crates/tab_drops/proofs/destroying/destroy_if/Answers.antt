use Rattle.std.proofs.Common.{sym, ◌∙◌}
use Rattle.tab_drops.proofs.Ones.{destroy_asks, destroy_none, destroy_passing, destroy_turn}
use Rattle.tab_drops.proofs.destroying.destroy_if.Goals as goal

pub destroy_load-requires : goal.destroy_load-requires
destroy_load-requires g c =
    destroy_asks g.p c.args.out.now c.args.tables.now c.requires.0 c.args.nav c.in-Some.req c.in-Some.by (sym c.bare_load.ensures ∙ c.in-Some.is) c.requires.1.0

pub returns-in_ok-destroy_load-in-Some-clause-passing : goal.returns-in_ok-destroy_load-in-Some-clause-passing
returns-in_ok-destroy_load-in-Some-clause-passing g c =
    destroy_passing g.p c.args.out.now c.args.tables.now c.requires.0 c.args.nav c.in-Some.req c.in-Some.by (sym c.bare_load.ensures ∙ c.in-Some.is) _ _ c.in_ok-destroy_load-in-Some.ensures.out c.in_ok-destroy_load-in-Some.ensures.kept c.in_ok-destroy_load-in-Some.ensures.work

pub returns-in_ok-destroy_load-in-Some-clause-turn : goal.returns-in_ok-destroy_load-in-Some-clause-turn
returns-in_ok-destroy_load-in-Some-clause-turn g c =
    destroy_turn g.p c.args.out.now c.args.tables.now c.requires.0 c.args.nav c.in-Some.req c.in-Some.by (sym c.bare_load.ensures ∙ c.in-Some.is) _ c.in_ok-destroy_load-in-Some.ensures.out

pub returns-in-None-clause-turn : goal.returns-in-None-clause-turn
returns-in-None-clause-turn g c =
    destroy_none g.p c.args.out.now c.args.tables.now c.requires.0 c.args.nav (sym c.bare_load.ensures ∙ c.in-None.is) c.requires.1.1
