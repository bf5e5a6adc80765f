use Rattle.std.proofs.Common.{sym, ◌∙◌}
use Rattle.tab_loads.proofs.Comes.{give_now, none_way}
use Rattle.tab_loads.proofs.beginning.give_way.Goals as goal

pub drop_load-requires : goal.drop_load-requires
drop_load-requires g c =
    give_now _ _ c.requires.0 _ c.requires.1.1.0 _ c.requires.1.1.1.1 _ (sym c.load_of.ensures ∙ c.in-Some.is)

pub returns-in-None : goal.returns-in-None
returns-in-None g c =
    record { way = none_way _ _ c.requires.0 _ c.requires.1.1.0 _ _ _ (sym c.load_of.ensures ∙ c.in-None.is) }
