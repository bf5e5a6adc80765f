use Rattle.std.proofs.Common.{sym, ◌∙◌}
use Rattle.world.proofs.ReachLaws.{newest_reached, no_entry_denied, none_denied}
use Rattle.world.proofs.reading.reached.Goals as goal

pub returns-then-not-has_row-clause-denied : goal.returns-then-not-has_row-clause-denied
returns-then-not-has_row-clause-denied c s are =
    no_entry_denied s _ (sym (c.has_row.ensures s are.stands are.room) ∙ c.if-not-has_row.true)

pub returns-in-Some-clause-reached : goal.returns-in-Some-clause-reached
returns-in-Some-clause-reached c s are =
    newest_reached s _ _ are _ (sym (c.has_row.ensures s are.stands are.room) ∙ c.if-not-has_row.false) _ c.newest-newest.ensures _ c.in-Some.is

pub returns-in-None-clause-denied : goal.returns-in-None-clause-denied
returns-in-None-clause-denied c s are =
    none_denied s _ _ are _ (sym (c.has_row.ensures s are.stands are.room) ∙ c.if-not-has_row.false) _ c.newest-newest.ensures c.in-None.is
