use Rattle.std.proofs.Common.{refl, sym, ◌∙◌}
use Rattle.tab_passes.proofs.Untold.{untold_some, untold_none}
use Rattle.tab_passes.proofs.Passings.{told_passing, told_turn_here}
use Rattle.tab_passes.proofs.Tellings.{turn_still}
use Rattle.tab_passes.proofs.Onlies.{only_none, only_one}
use Rattle.tab_passes.proofs.telling.tell_one.Goals as goal

pub tell-requires : goal.tell-requires
tell-requires g c =
    let due = untold_some _ _ _ c.requires _ _ _ (sym c.untold.ensures ∙ c.in-Some.is) in
    (c.requires.work, (due.wakes, (due.there, due.due _)))

pub returns-in_ok-tell-in-Some-clause-passing : goal.returns-in_ok-tell-in-Some-clause-passing
returns-in_ok-tell-in-Some-clause-passing g c =
    told_passing _ _ _ c.requires _ _ _ _ (untold_some _ _ _ c.requires _ _ _ (sym c.untold.ensures ∙ c.in-Some.is)) _ _ c.in_ok-tell-in-Some.ensures.out c.in_ok-tell-in-Some.ensures.kept c.in_ok-tell-in-Some.ensures.work

pub returns-in_ok-tell-in-Some-clause-told : goal.returns-in_ok-tell-in-Some-clause-told
returns-in_ok-tell-in-Some-clause-told g c =
    told_turn_here _ _ _ c.requires _ _ _ _ (untold_some _ _ _ c.requires _ _ _ (sym c.untold.ensures ∙ c.in-Some.is)) _ c.in_ok-tell-in-Some.ensures.out

pub returns-in-None-clause-told : goal.returns-in-None-clause-told
returns-in-None-clause-told g c = turn_still _ _ (untold_none _ _ _ c.requires _ (sym c.untold.ensures ∙ c.in-None.is))

pub returns-in_ok-tell-in-Some-clause-only : goal.returns-in_ok-tell-in-Some-clause-only
returns-in_ok-tell-in-Some-clause-only g c = only_one _ _ _ _ c.in_ok-tell-in-Some.ensures.out (refl, refl)

pub returns-in-None-clause-only : goal.returns-in-None-clause-only
returns-in-None-clause-only g c = only_none _ _
