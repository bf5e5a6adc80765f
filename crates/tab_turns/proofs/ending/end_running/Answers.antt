use Rattle.std.proofs.Common.{sym, ◌∙◌}
use Rattle.tab_turns.proofs.Ends.{end_due, end_may, end_passing, end_turning, has_ended, through_is}
use Rattle.tab_turns.proofs.ending.end_running.Goals as goal

pub end-requires : goal.end-requires
end-requires g c =
    (c.requires.0.work, (c.in-Some.is, (end_due g.p _ _ c.requires.0 c.requires.1 _ c.in-Some.is _ c.aim-goal.ensures (sym c.stand_at.ensures ∙ c.if-stand_at.true), end_may g.p _ _ c.requires.0 c.requires.1 _ c.in-Some.is _ c.aim-goal.ensures)))

pub returns-then-stand_at-clause-passing : goal.returns-then-stand_at-clause-passing
returns-then-stand_at-clause-passing g c =
    end_passing g.p _ _ c.requires.0 c.requires.1 _ c.in-Some.is _ c.aim-goal.ensures (sym c.stand_at.ensures ∙ c.if-stand_at.true) _ _ c.in_ok-end-in-Some.ensures.out c.in_ok-end-in-Some.ensures.work c.in_ok-end-in-Some.ensures.ended c.in_ok-end-in-Some.ensures.keep

pub returns-then-stand_at-clause-turning : goal.returns-then-stand_at-clause-turning
returns-then-stand_at-clause-turning g c =
    end_turning g.p _ _ c.requires.0 c.requires.1 _ c.in-Some.is _ c.aim-goal.ensures (sym c.stand_at.ensures ∙ c.if-stand_at.true) _ _ c.in_ok-end-in-Some.ensures.out c.in_ok-end-in-Some.ensures.work c.in_ok-end-in-Some.ensures.ended c.in_ok-end-in-Some.ensures.keep

pub returns-then-stand_at-clause-due : goal.returns-then-stand_at-clause-due
returns-then-stand_at-clause-due g c =
    through_is g.p _ _ c.requires.0 c.requires.1 _ c.in-Some.is _ c.aim-goal.ensures _ (sym c.if-stand_at.true ∙ c.stand_at.ensures)

pub returns-then-stand_at-clause-ended : goal.returns-then-stand_at-clause-ended
returns-then-stand_at-clause-ended g c =
    has_ended g.p _ _ c.requires.0 c.requires.1 _ c.in-Some.is _ c.aim-goal.ensures (sym c.stand_at.ensures ∙ c.if-stand_at.true) _ _ c.in_ok-end-in-Some.ensures.out c.in_ok-end-in-Some.ensures.work c.in_ok-end-in-Some.ensures.ended c.in_ok-end-in-Some.ensures.keep

pub returns-else-stand_at-clause-due : goal.returns-else-stand_at-clause-due
returns-else-stand_at-clause-due g c =
    through_is g.p _ _ c.requires.0 c.requires.1 _ c.in-Some.is _ c.aim-goal.ensures _ (sym c.if-stand_at.false ∙ c.stand_at.ensures)
