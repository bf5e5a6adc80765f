use Rattle.tab_evicts.proofs.Spans.{stays_none, stays_then}
use Rattle.tab_moves.proofs.PassedOn.{kept_none, kept_then, only_none}
use Rattle.tab_moves.proofs.Frees.{only_then}
use Rattle.tab_walk.proofs.cutting.cut_each.Goals as goal

pub loop-i-init : goal.loop-i-init
loop-i-init g c = (c.requires, only_none _ _, stays_none _, kept_none _)

pub loop-i-preserved : goal.loop-i-preserved
loop-i-preserved g c =
    (c.in_ok-cut_at.ensures.cutting, only_then _ _ _ _ c.loop-i.invariant.1 c.in_ok-cut_at.ensures.only, stays_then _ _ _ c.loop-i.invariant.2 c.in_ok-cut_at.ensures.stays, kept_then _ _ _ c.loop-i.invariant.3 c.in_ok-cut_at.ensures.kept)
