use Rattle.tab_passes.proofs.Onlies.{only_none, only_then}
use Rattle.tab_passes.proofs.Keeps.{kept_none, kept_then}
use Rattle.tab_passes.proofs.Stills.{still_none, still_then}
use Rattle.tab_passes.proofs.leaving.freeze_each.Goals as goal

pub loop-i-init : goal.loop-i-init
loop-i-init g c = (c.requires, only_none _ _, still_none _ _, kept_none _)

pub loop-i-preserved : goal.loop-i-preserved
loop-i-preserved g c =
    (c.in_ok-freeze_at.ensures.freezing, only_then _ _ _ _ c.loop-i.invariant.1 c.in_ok-freeze_at.ensures.only, still_then _ _ _ _ c.loop-i.invariant.2 c.in_ok-freeze_at.ensures.still, kept_then _ _ _ c.loop-i.invariant.3 c.in_ok-freeze_at.ensures.kept)
