use Rattle.std.proofs.Common.{ap, ◌∙◌}
use Rattle.std.specs.Prelude.{is_some}
use Rattle.world.proofs.EvictLaws.{kept_some}
use Rattle.world.proofs.idling.has_kept.Goals as goal

pub returns : goal.returns
returns c s stands =
    c.is_some.ensures ∙ ap is_some (c.longest_kept.ensures s stands) ∙ kept_some s stands.but.stands.between.tab.kept
