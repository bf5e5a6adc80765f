-- What orders may be for.
use Rattle.log_model.specs.Seen.{Seen}
use Rattle.tab_stands.specs.PassedOn.{MayCause}
use Rattle.log_model.specs.declared.job.Why.TheVariants as whys

-- for no request they may be always
pub for_none : (s : Seen) → MayCause s whys.Start
for_none s req is = absurd cc
