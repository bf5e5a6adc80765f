use Rattle.std.proofs.Common.{ap, ◌∙◌}
use Rattle.load_table.specs.Loads.{ongoing_load}
use Rattle.load_table.specs.declared.load.Load.{Load}
use Rattle.seen_facts.proofs.LoadTies.Begins.{begun_own}
use Rattle.std.specs.Prelude.{List}
use Rattle.tab_doors.proofs.Works.{next_work}
use Rattle.load_doors.proofs.Begun.{begin_load_work}
use Rattle.load_doors.proofs.beginning.begin_load.Goals as goal

pub returns-clause-work : goal.returns-clause-work
returns-clause-work g c =
    next_work _ _ _ _ c.in_ok-push.ensures.ok (begin_load_work _ _ _ _ _ _ _ _ c.requires.0 c.requires.1.0 c.requires.1.1.0 c.in_ok-begin.ensures.ok c.in_ok-begin.ensures.others)

pub returns-clause-began : goal.returns-clause-began
returns-clause-began g c = ap (λ (l : List Load). ongoing_load c.args.nav l) c.in_ok-begin.ensures.ok ∙ begun_own _ _
