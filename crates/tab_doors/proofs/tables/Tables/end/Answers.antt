use Rattle.std.proofs.Common.{refl}
use Rattle.tab_doors.proofs.Works.{next_work}
use Rattle.tab_doors.proofs.ChangeWorks.{end_work}
use Rattle.tab_doors.proofs.tables.Tables.end.Goals as goal

pub make_change-requires : goal.make_change-requires
make_change-requires g c = (c.requires.0.holds.history, c.requires.1.1.1)

pub returns-clause-work : goal.returns-clause-work
returns-clause-work g c =
    rw c.unmove_each.ensures (next_work _ _ _ _ c.in_ok-push.ensures.ok (end_work _ _ _ _ _ _ c.requires.0 c.requires.1.0 c.requires.1.1.0 refl c.in_ok-make_change.ensures.ok (record { making = refl; whose = refl; shown = refl; last = refl; documents = refl; sent = refl; loads = refl; kept = refl; checks = refl; asking = refl }) refl refl refl refl))
