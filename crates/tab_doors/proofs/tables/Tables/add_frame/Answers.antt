use Rattle.std.proofs.Common.{refl}
use Rattle.tab_doors.proofs.Works.{next_work}
use Rattle.tab_doors.proofs.ChangeWorks.{add_work}
use Rattle.tab_doors.proofs.tables.Tables.add_frame.Goals as goal

pub make_change-requires : goal.make_change-requires
make_change-requires g c = (c.requires.0.holds.history, c.requires.1.1.1.0)

pub add-requires-clause-new : goal.add-requires-clause-new
add-requires-clause-new g c = c.requires.1.1.1.1.1.0.no_node

pub add-requires-clause-parent : goal.add-requires-clause-parent
add-requires-clause-parent g c = c.requires.1.1.1.1.1.0.parent_node

pub returns-clause-work : goal.returns-clause-work
returns-clause-work g c =
    rw c.in_ok-add.ensures.ok (next_work _ _ _ _ c.in_ok-push.ensures.ok (add_work _ _ _ _ _ _ _ _ _ _ c.requires.0 c.requires.1.0 c.requires.1.1.0 c.requires.1.1.1.1.0 c.requires.1.1.1.1.1.0 c.requires.1.1.1.1.1.1.1.1 refl c.in_ok-make_change.ensures.ok (record { making = refl; whose = refl; shown = refl; last = refl; documents = refl; sent = refl; loads = refl; kept = refl; checks = refl; asking = refl }) refl refl _ c.in_ok-insert.ensures.entries refl refl))
