use Rattle.seen_laws.specs.InEvent.{now_of}
use Rattle.tab_doors.proofs.changes.make_change.Goals as goal
use Rattle.tab_doors.proofs.Histories.{may_here, changed_same, only_memory, room_here}

pub apply-requires-clause-may : goal.apply-requires-clause-may
apply-requires-clause-may g c = may_here c.args.store.now (now_of g.e c.args.out.now).history c.args.change.now c.requires.0 c.requires.1.fits c.requires.1.numbers

pub apply-requires-clause-room : goal.apply-requires-clause-room
apply-requires-clause-room g c = room_here c.args.store.now (now_of g.e c.args.out.now).history c.args.change.now c.requires.0 c.requires.1.fits c.requires.1.numbers c.requires.1.room

pub want_of_memory-requires : goal.want_of_memory-requires
want_of_memory-requires g c = only_memory c.args.store.now (now_of g.e c.args.out.now).history c.args.change.now c.requires.0 c.requires.1.fits c.requires.1.numbers c.in-Err.error c.in-Err.ensures.refused

pub returns-in-Ok : goal.returns-in-Ok
returns-in-Ok g c = record { ok = changed_same c.args.store.now (now_of g.e c.args.out.now).history c.args.change.now c.requires.0 c.requires.1.fits c.requires.1.numbers c.apply.new.self c.in-Ok.ensures.ok }
