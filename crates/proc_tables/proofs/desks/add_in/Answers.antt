use Rattle.std.proofs.Common.{refl, sym}
use Rattle.proc_tables.proofs.DeskChanges.{stays}
use Rattle.proc_tables.proofs.ViewChanges.{on_err}
use Rattle.proc_tables.proofs.desks.add_in.Goals as goal

pub returns-clause-err : goal.returns-clause-err
returns-clause-err c =
    let found = sym c.in-Some.ensures.value in
    on_err _ _ _ (stays _ _ _ c.args.proc c.in-Some.desk.now c.add.new.self c.in_ok-make_in.ensures.same found ((c.get_mut.follows.holds c.add.new.self).3 (rw found refl)).0) c.add.ensures.err
