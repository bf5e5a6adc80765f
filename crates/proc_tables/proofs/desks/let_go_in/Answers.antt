use Rattle.std.proofs.Common.{refl, sym}
use Rattle.proc_tables.specs.Desks.{without_order}
use Rattle.proc_tables.proofs.DeskChanges.{changed, unchanged}
use Rattle.proc_tables.proofs.desks.let_go_in.Goals as goal

pub returns-in-Some-clause-held : goal.returns-in-Some-clause-held
returns-in-Some-clause-held c = rw (sym c.in-Some.ensures.value) c.let_go.ensures.held

pub returns-in-Some-clause-rest : goal.returns-in-Some-clause-rest
returns-in-Some-clause-rest c =
    let found = sym c.in-Some.ensures.value in
    changed _ _ c.args.proc c.in-Some.desk.now c.let_go.new.self without_order found c.let_go.ensures.rest ((c.get_mut.follows.holds c.let_go.new.self).3 (rw found refl)).0

pub returns-in-None-clause-held : goal.returns-in-None-clause-held
returns-in-None-clause-held c = rw (sym c.in-None.ensures.value) refl

pub returns-in-None-clause-rest : goal.returns-in-None-clause-rest
returns-in-None-clause-rest c =
    rw c.get_mut.follows.holds-at-none (unchanged _ c.args.proc without_order (sym c.in-None.ensures.value) refl)
