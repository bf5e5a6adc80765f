use Rattle.std.proofs.Common.{refl, sym}
use Rattle.proc_tables.specs.Desks.{without_poke}
use Rattle.proc_tables.proofs.DeskChanges.{changed, unchanged}
use Rattle.proc_tables.proofs.desks.next_poke_in.Goals as goal

pub returns-in-Some-clause-first : goal.returns-in-Some-clause-first
returns-in-Some-clause-first c = rw (sym c.in-Some.ensures.value) c.next_poke.ensures.first

pub returns-in-Some-clause-rest : goal.returns-in-Some-clause-rest
returns-in-Some-clause-rest c =
    let found = sym c.in-Some.ensures.value in
    changed _ _ c.args.proc c.in-Some.desk.now c.next_poke.new.self without_poke found c.next_poke.ensures.rest ((c.get_mut.follows.holds c.next_poke.new.self).3 (rw found refl)).0

pub returns-in-None-clause-first : goal.returns-in-None-clause-first
returns-in-None-clause-first c = rw (sym c.in-None.ensures.value) refl

pub returns-in-None-clause-rest : goal.returns-in-None-clause-rest
returns-in-None-clause-rest c =
    rw c.get_mut.follows.holds-at-none (unchanged _ c.args.proc without_poke (sym c.in-None.ensures.value) refl)
