use Rattle.std.proofs.Common.{refl, sym}
use Rattle.running_table.proofs.RunChanges.{kept, on_err}
use Rattle.running_table.proofs.runners.show_in.Goals as goal

pub returns-in-Some-clause-err : goal.returns-in-Some-clause-err
returns-in-Some-clause-err c =
    let found = sym c.in-Some.ensures.value in
    on_err _ _ _ (kept _ _ c.args.nav c.in-Some.runners.now c.put.new.self found ((c.get_mut.follows.holds c.put.new.self).3 (rw found refl)).0) c.put.ensures.err
