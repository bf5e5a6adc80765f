use Rattle.std.proofs.Common.{refl, sym}
use Rattle.proc_tables.proofs.ViewChanges.{on_err, stays}
use Rattle.proc_tables.proofs.views.act_in.Goals as goal

pub returns-clause-err : goal.returns-clause-err
returns-clause-err c =
    let found = sym c.in-Some.ensures.value in
    on_err _ _ _ (stays _ _ c.args.poke.now.doc c.in-Some.view.now c.act.new.self found ((c.get_mut.follows.holds c.act.new.self).3 (rw found refl)).0) c.act.ensures.err
