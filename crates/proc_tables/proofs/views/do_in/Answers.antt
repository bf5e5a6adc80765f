use Rattle.std.proofs.Common.{refl, sym}
use Rattle.proc_tables.proofs.ViewChanges.{on_err, stays}
use Rattle.proc_tables.proofs.views.do_in.Goals as goal

pub returns-clause-err : goal.returns-clause-err
returns-clause-err c =
    let found = sym c.in-Some.ensures.value in
    on_err _ _ _ (stays _ _ c.args.job.now.doc c.in-Some.view.now c.do_job.new.self found ((c.get_mut.follows.holds c.do_job.new.self).3 (rw found refl)).0) c.do_job.ensures.err
