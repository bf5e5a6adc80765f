use Rattle.load_checks.proofs.Calls.{at_here}
use Rattle.load_checks.proofs.passing.let_pass.Goals as goal
use Rattle.load_checks.specs.Stages.{HasLetPass}
use Rattle.std.proofs.Common.{OnOk, refl, subst, sym, ◌∙◌}
use Rattle.tab_ids.specs.declared.NavId.{NavId}

pub pass_asked-requires : goal.pass_asked-requires
pass_asked-requires g c =
    let here = at_here c.args.tables.now c.args.nav c.in-Some.load (sym c.in_ok-load.ensures.load ∙ c.in-Some.is) c.requires.1.1.1.1 in
    (refl, (c.requires.0, (c.requires.1.0, (c.requires.1.1.0, (c.requires.1.1.1.0, (here.1.0, (here.1.1, c.in_ok-load.ensures.one_each)))))))

pub returns-in-Some-clause-passed : goal.returns-in-Some-clause-passed
returns-in-Some-clause-passed g c =
    let here = at_here c.args.tables.now c.args.nav c.in-Some.load (sym c.in_ok-load.ensures.load ∙ c.in-Some.is) c.requires.1.1.1.1 in
    subst (λ (n : NavId). OnOk c.pass_asked.result (HasLetPass g.w n c.args.tables.now c.pass_asked.new.tables c.pass_asked.new.out)) here.0 c.pass_asked.ensures.passed
