use Rattle.load_turns.proofs.Going.{going_some}
use Rattle.load_turns.proofs.turns.let_next.Goals as goal
use Rattle.std.proofs.Common.{inr, sym, ◌∙◌}

pub let_pass-requires : goal.let_pass-requires
let_pass-requires g c =
    (c.requires.0, (c.requires.1.0, (c.new-out.ensures, (c.requires.1.1, (going_some c.args.tables.now c.args.nav c.in-Some.req (sym c.going.ensures ∙ c.in-Some.is)).0))))

pub returns-in_ok-push-in-Some-clause-turned : goal.returns-in_ok-push-in-Some-clause-turned
returns-in_ok-push-in-Some-clause-turned g c =
    let passed = c.in_ok-let_pass-in-Some.ensures.passed in
    inr
    (record {
      load = record { req = c.in-Some.req; out = c.let_pass.new.out };
      done = c.in_ok-push-in-Some.ensures.ok;
      passed = passed;
      its = (going_some c.args.tables.now c.args.nav c.in-Some.req (sym c.going.ensures ∙ c.in-Some.is)).1 passed.load passed.its;
    })
