use Rattle.load_checks.proofs.Calls.{cut_asks, has_passed, make_asks}
use Rattle.load_checks.proofs.passing.pass_asked.Goals as goal
use Rattle.std.proofs.Common.{sym, ◌∙◌}

pub pass_load-requires : goal.pass_load-requires
pass_load-requires g c = (
  c.requires.1.0,
  (
    c.requires.1.1.1.0,
    make_asks g.v _ c.requires.0 _ c.requires.1.1.1.1.0 c.requires.1.1.1.1.1.0 c.requires.1.1.1.1.1.1.0 c.requires.1.1.1.1.1.1.1,
  ),
)

pub ask_about-requires : goal.ask_about-requires
ask_about-requires g c = (
  c.requires.1.1.0 ∙ sym c.requires.1.1.1.1.0.ran,
  cut_asks g.v _ c.requires.0 _ c.requires.1.1.1.1.0 c.requires.1.1.1.1.1.0 c.requires.1.1.1.1.1.1.0 c.requires.1.1.1.1.1.1.1 _ _ c.in_ok-pass_load.ensures.past c.in_ok-pass_load.ensures.checks c.in_ok-pass_load.ensures.asking c.in_ok-pass_load.ensures.others c.in_ok-pass_load.ensures.running c.in_ok-pass_load.ensures.goal,
)

pub returns-clause-passed : goal.returns-clause-passed
returns-clause-passed g c =
    has_passed g.v _ c.requires.0 _ c.requires.1.1.1.1.0 c.requires.1.1.1.1.1.0 c.requires.1.1.1.1.1.1.0 c.requires.1.1.1.1.1.1.1 _ _ c.in_ok-pass_load.ensures.past c.in_ok-pass_load.ensures.checks c.in_ok-pass_load.ensures.asking c.in_ok-pass_load.ensures.others c.in_ok-pass_load.ensures.running c.in_ok-pass_load.ensures.goal _ _ c.in_ok-ask_about.ensures.asked
