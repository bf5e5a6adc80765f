use Rattle.tab_releases.proofs.Waits.{never_parks}
use Rattle.tab_releases.proofs.releasing.release_one.Goals as goal
use Rattle.tab_takes.proofs.Verdicts.{has_node}

pub judged-verdict-requires : goal.judged-verdict-requires
judged-verdict-requires g c = has_node g.p _ _ _ _ c.requires.0

pub take-requires : goal.take-requires
take-requires g c =
    (c.requires.0.passing, (c.requires.0.taking, (c.judged-verdict.ensures, (never_parks g.p _ _ _ _ c.requires.0 c.requires.1 _ c.judged-verdict.ensures, (c.requires.0.open_, (c.requires.0.loose, c.requires.0.arrived))))))

pub returns-clause-taken : goal.returns-clause-taken
returns-clause-taken g c =
    record {
      passing = c.in_ok-take.ensures.passing;
      open_ = c.in_ok-take.ensures.open_;
      loose = c.in_ok-take.ensures.loose;
      cause = c.in_ok-take.ensures.cause;
      ended = c.in_ok-take.ensures.ended;
      queue = c.in_ok-take.ensures.queue;
      kept = c.in_ok-take.ensures.kept;
    }
