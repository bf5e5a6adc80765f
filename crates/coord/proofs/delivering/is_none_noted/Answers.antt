use Rattle.coord.proofs.Quiet.{none_of}
use Rattle.coord.proofs.delivering.is_none_noted.Goals as goal
use Rattle.std.proofs.Common.{ap, sym, ℕ, ◌==◌, ◌∙◌}

pub returns : goal.returns
returns c empty = none_of c.args.blame.now.entries (ap (λ (n : ℕ). n == 0) (sym c.len.ensures.len) ∙ empty)
