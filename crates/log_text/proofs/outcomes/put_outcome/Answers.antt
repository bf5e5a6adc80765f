use Rattle.log_text.proofs.outcomes.put_outcome.Goals as goal

pub returns-in-Fragmented : goal.returns-in-Fragmented
returns-in-Fragmented g c = rw c.in-Fragmented.is c.put-in-Fragmented.ensures
