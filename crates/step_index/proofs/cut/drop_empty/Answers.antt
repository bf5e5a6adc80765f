use Rattle.std.proofs.Common.{rules}
use Rattle.std.proofs.lemmas.Fn.{filter_same}
use Rattle.step_index.specs.Cut.{has_rows}
use Rattle.step_index.proofs.cut.drop_empty.Goals as goal

pub returns : goal.returns
returns c = filter_same _ has_rows _ (λ x b f' called. search rules) _ _ c.retain.ensures.filtered
