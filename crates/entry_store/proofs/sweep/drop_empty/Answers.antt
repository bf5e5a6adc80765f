use Rattle.std.proofs.Common.{rules, ap, ◌∙◌}
use Rattle.std.proofs.lemmas.Fn.{filter_same}
use Rattle.entry_store.specs.Nested.{rows_of}
use Rattle.entry_store.proofs.Sweeping.{has_rows, rows_of-has_rows}
use Rattle.entry_store.proofs.sweep.drop_empty.Goals as goal

pub returns : goal.returns
returns c =
    ap rows_of (filter_same _ has_rows _ (λ x b f' called. search rules) _ _ c.retain.ensures.filtered) ∙ rows_of-has_rows c.args.nests.now.items
