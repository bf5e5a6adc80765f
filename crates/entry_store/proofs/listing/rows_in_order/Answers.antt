use Rattle.std.proofs.Common.{ap, ◌∙◌, List, fold, []}
use Rattle.std.specs.Map.{values_of}
use Rattle.entry_store.specs.declared.nest.Nest.{Nest}
use Rattle.entry_store.specs.Nested.{rows_of}
use Rattle.entry_store.specs.Reading.{placed_row}
use Rattle.entry_store.proofs.InOrder.{sorted_values}
use Rattle.entry_store.proofs.listing.rows_in_order.Goals as goal

pub returns : goal.returns
returns c =
    c.in_ok-rows.ensures ∙ ap values_of c.in_ok-sorted.ensures
    ∙ ap (λ (nests : List Nest). values_of (fold placed_row [] (rows_of nests))) c.deref.ensures.value
    ∙ sorted_values (rows_of c.args.lists.now.nests.items) c.requires.kept.sound.steps
