use Rattle.std.proofs.Common.{ap, ◌∙◌, List, None, fold}
use Rattle.std.proofs.lemmas.List.{take_all}
use Rattle.entry_store.specs.declared.nest.Nest.{Nest}
use Rattle.entry_store.specs.Nested.{rows_of}
use Rattle.entry_store.specs.Reading.{first_of}
use Rattle.entry_store.proofs.add.first_step_in.Goals as goal

pub returns : goal.returns
returns c =
    c.loop-nest.invariant ∙ ap (λ (nests : List Nest). fold (first_of c.args.state) None (rows_of nests)) (take_all c.loop-nest.nest-index c.args.nests.now c.loop-nest-test.false)
