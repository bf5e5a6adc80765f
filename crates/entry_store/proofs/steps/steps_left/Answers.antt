use Rattle.std.proofs.Common.{ap, ◌∙◌, fold}
use Rattle.entry_store.specs.Nested.{rows_of, with_step_of}
use Rattle.entry_store.proofs.StepsLeft.{steps_left_are}
use Rattle.entry_store.proofs.steps.steps_left.Goals as goal

pub returns : goal.returns
returns c =
    c.in_ok-note_nests.ensures
    ∙ ap (λ steps. fold (with_step_of c.args.cut.now c.args.states.now.keys) steps (rows_of c.args.nests.now)) c.new-steps.ensures.empty
    ∙ steps_left_are c.args.cut.now c.args.states.now.keys (rows_of c.args.nests.now)
