use Rattle.std.proofs.Common.{◌∙◌, sym, ap, Option}
use Rattle.std.specs.Prelude.{is_some}
use Rattle.tab_ids.specs.declared.Step.{Step}
use Rattle.step_index.specs.Tracks.{rows_of}
use Rattle.step_index.proofs.Starting.{has_state-started}
use Rattle.step_index.proofs.readers.has_state_in.Goals as goal

pub returns : goal.returns
returns c =
    let parts = c.args.parts.now in
    c.is_some.ensures ∙ ap (λ (s : Option Step). is_some s) c.start_of.ensures ∙ sym (has_state-started parts.starts.entries (rows_of parts.tracks.items) c.requires.index.started c.args.state)
