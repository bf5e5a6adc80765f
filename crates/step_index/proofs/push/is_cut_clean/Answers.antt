use Rattle.std.proofs.Common.{subst, List}
use Rattle.step_index.specs.declared.track.Track.{Track}
use Rattle.step_index.specs.Tracks.{rows_of}
use Rattle.step_index.specs.Cut.{AreHeld}
use Rattle.step_index.specs.Parts.{history_in}
use Rattle.step_index.proofs.Cutting.{clean_cut}
use Rattle.step_index.proofs.Pushing.{at_most, clean_last}
use Rattle.step_index.proofs.push.is_cut_clean.Goals as goal

pub returns-then-le : goal.returns-then-le
returns-then-le c = λ _.
    clean_last (history_in c.args.parts.now) c.requires.index.kept.sound (at_most _ _ c.greatest_step_in.ensures c.le.ensures c.if-le.true)

pub returns : goal.returns
returns c = λ clean.
    let parts = c.args.parts.now in
    clean_cut (history_in parts) parts.starts.entries c.requires.index.started
    (subst (λ (tracks : List Track). AreHeld parts.starts.entries parts.current.0 (rows_of tracks)) c.deref.ensures.value (c.is_clean.ensures clean))
