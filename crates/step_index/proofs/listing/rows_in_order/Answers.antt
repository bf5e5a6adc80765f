use Rattle.std.proofs.Common.{ap, sym, ◌∙◌, List, arith}
use Rattle.std.proofs.lemmas.List.{take_all}
use Rattle.step_index.specs.declared.track.Track.{Track}
use Rattle.step_index.specs.Tracks.{rows_of}
use Rattle.step_index.proofs.Tracking.{tracks_ordered}
use Rattle.step_index.proofs.listing.rows_in_order.Goals as goal

pub returns : goal.returns
returns c =
    c.loop-track.invariant
    ∙ ap (λ (tracks : List Track). rows_of tracks) (take_all c.loop-track.track-index c.args.tracks.now (omega (arith, c.loop-track-test.false)))
    ∙ sym (tracks_ordered c.args.tracks.now c.requires.tracks)
