use Rattle.std.proofs.Common.{◌∙◌, sym, ap, subst, List}
use Rattle.step_index.specs.declared.track.Track.{Track}
use Rattle.step_index.specs.Tracks.{rows_of, AreTracks}
use Rattle.step_index.specs.Cut.{HasRowRoom}
use Rattle.step_index.proofs.Cutting.{cut_tracks_are, cut_rows_are, cut_room}
use Rattle.step_index.proofs.cut.cut_tracks.Goals as goal

pub returns-clause-tracks : goal.returns-clause-tracks
returns-clause-tracks c =
    subst AreTracks (sym c.drop_empty.ensures) (cut_tracks_are c.args.step.0 c.args.tracks.now.items c.cut_all.new.tracks.items c.cut_all.ensures.cut c.requires.tracks)

pub returns-clause-rows : goal.returns-clause-rows
returns-clause-rows c = ap rows_of c.drop_empty.ensures ∙ cut_rows_are c.args.step.0 c.args.tracks.now.items c.cut_all.new.tracks.items c.cut_all.ensures.cut

pub returns-clause-room : goal.returns-clause-room
returns-clause-room c = λ nav room.
    subst (λ (tracks : List Track). HasRowRoom nav tracks) (sym c.drop_empty.ensures) (cut_room c.args.step.0 nav c.args.tracks.now.items c.cut_all.new.tracks.items c.cut_all.ensures.cut room)
