use Rattle.std.proofs.Common.{◌∙◌, ap, sym, subst}
use Rattle.step_index.specs.Tracks.{rows_of, AreTracks}
use Rattle.step_index.proofs.Cutting.{full_tracks, full_rows}
use Rattle.step_index.proofs.remove.close_tracks.Goals as goal

pub returns-clause-tracks : goal.returns-clause-tracks
returns-clause-tracks c = subst AreTracks (sym c.drop_empty.ensures) (full_tracks c.args.tracks.now.items c.requires.tracks)

pub returns-clause-rows : goal.returns-clause-rows
returns-clause-rows c = ap rows_of c.drop_empty.ensures ∙ full_rows c.args.tracks.now.items
