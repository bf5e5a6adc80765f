use Rattle.std.proofs.Common.{refl, sym, ◌∙◌, ap, subst, List, ◌++◌, ◌∷◌, []}
use Rattle.step_index.specs.declared.track.Track.{Track}
use Rattle.entry_store.specs.Kept.{PutsRow}
use Rattle.step_index.specs.Tracks.{rows_of, AreTracks}
use Rattle.step_index.proofs.Tracking.{first_tracks, first_puts}
use Rattle.log_model.specs.declared.row.Row.{Row}
use Rattle.step_index.proofs.places.put_track.Goals as goal

pub returns-clause-tracks : goal.returns-clause-tracks
returns-clause-tracks c =
    let new : Track = record { nav = c.args.row.nav; rows = c.push.new.self } in
    subst AreTracks (sym c.in_ok-insert.ensures.items)
    (first_tracks c.args.tracks.now.items c.args.at c.requires.tracks c.args.row c.requires.gap new refl (c.in_ok-push.ensures.items ∙ ap (λ (rows : List Row). rows ++ c.args.row ∷ []) c.new-rows.ensures.items))

pub returns-clause-ok : goal.returns-clause-ok
returns-clause-ok c =
    let new : Track = record { nav = c.args.row.nav; rows = c.push.new.self } in
    subst (λ (tracks : List Track). PutsRow (rows_of c.args.tracks.now.items) c.args.row (rows_of tracks)) (sym c.in_ok-insert.ensures.items)
    (first_puts c.args.tracks.now.items c.args.at c.requires.tracks c.args.row c.requires.gap new refl (c.in_ok-push.ensures.items ∙ ap (λ (rows : List Row). rows ++ c.args.row ∷ []) c.new-rows.ensures.items))
