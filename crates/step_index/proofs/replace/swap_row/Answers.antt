use Rattle.std.proofs.Common.{◌≡◌, ◌<◌, ◌∙◌, ap, sym, subst, get_or, set, refl, length, arith}
use Rattle.std.proofs.lemmas.Option.{get_or_from_slice_get}
use Rattle.std.specs.Vec.{with_item}
use Rattle.log_model.specs.declared.row.Row.{Row}
use Rattle.step_index.specs.declared.track.Track.{Track}
use Rattle.step_index.proofs.Replacing.{put_tracks, put_over}
use Rattle.step_index.proofs.replace.swap_row.Goals as goal

pub index_mut-requires : goal.index_mut-requires
index_mut-requires c =
    let spot = c.requires.place in
    let same = c.index_mut-track.ensures.value ∙ get_or_from_slice_get c.args.tracks.now.items c.args.place spot.track c.index_mut-track.result.now spot.there in
    omega (arith, subst (λ (t : Track). c.args.at < length t.rows.items) (sym same) spot.in_rows)

pub returns-clause-tracks : goal.returns-clause-tracks
returns-clause-tracks c =
    let old = c.index_mut-track.result.now in
    let new : Track = record { nav = old.nav; rows = with_item old.rows c.args.at c.replace.new.dest } in
    put_tracks c.args.tracks.now.items c.args.place c.args.at c.args.row c.replace.result c.requires.tracks c.requires.place old new c.index_mut-track.ensures.value
    (subst (λ (r : Row). r ≡ get_or old.rows.items c.args.at r) (sym c.replace.ensures.value) c.index_mut.ensures.value) refl
    (ap (λ (r : Row). set old.rows.items c.args.at r) c.replace.ensures.after)

pub returns-clause-over : goal.returns-clause-over
returns-clause-over c =
    let old = c.index_mut-track.result.now in
    let new : Track = record { nav = old.nav; rows = with_item old.rows c.args.at c.replace.new.dest } in
    put_over c.args.tracks.now.items c.args.place c.args.at c.args.row c.replace.result c.requires.tracks c.requires.place old new c.index_mut-track.ensures.value
    (subst (λ (r : Row). r ≡ get_or old.rows.items c.args.at r) (sym c.replace.ensures.value) c.index_mut.ensures.value) refl
    (ap (λ (r : Row). set old.rows.items c.args.at r) c.replace.ensures.after)
