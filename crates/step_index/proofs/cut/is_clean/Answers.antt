use Rattle.std.proofs.Common.{◌≡◌, ◌∙◌, sym, subst, List, take, slice_get}
use Rattle.std.specs.Prelude.{IfSome}
use Rattle.std.proofs.lemmas.List.Folds.{list_any-append}
use Rattle.log_model.specs.declared.row.Row.{Row}
use Rattle.history_laws.proofs.Members.{or_none}
use Rattle.step_index.specs.Tracks.{rows_of}
use Rattle.step_index.specs.Cut.{is_held, AreHeld}
use Rattle.step_index.proofs.Searching.{item_at}
use Rattle.step_index.proofs.Tracking.{track_is, track_any, rows_next}
use Rattle.step_index.proofs.Cutting.{held_track}
use Rattle.step_index.proofs.cut.is_clean.Goals as goal

pub loop-track-preserved : goal.loop-track-preserved
loop-track-preserved c =
    let tracks = c.args.tracks.now in
    let i = c.loop-track.track-index in
    let it = c.track-item.result in
    let there = item_at tracks i it c.loop-track-test.true c.track-item.is in
    subst (λ (rows : List Row). AreHeld c.args.starts.now.entries c.args.step.0 rows) (sym (rows_next tracks i it c.loop-track-test.true c.track-item.is))
    (list_any-append _ (rows_of (take i tracks)) it.rows.items
    ∙ or_none _ _ c.loop-track.invariant
    (held_track (rows_of tracks) c.requires.rooted c.args.starts.now.entries c.args.step.0 it.nav it.rows.items (λ row in_ test passes. track_any test tracks i it there (in_ test passes)) (track_is tracks i it c.requires.tracks there) c.is_first_held.result
    (subst (λ (rows : List Row). IfSome (slice_get rows 0) (λ row. c.is_first_held.result ≡ is_held c.args.starts.now.entries c.args.step.0 row)) c.deref.ensures.value c.is_first_held.ensures) c.if-not-is_first_held.false))
