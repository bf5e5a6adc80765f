use Rattle.std.proofs.Common.{sym, subst, List}
use Rattle.log_model.specs.declared.row.Row.{Row}
use Rattle.entry_store.specs.Kept.{IsKept}
use Rattle.step_index.specs.Groups.{AreCounted}
use Rattle.step_index.specs.Noted.{AreNoted}
use Rattle.step_index.specs.Starts.{AreStarted}
use Rattle.step_index.proofs.remove.close_gaps.Goals as goal

pub returns-then-parts-len-clause-index : goal.returns-then-parts-len-clause-index
returns-then-parts-len-clause-index c =
    let parts = c.args.parts.now in
    let index = c.requires.index in
    let same = sym c.close_tracks.ensures.rows in
    record {
      kept = subst (λ (rows : List Row). IsKept (record { rows = rows; current = parts.current.0; added = parts.added.keys }) parts.used.items) same index.kept;
      tracks = c.close_tracks.ensures.tracks;
      noted = subst (λ (rows : List Row). AreNoted parts.noted.entries rows) same index.noted;
      started = subst (λ (rows : List Row). AreStarted parts.starts.entries rows) same index.started;
      counted = subst (λ (rows : List Row). AreCounted parts.counts.entries rows) same index.counted;
    }
