use Rattle.std.proofs.Common.{◌≡◌, ◌≤◌, ◌∙◌, ℕ, List, sym, subst}
use Rattle.std.specs.List.{count_by}
use Rattle.tab_ids.specs.declared.EntryId.{EntryId}
use Rattle.log_model.specs.Soundness.{is_entry}
use Rattle.log_model.specs.declared.row.Row.{Row}
use Rattle.entry_store.specs.Kept.{history_of, IsKept}
use Rattle.step_index.specs.Groups.{AreCounted}
use Rattle.step_index.specs.Noted.{AreNoted}
use Rattle.step_index.specs.Starts.{AreStarted}
use Rattle.step_index.specs.Tracks.{rows_of}
use Rattle.step_index.specs.Strict.{IsStrict}
use Rattle.step_index.proofs.Rebuilding.{strict}
use Rattle.step_index.proofs.rebuild.parts_of.Goals as goal

pub tracks_of-requires : goal.tracks_of-requires
tracks_of-requires c =
    record { strict = subst (λ (rows : List Row). IsStrict rows) (sym c.as_slice.ensures) (strict c.args.changed.rows c.requires.kept.sound.steps c.requires.order) }

pub places_of-requires : goal.places_of-requires
places_of-requires c =
    record { once = subst (λ (rows : List Row). (entry : EntryId) → count_by (is_entry entry) rows ≤ 1) (sym c.as_slice-2.ensures) c.requires.kept.sound.entries }

pub returns-clause-index : goal.returns-clause-index
returns-clause-index c =
    let changed = c.args.changed in
    let rows_are : rows_of c.in_ok-tracks.tracks.items ≡ changed.rows = c.in_ok-tracks.ensures.rows ∙ c.as_slice.ensures in
    record {
      kept =
          subst (λ (rows : List Row). IsKept (history_of rows changed.current.0 changed.added.keys) c.in_ok-used.used.items) (sym rows_are)
          (subst (λ (used : List ℕ). IsKept (history_of changed.rows changed.current.0 changed.added.keys) used) (sym c.in_ok-used.ensures) c.requires.kept);
      tracks = c.in_ok-tracks.ensures.tracks;
      noted = subst (λ (rows : List Row). AreNoted c.in_ok-noted.noted.entries rows) (c.as_slice-2.ensures ∙ sym rows_are) c.in_ok-noted.ensures;
      started = subst (λ (rows : List Row). AreStarted c.in_ok-starts.starts.entries rows) (c.as_slice-3.ensures ∙ sym rows_are) c.in_ok-starts.ensures;
      counted = subst (λ (rows : List Row). AreCounted c.in_ok-counts.counts.entries rows) (c.as_slice-4.ensures ∙ sym rows_are) c.in_ok-counts.ensures;
    }
