use Rattle.std.proofs.Common.{◌≡◌, ◌<◌, false, ◌∙◌, ap, subst, List, length}
use Rattle.std.specs.List.{list_any}
use Rattle.std.proofs.lemmas.Option.{get_or_from_slice_get}
use Rattle.log_model.specs.declared.row.Row.{Row}
use Rattle.step_index.specs.declared.track.Track.{Track}
use Rattle.step_index.specs.Tracks.{IsTrackAt}
use Rattle.step_index.specs.Parts.{has_below}
use Rattle.step_index.proofs.remove.leaf_place.Goals as goal

pub returns-then-is_leaf : goal.returns-then-is_leaf
returns-then-is_leaf c =
    let parts = c.args.parts.now in
    let at = c.in-Ok.at in
    let place : IsTrackAt parts.tracks.items c.args.nav at = subst (λ (tracks : List Track). IsTrackAt tracks c.args.nav at) c.deref.ensures.value c.in-Ok.ensures.here in
    let rows = c.deref-in-Ok.ensures.value ∙ ap (λ (t : Track). t.rows.items) (c.index.ensures ∙ get_or_from_slice_get parts.tracks.items at place.it c.index.result.now place.here) in
    record {
      is_child = c.if-nav-eq0.false;
      place = place;
      some = subst (λ (r : List Row). 0 < length r) rows (c.is_leaf.ensures.some c.if-is_leaf.true);
      free = subst (λ (r : List Row). list_any (has_below parts.counts.entries) r ≡ false) rows (c.is_leaf.ensures.free c.if-is_leaf.true);
    }
