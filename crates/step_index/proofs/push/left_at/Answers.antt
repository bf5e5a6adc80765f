use Rattle.std.proofs.Common.{◌≡◌, ◌<◌, ◌∙◌, ap, subst, List, length}
use Rattle.std.specs.Prelude.{nat_le, slice_get, IfSome}
use Rattle.std.proofs.lemmas.Option.{get_or_from_slice_get}
use Rattle.log_model.specs.declared.row.Row.{Row}
use Rattle.step_index.specs.declared.track.Track.{Track}
use Rattle.step_index.proofs.Pushing.{first_upto}
use Rattle.step_index.proofs.push.left_at.Goals as goal

pub returns : goal.returns
returns c =
    let place = c.requires.place in
    let same = c.index.ensures ∙ get_or_from_slice_get c.args.parts.now.tracks.items c.args.at place.it c.index.result.now place.here in
    let rows = c.deref.ensures.value ∙ ap (λ (t : Track). t.rows.items) same in
    record {
      place = place;
      some = subst (λ (r : List Row). 0 < length r) rows (c.is_first_upto.ensures.some c.if-not-is_first_upto.false);
      first = first_upto place.it.rows.items c.args.parts.now.current.0 c.is_first_upto.result
          (subst (λ (r : List Row). IfSome (slice_get r 0) (λ row. c.is_first_upto.result ≡ nat_le row.step.0 c.args.parts.now.current.0)) rows c.is_first_upto.ensures.first)
          c.if-not-is_first_upto.false;
      clean = c.is_cut_clean.ensures c.if-not-is_cut_clean.false;
    }
