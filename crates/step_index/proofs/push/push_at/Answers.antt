use Rattle.std.proofs.Common.{◌<◌, ◌∙◌, sym, ap, subst, List, length}
use Rattle.std.specs.Prelude.{slice_get}
use Rattle.std.specs.Option.{option_map}
use Rattle.std.proofs.lemmas.Option.{get_or_from_slice_get}
use Rattle.log_model.specs.declared.row.Row.{Row}
use Rattle.log_model.specs.History.{History, has_row, used_steps, with_step}
use Rattle.entry_store.specs.Kept.{PutsRow}
use Rattle.step_index.specs.declared.track.Track.{Track}
use Rattle.step_index.specs.Tracks.{rows_of}
use Rattle.step_index.specs.Cut.{rows_upto}
use Rattle.step_index.specs.Parts.{history_in}
use Rattle.step_index.proofs.Pushing.{same_upto, left_row, pushed_fits, pushed_same, pushed_kept}
use Rattle.step_index.proofs.push.push_at.Goals as goal

pub first_owner-owner-requires : goal.first_owner-owner-requires
first_owner-owner-requires c =
    let place = c.requires.left.place in
    let same = c.index.ensures ∙ get_or_from_slice_get c.args.parts.now.tracks.items c.args.at place.it c.index.result.now place.here in
    subst (λ (rows : List Row). 0 < length rows) (sym (c.deref.ensures.value ∙ ap (λ (t : Track). t.rows.items) same))
    c.requires.left.some

pub put_cleared-requires-clause-left : goal.put_cleared-requires-clause-left
put_cleared-requires-clause-left c =
    let place = c.requires.left.place in
    let same = c.index.ensures ∙ get_or_from_slice_get c.args.parts.now.tracks.items c.args.at place.it c.index.result.now place.here in
    let search =
    ap (λ (rows : List Row). option_map (λ (r : Row). r.owner) (slice_get rows 0)) (sym (c.deref.ensures.value ∙ ap (λ (t : Track). t.rows.items) same))
    ∙ c.first_owner-owner.ensures in
    ap (λ (row : Row). has_row row.nav (rows_upto c.make_room.new.parts.current.0 (rows_of c.make_room.new.parts.tracks.items))) c.in_ok-row.ensures
    ∙ ap (has_row c.args.nav) (same_upto (history_in c.make_room.new.parts) (history_in c.args.parts.now) c.in_ok-make_room.ensures.same)
    ∙ left_row c.args.parts.now c.requires.index c.requires.room c.args.nav c.args.entry c.args.state c.args.address.now c.args.memo.now c.requires.may c.args.at c.requires.left c.first_owner-owner.result search

pub returns-clause-index : goal.returns-clause-index
returns-clause-index c =
    let place = c.requires.left.place in
    let same = c.index.ensures ∙ get_or_from_slice_get c.args.parts.now.tracks.items c.args.at place.it c.index.result.now place.here in
    let search =
    ap (λ (rows : List Row). option_map (λ (r : Row). r.owner) (slice_get rows 0)) (sym (c.deref.ensures.value ∙ ap (λ (t : Track). t.rows.items) same))
    ∙ c.first_owner-owner.ensures in
    let upto = same_upto (history_in c.make_room.new.parts) (history_in c.args.parts.now) c.in_ok-make_room.ensures.same in
    let new = rows_of c.put_cleared.new.parts.tracks.items in
    let row = c.in_ok-row.row in
    let puts = subst (λ (rows : List Row). PutsRow rows row new) upto c.put_cleared.ensures.rows in
    let added = c.put_cleared.ensures.added ∙ ap (λ (h : History). h.added) c.in_ok-make_room.ensures.same in
    record {
      kept = pushed_kept c.args.parts.now c.requires.index c.requires.room c.args.nav c.args.entry c.args.state c.args.address.now c.args.memo.now c.requires.may c.args.at c.requires.left c.first_owner-owner.result search row c.in_ok-row.ensures new puts
          c.put_cleared.new.parts.added.keys added c.put_cleared.new.parts.used.items (c.put_cleared.ensures.used ∙ ap (λ (rows : List Row). with_step row.step.0 (used_steps rows)) upto);
      tracks = c.put_cleared.ensures.filed.tracks;
      noted = c.put_cleared.ensures.filed.noted;
      started = c.put_cleared.ensures.filed.started;
      counted = c.put_cleared.ensures.counted;
    }

pub returns-clause-fits : goal.returns-clause-fits
returns-clause-fits c =
    let place = c.requires.left.place in
    let same = c.index.ensures ∙ get_or_from_slice_get c.args.parts.now.tracks.items c.args.at place.it c.index.result.now place.here in
    let search =
    ap (λ (rows : List Row). option_map (λ (r : Row). r.owner) (slice_get rows 0)) (sym (c.deref.ensures.value ∙ ap (λ (t : Track). t.rows.items) same))
    ∙ c.first_owner-owner.ensures in
    let upto = same_upto (history_in c.make_room.new.parts) (history_in c.args.parts.now) c.in_ok-make_room.ensures.same in
    let new = rows_of c.put_cleared.new.parts.tracks.items in
    let row = c.in_ok-row.row in
    pushed_fits c.args.parts.now c.requires.index c.requires.room c.args.nav c.args.entry c.args.state c.args.address.now c.args.memo.now c.requires.may c.args.at c.requires.left c.first_owner-owner.result search row c.in_ok-row.ensures new
    (subst (λ (rows : List Row). PutsRow rows row new) upto c.put_cleared.ensures.rows)

pub returns-clause-ok : goal.returns-clause-ok
returns-clause-ok c =
    let place = c.requires.left.place in
    let same = c.index.ensures ∙ get_or_from_slice_get c.args.parts.now.tracks.items c.args.at place.it c.index.result.now place.here in
    let search =
    ap (λ (rows : List Row). option_map (λ (r : Row). r.owner) (slice_get rows 0)) (sym (c.deref.ensures.value ∙ ap (λ (t : Track). t.rows.items) same))
    ∙ c.first_owner-owner.ensures in
    let upto = same_upto (history_in c.make_room.new.parts) (history_in c.args.parts.now) c.in_ok-make_room.ensures.same in
    let new = rows_of c.put_cleared.new.parts.tracks.items in
    let row = c.in_ok-row.row in
    let added = c.put_cleared.ensures.added ∙ ap (λ (h : History). h.added) c.in_ok-make_room.ensures.same in
    pushed_same c.args.parts.now c.requires.index c.requires.room c.args.nav c.args.entry c.args.state c.args.address.now c.args.memo.now c.requires.may c.args.at c.requires.left c.first_owner-owner.result search row c.in_ok-row.ensures new
    (subst (λ (rows : List Row). PutsRow rows row new) upto c.put_cleared.ensures.rows) c.put_cleared.new.parts.added.keys added
