use Rattle.std.proofs.Common.{◌≤◌, ◌-◌, ◌*◌, ◌+◌, ◌^◌, List, [], None, ap, sym, ◌∙◌, subst, filter, length, Option, fold}
use Rattle.std.specs.Prelude.{nat_le}
use Rattle.std.specs.Option.{option_map}
use Rattle.std.proofs.lemmas.Option.{get_or_from_slice_get}
use Rattle.log_model.specs.declared.row.Row.{Row}
use Rattle.log_model.specs.History.{later_row}
use Rattle.step_index.specs.declared.track.Track.{Track}
use Rattle.step_index.specs.Ascending.{IsAscending}
use Rattle.step_index.specs.Tracks.{rows_of, step_of}
use Rattle.step_index.proofs.Tracking.{track_is, rows_at, rows_in_gap}
use Rattle.step_index.proofs.Looking.{target_of}
use Rattle.step_index.proofs.readers.target_in.Goals as goal

pub last_upto-requires : goal.last_upto-requires
last_upto-requires g c =
    let place = c.in-Ok.ensures.here in
    let same = get_or_from_slice_get c.args.tracks.now c.in-Ok.at place.it c.index-tracks-at.result place.here in
    record {
      sorted = subst (λ (rows : List Row). IsAscending step_of rows) (sym (c.deref.ensures.value ∙ ap (λ (t : Track). t.rows.items) same))
          (track_is c.args.tracks.now c.in-Ok.at place.it c.requires.tracks place.here).1;
    }

pub returns-in-Ok-clause-target : goal.returns-in-Ok-clause-target
returns-in-Ok-clause-target g c =
    let place = c.in-Ok.ensures.here in
    let same = get_or_from_slice_get c.args.tracks.now c.in-Ok.at place.it c.index-tracks-at.result place.here in
    c.last_upto.ensures.last
    ∙ ap (λ (rows : List Row). option_map (λ (r : Row). r.entry) (fold later_row None (filter (λ (row : Row). nat_le row.step.0 c.args.s.0) rows)))
    (c.deref.ensures.value ∙ ap (λ (t : Track). t.rows.items) same)
    ∙ ap (λ (row : Option Row). option_map (λ (r : Row). r.entry) row)
    (sym (target_of (rows_of c.args.tracks.now) place.it.rows.items c.args.nav c.args.s.0 (rows_at c.args.tracks.now c.args.nav c.in-Ok.at place.it c.requires.tracks place.here place.is_navs)))

pub returns-in-Ok-clause-cost : goal.returns-in-Ok-clause-cost
returns-in-Ok-clause-cost g c =
    let place = c.in-Ok.ensures.here in
    let same = get_or_from_slice_get c.args.tracks.now c.in-Ok.at place.it c.index-tracks-at.result place.here in
    subst (λ (rows : List Row). 2 ^ (c.last_upto.new.steps - c.args.steps.now) ≤ 2 * length rows + 1)
    (c.deref.ensures.value ∙ ap (λ (t : Track). t.rows.items) same ∙ sym (rows_at c.args.tracks.now c.args.nav c.in-Ok.at place.it c.requires.tracks place.here place.is_navs))
    c.last_upto.ensures.cost

pub returns-in-Err-clause-target : goal.returns-in-Err-clause-target
returns-in-Err-clause-target g c =
    ap (λ (row : Option Row). option_map (λ (r : Row). r.entry) row)
    (sym (target_of (rows_of c.args.tracks.now) [] c.args.nav c.args.s.0 (rows_in_gap c.args.tracks.now c.args.nav c.in-Err.field-0 c.requires.tracks c.in-Err.ensures.gap)))
