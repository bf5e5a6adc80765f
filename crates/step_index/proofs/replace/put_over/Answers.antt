use Rattle.std.proofs.Common.{◌≡◌, ◌∙◌, suc, sym, ap, subst, set, drop, ◌∷◌, List, [], Option}
use Rattle.std.specs.Option.{option_map_or}
use Rattle.tab_ids.specs.declared.NavId.{NavId}
use Rattle.tab_ids.specs.declared.EntryId.{EntryId}
use Rattle.tab_ids.specs.declared.StateId.{StateId}
use Rattle.tab_ids.specs.declared.Step.{Step}
use Rattle.log_model.specs.declared.row.Row.{Row}
use Rattle.log_model.specs.History.{same_entry}
use Rattle.step_index.specs.declared.noted.Place.{Place}
use Rattle.step_index.specs.declared.track.Track.{Track}
use Rattle.step_index.specs.Groups.{AreCounted}
use Rattle.step_index.specs.Noted.{NotesOver}
use Rattle.step_index.specs.Starts.{StartsOver}
use Rattle.step_index.specs.Spots.{IsPlace, track_rows}
use Rattle.step_index.proofs.Counting.{swapped_counted}
use Rattle.step_index.proofs.Replacing.{was_it, swapped_started, swapped_noted, swapped_rows}
use Rattle.step_index.proofs.replace.put_over.Goals as goal

pub returns-clause-filed : goal.returns-clause-filed
returns-clause-filed c =
    let parts = c.args.parts.now in
    let row = c.args.row in
    let place = c.args.spot.place in
    let at = c.args.spot.at in
    let it = c.requires.spot.is_place in
    let new = c.swap_filed-was.new.tracks.items in
    let was = c.swap_filed-was.result in
    let puts = c.swap_filed-was.ensures.over in
    let spot : IsPlace parts.tracks.items place at row.nav row.step.0 = record {
      track = it.track;
      it = it.it;
      within = it.within;
      there = it.there;
      in_rows = it.in_rows;
      here = it.here;
      is_navs = ap (λ (n : NavId). n.0) (sym c.requires.nav) ∙ it.is_navs;
      step_is = ap (λ (s : Step). s.0) (sym c.requires.step) ∙ it.step_is;
    } in
    let were : track_rows parts.tracks.items place ≡ puts.track.rows.items = ap (λ (o : Option Track). option_map_or (λ (t : Track). t.rows.items) o []) puts.there in
    let behind : drop at (track_rows new place) ≡ row ∷ drop (suc at) puts.track.rows.items =
    swapped_rows parts c.requires.index place at row was new spot puts (c.swap_filed-was.ensures.rows ∙ ap (λ (rows : List Row). set rows at row) were) in
    record {
      tracks = c.swap_filed-was.ensures.tracks;
      noted =
          swapped_noted parts c.requires.index place at row was new spot puts c.args.over c.swap_filed-was.new.noted.entries
          (ap (λ (r : Row). same_entry r.entry c.args.over) (was_it parts c.requires.index place at row was new spot puts) ∙ c.requires.spot.is_over) c.requires.new
          (subst (λ (noted : List (EntryId × Place)). NotesOver noted row c.args.over c.swap_filed-was.new.noted.entries) c.in_ok-reserve_notes.ensures.noted c.swap_filed-was.ensures.noted);
      started =
          swapped_started parts c.requires.index place at row was new spot puts c.swap_filed-was.new.starts.entries
          (subst (λ (rows : List Row). StartsOver parts.starts.entries row was rows c.swap_filed-was.new.starts.entries) behind
          (subst (λ (starts : List (StateId × Step)). StartsOver starts row was (drop at (track_rows new place)) c.swap_filed-was.new.starts.entries) c.in_ok-reserve_notes.ensures.starts c.swap_filed-was.ensures.starts));
    }

pub returns-clause-counted : goal.returns-clause-counted
returns-clause-counted c =
    let parts = c.args.parts.now in
    let row = c.args.row in
    let place = c.args.spot.place in
    let at = c.args.spot.at in
    let it = c.requires.spot.is_place in
    let new = c.swap_filed-was.new.tracks.items in
    let was = c.swap_filed-was.result in
    let puts = c.swap_filed-was.ensures.over in
    let spot : IsPlace parts.tracks.items place at row.nav row.step.0 = record {
      track = it.track;
      it = it.it;
      within = it.within;
      there = it.there;
      in_rows = it.in_rows;
      here = it.here;
      is_navs = ap (λ (n : NavId). n.0) (sym c.requires.nav) ∙ it.is_navs;
      step_is = ap (λ (s : Step). s.0) (sym c.requires.step) ∙ it.step_is;
    } in
    let it_was : was ≡ spot.it = was_it parts c.requires.index place at row was new spot puts in
    subst (λ (rows : List Row). AreCounted parts.counts.entries rows) (sym puts.of_new)
    (swapped_counted parts.counts.entries puts.front puts.back was row
    (spot.step_is ∙ ap (λ (r : Row). r.step.0) (sym it_was))
    (sym c.requires.owner ∙ c.requires.spot.owner_is ∙ ap (λ (r : Row). r.owner) (sym it_was))
    (subst (λ (rows : List Row). AreCounted parts.counts.entries rows) puts.of_old c.requires.index.counted))
