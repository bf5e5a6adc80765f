use Rattle.std.proofs.Common.{◌<◌, ◌∙◌, sym, ap, subst, List, length, drop, Option}
use Rattle.std.specs.Prelude.{find, option_map}
use Rattle.log_model.specs.declared.row.Row.{Row}
use Rattle.log_model.specs.Soundness.{is_in_state}
use Rattle.tab_ids.specs.declared.Step.{Step}
use Rattle.step_index.specs.declared.track.Track.{Track}
use Rattle.step_index.specs.Starts.{StartsAnew}
use Rattle.step_index.specs.Spots.{track_rows}
use Rattle.step_index.proofs.replace.swap_filed.Goals as goal

pub start_from-later-requires-clause-place : goal.start_from-later-requires-clause-place
start_from-later-requires-clause-place c =
    subst (λ (tracks : List Track). c.args.spot.place < length tracks) (sym c.deref.ensures.value) c.swap_row-was.ensures.within

pub start_from-later-requires-clause-within : goal.start_from-later-requires-clause-within
start_from-later-requires-clause-within c =
    subst (λ (tracks : List Track). c.args.spot.at < length (track_rows tracks c.args.spot.place)) (sym c.deref.ensures.value) c.swap_row-was.ensures.in_rows

pub returns-clause-starts : goal.returns-clause-starts
returns-clause-starts c =
    record {
      between = c.start_in_room.new.starts.entries;
      comes = c.start_in_room.ensures;
      goes = subst (λ (later : Option Step). StartsAnew c.start_in_room.new.starts.entries c.swap_row-was.result.state c.swap_row-was.result.step later c.start_anew.new.starts.entries)
          (c.start_from-later.ensures ∙ ap (λ (tracks : List Track). option_map (λ (r : Row). r.step) (find (is_in_state c.swap_row-was.result.state) (drop c.args.spot.at (track_rows tracks c.args.spot.place)))) c.deref.ensures.value)
          c.start_anew.ensures;
    }
