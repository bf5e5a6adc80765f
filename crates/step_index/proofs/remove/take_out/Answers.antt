use Rattle.std.proofs.Common.{◌∙◌, sym, ap, subst, not, List, filter}
use Rattle.log_model.specs.declared.row.Row.{Row}
use Rattle.log_model.specs.History.{is_of}
use Rattle.entry_store.specs.Kept.{IsKept}
use Rattle.step_index.specs.Cut.{NotesLess}
use Rattle.step_index.specs.Groups.{AreCounted, CountsLess, is_unused}
use Rattle.step_index.specs.Noted.{AreNoted}
use Rattle.step_index.specs.Starts.{AreStarted, StartsLess}
use Rattle.step_index.specs.Tracks.{rows_of}
use Rattle.step_index.specs.Parts.{history_in}
use Rattle.step_index.proofs.Looking.{used_ascend}
use Rattle.step_index.proofs.Counting.{left_counted, rest_noted}
use Rattle.step_index.proofs.Removing.{both_parts, left_part, leaf_kept, leaf_started, leaf_used}
use Rattle.step_index.proofs.remove.take_out.Goals as goal

pub drop_unused-requires : goal.drop_unused-requires
drop_unused-requires c = record { sorted = used_ascend (history_in c.args.parts.now) c.args.parts.now.used.items c.requires.index.kept }

pub returns-clause-index : goal.returns-clause-index
returns-clause-index c =
    let parts = c.args.parts.now in
    let index = c.requires.index in
    let nav = c.args.nav in
    let at = c.args.at in
    let leaf = c.requires.leaf in
    let rows = rows_of parts.tracks.items in
    let gone = filter (is_of nav) rows in
    let left = filter (λ (row : Row). not (is_of nav row)) rows in
    let are = c.take_track-rows.ensures.left in
    let forgot = c.deref.ensures.value ∙ c.take_track-rows.ensures.rows in
    let dropped = c.deref-2.ensures.value ∙ c.take_track-rows.ensures.rows in
    let noted = c.forget_rows.new.noted.entries in
    let starts = c.forget_rows.new.starts.entries in
    let counts = c.forget_rows.new.counts.entries in
    let used = c.drop_unused.new.used.items in
    let counted : AreCounted counts left =
    left_counted parts.counts.entries counts rows gone left (both_parts parts index nav at leaf)
    (subst (λ (r : List Row). CountsLess parts.counts.entries r counts) forgot c.forget_rows.ensures.counts) index.counted in
    record {
      kept =
          subst (λ (r : List Row). IsKept (record { rows = r; current = parts.current.0; added = parts.added.keys }) used) (sym are)
          (leaf_kept parts index nav at leaf used
          (c.drop_unused.ensures
          ∙ ap (λ (r : List Row). filter (λ n. not (is_unused counts r n)) parts.used.items) dropped
          ∙ leaf_used parts index nav at leaf counts counted));
      tracks = c.take_track-rows.ensures.tracks;
      noted =
          subst (λ (r : List Row). AreNoted noted r) (sym are)
          (rest_noted parts.noted.entries noted rows gone left index.kept.sound.entries (both_parts parts index nav at leaf) (left_part parts index nav at leaf)
          (subst (λ (r : List Row). NotesLess parts.noted.entries r noted) forgot c.forget_rows.ensures.noted) index.noted);
      started =
          subst (λ (r : List Row). AreStarted starts r) (sym are)
          (leaf_started parts index nav at leaf starts (subst (λ (r : List Row). StartsLess parts.starts.entries r starts) forgot c.forget_rows.ensures.starts));
      counted = subst (λ (r : List Row). AreCounted counts r) (sym are) counted;
    }
