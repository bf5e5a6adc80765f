use Rattle.std.proofs.Common.{◌∙◌, sym, ap, subst, ℕ, List}
use Rattle.std.specs.Prelude.{nat_le}
use Rattle.std.specs.List.{list_any}
use Rattle.log_model.specs.declared.row.Row.{Row}
use Rattle.log_model.specs.Soundness.{is_entry}
use Rattle.entry_store.specs.Kept.{PutsRow}
use Rattle.step_index.specs.declared.groups.Group.{Group}
use Rattle.step_index.specs.Cut.{rows_upto, rows_past}
use Rattle.step_index.specs.Groups.{AreCounted}
use Rattle.step_index.specs.Tracks.{rows_of, is_from}
use Rattle.step_index.proofs.Counting.{count_split, pushed_counted}
use Rattle.step_index.proofs.Pushing.{none_upto, behind_upto, beyond_upto}
use Rattle.step_index.proofs.put.put_cleared.Goals as goal

pub put_row-requires-clause-new : goal.put_row-requires-clause-new
put_row-requires-clause-new c =
    ap (list_any (is_entry c.args.row.entry)) c.clear_forward.ensures.rows ∙ none_upto (is_entry c.args.row.entry) c.args.parts.now.current.0 (rows_of c.args.parts.now.tracks.items) c.requires.new

pub put_row-requires-clause-last : goal.put_row-requires-clause-last
put_row-requires-clause-last c =
    ap (list_any (is_from c.args.row.nav c.args.row.step.0)) c.clear_forward.ensures.rows ∙ behind_upto c.args.parts.now.current.0 c.args.row.step.0 c.args.row.nav (rows_of c.args.parts.now.tracks.items) c.requires.past

pub put_row-requires-clause-beyond : goal.put_row-requires-clause-beyond
put_row-requires-clause-beyond c =
    beyond_upto c.args.parts.now.current.0 c.args.row.step.0 (rows_of c.args.parts.now.tracks.items) c.clear_forward.new.parts.used.items c.clear_forward.ensures.used c.requires.past

pub returns-clause-counted : goal.returns-clause-counted
returns-clause-counted c =
    let parts = c.args.parts.now in
    let rows = rows_of parts.tracks.items in
    let current = parts.current.0 in
    let new = rows_of c.put_row.new.parts.tracks.items in
    subst (λ (counts : List (Group × ℕ)). AreCounted counts new) (sym c.put_row.ensures.counts)
    (pushed_counted parts.counts.entries c.count_row.new.counts.entries c.clear_forward.new.parts.counts.entries rows (rows_past current rows) (rows_upto current rows) new c.args.row
    (λ test. count_split test (λ (row : Row). nat_le row.step.0 current) rows) c.count_row.ensures c.clear_forward.ensures.counts
    (subst (λ (left : List Row). PutsRow left c.args.row new) c.clear_forward.ensures.rows c.put_row.ensures.rows) c.requires.index.counted)
