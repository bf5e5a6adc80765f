use Rattle.std.proofs.Common.{◌≡◌, false, ◌∙◌, sym, ap, subst, List, take, drop}
use Rattle.std.specs.Prelude.{nat_le, nat_lt}
use Rattle.std.specs.List.{list_any}
use Rattle.log_model.specs.declared.row.Row.{Row}
use Rattle.step_index.specs.Groups.{CountsLess}
use Rattle.step_index.specs.Starts.{StartsLess}
use Rattle.step_index.specs.Tracks.{step_of}
use Rattle.step_index.specs.Cut.{NotesLess, rows_past}
use Rattle.step_index.proofs.Searching.{cut_at}
use Rattle.step_index.proofs.Cutting.{past_cut}
use Rattle.step_index.proofs.cut.cut_rows.Goals as goal

pub returns-clause-left : goal.returns-clause-left
returns-clause-left c =
    let rows = c.args.rows.now.items in
    let upto = c.uncounted_upto-upto.result in
    let a = c.uncounted_upto-upto.ensures in
    c.truncate.ensures.items
    ∙ sym (cut_at step_of rows upto c.args.step.0
    (subst (λ (r : List Row). list_any (λ (row : Row). nat_lt c.args.step.0 row.step.0) (take upto r) ≡ false) c.as_slice.ensures.value a.upto)
    (subst (λ (r : List Row). list_any (λ (row : Row). nat_le row.step.0 c.args.step.0) (drop upto r) ≡ false) c.as_slice.ensures.value a.past))

pub returns-clause-noted : goal.returns-clause-noted
returns-clause-noted c =
    let upto = c.uncounted_upto-upto.result in
    let a = c.uncounted_upto-upto.ensures in
    let gone : drop upto c.as_slice-2.result.now ≡ rows_past c.args.step.0 c.args.rows.now.items =
    ap (drop upto) (c.as_slice-2.ensures.value ∙ sym c.as_slice.ensures.value)
    ∙ sym (past_cut step_of c.as_slice.result.now upto c.args.step.0 a.upto a.past)
    ∙ ap (rows_past c.args.step.0) c.as_slice.ensures.value in
    subst (λ (rows : List Row). NotesLess c.args.noted.now.entries rows c.forget_from.new.noted.entries) gone c.forget_from.ensures.noted

pub returns-clause-starts : goal.returns-clause-starts
returns-clause-starts c =
    let upto = c.uncounted_upto-upto.result in
    let a = c.uncounted_upto-upto.ensures in
    let gone : drop upto c.as_slice-2.result.now ≡ rows_past c.args.step.0 c.args.rows.now.items =
    ap (drop upto) (c.as_slice-2.ensures.value ∙ sym c.as_slice.ensures.value)
    ∙ sym (past_cut step_of c.as_slice.result.now upto c.args.step.0 a.upto a.past)
    ∙ ap (rows_past c.args.step.0) c.as_slice.ensures.value in
    subst (λ (rows : List Row). StartsLess c.args.starts.now.entries rows c.forget_from.new.starts.entries) gone c.forget_from.ensures.starts

pub returns-clause-counts : goal.returns-clause-counts
returns-clause-counts c =
    let upto = c.uncounted_upto-upto.result in
    let a = c.uncounted_upto-upto.ensures in
    let gone : drop upto c.as_slice-2.result.now ≡ rows_past c.args.step.0 c.args.rows.now.items =
    ap (drop upto) (c.as_slice-2.ensures.value ∙ sym c.as_slice.ensures.value)
    ∙ sym (past_cut step_of c.as_slice.result.now upto c.args.step.0 a.upto a.past)
    ∙ ap (rows_past c.args.step.0) c.as_slice.ensures.value in
    subst (λ (rows : List Row). CountsLess c.args.counts.now.entries rows c.forget_from.new.counts.entries) gone c.forget_from.ensures.counts
