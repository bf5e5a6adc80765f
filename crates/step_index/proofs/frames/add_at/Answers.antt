use Rattle.std.proofs.Common.{◌∙◌, sym, ap, subst, List, ℕ, ◌++◌, ◌∷◌, []}
use Rattle.std.specs.List.{list_any}
use Rattle.log_model.specs.declared.row.Row.{Row}
use Rattle.log_model.specs.declared.change.Change.TheVariants.{AddFrame}
use Rattle.log_model.specs.History.{History, has_row, has_nav, applied}
use Rattle.log_model.specs.Order.{SameHistory}
use Rattle.log_model.specs.Soundness.{is_entry}
use Rattle.entry_store.specs.Kept.{IsKept}
use Rattle.entry_store.proofs.AddLaw.{frame_fits}
use Rattle.step_index.specs.Tracks.{rows_of}
use Rattle.step_index.specs.Parts.{history_in}
use Rattle.step_index.proofs.Framing.{index_filed, new_nav, frame_kept, frame_same, history_framed}
use Rattle.step_index.proofs.frames.add_at.Goals as goal

pub put_frame-requires-clause-none : goal.put_frame-requires-clause-none
put_frame-requires-clause-none c =
    ap (λ (row : Row). has_row row.nav (rows_of c.args.parts.now.tracks.items)) c.in_ok-row.ensures ∙ new_nav c.args.parts.now c.requires.index c.args.nav c.requires.is_child c.requires.is_new

pub put_frame-requires-clause-fresh : goal.put_frame-requires-clause-fresh
put_frame-requires-clause-fresh c = ap (λ (row : Row). has_nav c.args.parts.now.added.keys row.nav) c.in_ok-row.ensures ∙ c.requires.is_new

pub put_frame-requires-clause-new : goal.put_frame-requires-clause-new
put_frame-requires-clause-new c = ap (λ (row : Row). list_any (is_entry row.entry) (rows_of c.args.parts.now.tracks.items)) c.in_ok-row.ensures ∙ c.requires.may.0

pub returns-clause-index : goal.returns-clause-index
returns-clause-index c =
    let parts = c.args.parts.now in
    let new = c.put_frame.new.parts in
    let done = c.in_ok-put_frame.ensures in
    let added = done.added ∙ ap (λ (row : Row). parts.added.keys ++ row.nav ∷ []) c.in_ok-row.ensures in
    record {
      kept =
          subst (λ (used : List ℕ). IsKept (history_in new) used) (sym done.used)
          (subst (λ (history : History). IsKept history parts.used.items) (sym (history_framed parts new done.current))
          (frame_kept parts c.requires.index c.args.owner c.args.nav c.args.entry c.args.state c.requires.may c.args.step.0 c.requires.first c.requires.is_child c.requires.is_new c.in_ok-row.row c.in_ok-row.ensures new.tracks.items done.filed.tracks done.rows new.added.keys added));
      tracks = done.filed.tracks;
      noted = done.filed.noted;
      started = done.filed.started;
      counted = done.counted;
    }

pub returns-in_err-put_frame-clause-index : goal.returns-in_err-put_frame-clause-index
returns-in_err-put_frame-clause-index c =
    let failed = c.in_err-put_frame.ensures in
    index_filed c.args.parts.now c.put_frame.new.parts c.requires.index failed.filed failed.err failed.counts failed.used

pub returns-clause-fits : goal.returns-clause-fits
returns-clause-fits c =
    frame_fits (history_in c.args.parts.now) c.args.owner c.args.nav c.args.entry c.args.state c.args.step.0 c.requires.first c.requires.is_child c.requires.is_new

pub returns-clause-ok : goal.returns-clause-ok
returns-clause-ok c =
    let parts = c.args.parts.now in
    let new = c.put_frame.new.parts in
    let done = c.in_ok-put_frame.ensures in
    let added = done.added ∙ ap (λ (row : Row). parts.added.keys ++ row.nav ∷ []) c.in_ok-row.ensures in
    subst (λ (history : History). SameHistory history (applied (history_in parts) (AddFrame c.args.owner c.args.nav c.args.entry c.args.state))) (sym (history_framed parts new done.current))
    (frame_same parts c.requires.index c.args.owner c.args.nav c.args.entry c.args.state c.requires.may c.args.step.0 c.requires.first c.requires.is_child c.requires.is_new c.in_ok-row.row c.in_ok-row.ensures new.tracks.items done.filed.tracks done.rows new.added.keys added)
