use Rattle.std.proofs.Common.{List, ap, sym, ◌∙◌, subst}
use Rattle.std.specs.Result.{IfOk, IfErr}
use Rattle.log_model.specs.History.{History}
use Rattle.entry_store.specs.Kept.{IsChanged}
use Rattle.entry_store.specs.Store.{MayTake, IsRefused}
use Rattle.step_index.specs.declared.track.Track.{Track}
use Rattle.step_index.specs.Tracks.{rows_of}
use Rattle.step_index.proofs.Rebuilding.{copied, copied_kept}
use Rattle.step_index.proofs.rebuild.changed_parts.Goals as goal

pub changed_rows-requires-clause-kept : goal.changed_rows-requires-clause-kept
changed_rows-requires-clause-kept c =
    copied_kept c.args.parts.now c.args.parts.now.used.items c.requires.index.kept c.in_ok-rows.rows.items c.in_ok-added.added.keys
    (c.in_ok-rows.ensures ∙ ap (λ (tracks : List Track). rows_of tracks) c.deref.ensures.value) c.in_ok-added.ensures

pub changed_rows-requires-clause-may : goal.changed_rows-requires-clause-may
changed_rows-requires-clause-may c =
    subst (λ (history : History). MayTake history c.args.change.now)
    (sym (copied c.args.parts.now c.in_ok-rows.rows.items c.in_ok-added.added.keys (c.in_ok-rows.ensures ∙ ap (λ (tracks : List Track). rows_of tracks) c.deref.ensures.value) c.in_ok-added.ensures)) c.requires.may

pub returns-clause-ok : goal.returns-clause-ok
returns-clause-ok c =
    subst (λ (history : History). IfOk c.changed_rows.result (λ new. IsChanged history c.args.change.now new))
    (copied c.args.parts.now c.in_ok-rows.rows.items c.in_ok-added.added.keys (c.in_ok-rows.ensures ∙ ap (λ (tracks : List Track). rows_of tracks) c.deref.ensures.value) c.in_ok-added.ensures) c.changed_rows.ensures.ok

pub returns-clause-refused : goal.returns-clause-refused
returns-clause-refused c =
    subst (λ (history : History). IfErr c.changed_rows.result (IsRefused history c.args.change.now))
    (copied c.args.parts.now c.in_ok-rows.rows.items c.in_ok-added.added.keys (c.in_ok-rows.ensures ∙ ap (λ (tracks : List Track). rows_of tracks) c.deref.ensures.value) c.in_ok-added.ensures) c.changed_rows.ensures.refused
