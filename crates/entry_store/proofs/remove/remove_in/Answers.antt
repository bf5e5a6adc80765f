use Rattle.std.proofs.Common.{ap, ◌∙◌, List}
use Rattle.log_model.specs.History.{used_step_at}
use Rattle.entry_store.specs.declared.nest.Nest.{Nest}
use Rattle.entry_store.specs.Nested.{rows_of}
use Rattle.entry_store.proofs.RemoveLaw.{removed_same, removed_kept}
use Rattle.entry_store.proofs.remove.remove_in.Goals as goal

pub returns-clause-kept : goal.returns-clause-kept
returns-clause-kept c =
    removed_kept c.args.lists.now c.requires.kept c.args.nav c.if-nav-eq0.false c.deref-2.result.now c.deref-2.ensures.value
    c.in_ok-left.left.states.keys c.in_ok-left.ensures.held c.in_ok-left.left.steps.keys c.in_ok-left.ensures.steps
    (rows_of c.sweep.new.nests.items) c.sweep.ensures
    c.used_step_in-lists.result.0 (c.used_step_in-lists.ensures ∙ ap (λ (nests : List Nest). used_step_at (rows_of nests) c.args.lists.now.current.0) c.deref-3.ensures.value)

pub returns-clause-ok : goal.returns-clause-ok
returns-clause-ok c =
    removed_same c.args.lists.now c.requires.kept c.args.nav c.if-nav-eq0.false c.deref-2.result.now c.deref-2.ensures.value
    c.in_ok-left.left.states.keys c.in_ok-left.ensures.held c.in_ok-left.left.steps.keys c.in_ok-left.ensures.steps
    (rows_of c.sweep.new.nests.items) c.sweep.ensures
    c.used_step_in-lists.result.0 (c.used_step_in-lists.ensures ∙ ap (λ (nests : List Nest). used_step_at (rows_of nests) c.args.lists.now.current.0) c.deref-3.ensures.value)
