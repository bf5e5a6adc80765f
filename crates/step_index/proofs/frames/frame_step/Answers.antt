use Rattle.std.proofs.Common.{◌∙◌, sym, ap, refl, not, ◌||◌, Option}
use Rattle.std.specs.Prelude.{is_some, ◌==◌}
use Rattle.std.proofs.lemmas.Bool.{eq-eqb}
use Rattle.tab_ids.specs.declared.Step.{Step}
use Rattle.log_model.specs.History.{has_nav}
use Rattle.history_laws.proofs.Members.{or_right}
use Rattle.step_index.specs.Tracks.{rows_of}
use Rattle.step_index.proofs.Starting.{has_state-started, first_started}
use Rattle.step_index.proofs.frames.frame_step.Goals as goal

pub returns-then-nav-eq0-clause-refused : goal.returns-then-nav-eq0-clause-refused
returns-then-nav-eq0-clause-refused c = λ entry state.
    let parts = c.args.parts.now in
    let has = has_state-started parts.starts.entries (rows_of parts.tracks.items) c.requires.index.started c.args.owner ∙ ap (λ (s : Option Step). is_some s) (sym c.start_of.ensures ∙ c.in-Some.is) in
    (refl, ap not has, ap (λ b. b || has_nav parts.added.keys c.args.nav) (eq-eqb c.args.nav.0 0 c.if-nav-eq0.true))

pub returns-then-was_added_in-clause-refused : goal.returns-then-was_added_in-clause-refused
returns-then-was_added_in-clause-refused c = λ entry state.
    let parts = c.args.parts.now in
    let has = has_state-started parts.starts.entries (rows_of parts.tracks.items) c.requires.index.started c.args.owner ∙ ap (λ (s : Option Step). is_some s) (sym c.start_of.ensures ∙ c.in-Some.is) in
    (refl, ap not has, or_right (c.args.nav.0 == 0) (has_nav parts.added.keys c.args.nav) (sym c.was_added_in.ensures ∙ c.if-was_added_in.true))

pub returns-in-None-clause-refused : goal.returns-in-None-clause-refused
returns-in-None-clause-refused c = λ entry state.
    let parts = c.args.parts.now in
    (refl, ap not (has_state-started parts.starts.entries (rows_of parts.tracks.items) c.requires.index.started c.args.owner ∙ ap (λ (s : Option Step). is_some s) (sym c.start_of.ensures ∙ c.in-None.is)))

pub returns-else-was_added_in-clause-first : goal.returns-else-was_added_in-clause-first
returns-else-was_added_in-clause-first c =
    let parts = c.args.parts.now in
    first_started parts.starts.entries (rows_of parts.tracks.items) c.requires.index.started c.args.owner c.in-Some.step (sym c.start_of.ensures ∙ c.in-Some.is)
