use Rattle.std.proofs.Common.{ap, sym, ◌∙◌, ◌||◌, not, refl, List}
use Rattle.std.proofs.lemmas.Bool.{eq-eqb}
use Rattle.log_model.specs.History.{has_state, has_nav}
use Rattle.history_laws.proofs.Members.{or_right}
use Rattle.entry_store.specs.declared.nest.Nest.{Nest}
use Rattle.entry_store.specs.Nested.{rows_of}
use Rattle.entry_store.proofs.AddLaw.{first_step-some, first_step-none}
use Rattle.entry_store.proofs.add.frame_plan.Goals as goal

pub returns-in-None-clause-refused : goal.returns-in-None-clause-refused
returns-in-None-clause-refused c =
    (refl, ap not (ap (λ (nests : List Nest). has_state c.args.owner (rows_of nests)) (sym c.deref.ensures.value) ∙ first_step-none c.args.owner (rows_of c.deref.result.now) (sym c.in-None.ensures)))

pub returns-then-nav-eq0-clause-refused : goal.returns-then-nav-eq0-clause-refused
returns-then-nav-eq0-clause-refused c = (
  refl,
  ap not (ap (λ (nests : List Nest). has_state c.args.owner (rows_of nests)) (sym c.deref.ensures.value) ∙ first_step-some c.args.owner (rows_of c.deref.result.now) c.in-Some.step (sym c.in-Some.ensures)),
  ap (λ b. b || has_nav c.args.lists.now.added.keys c.args.nav) (eq-eqb c.args.nav.0 0 c.if-nav-eq0.true),
)

pub returns-then-was_added_in-clause-refused : goal.returns-then-was_added_in-clause-refused
returns-then-was_added_in-clause-refused c = (
  refl,
  ap not (ap (λ (nests : List Nest). has_state c.args.owner (rows_of nests)) (sym c.deref.ensures.value) ∙ first_step-some c.args.owner (rows_of c.deref.result.now) c.in-Some.step (sym c.in-Some.ensures)),
  or_right (lib.Dec.eqb c.args.nav.0 0) (has_nav c.args.lists.now.added.keys c.args.nav) (sym c.if-was_added_in.ensures),
)
