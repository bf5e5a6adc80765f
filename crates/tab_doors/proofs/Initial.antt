-- The document states of initial about:blank documents, as the table has them.
use Rattle.indexmap.specs.IndexMap.{insert_entry}
use Rattle.nav_tree.specs.Tree.{is_state}
use Rattle.std.proofs.Common.{Bool, List, Option, Some, [], ap, false, refl, subst, sym, true, ◌++◌, ◌==◌, ◌||◌, ◌∙◌, ◌∷◌, ◌≡◌}
use Rattle.std.specs.List.{list_any}
use Rattle.std.specs.Map.{lookup}
use Rattle.std.specs.Prelude.{is_some}
use Rattle.tab_doors.proofs.Keyed.{put_other, put_same, state_same}
use Rattle.tab_doors.specs.Ties.{AreInitial}
use Rattle.tab_ids.specs.declared.StateId.{StateId}

any_append : (test : StateId → Bool) (states : List StateId) (state : StateId) → list_any test (states ++ state ∷ []) ≡ (list_any test states || test state)
any_append test [] state = by_test (test state)
  where
    by_test : (b : Bool) → (b || false) ≡ b
    by_test true = refl
    by_test false = refl
any_append test (s ∷ states) state = by_test (test s) (any_append test states state)
  where
    by_test : (b : Bool) → list_any test (states ++ state ∷ []) ≡ (list_any test states || test state) → (b || list_any test (states ++ state ∷ [])) ≡ ((b || list_any test states) || test state)
    by_test true more = refl
    by_test false more = more

or_true : (b : Bool) → (b || true) ≡ true
or_true true = refl
or_true false = refl

or_false : (b : Bool) → (b || false) ≡ b
or_false true = refl
or_false false = refl

-- one joins, as a frame is added
pub initial_put : (states : List StateId) (table : List (StateId × Unit {0})) (state : StateId) (value : Unit {0}) → AreInitial states table → AreInitial (states ++ state ∷ []) (insert_entry is_state table state value)
initial_put states table state value are other = by_test (state.0 == other.0) refl ∙ sym (any_append (λ (s : StateId). s.0 == other.0) states state)
  where
    by_test : (b : Bool) → (state.0 == other.0) ≡ b → is_some (lookup (is_state other) (insert_entry is_state table state value)) ≡ (list_any (λ (s : StateId). s.0 == other.0) states || (state.0 == other.0))
    by_test true is =
        let found : lookup (is_state other) (insert_entry is_state table state value) ≡ Some value = subst (λ (x : StateId). lookup (is_state x) (insert_entry is_state table state value) ≡ Some value) (state_same state other is) (put_same table state value) in
        ap (λ (o : Option (Unit {0})). is_some o) found ∙ sym (ap (λ (b : Bool). list_any (λ (s : StateId). s.0 == other.0) states || b) is ∙ or_true (list_any (λ (s : StateId). s.0 == other.0) states))
    by_test false apart =
        ap (λ (o : Option (Unit {0})). is_some o) (put_other table state other value apart)
        ∙ are other
        ∙ sym (ap (λ (b : Bool). list_any (λ (s : StateId). s.0 == other.0) states || b) apart ∙ or_false (list_any (λ (s : StateId). s.0 == other.0) states))

-- none as yet
pub initial_none : AreInitial [] []
initial_none state = refl

-- the same states in a table as before
pub initial_same : (states : List StateId) (old new : List (StateId × Unit {0})) → new ≡ old → AreInitial states old → AreInitial states new
initial_same states old new same are = subst (λ (l : List (StateId × Unit {0})). AreInitial states l) (sym same) are
