-- Look-ups in a table by a number, as a document state's, after something was put in or taken out.
use Rattle.tab_doors.specs.Ties.{AreOnceKeyed}
use Rattle.log_model.proofs.Refl.{nat_eq_refl}
use Rattle.nav_tree.specs.Tree.{is_state}
use Rattle.std.proofs.Common.{Bool, List, None, Option, Some, [], ap, arith, cond, false, refl, subst, sym, true, ℕ, ◌==◌, ◌∙◌, ◌∷◌, ◌≡◌}
use Rattle.std.proofs.lemmas.Bool.Decides.{nat_tests}
use Rattle.indexmap.specs.IndexMap.{insert_entry}
use Rattle.std.specs.Map.{lookup, remove_entry}
use Rattle.tab_ids.specs.declared.StateId.{StateId}

pub state_same : (a b : StateId) → (a.0 == b.0) ≡ true → a ≡ b
state_same a b is = ap (λ (n : ℕ). let state : StateId = record { 0 = n } in state) (grind (arith, nat_tests, is))

pub itself : (state : StateId) → is_state state state ≡ true
itself state = nat_eq_refl state.0

-- keys that have numbers
module _ {K : Type 0} (number : K → ℕ) where
  abbrev same_number : K → K → Bool
  same_number one other = number one == number other

  module _ {V : Type 0} where
    -- what was put in is found
    pub put_itself : (es : List (K × V)) (key : K) (v : V) → lookup (same_number key) (insert_entry same_number es key v) ≡ Some v
    put_itself [] key v = rw (nat_eq_refl (number key)) refl
    put_itself (e ∷ es) key v = by_test (same_number key e.0) refl (put_itself es key v)
      where
        by_test : (b : Bool) → same_number key e.0 ≡ b → lookup (same_number key) (insert_entry same_number es key v) ≡ Some v → lookup (same_number key) (insert_entry same_number (e ∷ es) key v) ≡ Some v
        by_test true is more = rw is (rw is refl)
        by_test false is more = rw is (rw is more)

    -- another is found as before
    pub put_apart : (es : List (K × V)) (key other : K) (v : V) → same_number key other ≡ false → lookup (same_number other) (insert_entry same_number es key v) ≡ lookup (same_number other) es
    put_apart [] key other v apart = let no : same_number other key ≡ false = grind (arith, nat_tests, apart) in rw no refl
    put_apart (e ∷ es) key other v apart = by_test (same_number key e.0) refl (put_apart es key other v apart)
      where
        by_test : (b : Bool) → same_number key e.0 ≡ b → lookup (same_number other) (insert_entry same_number es key v) ≡ lookup (same_number other) es → lookup (same_number other) (insert_entry same_number (e ∷ es) key v) ≡ lookup (same_number other) (e ∷ es)
        by_test true is more = let no : same_number other e.0 ≡ false = grind (arith, nat_tests, is, apart) in rw is (rw no refl)
        by_test false is more = rw is (ap (λ (o : Option V). cond (same_number other e.0) (Some e.1) o) more)

module _ {V : Type 0} where
  pub put_same : (es : List (StateId × V)) (state : StateId) (v : V) → lookup (is_state state) (insert_entry is_state es state v) ≡ Some v
  put_same es state v = put_itself (λ (x : StateId). x.0) es state v

  pub put_other : (es : List (StateId × V)) (state other : StateId) (v : V) → (state.0 == other.0) ≡ false → lookup (is_state other) (insert_entry is_state es state v) ≡ lookup (is_state other) es
  put_other es state other v apart = put_apart (λ (x : StateId). x.0) es state other v apart

  pub put_once : (es : List (StateId × V)) (state : StateId) (v : V) → AreOnceKeyed es → AreOnceKeyed (insert_entry is_state es state v)
  put_once [] state v once = (refl, tt)
  put_once (e ∷ es) state v once = by_test (is_state state e.0) refl (put_once es state v once.1)
    where
      by_test : (b : Bool) → is_state state e.0 ≡ b → AreOnceKeyed (insert_entry is_state es state v) → AreOnceKeyed (insert_entry is_state (e ∷ es) state v)
      by_test true is more = rw is once
      by_test false is more = rw is (put_other es state e.0 v is ∙ once.0, more)

  -- what was taken out isn't found
  pub off_same : (es : List (StateId × V)) (state : StateId) → AreOnceKeyed es → lookup (is_state state) (remove_entry (is_state state) es) ≡ None
  off_same [] state once = refl
  off_same (e ∷ es) state once = by_test (is_state state e.0) refl (off_same es state once.1)
    where
      by_test : (b : Bool) → is_state state e.0 ≡ b → lookup (is_state state) (remove_entry (is_state state) es) ≡ None → lookup (is_state state) (remove_entry (is_state state) (e ∷ es)) ≡ None
      by_test true is more = rw is (subst (λ (s : StateId). lookup (is_state s) es ≡ None) (sym (state_same state e.0 is)) once.0)
      by_test false is more = rw is (rw is more)

  pub off_other : (es : List (StateId × V)) (state other : StateId) → (state.0 == other.0) ≡ false → lookup (is_state other) (remove_entry (is_state state) es) ≡ lookup (is_state other) es
  off_other [] state other apart = refl
  off_other (e ∷ es) state other apart = by_test (is_state state e.0) refl (off_other es state other apart)
    where
      by_test : (b : Bool) → is_state state e.0 ≡ b → lookup (is_state other) (remove_entry (is_state state) es) ≡ lookup (is_state other) es → lookup (is_state other) (remove_entry (is_state state) (e ∷ es)) ≡ lookup (is_state other) (e ∷ es)
      by_test true is more = let no : is_state other e.0 ≡ false = grind (arith, nat_tests, is, apart) in rw is (rw no refl)
      by_test false is more = rw is (ap (λ (o : Option V). cond (is_state other e.0) (Some e.1) o) more)

  off_none : (es : List (StateId × V)) (state other : StateId) → lookup (is_state other) es ≡ None → lookup (is_state other) (remove_entry (is_state state) es) ≡ None
  off_none [] state other none = refl
  off_none (e ∷ es) state other none = by_test (is_state state e.0) refl (is_state other e.0) refl (off_none es state other)
    where
      by_test : (b : Bool) → is_state state e.0 ≡ b → (c : Bool) → is_state other e.0 ≡ c → (lookup (is_state other) es ≡ None → lookup (is_state other) (remove_entry (is_state state) es) ≡ None) → lookup (is_state other) (remove_entry (is_state state) (e ∷ es)) ≡ None
      by_test b is true there more = let never : Some e.1 ≡ None = (rw there at none) in cc
      by_test true is false there more = rw is (let left : lookup (is_state other) es ≡ None = (rw there at none) in left)
      by_test false is false there more = rw is (rw there (more (let left : lookup (is_state other) es ≡ None = (rw there at none) in left)))

  pub off_once : (es : List (StateId × V)) (state : StateId) → AreOnceKeyed es → AreOnceKeyed (remove_entry (is_state state) es)
  off_once [] state once = tt
  off_once (e ∷ es) state once = by_test (is_state state e.0) refl (off_once es state once.1)
    where
      by_test : (b : Bool) → is_state state e.0 ≡ b → AreOnceKeyed (remove_entry (is_state state) es) → AreOnceKeyed (remove_entry (is_state state) (e ∷ es))
      by_test true is more = rw is once.1
      by_test false is more = rw is (off_none es state e.0 once.0, more)
