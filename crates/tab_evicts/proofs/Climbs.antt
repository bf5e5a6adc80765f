-- What the loop over those above a navigable finds.
use Rattle.apply_plan.specs.Order.{parent_in, rest}
use Rattle.nav_tree.specs.Tree.{Tree}
use Rattle.std.proofs.Common.{Bool, None, Some, ap, arith, false, refl, suc, true, zero, ℕ, ◌+◌, ◌-◌, ◌<◌, ◌||◌, ◌∙◌, ◌∷◌, ◌≡◌, ◌≤◌}
use Rattle.tab_evicts.specs.Evicting.{any_owned_by, is_owned_by}
use Rattle.tab_ids.specs.declared.NavId.{NavId}
use Rattle.tab_ids.specs.declared.StateId.{StateId}

-- the navigable, or one of so many above it, hangs on the document state
abbrev pub within : ℕ → Tree → StateId → NavId → Bool
within n tree state nav = any_owned_by tree state (nav.0 ∷ rest n tree nav)

pub owned_here : (n : ℕ) (tree : Tree) (state : StateId) (nav : NavId) → is_owned_by tree state nav ≡ true → within n tree state nav ≡ true
owned_here n tree state nav is = rw is refl

pub owned_past : (n i : ℕ) (tree : Tree) (state : StateId) (nav parent : NavId) → i < n → is_owned_by tree state nav ≡ false → parent_in tree nav ≡ Some parent → within (n - i) tree state nav ≡ within (n - (i + 1)) tree state parent
owned_past n i tree state nav parent low not_own is =
    let one : n - i ≡ suc (n - (i + 1)) = omega (arith, low) in
    ap (λ (k : ℕ). within k tree state nav) one ∙ rw not_own (rw is refl)

pub owned_top : (n : ℕ) (tree : Tree) (state : StateId) (nav : NavId) → is_owned_by tree state nav ≡ false → parent_in tree nav ≡ None → within n tree state nav ≡ false
owned_top zero tree state nav not_own is = rw not_own refl
owned_top (suc n) tree state nav not_own is = rw not_own (rw is refl)

pub owned_end : (n i : ℕ) (tree : Tree) (state : StateId) (nav : NavId) → n ≤ i → within (n - i) tree state nav ≡ is_owned_by tree state nav
owned_end n i tree state nav past =
    let none : n - i ≡ 0 = omega (arith, past) in
    ap (λ (k : ℕ). within k tree state nav) none ∙ by_own (is_owned_by tree state nav)
  where
    by_own : (b : Bool) → (b || false) ≡ b
    by_own true = refl
    by_own false = refl
