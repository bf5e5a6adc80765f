-- What the loop over those above a navigable finds.
use Rattle.apply_plan.specs.Order.{parent_in, rest}
use Rattle.std.proofs.Common.{Bool, None, Some, ap, arith, false, refl, suc, true, zero, ℕ, ◌+◌, ◌-◌, ◌<◌, ◌||◌, ◌∙◌, ◌∷◌, ◌≡◌, ◌≤◌}
use Rattle.tab_doors.specs.declared.tables.Tables.{Tables}
use Rattle.tab_drops.specs.Ways.{any_needing_in, is_needing_in}
use Rattle.tab_ids.specs.declared.NavId.{NavId}

-- the walk visits the navigable, or one of so many above it, in need
abbrev pub needs_within : ℕ → Tables → NavId → Bool
needs_within n t nav = any_needing_in t (nav.0 ∷ rest n t.tree nav)

pub needs_here : (n : ℕ) (t : Tables) (nav : NavId) → is_needing_in t nav ≡ true → needs_within n t nav ≡ true
needs_here n t nav is = ap (λ (b : Bool). b || any_needing_in t (rest n t.tree nav)) is

pub needs_past : (n i : ℕ) (t : Tables) (nav parent : NavId) → i < n → is_needing_in t nav ≡ false → parent_in t.tree nav ≡ Some parent → needs_within (n - i) t nav ≡ needs_within (n - (i + 1)) t parent
needs_past n i t nav parent low not_it is =
    let one : n - i ≡ suc (n - (i + 1)) = omega (arith, low) in
    ap (λ (k : ℕ). needs_within k t nav) one ∙ rw not_it (rw is refl)

pub needs_top : (n : ℕ) (t : Tables) (nav : NavId) → is_needing_in t nav ≡ false → parent_in t.tree nav ≡ None → needs_within n t nav ≡ false
needs_top zero t nav not_it is = rw not_it refl
needs_top (suc n) t nav not_it is = rw not_it (rw is refl)

pub needs_end : (n i : ℕ) (t : Tables) (nav : NavId) → n ≤ i → needs_within (n - i) t nav ≡ is_needing_in t nav
needs_end n i t nav past =
    let none : n - i ≡ 0 = omega (arith, past) in
    ap (λ (k : ℕ). needs_within k t nav) none ∙ by_own (is_needing_in t nav)
  where
    by_own : (b : Bool) → (b || false) ≡ b
    by_own true = refl
    by_own false = refl
