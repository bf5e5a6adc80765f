-- What the test of shown navigables decides: the relation, and the other way round with enough steps up.
use Rattle.std.proofs.Common.{◌≡◌, ℕ, zero, suc, Bool, true, false, ◌||◌, ◌==◌, List, Option, Some, None, refl, sym, ◌∙◌, ap, subst, arith}
use Rattle.std.proofs.lemmas.Bool.Decides.{nat_tests}
use Rattle.std.proofs.lemmas.Bool.{false≢true}
use Rattle.tab_ids.specs.declared.NavId.{NavId}
use Rattle.log_model.specs.declared.row.Row.{Row}
use Rattle.log_model.specs.Places.{top, way_up, is_shown_within, is_shown, IsShown, is_top, is_child}

-- a navigable whose number is the top's is the top
top_of : (nav : NavId) → (nav.0 == 0) ≡ true → nav ≡ top
top_of nav e = ap (λ (n : ℕ). let top : NavId = record { 0 = n } in top) (grind (arith, nat_tests, e))

-- nothing is found where there is no way up
none_within : (n : ℕ) (rows : List Row) (step : ℕ) → is_shown_within n rows step None ≡ false
none_within zero rows step = refl
none_within (suc n) rows step = refl

-- what is found a way up is shown
shown_way_up : (n : ℕ) (rows : List Row) (step : ℕ) (nav : NavId) → ((parent : NavId) → is_shown_within n rows step (Some parent) ≡ true → IsShown rows step parent) → (way : Option NavId) → way_up rows step nav ≡ way → is_shown_within n rows step way ≡ true → IsShown rows step nav
shown_way_up n rows step nav found None e h = absurd (false≢true (sym (none_within n rows step) ∙ h))
shown_way_up n rows step nav found (Some parent) e h = is_child nav parent e (found parent h)

-- what is the top or found a way up is shown
shown_or_up : (b : Bool) (n : ℕ) (rows : List Row) (step : ℕ) (nav : NavId) → ((parent : NavId) → is_shown_within n rows step (Some parent) ≡ true → IsShown rows step parent) → (nav.0 == 0) ≡ b → (b || is_shown_within n rows step (way_up rows step nav)) ≡ true → IsShown rows step nav
shown_or_up true n rows step nav found e h = subst (λ (nav : NavId). IsShown rows step nav) (sym (top_of nav e)) is_top
shown_or_up false n rows step nav found e h = shown_way_up n rows step nav found (way_up rows step nav) refl h

-- what the test finds in so many ways is shown
shown_from_within : (n : ℕ) (rows : List Row) (step : ℕ) (nav : NavId) → is_shown_within n rows step (Some nav) ≡ true → IsShown rows step nav
shown_from_within zero rows step nav h = subst (λ (nav : NavId). IsShown rows step nav) (sym (top_of nav h)) is_top
shown_from_within (suc n) rows step nav h = shown_or_up (nav.0 == 0) n rows step nav (shown_from_within n rows step) refl h

-- what the test finds is shown
pub shown_from_test : (rows : List Row) (step : ℕ) (nav : NavId) → is_shown rows step nav ≡ true → IsShown rows step nav
shown_from_test rows step nav h = shown_from_within _ rows step nav h

-- a test or a true one is true
or_found : (b c : Bool) → c ≡ true → (b || c) ≡ true
or_found true c h = refl
or_found false c h = h

-- what is shown is found by going up often enough
pub within_from_shown : (rows : List Row) (step : ℕ) (nav : NavId) → IsShown rows step nav → (n : ℕ) × (is_shown_within n rows step (Some nav) ≡ true)
within_from_shown rows step _ is_top = (0, refl)
within_from_shown rows step nav (is_child _ parent e shown) =
    let found = within_from_shown rows step parent shown in
    (suc found.0, or_found (nav.0 == 0) (is_shown_within found.0 rows step (way_up rows step nav)) (rw e found.1))
