-- Those above a navigable that is shown are shown, at each step.
use Rattle.std.proofs.Common.{◌≡◌, ◌≢◌, ℕ, zero, suc, Bool, true, false, ◌||◌, List, ◌∷◌, length, refl, sym, ap, ◌∙◌, subst, Option, Some, None, ◌==◌}
use Rattle.std.proofs.lemmas.Bool.{eqb-true}
use Rattle.tab_ids.specs.declared.NavId.{NavId}
use Rattle.tab_ids.specs.declared.StateId.{StateId}
use Rattle.log_model.specs.declared.row.Row.{Row}
use Rattle.log_model.specs.Places.{holder_of, way_up, is_shown_within, is_shown}
use Rattle.log_model.specs.Seen.{Seen, Place, place_of}
use Rattle.log_model.specs.Soundness.{IsSound}
use Rattle.seen_facts.specs.Hang.AsPlaces.{IsHung, HangsAs}
use Rattle.seen_facts.specs.Hang.Hanging.{Hangs}
use Rattle.seen_facts.proofs.Hang.Hung.{IsUp, is_up, has_begun, hangs_as}

none_shown : (n : ℕ) (rows : List Row) (step : ℕ) → is_shown_within n rows step None ≡ false
none_shown zero rows step = refl
none_shown (suc n) rows step = refl

-- one way more does no harm
pub one_more : (n : ℕ) (rows : List Row) (step : ℕ) (o : Option NavId) → is_shown_within n rows step o ≡ true → is_shown_within (suc n) rows step o ≡ true
one_more n rows step None e = let no_ : false ≡ true = sym (none_shown n rows step) ∙ e in cc
one_more zero rows step (Some nav) e = ap (λ (b : Bool). b || is_shown_within zero rows step (way_up rows step nav)) e
one_more (suc n) rows step (Some nav) e = by_test (nav.0 == 0) (one_more n rows step (way_up rows step nav)) e
  where
    by_test : (b : Bool) → (is_shown_within n rows step (way_up rows step nav) ≡ true → is_shown_within (suc n) rows step (way_up rows step nav) ≡ true) → (b || is_shown_within n rows step (way_up rows step nav)) ≡ true → (b || is_shown_within (suc n) rows step (way_up rows step nav)) ≡ true
    by_test true more e = refl
    by_test false more e = more e

-- a shown navigable that isn't the top has a shown one to which it leads up
pub record IsShownBelow (rows : List Row) (step : ℕ) (nav : NavId) : Type 0 where
  pub parent : NavId
  pub leads : way_up rows step nav ≡ Some parent
  pub shown : is_shown rows step parent ≡ true

shown_below : (n : ℕ) (rows : List Row) (step : ℕ) (nav : NavId) → n ≡ length rows → (nav.0 == 0) ≡ false → is_shown_within n rows step (Some nav) ≡ true → IsShownBelow rows step nav
shown_below zero rows step nav long child shown = let no_ : false ≡ true = sym child ∙ shown in cc
shown_below (suc n) rows step nav long child shown = by_way (way_up rows step nav) refl (ap (λ (b : Bool). b || is_shown_within n rows step (way_up rows step nav)) (sym child) ∙ shown)
  where
    by_way : (o : Option NavId) → way_up rows step nav ≡ o → is_shown_within n rows step o ≡ true → IsShownBelow rows step nav
    by_way None e h = let no_ : false ≡ true = sym (none_shown n rows step) ∙ h in cc
    by_way (Some parent) e h =
        record { parent = parent; leads = e; shown = subst (λ (k : ℕ). is_shown_within k rows step (Some parent) ≡ true) long (one_more n rows step (Some parent) h) }

module _ (s : Seen) (sound : IsSound s.history) (hangs : Hangs s) where
  pub shown_up : (step : ℕ) (nav : NavId) (place : Place) (parent : NavId) (above : List NavId) → place_of s nav ≡ Some place → place.above ≡ parent ∷ above → is_shown s.history.rows step place.nav ≡ true → is_shown s.history.rows step parent ≡ true
  shown_up step nav place parent above found is shown =
      let hung_as : HangsAs s.history.rows place = hangs_as s sound hangs nav place found in
      let b : IsShownBelow s.history.rows step place.nav = shown_below (length s.history.rows) s.history.rows step place.nav refl (child (place.nav.0 == 0) refl (hung_as.child parent above is)) shown in
      let up : IsUp s.history.rows step place.nav b.parent = is_up s.history.rows step place.nav b.parent b.leads in
      let hung : IsHung s.history.rows place parent = hung_as.hung step parent above (has_begun s sound hangs step place.nav shown) is in
      let owners : Some up.owner ≡ Some hung.owner = sym up.owner_at ∙ hung.owner_is in
      let same : up.owner ≡ hung.owner = cc in
      let parents : Some b.parent ≡ Some parent = sym up.holder_at ∙ ap (λ (o : StateId). holder_of o s.history.rows) same ∙ hung.holder_is in
      let one : b.parent ≡ parent = cc in
      subst (λ (n : NavId). is_shown s.history.rows step n ≡ true) one b.shown
    where
      child : (b : Bool) → (place.nav.0 == 0) ≡ b → place.nav.0 ≢ 0 → (place.nav.0 == 0) ≡ false
      child false e not_top = e
      child true e not_top = absurd (not_top (eqb-true place.nav.0 0 e))
