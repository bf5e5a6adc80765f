-- Who is shown at the current step keeps its target as the forward session history is cleared.
use Rattle.seen_facts.proofs.Hang.Forms.{nav_is}
use Rattle.seen_facts.proofs.Hang.Hung.{IsUp, is_up}
use Rattle.seen_facts.proofs.Hang.Members.{find_has, has_any, into_filter, into_tidied}
use Rattle.seen_facts.proofs.Hang.Parts.{owner_is}
use Rattle.seen_facts.proofs.Hang.Targets.{IsTarget, target_has}
use Rattle.seen_facts.specs.Hang.Forms.{Form}
use Rattle.seen_facts.specs.Hang.Hanging.{HangIn}
use Rattle.seen_facts.specs.Hang.Members.{Has}
use Rattle.log_model.proofs.Refl.{nat_eq_refl}
use Rattle.log_model.specs.History.{History, cleared, has_row, has_state, is_anchored, is_of, owner_of, target_entry}
use Rattle.log_model.specs.Places.{is_shown, is_shown_within, way_up}
use Rattle.log_model.specs.Soundness.{IsSound, is_owned_by}
use Rattle.log_model.specs.Soundness as sounds
use Rattle.log_model.specs.declared.row.Row.{Row}
use Rattle.std.proofs.Common.{Bool, List, None, Option, Some, ap, arith, false, length, refl, suc, sym, true, zero, ℕ, ◌&&◌, ◌==◌, ◌||◌, ◌∙◌, ◌≡◌, ◌≤◌}
use Rattle.std.proofs.lemmas.Bool.Decides.{nat_tests}
use Rattle.std.proofs.lemmas.Bool.{eqb-true}
use Rattle.std.specs.Option.{option_map_or}
use Rattle.std.specs.Prelude.{find, nat_le, option_and_then}
use Rattle.tab_ids.specs.declared.NavId.{NavId}
use Rattle.tab_ids.specs.declared.StateId.{StateId}

module _ (history : History) (forms : List Form) (sound : IsSound history) (hang : HangIn history.rows forms) where
  -- a row that isn't forward, and hangs on what is left or on nothing, is left
  left_ : (row : Row) → Has history.rows row → row.step.0 ≤ history.current → is_anchored (cleared history) row ≡ true → Has (cleared history) row
  left_ row there low anchored =
      let yes : nat_le row.step.0 history.current ≡ true = grind (arith, nat_tests, low) in
      into_tidied _ row (into_filter (λ (r : Row). nat_le r.step.0 history.current) history.rows row there yes) anchored

  -- one of the top hangs on nothing
  free : (row : Row) → Has history.rows row → row.nav.0 ≡ 0 → (o : Option StateId) → row.owner ≡ o → is_anchored (cleared history) row ≡ true
  free row there zero_ None e = ap (λ (o : Option StateId). option_map_or (λ (owner : StateId). has_state owner (cleared history)) o true) e
  free row there zero_ (Some owner) e =
      let owned : is_owned_by owner row ≡ true = ap (λ (o : Option StateId). option_map_or (λ (x : StateId). x.0 == owner.0) o false) e ∙ nat_eq_refl owner.0 in
      let own : is_of row.nav row ≡ true = nat_eq_refl row.nav.0 in
      let hangs : sounds.hangs_on row.nav owner history.rows ≡ true = has_any (λ (r : Row). is_of row.nav r && is_owned_by owner r) history.rows row there (rw (own, owned) refl) in
      absurd (sound.rooted.top_owner row.nav owner hangs zero_)

  -- the owner of a navigable is that of each of its rows
  owned : (nav : NavId) (owner : StateId) (row : Row) → owner_of nav history.rows ≡ Some owner → Has history.rows row → row.nav ≡ nav → row.owner ≡ Some owner
  owned nav owner row at there own = by_first (find (is_of nav) history.rows) refl at
    where
      by_first : (o : Option Row) → find (is_of nav) history.rows ≡ o → option_and_then (λ (r : Row). r.owner) o ≡ Some owner → row.owner ≡ Some owner
      by_first None e h = absurd cc
      by_first (Some first) e h =
          let it = find_has (is_of nav) history.rows first e in
          owner_is history.rows forms sound.rooted hang row first there it.0 (own ∙ sym (nav_is first.nav nav it.1)) ∙ h

  none_shown : (n : ℕ) → is_shown_within n history.rows history.current None ≡ true → ⊥
  none_shown zero h = absurd cc
  none_shown (suc n) h = absurd cc

  -- its target is left, where it is shown in so many ways up
  target_left : (n : ℕ) (nav : NavId) (target : Row) → is_shown_within n history.rows history.current (Some nav) ≡ true → target_entry history.rows nav history.current ≡ Some target → Has (cleared history) target
  target_left zero nav target shown at =
      let its : IsTarget history.rows nav history.current target = target_has history.rows nav history.current target at in
      left_ target its.there its.by (free target its.there (ap (λ (m : NavId). m.0) its.nav_is ∙ eqb-true nav.0 0 shown) target.owner refl)
  target_left (suc n) nav target shown at = by_top (nav.0 == 0) refl shown (target_left n)
    where
      its : IsTarget history.rows nav history.current target
      its = target_has history.rows nav history.current target at

      by_way : (o : Option NavId) → way_up history.rows history.current nav ≡ o → is_shown_within n history.rows history.current o ≡ true → ((parent : NavId) (row : Row) → is_shown_within n history.rows history.current (Some parent) ≡ true → target_entry history.rows parent history.current ≡ Some row → Has (cleared history) row) → Has (cleared history) target
      by_way None e h more = absurd (none_shown n h)
      by_way (Some parent) e h more =
          let up : IsUp history.rows history.current nav parent = is_up history.rows history.current nav parent e in
          let held : has_state up.owner (cleared history) ≡ true = has_any (λ (r : Row). r.state.0 == up.owner.0) (cleared history) up.target (more parent up.target h up.at) (ap (λ (x : StateId). x.0 == up.owner.0) up.its_state ∙ nat_eq_refl up.owner.0) in
          let anchored : is_anchored (cleared history) target ≡ true = ap (λ (o : Option StateId). option_map_or (λ (x : StateId). has_state x (cleared history)) o true) (owned nav up.owner target up.owner_at its.there its.nav_is) ∙ held in
          left_ target its.there its.by anchored

      by_top : (b : Bool) → (nav.0 == 0) ≡ b → (b || is_shown_within n history.rows history.current (way_up history.rows history.current nav)) ≡ true → ((parent : NavId) (row : Row) → is_shown_within n history.rows history.current (Some parent) ≡ true → target_entry history.rows parent history.current ≡ Some row → Has (cleared history) row) → Has (cleared history) target
      by_top true e h more =
          left_ target its.there its.by (free target its.there (ap (λ (m : NavId). m.0) its.nav_is ∙ eqb-true nav.0 0 e) target.owner refl)
      by_top false e h more = by_way (way_up history.rows history.current nav) refl h more

  -- so the navigable has an entry then
  pub shown_left : (nav : NavId) (target : Row) → is_shown history.rows history.current nav ≡ true → target_entry history.rows nav history.current ≡ Some target → has_row nav (cleared history) ≡ true
  shown_left nav target shown at =
      has_any (is_of nav) (cleared history) target (target_left (length history.rows) nav target shown at) (ap (λ (m : NavId). m.0 == nav.0) (target_has history.rows nav history.current target at).nav_is ∙ nat_eq_refl nav.0)
