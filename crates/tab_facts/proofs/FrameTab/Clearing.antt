-- Clearing the forward session history leaves each navigable of a tab of frames an entry: its own at the first step.
use Rattle.std.proofs.Common.{◌≡◌, ◌≤◌, Bool, true, false, ◌&&◌, ◌==◌, List, Option, Some, None, refl, sym, ap, ◌∙◌, arith}
use Rattle.std.specs.Prelude.{filter, nat_le}
use Rattle.std.specs.Option.{option_map_or}
use Rattle.std.proofs.lemmas.Bool.{eqb-true, and_parts, and_from}
use Rattle.std.proofs.lemmas.Bool.Decides.{nat_tests}
use Rattle.tab_ids.specs.declared.NavId.{NavId}
use Rattle.tab_ids.specs.declared.StateId.{StateId}
use Rattle.log_model.specs.declared.row.Row.{Row}
use Rattle.log_model.specs.History.{History, is_of, has_row, has_state, is_anchored, cleared}
use Rattle.log_model.specs.Soundness.{stands_at, is_in_state, is_owned_by, IsSound}
use Rattle.log_model.specs.Soundness as sounds
use Rattle.log_model.proofs.Refl.{nat_eq_refl}
use Rattle.seen_facts.specs.Hang.Forms.{Form}
use Rattle.seen_facts.specs.Hang.Hanging.{BeginsBy, HangIn}
use Rattle.seen_facts.specs.Hang.Members.{Has}
use Rattle.seen_facts.proofs.Hang.Forms.{nav_is}
use Rattle.seen_facts.proofs.Hang.Members.{Passing, into_filter, has_any, any_has, into_tidied}
use Rattle.seen_facts.proofs.Hang.Parts.{owner_is, state_is}
use Rattle.tab_facts.specs.FrameTab.Numbers.{AreOfOneState, EachBegins}
use Rattle.tab_facts.proofs.FrameTab.Stating.{was_cleared}

module _ (history : History) (forms : List Form) (sound : IsSound history) (hang : HangIn history.rows forms) (one : AreOfOneState history.rows) (begins : EachBegins history.rows) where
  abbrev low : Row → Bool
  low row = nat_le row.step.0 history.current

  -- a row at the first step that hangs on nothing, or on what is left, is left
  left_ : (row : Row) → Has history.rows row → row.step.0 ≤ 0 → is_anchored (cleared history) row ≡ true → has_row row.nav (cleared history) ≡ true
  left_ row there first anchored =
      let yes : nat_le row.step.0 history.current ≡ true = grind (arith, nat_tests, first) in
      has_any (is_of row.nav) (cleared history) row (into_tidied (filter (λ (r : Row). nat_le r.step.0 history.current) history.rows) row (into_filter (λ (r : Row). nat_le r.step.0 history.current) history.rows row there yes) anchored) (nat_eq_refl row.nav.0)

  top_left : (nav : NavId) → nav.0 ≡ 0 → has_row nav (cleared history) ≡ true
  top_left nav zero =
      let a : Passing (stands_at nav 0) history.rows = any_has (stands_at nav 0) history.rows (sound.top_row nav zero) in
      let both = and_parts (is_of nav a.it) (a.it.step.0 == 0) a.passes in
      let navs : a.it.nav ≡ nav = nav_is a.it.nav nav both.0 in
      let step : a.it.step.0 ≡ 0 = eqb-true a.it.step.0 0 both.1 in
      ap (λ (n : NavId). has_row n (cleared history)) (sym navs) ∙ left_ a.it a.there (omega (arith, step)) (free a.it a.there both.0 a.it.owner refl)
    where
      free : (row : Row) → Has history.rows row → is_of nav row ≡ true → (o : Option StateId) → row.owner ≡ o → is_anchored (cleared history) row ≡ true
      free row there its None e = ap (λ (o : Option StateId). option_map_or (λ (owner : StateId). has_state owner (cleared history)) o true) e
      free row there its (Some owner) e =
          let owned : is_owned_by owner row ≡ true = ap (λ (o : Option StateId). option_map_or (λ (x : StateId). x.0 == owner.0) o false) e ∙ nat_eq_refl owner.0 in
          let hangs : sounds.hangs_on nav owner history.rows ≡ true = has_any (λ (r : Row). is_of nav r && is_owned_by owner r) history.rows row there (and_from (is_of nav row) (is_owned_by owner row) its owned) in
          absurd (sound.rooted.top_owner nav owner hangs zero)

  child_left : (child parent : NavId) (owner : StateId) → sounds.hangs_on child owner history.rows ≡ true → sounds.holds parent owner history.rows ≡ true → has_row parent (cleared history) ≡ true → has_row child (cleared history) ≡ true
  child_left child parent owner hangs holds stays =
      let a : Passing (λ (r : Row). is_of child r && is_owned_by owner r) history.rows = any_has (λ (r : Row). is_of child r && is_owned_by owner r) history.rows hangs in
      let both = and_parts (is_of child a.it) (is_owned_by owner a.it) a.passes in
      let own : a.it.owner ≡ Some owner = owner_of_it a.it.owner both.1 in
      let b : BeginsBy history.rows a.it.nav 0 = begins a.it a.there in
      let its : b.row.owner ≡ Some owner = owner_is history.rows forms sound.rooted hang b.row a.it b.there a.there b.nav_is ∙ own in
      let h : Passing (λ (r : Row). is_of parent r && is_in_state owner r) history.rows = any_has (λ (r : Row). is_of parent r && is_in_state owner r) history.rows holds in
      let held = and_parts (is_of parent h.it) (is_in_state owner h.it) h.passes in
      let p : Passing (is_of parent) (cleared history) = any_has (is_of parent) (cleared history) stays in
      let same : p.it.state ≡ h.it.state = one p.it h.it (was_cleared history p.it p.there) h.there (nav_is p.it.nav parent p.passes ∙ sym (nav_is h.it.nav parent held.0)) in
      let there : has_state owner (cleared history) ≡ true = has_any (λ (r : Row). r.state.0 == owner.0) (cleared history) p.it p.there (ap (λ (n : StateId). n.0 == owner.0) same ∙ held.1) in
      let anchored : is_anchored (cleared history) b.row ≡ true = ap (λ (o : Option StateId). option_map_or (λ (x : StateId). has_state x (cleared history)) o true) its ∙ there in
      ap (λ (n : NavId). has_row n (cleared history)) (sym (nav_is a.it.nav child both.0) ∙ sym b.nav_is) ∙ left_ b.row b.there b.by anchored
    where
      owner_of_it : (o : Option StateId) → option_map_or (λ (x : StateId). x.0 == owner.0) o false ≡ true → o ≡ Some owner
      owner_of_it None e = absurd cc
      owner_of_it (Some x) e = ap (λ (n : StateId). Some n) (state_is x owner e)

  -- each navigable that has an entry has one then
  pub cleared_keeps : (nav : NavId) → has_row nav history.rows ≡ true → has_row nav (cleared history) ≡ true
  cleared_keeps nav has = sound.rooted.leads nav has (λ (n : NavId). has_row n (cleared history)) top_left child_left
