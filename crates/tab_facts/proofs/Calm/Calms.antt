-- In a calm tab who is in need was never shown a document, and who is awake is rooted.
use Rattle.tab_facts.specs.Calm.Calm.{AreRooted, IsCalm, IsCalmBut, IsCalmYet, IsHere, IsRooted, NeedIsNew}
use Rattle.tab_facts.specs.FrameWhole.Tab.{AreAwakeWithRows}
use Rattle.seen_facts.proofs.Hang.Hung.{has_begun}
use Rattle.seen_facts.proofs.Hang.Members.{has_any}
use Rattle.seen_facts.proofs.Hang.Targets.{some_is, target_has}
use Rattle.seen_facts.specs.Hang.Hanging.{Hangs}
use Rattle.history_laws.proofs.Joining.{entry_same}
use Rattle.log_model.proofs.Refl.{nat_eq_refl}
use Rattle.log_model.specs.Equal.{holds}
use Rattle.log_model.specs.History.{has_row, is_of, same_entry, target_entry}
use Rattle.log_model.specs.Places.{aim_of, is_asleep, is_awake, is_given_target, is_shown}
use Rattle.log_model.specs.Seen.{Document, Place, Seen, Status, asleep, awake, lost, place_of}
use Rattle.log_model.specs.Soundness.{IsSound}
use Rattle.log_model.specs.declared.job.Why.{Why}
use Rattle.log_model.specs.declared.row.Row.{Row}
use Rattle.seen_facts.specs.Place.Standing.{AreStanding}
use Rattle.std.proofs.Common.{Bool, List, None, Option, Some, ap, arith, false, inl, inr, not, refl, suc, sym, true, zero, ℕ, ◌==◌, ◌||◌, ◌∙◌, ◌≡◌, ◌⊎◌}
use Rattle.tab_ids.specs.declared.DocId.{DocId}
use Rattle.tab_ids.specs.declared.EntryId.{EntryId}
use Rattle.tab_ids.specs.declared.NavId.{NavId}
use Rattle.seen_facts.proofs.Walk.Placed.{found_nav}
use Rattle.seen_facts.specs.Walk.Serving.{is_needing}
use Rattle.row_facts.specs.WalkRows.Since.{IsVisitedInNeed, MovesVisited}

-- ---- one place

-- the target that a place was given
pub record IsGivenRow (s : Seen) (step : ℕ) (place : Place) : Type 0 where
  pub row : Row
  pub at : target_entry s.history.rows place.nav step ≡ Some row
  pub given : place.given ≡ Some row.entry

pub given_row : (s : Seen) (step : ℕ) (place : Place) → is_given_target s.history.rows step place ≡ true → IsGivenRow s step place
given_row s step place is = by_target (target_entry s.history.rows place.nav step) refl is
  where
    by_given : (row : Row) → target_entry s.history.rows place.nav step ≡ Some row → (o : Option EntryId) → place.given ≡ o → holds (same_entry row.entry) o ≡ true → IsGivenRow s step place
    by_given row at None given h = absurd cc
    by_given row at (Some entry) given h =
        record { row = row; at = at; given = given ∙ ap (λ (e : EntryId). Some e) (sym (entry_same row.entry entry h)) }

    by_target : (o : Option Row) → target_entry s.history.rows place.nav step ≡ o → holds (λ (row : Row). holds (same_entry row.entry) place.given) o ≡ true → IsGivenRow s step place
    by_target None at h = absurd cc
    by_target (Some row) at h = by_given row at place.given refl h

-- who is awake is so on a document
pub awake_on : (place : Place) → is_awake place ≡ true → (doc : DocId) × (place.status ≡ awake doc)
awake_on place is = by_status place.status refl is
  where
    by_status : (status : Status) → place.status ≡ status → is_awake (record place { status = status }) ≡ true → (doc : DocId) × (place.status ≡ awake doc)
    by_status (awake doc) same sure = (doc, same)
    by_status lost same never = absurd cc
    by_status asleep same never = absurd cc

-- one that is awake on its target, and has no reload that is due, needs nothing
pub needs_not : (rows : _) (step : ℕ) (place : Place) (doc : DocId) → place.status ≡ awake doc → place.is_unmet ≡ false → is_given_target rows step place ≡ true → is_needing rows step place ≡ false
needs_not rows step place doc wakes met given =
    ap (λ (b : Bool). b || place.is_unmet || not (is_given_target rows step place)) (asleep_not place.status wakes)
    ∙ ap (λ (b : Bool). b || not (is_given_target rows step place)) met
    ∙ ap (λ (b : Bool). not b) given
  where
    asleep_not : (status : Status) → status ≡ awake doc → is_asleep (record place { status = status }) ≡ false
    asleep_not (awake d) is = refl
    asleep_not lost is = absurd cc
    asleep_not asleep is = absurd cc

-- who has a target has an entry
pub target_entered : (l : List Row) (nav : NavId) (step : ℕ) (row : Row) → target_entry l nav step ≡ Some row → has_row nav l ≡ true
target_entered l nav step row at =
    let target = target_has l nav step row at in
    has_any (is_of nav) l row target.there (ap (λ (n : NavId). n.0 == nav.0) target.nav_is ∙ nat_eq_refl nav.0)

-- so has who is shown
pub shown_row : (s : Seen) → IsSound s.history → Hangs s → (step : ℕ) (nav : NavId) → is_shown s.history.rows step nav ≡ true → has_row nav s.history.rows ≡ true
shown_row s sound hangs step nav shown =
    let its = some_is (target_entry s.history.rows nav step) (has_begun s sound hangs step nav shown) in
    target_entered s.history.rows nav step its.0 its.1

-- ---- who is in need

module _ (s : Seen) (standing : AreStanding s) (aim : aim_of s ≡ s.history.current) where
  -- was never shown a document, unless it is excepted
  pub need_new : (Except : NavId → Type 0) → IsCalmBut Except s → (nav : NavId) (place : Place) → place_of s nav ≡ Some place → IsVisitedInNeed s place → Except nav ⊎ (place.epoch.0 ≡ 0)
  need_new Except calm nav place placed visited = by_epoch place.epoch.0 refl
    where
      shown : is_shown s.history.rows s.history.current place.nav ≡ true
      shown = ap (λ (step : ℕ). is_shown s.history.rows step place.nav) (sym aim) ∙ visited.shown

      -- it isn't awake on its target
      never : (doc : DocId) → place.status ≡ awake doc → IsHere s place → ⊥
      never doc wakes here =
          let needs : is_needing s.history.rows (aim_of s) place ≡ false = ap (λ (step : ℕ). is_needing s.history.rows step place) aim ∙ needs_not s.history.rows s.history.current place doc wakes (standing nav place placed).met here.target in
          let no_ : true ≡ false = sym visited.needs ∙ needs in
          cc

      by_here : (doc : DocId) → place.status ≡ awake doc → Except nav ⊎ IsHere s place → Except nav ⊎ (place.epoch.0 ≡ 0)
      by_here doc wakes (inl out) = inl out
      by_here doc wakes (inr here) = absurd (never doc wakes here)

      by_wakes : Except nav ⊎ (is_awake place ≡ true) → Except nav ⊎ (place.epoch.0 ≡ 0)
      by_wakes (inl out) = inl out
      by_wakes (inr up) =
          let on = awake_on place up in
          by_here on.0 on.1 (calm.here nav place on.0 placed on.1)

      by_epoch : (n : ℕ) → place.epoch.0 ≡ n → Except nav ⊎ (place.epoch.0 ≡ 0)
      by_epoch zero is = inr is
      by_epoch (suc n) is = by_wakes (calm.wakes nav place placed shown (omega (arith, is)))

  module _ (sound : IsSound s.history) (hangs : Hangs s) where
    -- who is visited has an entry
    visited_row : (nav : NavId) (place : Place) → place_of s nav ≡ Some place → IsVisitedInNeed s place → has_row nav s.history.rows ≡ true
    visited_row nav place placed visited =
        shown_row s sound hangs (aim_of s) nav (ap (λ (n : NavId). is_shown s.history.rows (aim_of s) n) (sym (found_nav s.places nav place placed)) ∙ visited.shown)

    pub calm_need : IsCalmYet s → NeedIsNew s
    calm_need calm nav place placed visited =
        by_case (need_new (λ (n : NavId). has_row n s.history.rows ≡ false) calm nav place placed visited)
      where
        by_case : (has_row nav s.history.rows ≡ false) ⊎ (place.epoch.0 ≡ 0) → place.epoch.0 ≡ 0
        by_case (inl none) =
            let never : true ≡ false = sym (visited_row nav place placed visited) ∙ none in absurd cc
        by_case (inr is) = is

    -- so any reason serves for those who are moved
    pub calm_visited : IsCalmYet s → (why : Why) → MovesVisited s why
    calm_visited calm why nav place placed visited shown =
        let none = calm_need calm nav place placed visited in absurd (omega (arith, none, shown))

-- ---- what a calm tab is besides

-- with no exception it is calm with any
pub calm_but : (s : Seen) → IsCalm s → (Except : NavId → Type 0) → IsCalmBut Except s
calm_but s calm Except =
    record {
      here = λ nav place doc placed wakes. here_more nav place (calm.here nav place doc placed wakes);
      wakes = λ nav place placed shown epoch. wakes_more nav place (calm.wakes nav place placed shown epoch);
    }
  where
    here_more : (nav : NavId) (place : Place) → ⊥ ⊎ IsHere s place → Except nav ⊎ IsHere s place
    here_more nav place (inl never) = absurd never
    here_more nav place (inr here) = inr here

    wakes_more : (nav : NavId) (place : Place) → ⊥ ⊎ (is_awake place ≡ true) → Except nav ⊎ (is_awake place ≡ true)
    wakes_more nav place (inl never) = absurd never
    wakes_more nav place (inr up) = inr up

-- where who is awake has an entry, it is calm for those without one, too
pub calm_rows : (s : Seen) → IsSound s.history → Hangs s → AreAwakeWithRows s → IsCalmYet s → IsCalm s
calm_rows s sound hangs with_rows calm =
    record {
      here = λ nav place doc placed wakes. inr (here_of nav place doc placed wakes (calm.here nav place doc placed wakes));
      wakes = λ nav place placed shown epoch. inr (wakes_of nav place placed shown (calm.wakes nav place placed shown epoch));
    }
  where
    here_of : (nav : NavId) (place : Place) (doc : DocId) → place_of s nav ≡ Some place → place.status ≡ awake doc → (has_row nav s.history.rows ≡ false) ⊎ IsHere s place → IsHere s place
    here_of nav place doc placed wakes (inl none) =
        let never : true ≡ false = sym (with_rows nav place doc placed wakes) ∙ ap (λ (n : NavId). has_row n s.history.rows) (found_nav s.places nav place placed) ∙ none in absurd cc
    here_of nav place doc placed wakes (inr here) = here

    wakes_of : (nav : NavId) (place : Place) → place_of s nav ≡ Some place → is_shown s.history.rows s.history.current place.nav ≡ true → (has_row nav s.history.rows ≡ false) ⊎ (is_awake place ≡ true) → is_awake place ≡ true
    wakes_of nav place placed shown (inl none) =
        let never : true ≡ false = sym (shown_row s sound hangs s.history.current place.nav shown) ∙ ap (λ (n : NavId). has_row n s.history.rows) (found_nav s.places nav place placed) ∙ none in absurd cc
    wakes_of nav place placed shown (inr up) = up

-- who is awake was given its target, so it is rooted
pub here_rooted : (s : Seen) (place : Place) (d : Document) → IsHere s place → IsRooted s place d
here_rooted s place d here =
    let its = given_row s s.history.current place here.target in
    let target = target_has s.history.rows place.nav s.history.current its.row its.at in
    inl (its.row, target.there, target.nav_is, its.given)

pub calm_rooted : (s : Seen) → IsCalm s → AreRooted s
calm_rooted s calm nav place doc d placed wakes found has = by_case (calm.here nav place doc placed wakes)
  where
    by_case : ⊥ ⊎ IsHere s place → IsRooted s place d
    by_case (inl never) = absurd never
    by_case (inr here) = here_rooted s place d here
