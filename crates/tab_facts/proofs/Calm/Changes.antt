-- After a change of one navigable's entries, a push or a replace of a load, a calm tab is calm but for that one and those below it; and no entry hangs on a document state that is new.
use Rattle.tab_facts.proofs.Calm.Sames.{SameSights, Sight, awake_same, WasSeen, was_seen, way_at}
use Rattle.tab_facts.specs.Calm.Calm.{IsCalm, IsCalmBut, IsHere}
use Rattle.tab_facts.proofs.FrameTab.Stating.{puts_owner}
use Rattle.seen_facts.proofs.Hang.Hung.{has_begun}
use Rattle.seen_facts.proofs.Hang.Members.{IsOf, Passing, any_has, find_has, has_any, has_filter, has_map, has_more, has_tidied}
use Rattle.seen_facts.specs.Hang.Hanging.{Hangs}
use Rattle.seen_facts.specs.Hang.Members.{Has}
use Rattle.log_model.proofs.Refl.{nat_eq_refl}
use Rattle.log_model.specs.Equal.{holds}
use Rattle.log_model.specs.History.{History, applied, cleared, has_nav, has_row, is_of, owner_of, replaced_row, same_entry, target_entry}
use Rattle.log_model.specs.Places.{is_awake, is_shown, way_to}
use Rattle.log_model.specs.Seen.{Place, Seen, awake, place_of}
use Rattle.log_model.specs.Soundness.{IsSound, hangs_on, is_owned_by}
use Rattle.log_model.specs.declared.row.Row.{Row}
use Rattle.tab_facts.proofs.ShownWays.Keeps.{shown_then, shown_was}
use Rattle.tab_facts.specs.ShownWays.Ways.{KeepsTargets}
use Rattle.std.proofs.Common.{Bool, List, None, Option, Some, ap, false, filter, inl, inr, map, refl, subst, sym, true, ℕ, ◌&&◌, ◌+◌, ◌==◌, ◌∙◌, ◌∷◌, ◌≡◌, ◌≤◌, ◌⊎◌}
use Rattle.std.proofs.lemmas.Bool.{eqb-true, or_parts}
use Rattle.std.specs.Option.{option_map_or}
use Rattle.std.specs.Prelude.{find, is_some, nat_le, option_and_then}
use Rattle.tab_ids.specs.declared.DocId.{DocId}
use Rattle.tab_ids.specs.declared.EntryId.{EntryId}
use Rattle.tab_ids.specs.declared.Epoch.{Epoch}
use Rattle.tab_ids.specs.declared.NavId.{NavId}
use Rattle.tab_ids.specs.declared.StateId.{StateId}
use Rattle.seen_facts.proofs.Walk.Placed.{found_nav}
use Rattle.log_model.specs.declared.change.Change.TheVariants as changes

-- ---- who isn't below the navigable

module _ (s t : Seen) (sound : IsSound s.history) (hangs : Hangs s) (then_sound : IsSound t.history) (then_hangs : Hangs t) (nav : NavId) (keeps : KeepsTargets s t nav) (left : (x : NavId) (own : Place) → place_of s x ≡ Some own → has_nav own.above nav ≡ false → is_shown s.history.rows s.history.current x ≡ true → has_row x t.history.rows ≡ true) (same : SameSights s t) (calm : IsCalm s) where
  module _ (m : NavId) (p : Place) (placed : place_of t m ≡ Some p) (apart : (m.0 == nav.0) ≡ false) (beside : has_nav p.above nav ≡ false) where
    was : WasSeen s m p
    was = was_seen s t same m p placed

    beside_was : has_nav was.old.above nav ≡ false
    beside_was = ap (λ (x : Sight). has_nav x.above nav) (sym was.sight_is) ∙ beside

    old_nav : was.old.nav ≡ m
    old_nav = found_nav s.places m was.old was.placed

    -- one that is awake is shown at its target still
    here_then : IsHere s was.old → IsHere t p
    here_then here =
        record {
          shown = ap (λ (n : NavId). is_shown t.history.rows t.history.current n) (found_nav t.places m p placed) ∙ shown_then s t sound hangs then_sound then_hangs nav keeps m was.old was.placed beside_was left (ap (λ (o : Option Row). is_some o) target ∙ has_begun s sound hangs s.history.current m shown) shown;
          target = ap (λ (n : NavId). holds (λ (row : Row). holds (same_entry row.entry) p.given) (target_entry t.history.rows n t.history.current)) (found_nav t.places m p placed)
              ∙ ap (λ (o : Option Row). holds (λ (row : Row). holds (same_entry row.entry) p.given) o) (target ∙ ap (λ (n : NavId). target_entry s.history.rows n s.history.current) (sym old_nav))
              ∙ ap (λ (o : Option EntryId). holds (λ (row : Row). holds (same_entry row.entry) o) (target_entry s.history.rows was.old.nav s.history.current)) (ap (λ (x : Sight). x.given) was.sight_is)
              ∙ here.target;
        }
      where
        shown : is_shown s.history.rows s.history.current m ≡ true
        shown = ap (λ (n : NavId). is_shown s.history.rows s.history.current n) (sym old_nav) ∙ here.shown

        target : target_entry t.history.rows m t.history.current ≡ target_entry s.history.rows m s.history.current
        target = keeps.targets m apart (left m was.old was.placed beside_was shown)

    apart_here : (doc : DocId) → p.status ≡ awake doc → IsHere t p
    apart_here doc wakes =
        by_case (calm.here m was.old doc was.placed (ap (λ (x : Sight). x.status) (sym was.sight_is) ∙ wakes))
      where
        by_case : ⊥ ⊎ IsHere s was.old → IsHere t p
        by_case (inl never) = absurd never
        by_case (inr here) = here_then here

    apart_wakes : is_shown t.history.rows t.history.current p.nav ≡ true → 1 ≤ p.epoch.0 → is_awake p ≡ true
    apart_wakes shown epoch =
        by_case (calm.wakes m was.old was.placed (ap (λ (n : NavId). is_shown s.history.rows s.history.current n) old_nav ∙ shown_was s t sound hangs then_sound then_hangs nav keeps m was.old was.placed beside_was apart (ap (λ (n : NavId). is_shown t.history.rows t.history.current n) (sym (found_nav t.places m p placed)) ∙ shown)) (subst (λ (e : Epoch). 1 ≤ e.0) (ap (λ (x : Sight). x.epoch) was.sight_is) epoch))
      where
        by_case : ⊥ ⊎ (is_awake was.old ≡ true) → is_awake p ≡ true
        by_case (inl never) = absurd never
        by_case (inr up) = awake_same p was.old (ap (λ (x : Sight). x.status) was.sight_is) ∙ up

  pub changed_but : IsCalmBut (λ (m : NavId). has_nav (way_to t m) nav ≡ true) t
  changed_but =
      record {
        here = λ m p doc placed wakes. here_by m p doc placed wakes (has_nav (m ∷ p.above) nav) refl;
        wakes = λ m p placed shown epoch. wakes_by m p placed shown epoch (has_nav (m ∷ p.above) nav) refl;
      }
    where
      here_by : (m : NavId) (p : Place) (doc : DocId) → place_of t m ≡ Some p → p.status ≡ awake doc → (b : Bool) → has_nav (m ∷ p.above) nav ≡ b → (has_nav (way_to t m) nav ≡ true) ⊎ IsHere t p
      here_by m p doc placed wakes true is =
          inl (ap (λ (l : List NavId). has_nav l nav) (way_at t m p placed) ∙ is)
      here_by m p doc placed wakes false is =
          let parts = or_parts (m.0 == nav.0) (has_nav p.above nav) is in
          inr (apart_here m p placed parts.0 parts.1 doc wakes)

      wakes_by : (m : NavId) (p : Place) → place_of t m ≡ Some p → is_shown t.history.rows t.history.current p.nav ≡ true → 1 ≤ p.epoch.0 → (b : Bool) → has_nav (m ∷ p.above) nav ≡ b → (has_nav (way_to t m) nav ≡ true) ⊎ (is_awake p ≡ true)
      wakes_by m p placed shown epoch true is =
          inl (ap (λ (l : List NavId). has_nav l nav) (way_at t m p placed) ∙ is)
      wakes_by m p placed shown epoch false is =
          let parts = or_parts (m.0 == nav.0) (has_nav p.above nav) is in
          inr (apart_wakes m p placed parts.0 parts.1 shown epoch)

-- ---- a new document state

module _ (history : History) (sound : IsSound history) (state : StateId) (none : (row : Row) → Has history.rows row → row.state.0 ≡ state.0 → ⊥) where
  -- no entry hangs on it
  unowned : (row : Row) → Has history.rows row → row.owner ≡ Some state → ⊥
  unowned row has owner =
      let owned : is_owned_by state row ≡ true = ap (λ (o : Option StateId). option_map_or (λ (y : StateId). y.0 == state.0) o false) owner ∙ nat_eq_refl state.0 in
      let own : is_of row.nav row ≡ true = nat_eq_refl row.nav.0 in
      let on : hangs_on row.nav state history.rows ≡ true = has_any (λ (r : Row). is_of row.nav r && is_owned_by state r) history.rows row has (rw (own, owned) refl) in
      let a : Passing (λ (r : Row). r.state.0 == state.0) history.rows = any_has (λ (r : Row). r.state.0 == state.0) history.rows (sound.anchored row.nav state on) in
      none a.it a.there (eqb-true a.it.state.0 state.0 a.passes)

  cleared_unowned : (row : Row) → Has (cleared history) row → row.owner ≡ Some state → ⊥
  cleared_unowned row has =
      unowned row (has_filter (λ (r : Row). nat_le r.step.0 history.current) history.rows row (has_tidied (filter (λ (r : Row). nat_le r.step.0 history.current) history.rows) row has).0).0

  module _ (nav : NavId) (entry : EntryId) (address : List ℕ) (memo : Option (List ℕ)) where
    -- after a push, which brings the state in
    pub push_childless : (row : Row) → Has (applied history (changes.Push nav entry state address memo)).rows row → row.owner ≡ Some state → ⊥
    push_childless row has owner = by_case (has_more (cleared history) new row has)
      where
        new : Row
        new = record { owner = owner_of nav (cleared history); nav = nav; entry = entry; step = record { 0 = history.current + 1 }; state = state; address = address; memo = memo }

        by_found : (o : Option Row) → find (is_of nav) (cleared history) ≡ o → option_and_then (λ (r : Row). r.owner) o ≡ Some state → ⊥
        by_found None at is = absurd cc
        by_found (Some r) at is = cleared_unowned r (find_has (is_of nav) (cleared history) r at).0 is

        by_case : Has (cleared history) row ⊎ (new ≡ row) → ⊥
        by_case (inl old) = cleared_unowned row old owner
        by_case (inr is) =
            by_found (find (is_of nav) (cleared history)) refl (ap (λ (r : Row). r.owner) is ∙ owner)

    -- after a replace, which does
    pub replace_childless : (over : EntryId) (row : Row) → Has (applied history (changes.Replace nav over entry state address memo)).rows row → row.owner ≡ Some state → ⊥
    replace_childless over row has owner =
        unowned its.it its.there (sym (puts_owner over put its.it) ∙ ap (λ (r : Row). r.owner) its.is ∙ owner)
      where
        put : Row
        put = record { owner = None; nav = nav; entry = entry; step = record { 0 = 0 }; state = state; address = address; memo = memo }

        its : IsOf (replaced_row over put) history.rows row
        its =
            has_map (replaced_row over put) history.rows row (has_tidied (map (replaced_row over put) history.rows) row has).0
