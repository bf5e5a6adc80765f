-- A change that leaves a navigable an entry: it is shown, stands, is visited and needs something as before, where each that has an entry then is left its target, or given one of the same document state.
use Rattle.seen_facts.proofs.Hang.Forms.{nav_is}
use Rattle.seen_facts.proofs.Hang.Hung.{is_hung, place_chain}
use Rattle.seen_facts.proofs.Hang.Members.{any_has, find_has, has_any}
use Rattle.seen_facts.specs.Hang.AsPlaces.{IsChain, IsHung}
use Rattle.seen_facts.specs.Hang.Hanging.{Hangs}
use Rattle.seen_facts.specs.LoadEnds.Standing.{is_reached}
use Rattle.log_model.proofs.Refl.{nat_eq_refl}
use Rattle.log_model.specs.Equal.{holds}
use Rattle.log_model.specs.History.{has_nav, has_row, is_of, target_entry}
use Rattle.log_model.specs.Places.{aim_of, has_arrived, holder_of, is_asleep, is_awake, is_given_target, is_lost_in, is_placed, is_shown, is_standing, stands, way_of, way_to}
use Rattle.log_model.specs.Seen.{Place, Seen, Status, lost, place_of}
use Rattle.log_model.specs.Soundness.{IsSound}
use Rattle.log_model.specs.declared.row.Row.{Row}
use Rattle.tab_facts.proofs.ShownWays.Keeps.{way_there}
use Rattle.std.proofs.Common.{Bool, List, None, Option, Some, [], ap, false, not, refl, sym, true, ℕ, ◌&&◌, ◌==◌, ◌||◌, ◌∙◌, ◌∷◌, ◌≡◌}
use Rattle.std.specs.List.{list_all, list_any}
use Rattle.std.specs.Option.{option_map_or}
use Rattle.std.specs.Prelude.{find, option_map}
use Rattle.tab_ids.specs.declared.NavId.{NavId}
use Rattle.tab_ids.specs.declared.StateId.{StateId}
use Rattle.tab_takes.proofs.Adds.{all_among, any_among}
use Rattle.tab_takes.proofs.Ways.{HangsThere, IsTargetOf, shown_back, shown_on}
use Rattle.seen_facts.proofs.Walk.Placed.{found_nav}
use Rattle.seen_facts.specs.Walk.Serving.{is_in_place, is_needing, is_stopping}
use Rattle.row_facts.specs.WalkRows.Since.{IsVisitedInNeed}

-- it is known lost
abbrev knows_lost : Place → Bool
knows_lost place = knows place.status
  where
    knows : Status → Bool
    knows lost = true
    knows _ = false

-- a place but for which entries it was given, and who took its last
abbrev pub but_given : Place → Place
but_given place = record place { given = None; ever_given = []; taken_by = None }

-- who has an entry, has those above it have one, too
module _ (n : Seen) (sound : IsSound n.history) (hangs : Hangs n) where
  parent_row : (m : NavId) (place : Place) (parent : NavId) (others : List NavId) → place_of n m ≡ Some place → place.above ≡ parent ∷ others → has_row m n.history.rows ≡ true → has_row parent n.history.rows ≡ true
  parent_row m place parent others found up has =
      let a = any_has (is_of m) n.history.rows has in
      let h : IsHung n.history.rows place parent = is_hung n sound hangs m place found a.it a.there (nav_is a.it.nav m a.passes ∙ sym (found_nav n.places m place found)) parent others up in
      by_holder h.owner (find (λ (row : Row). row.state.0 == h.owner.0) n.history.rows) refl h.holder_is
    where
      by_holder : (owner : StateId) (o : Option Row) → find (λ (row : Row). row.state.0 == owner.0) n.history.rows ≡ o → holder_of owner n.history.rows ≡ Some parent → has_row parent n.history.rows ≡ true
      by_holder owner None is h =
          let never : None ≡ Some parent = sym (ap (λ (x : Option Row). option_map (λ (row : Row). row.nav) x) is) ∙ h in absurd cc
      by_holder owner (Some row) is h =
          let two : Some row.nav ≡ Some parent = sym (ap (λ (x : Option Row). option_map (λ (r : Row). r.nav) x) is) ∙ h in
          let navs : row.nav ≡ parent = cc in
          has_any (is_of parent) n.history.rows row (find_has (λ (r : Row). r.state.0 == owner.0) n.history.rows row is).0 (ap (λ (x : NavId). x.0 == parent.0) navs ∙ nat_eq_refl parent.0)

  chain_rows : (above : List NavId) (m : NavId) (place : Place) → place_of n m ≡ Some place → place.above ≡ above → IsChain n.places above → has_row m n.history.rows ≡ true → (x : NavId) → has_nav (m ∷ above) x ≡ true → has_row x n.history.rows ≡ true
  chain_rows [] m place found up chain has x in_ = by_own (m.0 == x.0) refl in_
    where
      by_own : (b : Bool) → (m.0 == x.0) ≡ b → (b || false) ≡ true → has_row x n.history.rows ≡ true
      by_own true same h = ap (λ (y : NavId). has_row y n.history.rows) (sym (nav_is m x same)) ∙ has
      by_own false apart h = absurd cc
  chain_rows (parent ∷ others) m place found up chain has x in_ =
      by_own (m.0 == x.0) refl in_ (chain_rows others parent chain.0.place chain.0.found chain.0.above_is chain.1 (parent_row m place parent others found up has) x)
    where
      by_own : (b : Bool) → (m.0 == x.0) ≡ b → (b || has_nav (parent ∷ others) x) ≡ true → (has_nav (parent ∷ others) x ≡ true → has_row x n.history.rows ≡ true) → has_row x n.history.rows ≡ true
      by_own true same h more = ap (λ (y : NavId). has_row y n.history.rows) (sym (nav_is m x same)) ∙ has
      by_own false apart h more = more h

  pub up_rows : (m : NavId) (place : Place) → place_of n m ≡ Some place → has_row m n.history.rows ≡ true → (x : NavId) → has_nav (m ∷ place.above) x ≡ true → has_row x n.history.rows ≡ true
  up_rows m place found has =
      chain_rows place.above m place found refl (place_chain n sound hangs m place found) has

-- ---- a change

module _ (s n : Seen) (sound : IsSound s.history) (hangs : Hangs s) (then_sound : IsSound n.history) (then_hangs : Hangs n) (become : Place → Place) (place_n : (m : NavId) → place_of n m ≡ option_map become (place_of s m)) (alike : (x : Place) → but_given (become x) ≡ but_given x) (before after : ℕ) (on : (x : NavId) (row : Row) → has_row x n.history.rows ≡ true → target_entry s.history.rows x before ≡ Some row → IsTargetOf n.history.rows x after row.state) (back : (x : NavId) (row : Row) → target_entry n.history.rows x after ≡ Some row → IsTargetOf s.history.rows x before row.state) (given : (x : NavId) (place : Place) → place_of s x ≡ Some place → has_row x n.history.rows ≡ true → is_given_target n.history.rows after (become place) ≡ is_given_target s.history.rows before place) where
  pub now_at : (m : NavId) (place : Place) → place_of s m ≡ Some place → place_of n m ≡ Some (become place)
  now_at m place at = place_n m ∙ ap (option_map become) at

  to : (x : NavId) (own : Place) → place_of s x ≡ Some own → HangsThere n x own
  to x own at =
      record {
        then_ = become own;
        found = now_at x own at;
        above = ap (λ (y : Place). y.above) (alike own);
        owners = ap (λ (y : Place). y.owners) (alike own);
      }

  module _ (m : NavId) (place : Place) (at : place_of s m ≡ Some place) (has : has_row m n.history.rows ≡ true) where
    pub way_rows : (x : NavId) → has_nav (m ∷ place.above) x ≡ true → has_row x n.history.rows ≡ true
    way_rows x in_ =
        up_rows n then_sound then_hangs m (become place) (now_at m place at) has x (ap (λ (l : List NavId). has_nav (m ∷ l) x) (ap (λ (y : Place). y.above) (alike place)) ∙ in_)

    on_way : (x : NavId) → has_nav (m ∷ place.above) x ≡ true → (own : Place) × (place_of s x ≡ Some own)
    on_way x in_ = by_own (m.0 == x.0) refl in_
      where
        by_own : (b : Bool) → (m.0 == x.0) ≡ b → (b || has_nav place.above x) ≡ true → (own : Place) × (place_of s x ≡ Some own)
        by_own true same h = (place, ap (λ (y : NavId). place_of s y) (sym (nav_is m x same)) ∙ at)
        by_own false apart h = way_there s sound hangs m place at x h

    pub shown_same : is_shown n.history.rows after m ≡ is_shown s.history.rows before m
    shown_same = by_both (is_shown s.history.rows before m) (is_shown n.history.rows after m) goes comes
      where
        goes : is_shown s.history.rows before m ≡ true → is_shown n.history.rows after m ≡ true
        goes = shown_on s n sound hangs then_sound then_hangs before after to m place at (λ x in_ row found. on x row (way_rows x in_) found)

        comes : is_shown n.history.rows after m ≡ true → is_shown s.history.rows before m ≡ true
        comes = shown_back s n sound hangs then_sound then_hangs before after to m place at (λ x in_ row found. back x row found)

        by_both : (a b : Bool) → (a ≡ true → b ≡ true) → (b ≡ true → a ≡ true) → b ≡ a
        by_both true b f_ g = f_ refl
        by_both false true f_ g = sym (g refl)
        by_both false false f_ g = refl

    placed_same : is_placed n after m ≡ is_placed s before m
    placed_same =
        ap (λ (b : Bool). b && stands n after m) shown_same
        ∙ ap (λ (b : Bool). is_shown s.history.rows before m && b) (ap (λ (o : Option Place). holds (is_standing n.history.rows after) o) (now_at m place at) ∙ standing ∙ sym (ap (λ (o : Option Place). holds (is_standing s.history.rows before) o) at))
      where
        standing : is_standing n.history.rows after (become place) ≡ is_standing s.history.rows before place
        standing =
            ap (λ (b : Bool). b && not (become place).is_unmet && has_arrived (become place)) (given m place at has)
            ∙ ap (λ (b : Bool). is_given_target s.history.rows before place && not b && has_arrived (become place)) (ap (λ (y : Place). y.is_unmet) (alike place))
            ∙ ap (λ (b : Bool). is_given_target s.history.rows before place && not place.is_unmet && b) (ap (λ (y : Place). has_arrived y) (alike place))

    stopping_same : is_stopping n.history.rows after n.places m ≡ is_stopping s.history.rows before s.places m
    stopping_same =
        ap not (ap (λ (o : Option Place). holds (is_in_place n.history.rows after) o) (now_at m place at) ∙ ap (λ (b : Bool). is_awake (become place) && b) (given m place at has) ∙ ap (λ (b : Bool). b && is_given_target s.history.rows before place) (ap (λ (y : Place). is_awake y) (alike place)) ∙ sym (ap (λ (o : Option Place). holds (is_in_place s.history.rows before) o) at))

  lost_same : (x : NavId) → (own : Place) × (place_of s x ≡ Some own) → is_lost_in n.places x ≡ is_lost_in s.places x
  lost_same x own =
      rw (now_at x own.0 own.1) (rw own.1 (ap (λ (z : Status). knows_lost (record own.0 { status = z })) (ap (λ (y : Place). y.status) (alike own.0))))

  -- ---- where these are the aims

  module _ (aim_n : aim_of n ≡ after) (aim_s : aim_of s ≡ before) (m : NavId) (place : Place) (at : place_of s m ≡ Some place) (has : has_row m n.history.rows ≡ true) where
    later_ : (x : NavId) → has_nav place.above x ≡ true → has_nav (m ∷ place.above) x ≡ true
    later_ x in_ = by_test (m.0 == x.0)
      where
        by_test : (b : Bool) → (b || has_nav place.above x) ≡ true
        by_test true = refl
        by_test false = in_

    its : place.nav ≡ m
    its = found_nav s.places m place at

    above_is : (become place).above ≡ place.above
    above_is = ap (λ (y : Place). y.above) (alike place)

    pub visited_on : IsVisitedInNeed s place → IsVisitedInNeed n (become place)
    visited_on need =
        record {
          shown = ap (λ (x : NavId). is_shown n.history.rows (aim_of n) x) (ap (λ (y : Place). y.nav) (alike place) ∙ its) ∙ ap (λ (step : ℕ). is_shown n.history.rows step m) aim_n ∙ shown_same m place at has ∙ ap (λ (x : NavId). is_shown s.history.rows before x) (sym its) ∙ ap (λ (step : ℕ). is_shown s.history.rows step place.nav) (sym aim_s) ∙ need.shown;
          reached = ap (λ (l : List NavId). list_any (is_stopping n.history.rows (aim_of n) n.places) l) above_is ∙ ap (λ (step : ℕ). list_any (is_stopping n.history.rows step n.places) place.above) aim_n ∙ any_among (is_stopping n.history.rows after n.places) (is_stopping s.history.rows before s.places) place.above (λ x in_. let own = on_way m place at has x (later_ x in_) in stopping_same x own.0 own.1 (way_rows m place at has x (later_ x in_))) ∙ ap (λ (step : ℕ). list_any (is_stopping s.history.rows step s.places) place.above) (sym aim_s) ∙ need.reached;
          needs = ap (λ (step : ℕ). is_needing n.history.rows step (become place)) aim_n ∙ ap (λ (b : Bool). is_asleep (become place) || (become place).is_unmet || not b) (given m place at has) ∙ ap (λ (b : Bool). b || (become place).is_unmet || not (is_given_target s.history.rows before place)) (ap (λ (y : Place). is_asleep y) (alike place)) ∙ ap (λ (b : Bool). is_asleep place || b || not (is_given_target s.history.rows before place)) (ap (λ (y : Place). y.is_unmet) (alike place)) ∙ ap (λ (step : ℕ). is_needing s.history.rows step place) (sym aim_s) ∙ need.needs;
        }

    pub reached_same : is_reached n m ≡ is_reached s m
    reached_same =
        ap (λ (b : Bool). b && holds (λ (x : Place). not (list_any (is_lost_in n.places) x.above)) (place_of n m)) (ap (λ (l : List NavId). list_all (is_placed n (aim_of n)) l) way_n ∙ ap (λ (step : ℕ). list_all (is_placed n step) (m ∷ place.above)) aim_n ∙ all_among (is_placed n after) (is_placed s before) (m ∷ place.above) (λ x in_. let own = on_way m place at has x in_ in placed_same x own.0 own.1 (way_rows m place at has x in_)) ∙ ap (λ (step : ℕ). list_all (is_placed s step) (m ∷ place.above)) (sym aim_s) ∙ ap (λ (l : List NavId). list_all (is_placed s (aim_of s)) l) (sym way_s))
        ∙ ap (λ (b : Bool). list_all (is_placed s (aim_of s)) (way_to s m) && b) (ap (λ (o : Option Place). holds (λ (x : Place). not (list_any (is_lost_in n.places) x.above)) o) (now_at m place at) ∙ ap (λ (l : List NavId). not (list_any (is_lost_in n.places) l)) above_is ∙ ap not (any_among (is_lost_in n.places) (is_lost_in s.places) place.above (λ x in_. lost_same x (on_way m place at has x (later_ x in_)))) ∙ sym (ap (λ (o : Option Place). holds (λ (x : Place). not (list_any (is_lost_in s.places) x.above)) o) at))
      where
        way_n : way_to n m ≡ m ∷ place.above
        way_n =
            ap (λ (o : Option Place). option_map_or way_of o (m ∷ [])) (now_at m place at) ∙ ap (λ (y : Place). way_of y) (alike place) ∙ ap (λ (x : NavId). x ∷ place.above) its

        way_s : way_to s m ≡ m ∷ place.above
        way_s = ap (λ (o : Option Place). option_map_or way_of o (m ∷ [])) at ∙ ap (λ (x : NavId). x ∷ place.above) its
