-- A navigable was added, with one entry: who was there is shown, stands, is visited and needs something as before, at each step.
use Rattle.seen_facts.proofs.Hang.Forms.{nav_is}
use Rattle.seen_facts.specs.Hang.Hanging.{Hangs}
use Rattle.seen_facts.specs.LoadEnds.Standing.{is_reached}
use Rattle.log_model.proofs.Refl.{nat_eq_refl}
use Rattle.log_model.specs.Equal.{holds}
use Rattle.log_model.specs.History.{has_nav, is_of, later_row, same_entry, target_entry}
use Rattle.log_model.specs.Places.{aim_of, has_arrived, is_asleep, is_awake, is_given_target, is_lost_in, is_placed, is_shown, is_standing, stands, way_of, way_to}
use Rattle.log_model.specs.Seen.{Place, Seen, place_in, place_of}
use Rattle.log_model.specs.Soundness.{IsSound}
use Rattle.log_model.specs.declared.row.Row.{Row}
use Rattle.tab_facts.proofs.ShownWays.Keeps.{way_there}
use Rattle.std.proofs.Common.{Bool, List, None, Option, Some, [], ap, append-nil, cond, false, fold, inl, inr, not, refl, sym, true, ℕ, ◌&&◌, ◌++◌, ◌==◌, ◌||◌, ◌∙◌, ◌∷◌, ◌≡◌, ◌⊎◌}
use Rattle.std.proofs.lemmas.List.Elements.{filter-append}
use Rattle.std.specs.List.{list_all, list_any}
use Rattle.std.specs.Option.{option_map_or}
use Rattle.std.specs.Prelude.{filter, nat_le}
use Rattle.tab_ids.specs.declared.NavId.{NavId}
use Rattle.tab_takes.proofs.Ways.{HangsThere, shown_back, shown_on}
use Rattle.seen_facts.proofs.Walk.Placed.{found_nav}
use Rattle.seen_facts.specs.Walk.Serving.{is_in_place, is_needing, is_stopping}
use Rattle.row_facts.specs.WalkRows.Since.{IsVisitedInNeed}

-- ---- tests alike, of those that are among these

pub all_among : (f g : NavId → Bool) (navs : List NavId) → ((x : NavId) → has_nav navs x ≡ true → f x ≡ g x) → list_all f navs ≡ list_all g navs
all_among f g [] same = refl
all_among f g (x ∷ navs) same =
    let own : has_nav (x ∷ navs) x ≡ true = ap (λ (b : Bool). b || has_nav navs x) (nat_eq_refl x.0) in
    rw (same x own, all_among f g navs (λ y has. same y (later (x.0 == y.0) (has_nav navs y) has))) refl
  where
    later : (a b : Bool) → b ≡ true → (a || b) ≡ true
    later true b h = refl
    later false b h = h

pub any_among : (f g : NavId → Bool) (navs : List NavId) → ((x : NavId) → has_nav navs x ≡ true → f x ≡ g x) → list_any f navs ≡ list_any g navs
any_among f g [] same = refl
any_among f g (x ∷ navs) same =
    let own : has_nav (x ∷ navs) x ≡ true = ap (λ (b : Bool). b || has_nav navs x) (nat_eq_refl x.0) in
    rw (same x own, any_among f g navs (λ y has. same y (later (x.0 == y.0) (has_nav navs y) has))) refl
  where
    later : (a b : Bool) → b ≡ true → (a || b) ≡ true
    later true b h = refl
    later false b h = h

-- ---- one more

front : (places : List Place) (new : Place) (m : NavId) (own : Place) → place_in places m ≡ Some own → place_in (places ++ new ∷ []) m ≡ Some own
front [] new m own at = absurd cc
front (x ∷ places) new m own at = by_test (x.nav.0 == m.0) at (front places new m own)
  where
    by_test : (b : Bool) → (let o : Option Place = cond b (Some x) (place_in places m) in o) ≡ Some own → (place_in places m ≡ Some own → place_in (places ++ new ∷ []) m ≡ Some own) → (let o : Option Place = cond b (Some x) (place_in (places ++ new ∷ []) m) in o) ≡ Some own
    by_test true h more = h
    by_test false h more = more h

last : (places : List Place) (new : Place) (m : NavId) (own : Place) → place_in (places ++ new ∷ []) m ≡ Some own → (place_in places m ≡ Some own) ⊎ ((new ≡ own) × ((new.nav.0 == m.0) ≡ true))
last [] new m own at = by_test (new.nav.0 == m.0) refl at
  where
    by_test : (b : Bool) → (new.nav.0 == m.0) ≡ b → (let o : Option Place = cond b (Some new) None in o) ≡ Some own → (place_in [] m ≡ Some own) ⊎ ((new ≡ own) × ((new.nav.0 == m.0) ≡ true))
    by_test true is h = inr ((let one : new ≡ own = cc in one), is)
    by_test false is h = absurd cc
last (x ∷ places) new m own at = by_test (x.nav.0 == m.0) at (last places new m own)
  where
    by_test : (b : Bool) → (let o : Option Place = cond b (Some x) (place_in (places ++ new ∷ []) m) in o) ≡ Some own → (place_in (places ++ new ∷ []) m ≡ Some own → (place_in places m ≡ Some own) ⊎ ((new ≡ own) × ((new.nav.0 == m.0) ≡ true))) → ((let o : Option Place = cond b (Some x) (place_in places m) in o) ≡ Some own) ⊎ ((new ≡ own) × ((new.nav.0 == m.0) ≡ true))
    by_test true h more = inl h
    by_test false h more = more h

module _ (s n : Seen) (sound : IsSound s.history) (hangs : Hangs s) (then_sound : IsSound n.history) (then_hangs : Hangs n) (nav : NavId) (f : Row) (f_nav : f.nav ≡ nav) (rows_n : n.history.rows ≡ s.history.rows ++ f ∷ []) (unused : place_of s nav ≡ None) (new : Place) (places_n : n.places ≡ s.places ++ new ∷ []) where
  pub old_place : (m : NavId) (own : Place) → place_of s m ≡ Some own → place_of n m ≡ Some own
  old_place m own at = ap (λ (l : List Place). place_in l m) places_n ∙ front s.places new m own at

  pub was_or_new : (m : NavId) (own : Place) → place_of n m ≡ Some own → (place_of s m ≡ Some own) ⊎ ((new ≡ own) × ((new.nav.0 == m.0) ≡ true))
  was_or_new m own at = last s.places new m own (sym (ap (λ (l : List Place). place_in l m) places_n) ∙ at)

  to : (x : NavId) (own : Place) → place_of s x ≡ Some own → HangsThere n x own
  to x own at = record { then_ = own; found = old_place x own at; above = refl; owners = refl }

  -- who has a place is another one
  pub apart : (m : NavId) (own : Place) → place_of s m ≡ Some own → (nav.0 == m.0) ≡ false
  apart m own at = by_test (nav.0 == m.0) refl
    where
      by_test : (b : Bool) → (nav.0 == m.0) ≡ b → (nav.0 == m.0) ≡ false
      by_test false is = is
      by_test true is =
          let never : None ≡ Some own = sym unused ∙ ap (λ (x : NavId). place_of s x) (nav_is nav m is) ∙ at in absurd cc

  pub target_same : (m : NavId) (own : Place) → place_of s m ≡ Some own → (step : ℕ) → target_entry n.history.rows m step ≡ target_entry s.history.rows m step
  target_same m own at step =
      ap (λ (l : List Row). target_entry l m step) rows_n
      ∙ ap (λ (l : List Row). fold later_row None l) (filter-append (λ (row : Row). is_of m row && nat_le row.step.0 step) s.history.rows (f ∷ []) ∙ ap (λ (l : List Row). filter (λ (row : Row). is_of m row && nat_le row.step.0 step) s.history.rows ++ l) none ∙ append-nil (filter (λ (row : Row). is_of m row && nat_le row.step.0 step) s.history.rows))
    where
      other : is_of m f ≡ false
      other = ap (λ (x : NavId). x.0 == m.0) f_nav ∙ apart m own at

      none : filter (λ (row : Row). is_of m row && nat_le row.step.0 step) (f ∷ []) ≡ []
      none = rw other refl

  module _ (m : NavId) (own : Place) (at : place_of s m ≡ Some own) where
    on_way : (x : NavId) → has_nav (m ∷ own.above) x ≡ true → (p : Place) × (place_of s x ≡ Some p)
    on_way x has = by_own (m.0 == x.0) refl has
      where
        by_own : (b : Bool) → (m.0 == x.0) ≡ b → (b || has_nav own.above x) ≡ true → (p : Place) × (place_of s x ≡ Some p)
        by_own true same h = (own, ap (λ (y : NavId). place_of s y) (sym (nav_is m x same)) ∙ at)
        by_own false apart_ h = way_there s sound hangs m own at x h

    pub shown_same : (step : ℕ) → is_shown n.history.rows step m ≡ is_shown s.history.rows step m
    shown_same step = by_both (is_shown s.history.rows step m) (is_shown n.history.rows step m) on back
      where
        on : is_shown s.history.rows step m ≡ true → is_shown n.history.rows step m ≡ true
        on =
            shown_on s n sound hangs then_sound then_hangs step step to m own at (λ x has row found. let p = on_way x has in record { row = row; at = target_same x p.0 p.1 step ∙ found; state_is = refl })

        back : is_shown n.history.rows step m ≡ true → is_shown s.history.rows step m ≡ true
        back =
            shown_back s n sound hangs then_sound then_hangs step step to m own at (λ x has row found. let p = on_way x has in record { row = row; at = sym (target_same x p.0 p.1 step) ∙ found; state_is = refl })

        by_both : (a b : Bool) → (a ≡ true → b ≡ true) → (b ≡ true → a ≡ true) → b ≡ a
        by_both true b f_ g = f_ refl
        by_both false true f_ g = sym (g refl)
        by_both false false f_ g = refl

    pub given_same : (step : ℕ) → is_given_target n.history.rows step own ≡ is_given_target s.history.rows step own
    given_same step =
        let its : own.nav ≡ m = found_nav s.places m own at in
        ap (λ (x : NavId). holds (λ (row : Row). holds (same_entry row.entry) own.given) (target_entry n.history.rows x step)) its
        ∙ ap (λ (o : Option Row). holds (λ (row : Row). holds (same_entry row.entry) own.given) o) (target_same m own at step)
        ∙ ap (λ (x : NavId). holds (λ (row : Row). holds (same_entry row.entry) own.given) (target_entry s.history.rows x step)) (sym its)

    pub placed_same : (step : ℕ) → is_placed n step m ≡ is_placed s step m
    placed_same step =
        ap (λ (b : Bool). b && stands n step m) (shown_same step)
        ∙ ap (λ (b : Bool). is_shown s.history.rows step m && b) (ap (λ (o : Option Place). holds (is_standing n.history.rows step) o) (old_place m own at) ∙ ap (λ (b : Bool). b && not own.is_unmet && has_arrived own) (given_same step) ∙ sym (ap (λ (o : Option Place). holds (is_standing s.history.rows step) o) at))

    pub stopping_same : (step : ℕ) → is_stopping n.history.rows step n.places m ≡ is_stopping s.history.rows step s.places m
    stopping_same step =
        ap not (ap (λ (o : Option Place). holds (is_in_place n.history.rows step) o) (old_place m own at) ∙ ap (λ (b : Bool). is_awake own && b) (given_same step) ∙ sym (ap (λ (o : Option Place). holds (is_in_place s.history.rows step) o) at))

  -- ---- with the same aim

  module _ (aim : aim_of n ≡ aim_of s) (m : NavId) (own : Place) (at : place_of s m ≡ Some own) where
    later_ : (x : NavId) → has_nav own.above x ≡ true → has_nav (m ∷ own.above) x ≡ true
    later_ x has = by_test (m.0 == x.0)
      where
        by_test : (b : Bool) → (b || has_nav own.above x) ≡ true
        by_test true = refl
        by_test false = has

    pub visited_on : IsVisitedInNeed s own → IsVisitedInNeed n own
    visited_on need =
        record {
          shown = ap (λ (x : NavId). is_shown n.history.rows (aim_of n) x) its ∙ ap (λ (step : ℕ). is_shown n.history.rows step m) aim ∙ shown_same m own at (aim_of s) ∙ ap (λ (x : NavId). is_shown s.history.rows (aim_of s) x) (sym its) ∙ need.shown;
          reached = ap (λ (step : ℕ). list_any (is_stopping n.history.rows step n.places) own.above) aim ∙ any_among (is_stopping n.history.rows (aim_of s) n.places) (is_stopping s.history.rows (aim_of s) s.places) own.above (λ x has. let p = on_way m own at x (later_ x has) in stopping_same x p.0 p.1 (aim_of s)) ∙ need.reached;
          needs = ap (λ (step : ℕ). is_needing n.history.rows step own) aim ∙ ap (λ (b : Bool). is_asleep own || own.is_unmet || not b) (given_same m own at (aim_of s)) ∙ need.needs;
        }
      where
        its : own.nav ≡ m
        its = found_nav s.places m own at

    pub reached_on : is_reached n m ≡ is_reached s m
    reached_on =
        ap (λ (b : Bool). b && holds (λ (place : Place). not (list_any (is_lost_in n.places) place.above)) (place_of n m)) (ap (λ (l : List NavId). list_all (is_placed n (aim_of n)) l) way_n ∙ ap (λ (step : ℕ). list_all (is_placed n step) (m ∷ own.above)) aim ∙ all_among (is_placed n (aim_of s)) (is_placed s (aim_of s)) (m ∷ own.above) (λ x has. let p = on_way m own at x has in placed_same x p.0 p.1 (aim_of s)) ∙ ap (λ (l : List NavId). list_all (is_placed s (aim_of s)) l) (sym way_s))
        ∙ ap (λ (b : Bool). list_all (is_placed s (aim_of s)) (way_to s m) && b) (ap (λ (o : Option Place). holds (λ (place : Place). not (list_any (is_lost_in n.places) place.above)) o) (old_place m own at) ∙ ap not (any_among (is_lost_in n.places) (is_lost_in s.places) own.above (λ x has. lost_same x (on_way m own at x (later_ x has)))) ∙ sym (ap (λ (o : Option Place). holds (λ (place : Place). not (list_any (is_lost_in s.places) place.above)) o) at))
      where
        its : own.nav ≡ m
        its = found_nav s.places m own at

        way_n : way_to n m ≡ m ∷ own.above
        way_n = ap (λ (o : Option Place). option_map_or way_of o (m ∷ [])) (old_place m own at) ∙ ap (λ (x : NavId). x ∷ own.above) its

        way_s : way_to s m ≡ m ∷ own.above
        way_s = ap (λ (o : Option Place). option_map_or way_of o (m ∷ [])) at ∙ ap (λ (x : NavId). x ∷ own.above) its

        lost_same : (x : NavId) → (p : Place) × (place_of s x ≡ Some p) → is_lost_in n.places x ≡ is_lost_in s.places x
        lost_same x p = rw (old_place x p.0 p.1) (rw p.1 refl)
