-- An entry took the place of the one that its navigable was given, of the same document state: who is shown, stands, is visited and needs something is as it was, at each step.
use Rattle.seen_facts.proofs.Hang.Forms.{nav_is}
use Rattle.seen_facts.proofs.Hang.Targets.{IsTarget, target_has}
use Rattle.seen_facts.specs.Hang.Members.{Has}
use Rattle.history_laws.proofs.Joining.{entry_same}
use Rattle.seen_facts.specs.LoadEnds.Standing.{is_reached}
use Rattle.log_model.proofs.Refl.{same_entry_refl}
use Rattle.log_model.specs.AfterPlaces.{given_entry, on_place, with_taker}
use Rattle.log_model.specs.Equal.{holds}
use Rattle.log_model.specs.History.{has_row, has_state, is_of, same_entry, target_entry, used_step_at}
use Rattle.log_model.specs.Places.{aim_of, has_arrived, is_asleep, is_awake, is_given_target, is_lost_in, is_placed, is_shown, is_standing, stands, way_of, way_to}
use Rattle.log_model.specs.Seen.{Place, Seen, Status, lost, place_of}
use Rattle.log_model.specs.declared.row.Row.{Row}
use Rattle.std.proofs.Common.{Bool, List, None, Option, Some, [], ap, cond, false, fold, map, max, not, refl, sym, true, ℕ, ◌&&◌, ◌==◌, ◌||◌, ◌∙◌, ◌∷◌, ◌≡◌}
use Rattle.std.specs.List.{list_all, list_any}
use Rattle.std.specs.Option.{option_map_or}
use Rattle.std.specs.Prelude.{filter, nat_le, option_map}
use Rattle.tab_ids.specs.declared.EntryId.{EntryId}
use Rattle.tab_ids.specs.declared.NavId.{NavId}
use Rattle.tab_ids.specs.declared.ReqId.{ReqId}
use Rattle.tab_ids.specs.declared.StateId.{StateId}
use Rattle.tab_takes.proofs.Given.{WasAt, become, given_at, place_then, read_at, was_at}
use Rattle.tab_takes.proofs.Mapped.{has_row_map, has_state_map, shown_map, target_map}
use Rattle.tab_takes.proofs.Swapped.{nav_same, owner_same, state_same, step_same, swap}
use Rattle.seen_facts.proofs.Walk.Placed.{found_nav}
use Rattle.seen_facts.specs.Walk.Serving.{is_in_place, is_needing, is_stopping}
use Rattle.row_facts.specs.WalkRows.Since.{IsVisitedInNeed}

-- it is known lost
abbrev knows_lost : Place → Bool
knows_lost place = knows place.status
  where
    knows : Status → Bool
    knows lost = true
    knows _ = false

-- ---- tests alike

all_alike : {A : Type 0} (f g : A → Bool) (xs : List A) → ((x : A) → f x ≡ g x) → list_all f xs ≡ list_all g xs
all_alike f g [] same = refl
all_alike f g (x ∷ xs) same = rw (same x, all_alike f g xs same) refl

any_alike : {A : Type 0} (f g : A → Bool) (xs : List A) → ((x : A) → f x ≡ g x) → list_any f xs ≡ list_any g xs
any_alike f g [] same = refl
any_alike f g (x ∷ xs) same = rw (same x, any_alike f g xs same) refl

module _ (s n : Seen) (req : ReqId) (nav : NavId) (over entry : EntryId) (address : List ℕ) (memo : Option (List ℕ)) (rows_then : n.history.rows ≡ map (swap nav over entry address memo) s.history.rows) (current_then : n.history.current ≡ s.history.current) (places : n.places ≡ with_taker s.history n.history req (on_place nav (given_entry entry) s.places)) (own : Place) (owned : place_of s nav ≡ Some own) (gave : own.given ≡ Some over) (fresh : (row : Row) → Has s.history.rows row → row.entry ≡ entry → ⊥) where
  abbrev g : Row → Row
  g row = swap nav over entry address memo row

  pub shown_same : (step : ℕ) (m : NavId) → is_shown n.history.rows step m ≡ is_shown s.history.rows step m
  shown_same step m =
      ap (λ (l : List Row). is_shown l step m) rows_then
      ∙ shown_map (swap nav over entry address memo) (nav_same nav over entry address memo) (owner_same nav over entry address memo) (step_same nav over entry address memo) (state_same nav over entry address memo) step m s.history.rows

  pub row_same : (m : NavId) → has_row m n.history.rows ≡ has_row m s.history.rows
  row_same m =
      ap (λ (l : List Row). has_row m l) rows_then
      ∙ has_row_map (swap nav over entry address memo) (nav_same nav over entry address memo) (owner_same nav over entry address memo) (step_same nav over entry address memo) (state_same nav over entry address memo) m s.history.rows

  pub has_state_same : (state : StateId) → has_state state n.history.rows ≡ has_state state s.history.rows
  has_state_same state =
      ap (λ (l : List Row). has_state state l) rows_then
      ∙ has_state_map (swap nav over entry address memo) (nav_same nav over entry address memo) (owner_same nav over entry address memo) (step_same nav over entry address memo) (state_same nav over entry address memo) state s.history.rows

  pub used_same : (step : ℕ) → used_step_at n.history.rows step ≡ used_step_at s.history.rows step
  used_same step =
      ap (λ (l : List Row). used_step_at l step) rows_then ∙ ap (λ (l : List ℕ). fold max 0 (filter (λ (used : ℕ). nat_le used step) l)) (steps_same s.history.rows)
    where
      steps_same : (l : List Row) → map (λ (row : Row). row.step.0) (map (swap nav over entry address memo) l) ≡ map (λ (row : Row). row.step.0) l
      steps_same [] = refl
      steps_same (row ∷ l) =
          ap (λ (k : ℕ). k ∷ map (λ (x : Row). x.step.0) (map (swap nav over entry address memo) l)) (ap (λ x. x.0) (step_same nav over entry address memo row)) ∙ ap (λ (ks : List ℕ). row.step.0 ∷ ks) (steps_same l)

  target_then : (step : ℕ) (m : NavId) → target_entry n.history.rows m step ≡ option_map (swap nav over entry address memo) (target_entry s.history.rows m step)
  target_then step m =
      ap (λ (l : List Row). target_entry l m step) rows_then
      ∙ target_map (swap nav over entry address memo) (nav_same nav over entry address memo) (owner_same nav over entry address memo) (step_same nav over entry address memo) (state_same nav over entry address memo) m step s.history.rows

  -- ---- a place then, and before

  abbrev pub Was : NavId → Place → Type 0
  Was m place = WasAt s n n.history req nav entry places m place

  pub was_place : (m : NavId) (place : Place) → place_of n m ≡ Some place → Was m place
  was_place = was_at s n n.history req nav entry places

  pub place_now : (m : NavId) (old : Place) → place_of s m ≡ Some old → place_of n m ≡ Some (become s n n.history req nav entry places old)
  place_now m old there = place_then s n n.history req nav entry places m ∙ ap (option_map (become s n n.history req nav entry places)) there

  abbrev pub was_now : (m : NavId) (old : Place) → place_of s m ≡ Some old → Was m (become s n n.history req nav entry places old)
  was_now m old there = record { old = old; there = there; is = refl }

  module _ (m : NavId) (place : Place) (was : Was m place) where
    pub reads : {B : Type 0} (read : Place → B) → ((x : Place) → read (record x { taken_by = Some req }) ≡ read x) → ((x : Place) → read (given_entry entry x) ≡ read x) → read was.old ≡ read place
    reads {B} read blind given = read_at s n n.history req nav entry places read blind given m place was

    old_nav : was.old.nav ≡ m
    old_nav = found_nav s.places m was.old was.there

    nav_now : place.nav ≡ m
    nav_now = sym (reads (λ (x : Place). x.nav) (λ x. refl) (λ x. refl)) ∙ old_nav

    pub given_now : place.given ≡ cond (m.0 == nav.0) (Some entry) was.old.given
    given_now =
        given_at s n n.history req nav entry places m place was
        ∙ ap (λ (x : NavId). (let o : Option EntryId = cond (x.0 == nav.0) (Some entry) was.old.given in o)) old_nav

    -- whether it was given its target
    same_by : (b : Bool) → (m.0 == nav.0) ≡ b → (step : ℕ) (o : Option Row) → target_entry s.history.rows m step ≡ o → holds (λ (row : Row). holds (same_entry row.entry) (let x : Option EntryId = cond b (Some entry) was.old.given in x)) (option_map (swap nav over entry address memo) o) ≡ holds (λ (row : Row). holds (same_entry row.entry) was.old.given) o
    same_by b is step None found = refl
    same_by false apart step (Some row) found =
        let its : IsTarget s.history.rows m step row = target_has s.history.rows m step row found in
        let off : is_of nav row ≡ false = ap (λ (x : NavId). x.0 == nav.0) its.nav_is ∙ apart in
        ap (λ (r : Row). holds (same_entry r.entry) was.old.given) (unswapped row off)
      where
        unswapped : (row_ : Row) → is_of nav row_ ≡ false → swap nav over entry address memo row_ ≡ row_
        unswapped row_ off = by_tests (same_entry row_.entry over) (is_of nav row_) off
          where
            by_tests : (a c : Bool) → c ≡ false → (let x : Row = (let its : Row = record row_ { entry = entry; address = address; memo = memo } in cond (a && c) its row_) in x) ≡ row_
            by_tests true true h = absurd cc
            by_tests true false h = refl
            by_tests false c h = refl
    same_by true is step (Some row) found =
        by_over (same_entry row.entry over) refl
      where
        its : IsTarget s.history.rows m step row
        its = target_has s.history.rows m step row found

        mine : is_of nav row ≡ true
        mine = ap (λ (x : NavId). x.0 == nav.0) its.nav_is ∙ is

        old_own : was.old ≡ own
        old_own =
            let two : Some was.old ≡ Some own = sym was.there ∙ ap (λ (x : NavId). place_of s x) (nav_is m nav is) ∙ owned in cc

        old_gave : was.old.given ≡ Some over
        old_gave = ap (λ (x : Place). x.given) old_own ∙ gave

        before : holds (same_entry row.entry) was.old.given ≡ same_entry row.entry over
        before = ap (λ (o : Option EntryId). holds (same_entry row.entry) o) old_gave

        not_new : (b : Bool) → same_entry row.entry entry ≡ b → b ≡ false
        not_new false e = refl
        not_new true e = absurd (fresh row its.there (entry_same row.entry entry e))

        by_over : (b : Bool) → same_entry row.entry over ≡ b → same_entry (swap nav over entry address memo row).entry entry ≡ holds (same_entry row.entry) was.old.given
        by_over true e =
            ap (λ (c : Bool). same_entry (let x : Row = (let y : Row = record row { entry = entry; address = address; memo = memo } in cond c y row) in x).entry entry) (let both : (same_entry row.entry over && is_of nav row) ≡ true = rw (e, mine) refl in both)
            ∙ same_entry_refl entry
            ∙ sym (before ∙ e)
        by_over false e =
            ap (λ (c : Bool). same_entry (let x : Row = (let y : Row = record row { entry = entry; address = address; memo = memo } in cond c y row) in x).entry entry) (let both : (same_entry row.entry over && is_of nav row) ≡ false = rw e refl in both)
            ∙ not_new (same_entry row.entry entry) refl
            ∙ sym (before ∙ e)

    pub target_same : (step : ℕ) → is_given_target n.history.rows step place ≡ is_given_target s.history.rows step was.old
    target_same step =
        ap (λ (x : NavId). holds (λ (row : Row). holds (same_entry row.entry) place.given) (target_entry n.history.rows x step)) nav_now
        ∙ ap (λ (o : Option EntryId). holds (λ (row : Row). holds (same_entry row.entry) o) (target_entry n.history.rows m step)) given_now
        ∙ ap (λ (o : Option Row). holds (λ (row : Row). holds (same_entry row.entry) (let x : Option EntryId = cond (m.0 == nav.0) (Some entry) was.old.given in x)) o) (target_then step m)
        ∙ same_by (m.0 == nav.0) refl step (target_entry s.history.rows m step) refl
        ∙ ap (λ (x : NavId). holds (λ (row : Row). holds (same_entry row.entry) was.old.given) (target_entry s.history.rows x step)) (sym old_nav)

    pub standing_same : (step : ℕ) → is_standing n.history.rows step place ≡ is_standing s.history.rows step was.old
    standing_same step =
        let met : was.old.is_unmet ≡ place.is_unmet = reads (λ (x : Place). x.is_unmet) (λ x. refl) (λ x. refl) in
        let arrived : has_arrived was.old ≡ has_arrived place = reads has_arrived (λ x. refl) (λ x. refl) in
        ap (λ (b : Bool). b && not place.is_unmet && has_arrived place) (target_same step)
        ∙ ap (λ (b : Bool). is_given_target s.history.rows step was.old && not b && has_arrived place) (sym met)
        ∙ ap (λ (b : Bool). is_given_target s.history.rows step was.old && not was.old.is_unmet && b) (sym arrived)

    pub in_place_same : (step : ℕ) → is_in_place n.history.rows step place ≡ is_in_place s.history.rows step was.old
    in_place_same step =
        ap (λ (b : Bool). is_awake place && b) (target_same step) ∙ ap (λ (b : Bool). b && is_given_target s.history.rows step was.old) (sym (reads is_awake (λ x. refl) (λ x. refl)))

    pub needing_same : (step : ℕ) → is_needing n.history.rows step place ≡ is_needing s.history.rows step was.old
    needing_same step =
        ap (λ (b : Bool). is_asleep place || place.is_unmet || not b) (target_same step)
        ∙ ap (λ (b : Bool). b || place.is_unmet || not (is_given_target s.history.rows step was.old)) (sym (reads is_asleep (λ x. refl) (λ x. refl)))
        ∙ ap (λ (b : Bool). is_asleep was.old || b || not (is_given_target s.history.rows step was.old)) (sym (reads (λ (x : Place). x.is_unmet) (λ x. refl) (λ x. refl)))

  -- ---- what is read of the places

  pub stands_same : (step : ℕ) (m : NavId) → stands n step m ≡ stands s step m
  stands_same step m =
      ap (λ (o : Option Place). holds (is_standing n.history.rows step) o) (place_then s n n.history req nav entry places m) ∙ by_old (place_of s m) refl
    where
      by_old : (o : Option Place) → place_of s m ≡ o → holds (is_standing n.history.rows step) (option_map (become s n n.history req nav entry places) o) ≡ holds (is_standing s.history.rows step) o
      by_old None there = refl
      by_old (Some old) there = standing_same m (become s n n.history req nav entry places old) (was_now m old there) step

  pub placed_same : (step : ℕ) (m : NavId) → is_placed n step m ≡ is_placed s step m
  placed_same step m =
      ap (λ (b : Bool). b && stands n step m) (shown_same step m) ∙ ap (λ (b : Bool). is_shown s.history.rows step m && b) (stands_same step m)

  pub stopping_same : (step : ℕ) (m : NavId) → is_stopping n.history.rows step n.places m ≡ is_stopping s.history.rows step s.places m
  stopping_same step m =
      ap not (ap (λ (o : Option Place). holds (is_in_place n.history.rows step) o) (place_then s n n.history req nav entry places m) ∙ by_old (place_of s m) refl)
    where
      by_old : (o : Option Place) → place_of s m ≡ o → holds (is_in_place n.history.rows step) (option_map (become s n n.history req nav entry places) o) ≡ holds (is_in_place s.history.rows step) o
      by_old None there = refl
      by_old (Some old) there = in_place_same m (become s n n.history req nav entry places old) (was_now m old there) step

  lost_same : (m : NavId) → is_lost_in n.places m ≡ is_lost_in s.places m
  lost_same m = by_old (place_of s m) refl (place_then s n n.history req nav entry places m)
    where
      by_status : (a b : Place) → a.status ≡ b.status → (o : Option Place) → o ≡ Some a → (r : Option Place) → r ≡ Some b → holds knows_lost o ≡ holds knows_lost r
      by_status a b same o one r two = rw one (rw two (ap (λ (x : Status). knows_lost (record a { status = x })) same ∙ refl))

      by_old : (o : Option Place) → place_of s m ≡ o → place_of n m ≡ option_map (become s n n.history req nav entry places) o → is_lost_in n.places m ≡ is_lost_in s.places m
      by_old None there then_ = rw then_ (rw there refl)
      by_old (Some old) there then_ = by_status (become s n n.history req nav entry places old) old (sym (reads m (become s n n.history req nav entry places old) (was_now m old there) (λ (x : Place). x.status) (λ x. refl) (λ x. refl))) (place_of n m) then_ (place_of s m) there

  -- ---- the walk visits it

  module _ (aim : aim_of n ≡ aim_of s) where
    pub visited_back : (m : NavId) (place : Place) (was : Was m place) → IsVisitedInNeed n place → IsVisitedInNeed s was.old
    visited_back m place was need =
        record {
          shown = sym (shown_same (aim_of s) was.old.nav) ∙ ap (λ (step : ℕ). is_shown n.history.rows step was.old.nav) (sym aim) ∙ ap (λ (x : NavId). is_shown n.history.rows (aim_of n) x) (reads m place was (λ (x : Place). x.nav) (λ x. refl) (λ x. refl)) ∙ need.shown;
          reached = any_alike (is_stopping s.history.rows (aim_of s) s.places) (is_stopping n.history.rows (aim_of s) n.places) was.old.above (λ x. sym (stopping_same (aim_of s) x)) ∙ ap (λ (step : ℕ). list_any (is_stopping n.history.rows step n.places) was.old.above) (sym aim) ∙ ap (λ (l : List NavId). list_any (is_stopping n.history.rows (aim_of n) n.places) l) (reads m place was (λ (x : Place). x.above) (λ x. refl) (λ x. refl)) ∙ need.reached;
          needs = sym (needing_same m place was (aim_of s)) ∙ ap (λ (step : ℕ). is_needing n.history.rows step place) (sym aim) ∙ need.needs;
        }

    pub visited_on : (m : NavId) (place : Place) (was : Was m place) → IsVisitedInNeed s was.old → IsVisitedInNeed n place
    visited_on m place was need =
        record {
          shown = ap (λ (x : NavId). is_shown n.history.rows (aim_of n) x) (sym (reads m place was (λ (x : Place). x.nav) (λ x. refl) (λ x. refl))) ∙ ap (λ (step : ℕ). is_shown n.history.rows step was.old.nav) aim ∙ shown_same (aim_of s) was.old.nav ∙ need.shown;
          reached = ap (λ (l : List NavId). list_any (is_stopping n.history.rows (aim_of n) n.places) l) (sym (reads m place was (λ (x : Place). x.above) (λ x. refl) (λ x. refl))) ∙ ap (λ (step : ℕ). list_any (is_stopping n.history.rows step n.places) was.old.above) aim ∙ any_alike (is_stopping n.history.rows (aim_of s) n.places) (is_stopping s.history.rows (aim_of s) s.places) was.old.above (λ x. stopping_same (aim_of s) x) ∙ need.reached;
          needs = ap (λ (step : ℕ). is_needing n.history.rows step place) aim ∙ needing_same m place was (aim_of s) ∙ need.needs;
        }

    pub way_same : (m : NavId) → way_to n m ≡ way_to s m
    way_same m =
        ap (λ (o : Option Place). option_map_or way_of o (m ∷ [])) (place_then s n n.history req nav entry places m) ∙ by_old (place_of s m) refl
      where
        by_old : (o : Option Place) → place_of s m ≡ o → option_map_or way_of (option_map (become s n n.history req nav entry places) o) (m ∷ []) ≡ option_map_or way_of o (m ∷ [])
        by_old None there = refl
        by_old (Some old) there = sym (reads m (become s n n.history req nav entry places old) (was_now m old there) way_of (λ x. refl) (λ x. refl))

    pub reached_same : (m : NavId) → is_reached n m ≡ is_reached s m
    reached_same m =
        ap (λ (b : Bool). b && holds (λ (place : Place). not (list_any (is_lost_in n.places) place.above)) (place_of n m)) (ap (λ (l : List NavId). list_all (is_placed n (aim_of n)) l) (way_same m) ∙ ap (λ (step : ℕ). list_all (is_placed n step) (way_to s m)) aim ∙ all_alike (is_placed n (aim_of s)) (is_placed s (aim_of s)) (way_to s m) (placed_same (aim_of s)))
        ∙ ap (λ (b : Bool). list_all (is_placed s (aim_of s)) (way_to s m) && b) (ap (λ (o : Option Place). holds (λ (place : Place). not (list_any (is_lost_in n.places) place.above)) o) (place_then s n n.history req nav entry places m) ∙ by_old (place_of s m) refl)
      where
        by_old : (o : Option Place) → place_of s m ≡ o → holds (λ (place : Place). not (list_any (is_lost_in n.places) place.above)) (option_map (become s n n.history req nav entry places) o) ≡ holds (λ (place : Place). not (list_any (is_lost_in s.places) place.above)) o
        by_old None there = refl
        by_old (Some old) there =
            ap (λ (l : List NavId). not (list_any (is_lost_in n.places) l)) (sym (reads m (become s n n.history req nav entry places old) (was_now m old there) (λ (x : Place). x.above) (λ x. refl) (λ x. refl)))
            ∙ ap not (any_alike (is_lost_in n.places) (is_lost_in s.places) old.above lost_same)
