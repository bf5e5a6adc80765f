-- One row in the place of another of its navigable and step, where nothing hangs on the old one's document state.
use Rattle.std.proofs.Common.{◌≡◌, ℕ, suc, zero, add-one, ◌+◌, ◌<◌, ◌≤◌, Bool, true, false, not, ◌&&◌, ◌||◌, List, [], ◌∷◌, ◌++◌, length, refl, ap, sym, ◌∙◌, filter, take, drop, set, get_or, arith, subst, append_assoc, inl, inr, Option, Some, None}
use Rattle.std.specs.Prelude.{nat_le, slice_get, slice_set, ◌==◌}
use Rattle.std.specs.List.{list_any, count_by}
use Rattle.std.specs.Option.{option_map_or}
use Rattle.std.proofs.lemmas.Bool.{false≢true, eq-eqb, eqb-true, ne_eqb, leb-false, and_from, and_parts, or_cases}
use Rattle.std.proofs.lemmas.List.{set_split}
use Rattle.std.proofs.lemmas.Option.{none-some, get_or_from_slice_get}
use Rattle.tab_ids.specs.declared.NavId.{NavId}
use Rattle.tab_ids.specs.declared.StateId.{StateId}
use Rattle.tab_ids.specs.declared.EntryId.{EntryId}
use Rattle.tab_ids.specs.declared.Step.{Step}
use Rattle.log_model.specs.declared.row.Row.{Row}
use Rattle.log_model.specs.declared.change.Change.TheVariants.{Replace}
use Rattle.log_model.specs.History.{History, same_entry, is_of, has_state, is_anchored, tidied, used_steps, with_step, applied}
use Rattle.log_model.specs.Order.{ordered, SameHistory}
use Rattle.log_model.specs.Soundness.{is_entry, is_in_state, is_owned_by, holds, IsSound}
use Rattle.history_laws.proofs.Members.{IsIn, IsIn-head, IsIn-tail, or_right, none_passes, some_same, list_any-weaker, witness}
use Rattle.history_laws.proofs.Tidying.{state_same, tidied_times-same}
use Rattle.history_laws.proofs.UsedSteps.{used_steps-insert}
use Rattle.history_laws.proofs.Replace.{IsSound-replaced, replaced-split}
use Rattle.entry_store.specs.Store.{MayTake}
use Rattle.entry_store.specs.Kept.{IsKept}
use Rattle.entry_store.proofs.ReplaceLaw.{replacing_row}
use Rattle.step_index.specs.declared.track.Track.{Track}
use Rattle.step_index.specs.Ascending.{IsAscending}
use Rattle.step_index.specs.Tracks.{step_of, rows_of, IsTrack, AreTracks, IsTrackAt}
use Rattle.step_index.specs.declared.parts.Parts.{Parts}
use Rattle.step_index.specs.Parts.{history_in, IsIndex}
use Rattle.step_index.specs.Spots.{IsPlace, IsSpotOf, PutsOver, track_rows, keeps_frames}
use Rattle.step_index.specs.declared.noted.Place.{Place}
use Rattle.step_index.specs.Noted.{AreNoted, NotesOver}
use Rattle.step_index.specs.Starts.{start_of, is_by, is_start, AreStarted, StartsOver}
use Rattle.step_index.proofs.Searching.{not_in}
use Rattle.step_index.proofs.Tracking.{was_not, any_insert, split_at, tracks_swap, rows_split, rows_at, track_is}
use Rattle.step_index.proofs.Noting.{over_noted}
use Rattle.step_index.proofs.Starting.{started_by, over_started}

-- ---- one row of a track

split_row : (rows : List Row) (i : ℕ) (row : Row) → slice_get rows i ≡ Some row → rows ≡ take i rows ++ row ∷ drop (suc i) rows
split_row [] i row here = absurd (none-some row here)
split_row (first ∷ rows) zero row here = ap (λ (r : Row). r ∷ rows) (some_same first row here)
split_row (first ∷ rows) (suc i) row here = ap (λ rest. first ∷ rest) (split_row rows i row here)

ascending_swap : (front : List Row) (old new : Row) (back : List Row) → new.step.0 ≡ old.step.0 → IsAscending step_of (front ++ old ∷ back) → IsAscending step_of (front ++ new ∷ back)
ascending_swap [] old new back same sorted = (ap (λ n. list_any (λ (other : Row). nat_le other.step.0 n) back) same ∙ sorted.0, sorted.1)
ascending_swap (row ∷ front) old new back same sorted = (
  any_insert (λ (other : Row). nat_le other.step.0 row.step.0) front back new
      ∙ ap (λ n. nat_le n row.step.0 || list_any (λ (other : Row). nat_le other.step.0 row.step.0) (front ++ back)) same
      ∙ sym (any_insert (λ (other : Row). nat_le other.step.0 row.step.0) front back old)
      ∙ sorted.0,
  ascending_swap front old new back same sorted.1,
)

track_swap : (nav : NavId) (front : List Row) (old new : Row) (back : List Row) → new.nav.0 ≡ old.nav.0 → new.step.0 ≡ old.step.0 → IsTrack nav (front ++ old ∷ back) → IsTrack nav (front ++ new ∷ back)
track_swap nav front old new back navs steps is = (
  any_insert (λ (row : Row). not (is_of nav row)) front back new
      ∙ ap (λ n. not (n == nav.0) || list_any (λ (row : Row). not (is_of nav row)) (front ++ back)) navs
      ∙ sym (any_insert (λ (row : Row). not (is_of nav row)) front back old)
      ∙ is.0,
  ascending_swap front old new back steps is.1,
)

module _ (tracks : List Track) (place at : ℕ) (row was : Row) (are : AreTracks tracks) (spot : IsPlace tracks place at row.nav row.step.0) (old new : Track) (is : old ≡ get_or tracks place old) (was_is : was ≡ get_or old.rows.items at was) (nav : new.nav ≡ old.nav) (put : new.rows.items ≡ set old.rows.items at row) where
  old_is : old ≡ spot.track
  old_is = is ∙ get_or_from_slice_get tracks place spot.track old spot.there

  there : slice_get tracks place ≡ Some old
  there = spot.there ∙ ap (λ (t : Track). Some t) (sym old_is)

  here : slice_get old.rows.items at ≡ Some spot.it
  here = ap (λ (t : Track). slice_get t.rows.items at) old_is ∙ spot.here

  it_is : was ≡ spot.it
  it_is = was_is ∙ get_or_from_slice_get old.rows.items at spot.it was here

  here_was : slice_get old.rows.items at ≡ Some was
  here_was = here ∙ ap (λ (r : Row). Some r) (sym it_is)

  mine : old.rows.items ≡ take at old.rows.items ++ was ∷ drop (suc at) old.rows.items
  mine = split_row old.rows.items at was here_was

  in_rows : at < length old.rows.items
  in_rows = subst (λ (t : Track). at < length t.rows.items) (sym old_is) spot.in_rows

  theirs : new.rows.items ≡ take at old.rows.items ++ row ∷ drop (suc at) old.rows.items
  theirs = put ∙ set_split old.rows.items at row in_rows

  navs : row.nav.0 ≡ was.nav.0
  navs = spot.is_navs ∙ ap (λ (r : Row). r.nav.0) (sym it_is)

  steps : row.step.0 ≡ was.step.0
  steps = spot.step_is ∙ ap (λ (r : Row). r.step.0) (sym it_is)

  become : slice_set tracks place new ≡ take place tracks ++ new ∷ drop (suc place) tracks
  become = set_split tracks place new spot.within

  were : tracks ≡ take place tracks ++ old ∷ drop (suc place) tracks
  were = split_at tracks place old there

  pub put_tracks : AreTracks (slice_set tracks place new)
  put_tracks =
      subst AreTracks (sym become)
      (tracks_swap (take place tracks) old new (drop (suc place) tracks) (ap (λ (n : NavId). n.0) nav)
      (subst (λ (n : NavId). IsTrack n new.rows.items) (sym nav)
      (subst (λ (r : List Row). IsTrack old.nav r) (sym theirs)
      (track_swap old.nav (take at old.rows.items) was row (drop (suc at) old.rows.items) navs steps
      (subst (λ (r : List Row). IsTrack old.nav r) mine (track_is tracks place old are there)))))
      (subst AreTracks were are))

  between : (a t : List Row) (r : Row) (d b : List Row) → a ++ ((t ++ r ∷ d) ++ b) ≡ (a ++ t) ++ r ∷ (d ++ b)
  between a t r d b = ap (λ rows. a ++ rows) (append_assoc t (r ∷ d) b) ∙ sym (append_assoc a t (r ∷ (d ++ b)))

  pub put_over : PutsOver tracks place at row was (slice_set tracks place new)
  put_over = record {
    track = old;
    there = there;
    here = here_was;
    front = rows_of (take place tracks) ++ take at old.rows.items;
    back = drop (suc at) old.rows.items ++ rows_of (drop (suc place) tracks);
    of_old =
        ap rows_of were ∙ rows_split (take place tracks) old (drop (suc place) tracks)
        ∙ ap (λ (rows : List Row). rows_of (take place tracks) ++ (rows ++ rows_of (drop (suc place) tracks))) mine
        ∙ between (rows_of (take place tracks)) (take at old.rows.items) was (drop (suc at) old.rows.items) (rows_of (drop (suc place) tracks));
    of_new =
        ap rows_of become ∙ rows_split (take place tracks) new (drop (suc place) tracks)
        ∙ ap (λ (rows : List Row). rows_of (take place tracks) ++ (rows ++ rows_of (drop (suc place) tracks))) theirs
        ∙ between (rows_of (take place tracks)) (take at old.rows.items) row (drop (suc at) old.rows.items) (rows_of (drop (suc place) tracks));
  }

-- ---- the history

pub filter-all : {A : Type 0} (p : A → Bool) (xs : List A) → ((x : A) → IsIn xs x → p x ≡ true) → filter p xs ≡ xs
filter-all p [] all = refl
filter-all p (x ∷ xs) all =
    rw (all x (IsIn-head xs x)) (ap (λ rest. x ∷ rest) (filter-all p xs (λ y there. all y (IsIn-tail xs x y there))))

module _ (history : History) (used : List ℕ) (kept : IsKept history used) (nav : NavId) (over entry : EntryId) (state : StateId) (address : List ℕ) (memo : Option (List ℕ)) (may : MayTake history (Replace nav over entry state address memo)) (front back : List Row) (was row : Row) (rows_are : history.rows ≡ front ++ was ∷ back) (owner : Option StateId) (step : ℕ) (row_is : row ≡ replacing_row owner nav entry step state address memo) (owner_is : owner ≡ was.owner) (step_is : step ≡ was.step.0) (nav_is : nav.0 ≡ was.nav.0) (is_over : same_entry was.entry over ≡ true) (keeps : keeps_frames state was history.rows ≡ true) (new : List Row) (new_are : new ≡ front ++ row ∷ back) where
  nav_of : row.nav.0 ≡ was.nav.0
  nav_of = ap (λ (r : Row). r.nav.0) row_is ∙ nav_is

  owner_of : row.owner ≡ was.owner
  owner_of = ap (λ (r : Row). r.owner) row_is ∙ owner_is

  same_step : row.step.0 ≡ was.step.0
  same_step = ap (λ (r : Row). r.step.0) row_is ∙ step_is

  entry_new : list_any (is_entry row.entry) history.rows ≡ false
  entry_new = ap (λ (r : Row). list_any (is_entry r.entry) history.rows) row_is ∙ may.0

  mine_alone : (other : NavId) → holds other row.state history.rows ≡ true → other.0 ≡ row.nav.0
  mine_alone other held = may.1 other (ap (λ (r : Row). holds other r.state history.rows) (sym row_is) ∙ held) ∙ ap (λ (r : Row). r.nav.0) (sym row_is)

  -- a test that both rows answer alike
  any_same : (test : Row → Bool) → test row ≡ test was → list_any test (front ++ row ∷ back) ≡ list_any test history.rows
  any_same test same =
      any_insert test front back row ∙ ap (λ b. b || list_any test (front ++ back)) same ∙ sym (any_insert test front back was) ∙ ap (list_any test) (sym rows_are)

  state_is : row.state ≡ state
  state_is = ap (λ (r : Row). r.state) row_is

  -- a document state on which rows hang is still that of a row
  still : (o : StateId) → list_any (is_owned_by o) history.rows ≡ true → has_state o history.rows ≡ true → has_state o (front ++ row ∷ back) ≡ true
  still o owned has = by_test (is_in_state o was) refl
    where
      is_was : is_in_state o was ≡ true → was.state ≡ o
      is_was is = state_same was.state o (eqb-true was.state.0 o.0 is)

      kept_there : is_in_state o was ≡ true → has_state o (front ++ row ∷ back) ≡ true
      kept_there is =
          elim (or_cases (state.0 == was.state.0) (list_any (λ (r : Row). is_in_state was.state r && not (r.step.0 == was.step.0)) history.rows || not (list_any (is_owned_by was.state) history.rows)) keeps) [
            | inl same ↦
                any_insert (is_in_state o) front back row
                ∙ ap (λ b. b || has_state o (front ++ back)) (eq-eqb row.state.0 o.0 (ap (λ (s : StateId). s.0) state_is ∙ eqb-true state.0 was.state.0 same ∙ eqb-true was.state.0 o.0 is))
            | inr others ↦
                elim (or_cases (list_any (λ (r : Row). is_in_state was.state r && not (r.step.0 == was.step.0)) history.rows) (not (list_any (is_owned_by was.state) history.rows)) others) [
                  | inl another ↦
                      any_insert (is_in_state o) front back row
                      ∙ or_right (is_in_state o row) (has_state o (front ++ back))
                      (list_any-weaker (λ (r : Row). is_in_state was.state r && not (r.step.0 == was.step.0)) (is_in_state o) (front ++ back)
                      (λ r there both. ap (λ (s : StateId). is_in_state s r) (sym (is_was is)) ∙ (and_parts (is_in_state was.state r) (not (r.step.0 == was.step.0)) both).0)
                      (sym (ap (λ b. b || list_any (λ (r : Row). is_in_state was.state r && not (r.step.0 == was.step.0)) (front ++ back)) was_fails) ∙ sym (any_insert (λ (r : Row). is_in_state was.state r && not (r.step.0 == was.step.0)) front back was) ∙ ap (list_any (λ (r : Row). is_in_state was.state r && not (r.step.0 == was.step.0))) (sym rows_are) ∙ another))
                  | inr free ↦ absurd (false≢true (sym (not_true (list_any (is_owned_by was.state) history.rows) free) ∙ ap (λ (s : StateId). list_any (is_owned_by s) history.rows) (is_was is) ∙ owned))
                ]
          ]
        where
          nothing : (a : Bool) → (a && false) ≡ false
          nothing true = refl
          nothing false = refl

          was_fails : (is_in_state was.state was && not (was.step.0 == was.step.0)) ≡ false
          was_fails = ap (λ b. is_in_state was.state was && not b) (eq-eqb was.step.0 was.step.0 refl) ∙ nothing (is_in_state was.state was)

          not_true : (b : Bool) → not b ≡ true → b ≡ false
          not_true true is_ = absurd (false≢true is_)
          not_true false is_ = refl

      by_test : (b : Bool) → is_in_state o was ≡ b → has_state o (front ++ row ∷ back) ≡ true
      by_test true is = kept_there is
      by_test false isnt =
          any_insert (is_in_state o) front back row
          ∙ or_right (is_in_state o row) (has_state o (front ++ back))
          (sym (ap (λ b. b || has_state o (front ++ back)) isnt) ∙ sym (any_insert (is_in_state o) front back was) ∙ ap (has_state o) (sym rows_are) ∙ has)

  anchored : (r : Row) → IsIn (front ++ row ∷ back) r → (o : Option StateId) → r.owner ≡ o → option_map_or (λ s. has_state s (front ++ row ∷ back)) o true ≡ true
  anchored r there None is = refl
  anchored r there (Some o) is =
      let owned : list_any (is_owned_by o) history.rows ≡ true =
      sym (any_same (is_owned_by o) (ap (λ (x : Option StateId). option_map_or (λ (s : StateId). s.0 == o.0) x false) owner_of)) ∙ there (is_owned_by o) (rw is (eq-eqb o.0 o.0 refl)) in
      still o owned
      (kept.sound.anchored r.nav o
      (sym (any_same (λ (x : Row). is_of r.nav x && is_owned_by o x)
      (ap (λ n. (n == r.nav.0) && is_owned_by o row) nav_of ∙ ap (λ (x : Option StateId). (was.nav.0 == r.nav.0) && option_map_or (λ (s : StateId). s.0 == o.0) x false) owner_of))
      ∙ there (λ (x : Row). is_of r.nav x && is_owned_by o x) (and_from _ _ (eq-eqb r.nav.0 r.nav.0 refl) (rw is (eq-eqb o.0 o.0 refl)))))

  all_stay : tidied (front ++ row ∷ back) ≡ front ++ row ∷ back
  all_stay =
      tidied_times-same (length (front ++ row ∷ back)) (front ++ row ∷ back)
      (filter-all (is_anchored (front ++ row ∷ back)) (front ++ row ∷ back) (λ r there. anchored r there r.owner refl))

  pub put_fits : list_any (λ (r : Row). same_entry r.entry over && is_of nav r) history.rows ≡ true
  put_fits =
      ap (list_any (λ (r : Row). same_entry r.entry over && is_of nav r)) rows_are
      ∙ any_insert (λ (r : Row). same_entry r.entry over && is_of nav r) front back was
      ∙ ap (λ b. b || list_any (λ (r : Row). same_entry r.entry over && is_of nav r) (front ++ back)) (and_from _ _ is_over (eq-eqb was.nav.0 nav.0 (sym nav_is)))

  pub put_same : SameHistory (record { rows = new; current = history.current; added = history.added }) (applied history (Replace nav over entry state address memo))
  put_same = record {
    rows =
        ap ordered (new_are ∙ sym all_stay)
        ∙ ap (λ (r : Row). ordered (tidied (front ++ r ∷ back)))
        (row_is ∙ ap (λ (o : Option StateId). replacing_row o nav entry step state address memo) owner_is ∙ ap (λ (n : ℕ). replacing_row was.owner nav entry n state address memo) step_is)
        ∙ ap (λ rows. ordered (tidied rows)) (sym (replaced-split history kept.sound front back was (replacing_row None nav entry 0 state address memo) over rows_are is_over (eq-eqb was.nav.0 nav.0 (sym nav_is))));
    current = refl;
    added = refl;
  }

  pub put_kept : IsKept (record { rows = new; current = history.current; added = history.added }) used
  put_kept =
      subst (λ (rows : List Row). IsKept (record { rows = rows; current = history.current; added = history.added }) used) (sym new_are) (record {
        sound =
            subst (λ (rows : List Row). IsSound (record { rows = rows; current = history.current; added = history.added })) all_stay
            (IsSound-replaced history kept.sound front back was row rows_are nav_of owner_of same_step entry_new mine_alone history.current history.added);
        added = λ child has is_child. kept.added child (sym (any_same (is_of child) (ap (λ n. n == child.0) nav_of)) ∙ has) is_child;
        used =
            kept.used ∙ ap used_steps rows_are ∙ used_steps-insert front back was
            ∙ ap (λ n. with_step n (used_steps (front ++ back))) (sym same_step)
            ∙ sym (used_steps-insert front back row);
        below = any_same (λ (r : Row). nat_le 4294967295 r.step.0) (ap (λ n. nat_le 4294967295 n) same_step) ∙ kept.below;
      })

-- ---- a replace in the tracks

module _ (parts : Parts) (index : IsIndex parts) (nav : NavId) (over entry : EntryId) (state : StateId) (address : List ℕ) (memo : Option (List ℕ)) (may : MayTake (history_in parts) (Replace nav over entry state address memo)) (place at : ℕ) (owner : Option StateId) (step : ℕ) (spot : IsSpotOf parts.tracks.items nav over state place at owner step) (row : Row) (row_is : row ≡ replacing_row owner nav entry step state address memo) where
  pub place_for : IsPlace parts.tracks.items place at row.nav row.step.0
  place_for =
      subst (λ (r : Row). IsPlace parts.tracks.items place at r.nav r.step.0) (sym row_is) spot.is_place

  module _ (was : Row) (new : List Track) (puts : PutsOver parts.tracks.items place at row was new) where
    track_same : puts.track ≡ spot.is_place.track
    track_same = some_same puts.track spot.is_place.track (sym puts.there ∙ spot.is_place.there)

    was_is : was ≡ spot.is_place.it
    was_is = some_same was spot.is_place.it (sym puts.here ∙ ap (λ (t : Track). slice_get t.rows.items at) track_same ∙ spot.is_place.here)

    owner_was : owner ≡ was.owner
    owner_was = spot.owner_is ∙ ap (λ (r : Row). r.owner) (sym was_is)

    step_was : step ≡ was.step.0
    step_was = spot.is_place.step_is ∙ ap (λ (r : Row). r.step.0) (sym was_is)

    nav_was : nav.0 ≡ was.nav.0
    nav_was = spot.is_place.is_navs ∙ ap (λ (r : Row). r.nav.0) (sym was_is)

    over_was : same_entry was.entry over ≡ true
    over_was = ap (λ (r : Row). same_entry r.entry over) was_is ∙ spot.is_over

    keeps_was : keeps_frames state was (rows_of parts.tracks.items) ≡ true
    keeps_was = ap (λ (r : Row). keeps_frames state r (rows_of parts.tracks.items)) was_is ∙ spot.keeps

    pub swap_fits : list_any (λ (r : Row). same_entry r.entry over && is_of nav r) (rows_of parts.tracks.items) ≡ true
    swap_fits = put_fits (history_in parts) parts.used.items index.kept nav over entry state address memo may puts.front puts.back was row puts.of_old owner step row_is owner_was step_was nav_was over_was keeps_was (rows_of new) puts.of_new

    pub swap_same : SameHistory (record { rows = rows_of new; current = parts.current.0; added = parts.added.keys }) (applied (history_in parts) (Replace nav over entry state address memo))
    swap_same = put_same (history_in parts) parts.used.items index.kept nav over entry state address memo may puts.front puts.back was row puts.of_old owner step row_is owner_was step_was nav_was over_was keeps_was (rows_of new) puts.of_new

    pub swap_kept : IsKept (record { rows = rows_of new; current = parts.current.0; added = parts.added.keys }) parts.used.items
    swap_kept = put_kept (history_in parts) parts.used.items index.kept nav over entry state address memo may puts.front puts.back was row puts.of_old owner step row_is owner_was step_was nav_was over_was keeps_was (rows_of new) puts.of_new

-- a row found in a navigable's track
pub spot_found : (tracks : List Track) (place : ℕ) (nav : NavId) (over : EntryId) (state : StateId) (at : ℕ) (row : Row) → AreTracks tracks → (found : IsTrackAt tracks nav place) → (rows : List Row) → rows ≡ found.it.rows.items → at < length rows → slice_get rows at ≡ Some row → same_entry row.entry over ≡ true → keeps_frames state row (rows_of tracks) ≡ true → IsSpotOf tracks nav over state place at row.owner row.step.0
spot_found tracks place nav over state at row are found rows rows_are within here is_over keeps = record {
  is_place = record {
    track = found.it;
    it = row;
    within = found.within;
    there = found.here;
    in_rows = subst (λ (r : List Row). at < length r) rows_are within;
    here = ap (λ (r : List Row). slice_get r at) (sym rows_are) ∙ here;
    is_navs = sym (own ∙ found.is_navs);
    step_is = refl;
  };
  is_over = is_over;
  owner_is = refl;
  keeps = keeps;
}
  where
    own : row.nav.0 ≡ found.it.nav.0
    own = own_row rows found.it.nav at row (subst (λ (r : List Row). list_any (λ (x : Row). not (is_of found.it.nav x)) r ≡ false) (sym rows_are) (track_is tracks place found.it are found.here).0) here
      where
        own_row : (xs : List Row) (n : NavId) (i : ℕ) (r : Row) → list_any (λ (x : Row). not (is_of n x)) xs ≡ false → slice_get xs i ≡ Some r → r.nav.0 ≡ n.0
        own_row xs n i r none there = eqb-true r.nav.0 n.0 (was_not (is_of n r) (not_in (λ (x : Row). not (is_of n x)) xs i r there none))

-- ---- what keeps the frames

later_past : (rows : List Row) (at : ℕ) (row : Row) → IsAscending step_of rows → slice_get rows at ≡ Some row → list_any (λ (r : Row). nat_le r.step.0 row.step.0) (drop (suc at) rows) ≡ false
later_past [] at row sorted here = absurd (none-some row here)
later_past (first ∷ rows) zero row sorted here = ap (λ (r : Row). list_any (λ (x : Row). nat_le x.step.0 r.step.0) rows) (sym (some_same first row here)) ∙ sorted.0
later_past (first ∷ rows) (suc at) row sorted here = later_past rows at row sorted.1 here

in_drop : {A : Type 0} (xs : List A) (n : ℕ) (x : A) → IsIn (drop n xs) x → IsIn xs x
in_drop [] zero x there = there
in_drop [] (suc n) x there = there
in_drop (y ∷ xs) zero x there = there
in_drop (y ∷ xs) (suc n) x there = IsIn-tail xs y x (in_drop xs n x there)

-- a row of the document state stands behind the place
pub later_keeps : (state : StateId) (whole rows : List Row) (at : ℕ) (was : Row) → IsAscending step_of rows → slice_get rows at ≡ Some was → ((row : Row) → IsIn rows row → IsIn whole row) → list_any (is_in_state was.state) (drop (at + 1) rows) ≡ true → keeps_frames state was whole ≡ true
later_keeps state whole rows at was sorted here part any =
    let w = witness (is_in_state was.state) (drop (suc at) rows) (rw add-one at any) in
    or_right (state.0 == was.state.0) _
    (ap (λ b. b || not (list_any (is_owned_by was.state) whole))
    (part w.it (in_drop rows (suc at) w.it w.is_in) (λ (r : Row). is_in_state was.state r && not (r.step.0 == was.step.0))
    (and_from (is_in_state was.state w.it) (not (w.it.step.0 == was.step.0)) w.passes
    (ap not (ne_eqb w.it.step.0 was.step.0 (λ same. omega (arith, same, leb-false w.it.step.0 was.step.0 (none_passes (λ (r : Row). nat_le r.step.0 was.step.0) (drop (suc at) rows) (later_past rows at was sorted here) w.it w.is_in))))))))

-- the document state starts with another row
pub started_keeps : (state : StateId) (starts : List (StateId × Step)) (whole : List Row) (was : Row) → AreStarted starts whole → IsIn whole was → is_start (start_of was.state starts) was.step.0 ≡ false → keeps_frames state was whole ≡ true
started_keeps state starts whole was are there isnt =
    or_right (state.0 == was.state.0) _ (ap (λ b. b || not (list_any (is_owned_by was.state) whole)) (by_start (start_of was.state starts) refl))
  where
    by_start : (start : Option Step) → start_of was.state starts ≡ start → list_any (λ (r : Row). is_in_state was.state r && not (r.step.0 == was.step.0)) whole ≡ true
    by_start None none = absurd (false≢true (ap (λ (s : Option Step). is_by s was.step.0) (sym none) ∙ started_by starts whole are was there))
    by_start (Some start) at =
        list_any-weaker (λ (r : Row). is_in_state was.state r && r.step.0 == start.0) (λ (r : Row). is_in_state was.state r && not (r.step.0 == was.step.0)) whole
        (λ r in_ both.
        let parts = and_parts (is_in_state was.state r) (r.step.0 == start.0) both in
        and_from (is_in_state was.state r) (not (r.step.0 == was.step.0)) parts.0 (ap (λ n. not (n == was.step.0)) (eqb-true r.step.0 start.0 parts.1) ∙ ap not (ap (λ (s : Option Step). is_start s was.step.0) (sym at) ∙ isnt)))
        (are.at_row was.state start.0 (ap (λ (s : Option Step). is_start s start.0) at ∙ eq-eqb start.0 start.0 refl))

pub free_keeps : (state : StateId) (whole : List Row) (was : Row) → list_any (is_owned_by was.state) whole ≡ false → keeps_frames state was whole ≡ true
free_keeps state whole was free =
    or_right (state.0 == was.state.0) _ (or_right (list_any (λ (r : Row). is_in_state was.state r && not (r.step.0 == was.step.0)) whole) _ (ap not free))

-- ---- what is kept beside the rows

pub history_same : (parts new : Parts) → new.current ≡ parts.current → new.added.keys ≡ parts.added.keys → history_in new ≡ record { rows = rows_of new.tracks.items; current = parts.current.0; added = parts.added.keys }
history_same parts new current added =
    ap (λ (step : Step). let history : History = record { rows = rows_of new.tracks.items; current = step.0; added = new.added.keys } in history) current
    ∙ ap (λ (navs : List NavId). let history : History = record { rows = rows_of new.tracks.items; current = parts.current.0; added = navs } in history) added

module _ (parts : Parts) (index : IsIndex parts) (place at : ℕ) (row was : Row) (new : List Track) (spot : IsPlace parts.tracks.items place at row.nav row.step.0) (puts : PutsOver parts.tracks.items place at row was new) where
  track_is_ : puts.track ≡ spot.track
  track_is_ = some_same puts.track spot.track (sym puts.there ∙ spot.there)

  pub was_it : was ≡ spot.it
  was_it = some_same was spot.it (sym puts.here ∙ ap (λ (t : Track). slice_get t.rows.items at) track_is_ ∙ spot.here)

  step_was_ : row.step.0 ≡ was.step.0
  step_was_ = spot.step_is ∙ ap (λ (r : Row). r.step.0) (sym was_it)

  track_mine : IsTrack puts.track.nav puts.track.rows.items
  track_mine = track_is parts.tracks.items place puts.track index.tracks puts.there

  split : puts.track.rows.items ≡ take at puts.track.rows.items ++ was ∷ drop (suc at) puts.track.rows.items
  split = split_row puts.track.rows.items at was puts.here

  nav_was_ : puts.track.nav.0 ≡ was.nav.0
  nav_was_ = sym (eqb-true was.nav.0 puts.track.nav.0 (was_not (is_of puts.track.nav was) (not_in (λ (r : Row). not (is_of puts.track.nav r)) puts.track.rows.items at was puts.here track_mine.0)))

  own : filter (is_of was.nav) (rows_of parts.tracks.items) ≡ take at puts.track.rows.items ++ was ∷ drop (suc at) puts.track.rows.items
  own = rows_at parts.tracks.items was.nav place puts.track index.tracks puts.there nav_was_ ∙ split

  pub swapped_started : (starts : List (StateId × Step)) → StartsOver parts.starts.entries row was (row ∷ drop (suc at) puts.track.rows.items) starts → AreStarted starts (rows_of new)
  swapped_started starts over =
      subst (λ (rows : List Row). AreStarted starts rows) (sym puts.of_new)
      (over_started (history_in parts) index.kept.sound puts.front puts.back was row puts.of_old (take at puts.track.rows.items) (drop (suc at) puts.track.rows.items) own
      (subst (IsAscending step_of) split track_mine.1) step_was_ parts.starts.entries starts index.started over)

  pub swapped_noted : (over : EntryId) (noted : List (EntryId × Place)) → is_entry over was ≡ true → list_any (is_entry row.entry) (rows_of parts.tracks.items) ≡ false → NotesOver parts.noted.entries row over noted → AreNoted noted (rows_of new)
  swapped_noted over noted is fresh notes =
      subst (λ (rows : List Row). AreNoted noted rows) (sym puts.of_new)
      (over_noted parts.noted.entries notes.between noted puts.front puts.back was row over
      (subst (λ (rows : List Row). AreNoted parts.noted.entries rows) puts.of_old index.noted)
      (subst (λ (rows : List Row). (entry : EntryId) → count_by (is_entry entry) rows ≤ 1) puts.of_old index.kept.sound.entries)
      (subst (λ (rows : List Row). list_any (is_entry row.entry) rows ≡ false) puts.of_old fresh)
      is notes.comes notes.goes)

  -- the track's rows from the place on
  pub swapped_rows : track_rows new place ≡ set puts.track.rows.items at row → drop at (track_rows new place) ≡ row ∷ drop (suc at) puts.track.rows.items
  swapped_rows are =
      ap (drop at) (are ∙ set_split puts.track.rows.items at row (within puts.track.rows.items at was puts.here)) ∙ behind puts.track.rows.items at (within puts.track.rows.items at was puts.here)
    where
      within : (xs : List Row) (i : ℕ) (x : Row) → slice_get xs i ≡ Some x → i < length xs
      within [] i x here = absurd (none-some x here)
      within (y ∷ xs) zero x here = omega arith
      within (y ∷ xs) (suc i) x here = omega (arith, within xs i x here)

      behind : (xs : List Row) (i : ℕ) → i < length xs → drop i (take i xs ++ row ∷ drop (suc i) xs) ≡ row ∷ drop (suc i) xs
      behind [] i short = absurd (omega (arith, short))
      behind (x ∷ xs) zero short = refl
      behind (x ∷ xs) (suc i) short = behind xs i (omega (arith, short))
