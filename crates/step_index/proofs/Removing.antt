-- A frame on whose document states nothing hangs goes: what stays of the tracks, of the used steps and of all that is kept beside them.
use Rattle.std.proofs.Common.{◌≡◌, ◌≢◌, ℕ, zero, suc, ◌+◌, ◌-◌, ◌<◌, Bool, true, false, not, ◌&&◌, ◌||◌, cond, List, [], ◌∷◌, ◌++◌, length, refl, ap, sym, ◌∙◌, filter, take, drop, subst, arith, inl, inr, Option, Some, None}
use Rattle.std.specs.Prelude.{◌==◌, nat_le, nat_lt, slice_get, slice_set, remove, if◌then◌else◌}
use Rattle.std.specs.List.{list_any, count_by}
use Rattle.std.specs.Option.{option_map_or}
use Rattle.std.proofs.lemmas.Bool.{cases_Bool, false≢true, or_parts, or_cases, and_parts, and_from, eq-eqb, eqb-true, ne_eqb, leb-false}
use Rattle.std.proofs.lemmas.List.{take-append-drop, set_split}
use Rattle.std.proofs.lemmas.List.Elements.{filter-append}
use Rattle.std.proofs.lemmas.List.Concat.{flat_map-append}
use Rattle.std.proofs.lemmas.List.Folds.{list_any-append}
use Rattle.std.proofs.lemmas.Option.{none-some}
use Rattle.tab_ids.specs.declared.NavId.{NavId}
use Rattle.tab_ids.specs.declared.StateId.{StateId}
use Rattle.tab_ids.specs.declared.Step.{Step}
use Rattle.log_model.specs.declared.row.Row.{Row}
use Rattle.log_model.specs.declared.change.Change.TheVariants.{RemoveFrame}
use Rattle.log_model.specs.History.{Fits, is_of, has_state, is_anchored, tidied, used_steps, used_step_at, applied}
use Rattle.log_model.specs.Order.{ordered, SameHistory}
use Rattle.log_model.specs.Soundness.{is_in_state, is_owned_by, holds, IsSound}
use Rattle.history_laws.proofs.Members.{IsIn, or_none, none_passes, list_any-none, list_any-filter, IsIn-filter, IsIn-filter_passes, IsIn-into_filter, witness, filter-same, filter-filter, some_same}
use Rattle.history_laws.proofs.Tidying.{state_same, held, tidied_times-same}
use Rattle.history_laws.proofs.RemoveFrame.{IsSound-removed}
use Rattle.entry_store.specs.Kept.{IsKept}
use Rattle.entry_store.proofs.Keeping.{IsKept-part}
use Rattle.entry_store.proofs.LastStep.{used_steps-any}
use Rattle.entry_store.proofs.RemoveLaw.{removal_fits}
use Rattle.entry_store.proofs.StepBounds.{used_steps-ascend}
use Rattle.step_index.specs.declared.groups.Group.{Group}
use Rattle.step_index.specs.declared.groups.Group.TheVariants.{At, On}
use Rattle.step_index.specs.declared.track.Track.{Track}
use Rattle.step_index.specs.declared.parts.Parts.{Parts}
use Rattle.step_index.specs.Ascending.{IsAscending}
use Rattle.step_index.specs.Groups.{is_in, count_of, AreCounted, is_unused}
use Rattle.step_index.specs.Starts.{start_of, is_by, is_start, AreStarted, StartsLess, starts_with}
use Rattle.step_index.specs.Tracks.{rows_of, IsTrack, AreTracks, IsTrackAt}
use Rattle.step_index.specs.Parts.{history_in, IsIndex, IsLeafAt, has_below}
use Rattle.step_index.proofs.Searching.{first_lower, none_at}
use Rattle.step_index.proofs.Noting.{eqb_turned}
use Rattle.step_index.proofs.Tracking.{was_not, any_insert, tracks_swap, split_at, rows_split, rows_at, none_of, track_is}
use Rattle.step_index.proofs.Looking.{ascending_from, used_ascend, has_row_some}
use Rattle.step_index.proofs.Starting.{started_by}
use Rattle.step_index.proofs.Cutting.{filter_none, ascending_filter}
use Rattle.step_index.proofs.Replacing.{filter-all}
use Rattle.step_index.proofs.Counting.{count_split, any_counted}

-- ---- the tracks

-- one less
tracks_less : (front : List Track) (old : Track) (back : List Track) → AreTracks (front ++ old ∷ back) → AreTracks (front ++ back)
tracks_less [] old back are = are.1.1
tracks_less (track ∷ front) old back are = (
  (or_parts (nat_le old.nav.0 track.nav.0) (list_any (λ (other : Track). nat_le other.nav.0 track.nav.0) (front ++ back)) (sym (any_insert (λ (other : Track). nat_le other.nav.0 track.nav.0) front back old) ∙ are.0)).1,
  (are.1.0, tracks_less front old back are.1.1),
)

-- no other has the navigable's number
alone_after : (bound : ℕ) (nav : NavId) (back : List Track) → bound ≡ nav.0 → list_any (λ (other : Track). nat_le other.nav.0 bound) back ≡ false → list_any (λ (track : Track). track.nav.0 == nav.0) back ≡ false
alone_after bound nav [] same none = refl
alone_after bound nav (track ∷ back) same none =
    let both = or_parts (nat_le track.nav.0 bound) (list_any (λ (other : Track). nat_le other.nav.0 bound) back) none in
    or_none _ _ (ne_eqb track.nav.0 nav.0 (λ e. omega (arith, e, same, leb-false track.nav.0 bound both.0))) (alone_after bound nav back same both.1)

alone : (front : List Track) (old : Track) (back : List Track) (nav : NavId) → old.nav.0 ≡ nav.0 → AreTracks (front ++ old ∷ back) → list_any (λ (track : Track). track.nav.0 == nav.0) (front ++ back) ≡ false
alone [] old back nav same are = alone_after old.nav.0 nav back same are.0
alone (track ∷ front) old back nav same are =
    let lower = or_parts (nat_le old.nav.0 track.nav.0) (list_any (λ (other : Track). nat_le other.nav.0 track.nav.0) (front ++ back)) (sym (any_insert (λ (other : Track). nat_le other.nav.0 track.nav.0) front back old) ∙ are.0) in
    or_none _ _ (ne_eqb track.nav.0 nav.0 (λ e. omega (arith, e, same, leb-false old.nav.0 track.nav.0 lower.0))) (alone front old back nav same are.1.1)

filter_others : {A : Type 0} (p : A → Bool) (xs : List A) → filter p xs ≡ [] → filter (λ x. not (p x)) xs ≡ xs
filter_others p [] none = refl
filter_others {A} p (x ∷ xs) none = by_test (filter_others p xs) (p x) refl
  where
    by_test : (filter p xs ≡ [] → filter (λ y. not (p y)) xs ≡ xs) → (b : Bool) → p x ≡ b → filter (λ y. not (p y)) (x ∷ xs) ≡ x ∷ xs
    by_test rest true passes = absurd (omega (arith, ap (length {A = A}) (sym (ap (λ b. cond b (x ∷ filter p xs) (filter p xs)) passes) ∙ none)))
    by_test rest false fails = rw fails (ap (λ (ys : List A). x ∷ ys) (rest (sym (ap (λ b. cond b (x ∷ filter p xs) (filter p xs)) fails) ∙ none)))

module _ (tracks : List Track) (nav : NavId) (at : ℕ) (place : IsTrackAt tracks nav at) (are : AreTracks tracks) where
  abbrev front : List Track
  front = take at tracks

  abbrev back : List Track
  back = drop (suc at) tracks

  were : tracks ≡ front ++ place.it ∷ back
  were = split_at tracks at place.it place.here

  less : AreTracks (front ++ back)
  less = tracks_less front place.it back (subst AreTracks were are)

  pub taken_rows : place.it.rows.items ≡ filter (is_of nav) (rows_of tracks)
  taken_rows = sym (rows_at tracks nav at place.it are place.here place.is_navs)

  own : list_any (λ (row : Row). not (is_of nav row)) place.it.rows.items ≡ false
  own =
      ap (λ n. list_any (λ (row : Row). not (row.nav.0 == n)) place.it.rows.items) (sym place.is_navs)
      ∙ (track_is tracks at place.it are place.here).0

  left_rows : rows_of (front ++ back) ≡ filter (λ (row : Row). not (is_of nav row)) (rows_of tracks)
  left_rows =
      let others : Row → Bool = λ row. not (is_of nav row) in
      sym (
      ap (λ (ts : List Track). filter others (rows_of ts)) were
      ∙ ap (filter others) (rows_split front place.it back)
      ∙ filter-append others (rows_of front) (place.it.rows.items ++ rows_of back)
      ∙ ap (λ (rest : List Row). filter others (rows_of front) ++ rest) (filter-append others place.it.rows.items (rows_of back) ∙ ap (λ (mine : List Row). mine ++ filter others (rows_of back)) (filter_none others place.it.rows.items own))
      ∙ sym (filter-append others (rows_of front) (rows_of back))
      ∙ ap (filter others) (sym (flat_map-append (λ (t : Track). t.rows.items) front back))
      ∙ filter_others (is_of nav) (rows_of (front ++ back)) (none_of (front ++ back) nav less (alone front place.it back nav place.is_navs (subst AreTracks were are))))

  -- the track has no rows any more
  module _ (empty : Track) (nav_same : empty.nav ≡ place.it.nav) (none : empty.rows.items ≡ []) where
    become : slice_set tracks at empty ≡ front ++ empty ∷ back
    become = set_split tracks at empty place.within

    pub emptied_tracks : AreTracks (slice_set tracks at empty)
    emptied_tracks =
        subst AreTracks (sym become)
        (tracks_swap front place.it empty back (ap (λ (n : NavId). n.0) nav_same) (subst (λ (rows : List Row). IsTrack empty.nav rows) (sym none) (refl, tt)) (subst AreTracks were are))

    pub emptied_left : rows_of (slice_set tracks at empty) ≡ filter (λ (row : Row). not (is_of nav row)) (rows_of tracks)
    emptied_left =
        ap rows_of become ∙ rows_split front empty back
        ∙ ap (λ (mine : List Row). rows_of front ++ (mine ++ rows_of back)) none
        ∙ sym (flat_map-append (λ (t : Track). t.rows.items) front back)
        ∙ left_rows

-- ---- used steps

-- a step at its place goes
pub step_removed : (steps : List ℕ) (i step : ℕ) → IsAscending (λ n. n) steps → slice_get steps i ≡ Some step → remove steps i ≡ filter (λ n. not (n == step)) steps
step_removed [] i step sorted here = absurd (none-some step here)
step_removed (first ∷ steps) zero step sorted here =
    let same : first ≡ step = some_same first step here in
    sym (
    ap (λ b. cond (not b) (first ∷ filter (λ n. not (n == step)) steps) (filter (λ n. not (n == step)) steps)) (eq-eqb first step same)
    ∙ filter-all (λ n. not (n == step)) steps (λ n there. ap not (ne_eqb n step (λ e. omega (arith, e, same, leb-false n first (none_passes (λ o. nat_le o first) steps sorted.0 n there))))))
step_removed (first ∷ steps) (suc i) step sorted here =
    let lower : first < step = first_lower (λ n. n) first steps i step sorted here in
    sym (
    ap (λ b. cond (not b) (first ∷ filter (λ n. not (n == step)) steps) (filter (λ n. not (n == step)) steps)) (ne_eqb first step (λ e. omega (arith, e, lower)))
    ∙ ap (λ rest. first ∷ rest) (sym (step_removed steps i step sorted.1 here)))

-- one that isn't there doesn't
pub step_absent : (steps : List ℕ) (step : ℕ) → list_any (λ n. n == step) steps ≡ false → steps ≡ filter (λ n. not (n == step)) steps
step_absent steps step none = sym (filter-all (λ n. not (n == step)) steps (λ n there. ap not (none_passes (λ m. m == step) steps none n there)))

-- it isn't where none up to it is, or the last one up to it is another
apart_past : (step : ℕ) (steps : List ℕ) → list_any (λ n. nat_le n step) steps ≡ false → list_any (λ n. n == step) steps ≡ false
apart_past step steps past =
    list_any-none (λ n. n == step) steps (λ n there. ne_eqb n step (λ e. omega (arith, e, leb-false n step (none_passes (λ m. nat_le m step) steps past n there))))

apart_before : (step : ℕ) (steps : List ℕ) → list_any (λ n. nat_le step n) steps ≡ false → list_any (λ n. n == step) steps ≡ false
apart_before step steps before =
    list_any-none (λ n. n == step) steps (λ n there. ne_eqb n step (λ e. omega (arith, e, leb-false step n (none_passes (λ m. nat_le step m) steps before n there))))

pub absent_first : (steps : List ℕ) (upto step : ℕ) → upto ≡ 0 → list_any (λ n. nat_le n step) (drop upto steps) ≡ false → list_any (λ n. n == step) steps ≡ false
absent_first steps upto step none past = apart_past step steps (subst (λ (n : ℕ). list_any (λ m. nat_le m step) (drop n steps) ≡ false) none past)

pub absent_last : (steps : List ℕ) (upto last step : ℕ) → IsAscending (λ n. n) steps → 0 < upto → slice_get steps (upto - 1) ≡ Some last → last ≢ step → list_any (λ n. nat_lt step n) (take upto steps) ≡ false → list_any (λ n. nat_le n step) (drop upto steps) ≡ false → list_any (λ n. n == step) steps ≡ false
absent_last steps upto last step sorted some here other lower past =
    let e : upto ≡ suc (upto - 1) = omega (arith, some) in
    let before : list_any (λ n. nat_le step n) (take upto steps) ≡ false =
    subst (λ (n : ℕ). list_any (λ m. nat_le step m) (take n steps) ≡ false) (sym e)
    (none_at (λ n. n) steps (upto - 1) last step sorted here (subst (λ (n : ℕ). list_any (λ m. nat_lt step m) (take n steps) ≡ false) e lower) other) in
    ap (list_any (λ n. n == step)) (sym (take-append-drop upto steps))
    ∙ list_any-append (λ n. n == step) (take upto steps) (drop upto steps)
    ∙ or_none _ _ (apart_before step (take upto steps) before) (apart_past step (drop upto steps) past)

-- those of one row more go
pub unused_more : (counts : List (Group × ℕ)) (rows : List Row) (row : Row) (used : List ℕ) → nat_lt 0 (count_of (At row.step) counts) ≡ false
    → filter (λ n. not (n == row.step.0)) (filter (λ n. not (is_unused counts rows n)) used) ≡ filter (λ n. not (is_unused counts (rows ++ row ∷ []) n)) used
unused_more counts rows row used none =
    filter-filter (λ n. not (n == row.step.0)) (λ n. not (is_unused counts rows n)) used
    ∙ filter-same (λ n. not (is_unused counts rows n) && not (n == row.step.0)) (λ n. not (is_unused counts (rows ++ row ∷ []) n)) used (λ n there.
    both (is_unused counts rows n) (n == row.step.0)
    ∙ ap (λ b. not (is_unused counts rows n || b)) (eqb_turned n row.step.0 ∙ one n)
    ∙ ap not (sym (list_any-append (λ (r : Row). r.step.0 == n && not (nat_lt 0 (count_of (At r.step) counts))) rows (row ∷ []))))
  where
    both : (a b : Bool) → (not a && not b) ≡ not (a || b)
    both true b = refl
    both false b = refl

    one : (n : ℕ) → (row.step.0 == n) ≡ is_unused counts (row ∷ []) n
    one n = keep (row.step.0 == n) ∙ ap (λ b. (row.step.0 == n && not b) || false) (sym none)
      where
        keep : (a : Bool) → a ≡ ((a && true) || false)
        keep true = refl
        keep false = refl

pub unused_same : (counts : List (Group × ℕ)) (rows : List Row) (row : Row) (used : List ℕ) → nat_lt 0 (count_of (At row.step) counts) ≡ true
    → filter (λ n. not (is_unused counts rows n)) used ≡ filter (λ n. not (is_unused counts (rows ++ row ∷ []) n)) used
unused_same counts rows row used some =
    filter-same (λ n. not (is_unused counts rows n)) (λ n. not (is_unused counts (rows ++ row ∷ []) n)) used (λ n there.
    ap not (
    keep (is_unused counts rows n)
    ∙ ap (λ b. is_unused counts rows n || b) (sym (none n))
    ∙ sym (list_any-append (λ (r : Row). r.step.0 == n && not (nat_lt 0 (count_of (At r.step) counts))) rows (row ∷ []))))
  where
    keep : (a : Bool) → a ≡ (a || false)
    keep true = refl
    keep false = refl

    none : (n : ℕ) → is_unused counts (row ∷ []) n ≡ false
    none n = ap (λ b. (row.step.0 == n && not b) || false) some ∙ nothing (row.step.0 == n)
      where
        nothing : (a : Bool) → ((a && false) || false) ≡ false
        nothing true = refl
        nothing false = refl

-- two lists that ascend and have the same numbers are the same
later : (first : ℕ) (items : List ℕ) (n : ℕ) → list_any (λ o. nat_le o first) items ≡ false → list_any (λ m. m == n) items ≡ true → first < n
later first items n lower has =
    let w = witness (λ m. m == n) items has in
    omega (arith, eqb-true w.it n w.passes, leb-false w.it first (none_passes (λ o. nat_le o first) items lower w.it w.is_in))

pub same_numbers : (one other : List ℕ) → IsAscending (λ n. n) one → IsAscending (λ n. n) other → ((n : ℕ) → list_any (λ m. m == n) one ≡ list_any (λ m. m == n) other) → one ≡ other
same_numbers [] [] up also same = refl
same_numbers [] (y ∷ ys) up also same = absurd (false≢true (same y ∙ ap (λ b. b || list_any (λ m. m == y) ys) (eq-eqb y y refl)))
same_numbers (x ∷ xs) [] up also same = absurd (false≢true (sym (same x) ∙ ap (λ b. b || list_any (λ m. m == x) xs) (eq-eqb x x refl)))
same_numbers (x ∷ xs) (y ∷ ys) up also same =
    ap (λ (n : ℕ). n ∷ xs) heads ∙ ap (λ (rest : List ℕ). y ∷ rest) (same_numbers xs ys up.1 also.1 rest_same)
  where
    heads : x ≡ y
    heads =
        elim (or_cases (y == x) (list_any (λ m. m == x) ys) (sym (same x) ∙ ap (λ b. b || list_any (λ m. m == x) xs) (eq-eqb x x refl))) [
          | inl is ↦ sym (eqb-true y x is)
          | inr in_ys ↦
              elim (or_cases (x == y) (list_any (λ m. m == y) xs) (same y ∙ ap (λ b. b || list_any (λ m. m == y) ys) (eq-eqb y y refl))) [
                | inl is ↦ eqb-true x y is
                | inr in_xs ↦ absurd (omega (arith, later y ys x also.0 in_ys, later x xs y up.0 in_xs))
              ]
        ]

    none_again : (first n : ℕ) (items : List ℕ) → list_any (λ o. nat_le o first) items ≡ false → first ≡ n → list_any (λ m. m == n) items ≡ false
    none_again first n items lower is =
        elim (cases_Bool (list_any (λ m. m == n) items)) [
          | inl has ↦ absurd (omega (arith, later first items n lower has, is))
          | inr hasnt ↦ hasnt
        ]

    rest_same : (n : ℕ) → list_any (λ m. m == n) xs ≡ list_any (λ m. m == n) ys
    rest_same n =
        elim (cases_Bool (x == n)) [
          | inl is ↦ none_again x n xs up.0 (eqb-true x n is) ∙ sym (none_again y n ys also.0 (sym heads ∙ eqb-true x n is))
          | inr isnt ↦
              ap (λ b. b || list_any (λ m. m == n) xs) (sym isnt) ∙ same n
              ∙ ap (λ b. b || list_any (λ m. m == n) ys) (ap (λ (m : ℕ). m == n) (sym heads) ∙ isnt)
        ]

-- ---- the frame

module _ (parts : Parts) (index : IsIndex parts) (nav : NavId) (at : ℕ) (leaf : IsLeafAt parts nav at) where
  abbrev rows : List Row
  rows = rows_of parts.tracks.items

  abbrev gone : List Row
  gone = filter (is_of nav) rows

  abbrev left : List Row
  left = filter (λ (row : Row). not (is_of nav row)) rows

  pub both_parts : (test : Row → Bool) → count_by test left + count_by test gone ≡ count_by test rows
  both_parts test = omega (arith, count_split test (is_of nav) rows)

  pub left_part : (row : Row) → IsIn left row → IsIn rows row
  left_part row there = IsIn-filter (λ (r : Row). not (is_of nav r)) rows row there

  -- nothing hangs on a document state of a row that goes
  free : (row : Row) → IsIn gone row → list_any (is_owned_by row.state) rows ≡ false
  free row there =
      sym (any_counted (is_owned_by row.state) rows)
      ∙ ap (nat_lt 0) (sym (index.counted (On row.state)))
      ∙ none_passes (has_below parts.counts.entries) leaf.place.it.rows.items leaf.free row
      (λ test passes. ap (list_any test) (taken_rows parts.tracks.items nav at leaf.place index.tracks) ∙ there test passes)

  -- so all others stay
  anchored : (row : Row) → IsIn left row → (owner : Option StateId) → row.owner ≡ owner → option_map_or (λ (o : StateId). has_state o left) owner true ≡ true
  anchored row there None is = refl
  anchored row there (Some o) is =
      let hangs : is_owned_by o row ≡ true = ap (λ (x : Option StateId). option_map_or (λ (s : StateId). s.0 == o.0) x false) is ∙ eq-eqb o.0 o.0 refl in
      let w = witness (is_in_state o) rows (index.kept.sound.anchored row.nav o (left_part row there (λ (r : Row). is_of row.nav r && is_owned_by o r) (and_from _ _ (eq-eqb row.nav.0 row.nav.0 refl) hangs))) in
      let state_is : w.it.state ≡ o = state_same w.it.state o (eqb-true w.it.state.0 o.0 w.passes) in
      elim (cases_Bool (is_of nav w.it)) [
        | inl mine ↦
            absurd (false≢true (
            sym (free w.it (IsIn-into_filter (is_of nav) rows w.it w.is_in mine))
            ∙ left_part row there (is_owned_by w.it.state) (ap (λ (s : StateId). is_owned_by s row) state_is ∙ hangs)))
        | inr isnt ↦ IsIn-into_filter (λ (r : Row). not (is_of nav r)) rows w.it w.is_in (ap not isnt) (is_in_state o) w.passes
      ]

  pub tidied_left : tidied left ≡ left
  tidied_left = tidied_times-same (length left) left (filter-all (is_anchored left) left (λ row there. anchored row there row.owner refl))

  pub leaf_fits : Fits (history_in parts) (RemoveFrame nav)
  leaf_fits =
      removal_fits (history_in parts) nav leaf.is_child
      (has_row_some rows leaf.place.it.rows.items nav (sym (taken_rows parts.tracks.items nav at leaf.place index.tracks)) leaf.some)

  pub leaf_same : (step : ℕ) → step ≡ used_step_at left parts.current.0 → SameHistory (record { rows = left; current = step; added = parts.added.keys }) (applied (history_in parts) (RemoveFrame nav))
  leaf_same step is = record {
    rows = ap ordered (sym tidied_left);
    current = is ∙ ap (λ r. used_step_at r parts.current.0) (sym tidied_left);
    added = refl;
  }

  pub leaf_kept : (used : List ℕ) → used ≡ used_steps left → IsKept (record { rows = left; current = parts.current.0; added = parts.added.keys }) used
  leaf_kept used is =
      IsKept-part (history_in parts) parts.used.items index.kept left parts.current.0 used left_part
      (subst (λ (r : List Row). IsSound (record { rows = r; current = parts.current.0; added = parts.added.keys })) tidied_left (IsSound-removed (history_in parts) nav parts.current.0 parts.added.keys index.kept.sound leaf.is_child)) is

  -- ---- where document states start

  -- no row that stays has a document state of one that goes
  states_apart : (row other : Row) → IsIn left row → IsIn gone other → is_in_state row.state other ≡ false
  states_apart row other stays goes =
      elim (cases_Bool (is_in_state row.state other)) [
        | inl same ↦
            let other_in : IsIn rows other = IsIn-filter (is_of nav) rows other goes in
            let state_is : other.state ≡ row.state = state_same other.state row.state (eqb-true other.state.0 row.state.0 same) in
            absurd (false≢true (
            sym (not_true (is_of nav row) (IsIn-filter_passes (λ (r : Row). not (is_of nav r)) rows row stays))
            ∙ eq-eqb row.nav.0 nav.0
            (index.kept.sound.rooted.states row.state row.nav other.nav (held rows index.kept.sound.rooted row (left_part row stays)) (subst (λ (s : StateId). holds other.nav s rows ≡ true) state_is (held rows index.kept.sound.rooted other other_in))
            ∙ eqb-true other.nav.0 nav.0 (IsIn-filter_passes (is_of nav) rows other goes))))
        | inr apart ↦ apart
      ]
    where
      not_true : (b : Bool) → not b ≡ true → b ≡ false
      not_true true is = absurd (false≢true is)
      not_true false is = refl

  pub leaf_started : (new : List (StateId × Step)) → StartsLess parts.starts.entries gone new → AreStarted new left
  leaf_started new less = record {
    by_rows = list_any-none (λ (row : Row). not (is_by (start_of row.state new) row.step.0)) left (λ row there.
        ap not (ap (λ (s : Option Step). is_by s row.step.0) (stays row there) ∙ started_by parts.starts.entries rows index.started row (left_part row there)));
    at_row = λ state step is. by_test state step is (starts_with state (start_of state parts.starts.entries) gone) refl;
  }
    where
      stays : (row : Row) → IsIn left row → start_of row.state new ≡ start_of row.state parts.starts.entries
      stays row there =
          less row.state ∙ ap (λ b. if b then None else start_of row.state parts.starts.entries)
          (list_any-none (λ (other : Row). is_in_state row.state other && is_start (start_of row.state parts.starts.entries) other.step.0) gone (λ other goes.
          ap (λ b. b && is_start (start_of row.state parts.starts.entries) other.step.0) (states_apart row other there goes)))

      by_test : (state : StateId) (step : ℕ) → is_start (start_of state new) step ≡ true → (b : Bool) → starts_with state (start_of state parts.starts.entries) gone ≡ b → list_any (λ (row : Row). is_in_state state row && row.step.0 == step) left ≡ true
      by_test state step is true goes =
          absurd (false≢true (ap (λ (s : Option Step). is_start s step) (sym (less state ∙ ap (λ b. if b then None else start_of state parts.starts.entries) goes)) ∙ is))
      by_test state step is false stays_ =
          let same : start_of state new ≡ start_of state parts.starts.entries = less state ∙ ap (λ b. if b then None else start_of state parts.starts.entries) stays_ in
          let here : is_start (start_of state parts.starts.entries) step ≡ true = ap (λ (s : Option Step). is_start s step) (sym same) ∙ is in
          let w = witness (λ (row : Row). is_in_state state row && row.step.0 == step) rows (index.started.at_row state step here) in
          let both = and_parts (is_in_state state w.it) (w.it.step.0 == step) w.passes in
          elim (cases_Bool (is_of nav w.it)) [
            | inl mine ↦
                absurd (false≢true (
                sym (none_passes (λ (r : Row). is_in_state state r && is_start (start_of state parts.starts.entries) r.step.0) gone stays_ w.it (IsIn-into_filter (is_of nav) rows w.it w.is_in mine))
                ∙ and_from (is_in_state state w.it) (is_start (start_of state parts.starts.entries) w.it.step.0) both.0 (ap (is_start (start_of state parts.starts.entries)) (eqb-true w.it.step.0 step both.1) ∙ here)))
            | inr isnt ↦ IsIn-into_filter (λ (r : Row). not (is_of nav r)) rows w.it w.is_in (ap not isnt) (λ (row : Row). is_in_state state row && row.step.0 == step) w.passes
          ]

  -- ---- the used steps

  module _ (counts : List (Group × ℕ)) (are : AreCounted counts left) where
    -- a row that stays stands at the step
    abbrev has_left : ℕ → Bool
    has_left step = list_any (λ (row : Row). row.step.0 == step) left

    at_step : (step : Step) → nat_lt 0 (count_of (At step) counts) ≡ has_left step.0
    at_step step = ap (nat_lt 0) (are (At step)) ∙ any_counted (is_in (At step)) left

    unused_left : (step : ℕ) → has_left step ≡ true → is_unused counts gone step ≡ false
    unused_left step has =
        list_any-none (λ (row : Row). row.step.0 == step && not (nat_lt 0 (count_of (At row.step) counts))) gone (λ row goes. none row (row.step.0 == step) refl)
      where
        none : (row : Row) → (b : Bool) → (row.step.0 == step) ≡ b → (row.step.0 == step && not (nat_lt 0 (count_of (At row.step) counts))) ≡ false
        none row true is = ap (λ b. b && not (nat_lt 0 (count_of (At row.step) counts))) is ∙ ap not (at_step row.step ∙ ap has_left (eqb-true row.step.0 step is) ∙ has)
        none row false isnt = ap (λ b. b && not (nat_lt 0 (count_of (At row.step) counts))) isnt

    used_left : (step : ℕ) → list_any (λ (row : Row). row.step.0 == step) rows ≡ true → is_unused counts gone step ≡ false → has_left step ≡ true
    used_left step any used =
        let w = witness (λ (row : Row). row.step.0 == step) rows any in
        elim (cases_Bool (is_of nav w.it)) [
          | inl mine ↦
              let none = none_passes (λ (row : Row). row.step.0 == step && not (nat_lt 0 (count_of (At row.step) counts))) gone used w.it (IsIn-into_filter (is_of nav) rows w.it w.is_in mine) in
              ap has_left (sym (eqb-true w.it.step.0 step w.passes)) ∙ sym (at_step w.it.step)
              ∙ was_not (nat_lt 0 (count_of (At w.it.step) counts)) (sym (ap (λ b. b && not (nat_lt 0 (count_of (At w.it.step) counts))) w.passes) ∙ none)
          | inr isnt ↦ IsIn-into_filter (λ (r : Row). not (is_of nav r)) rows w.it w.is_in (ap not isnt) (λ (row : Row). row.step.0 == step) w.passes
        ]

    left_any : (step : ℕ) → has_left step ≡ true → list_any (λ (row : Row). row.step.0 == step) rows ≡ true
    left_any step has =
        let w = witness (λ (row : Row). row.step.0 == step) left has in
        left_part w.it w.is_in (λ (row : Row). row.step.0 == step) w.passes

    below_left : list_any (λ (row : Row). nat_le 4294967295 row.step.0) left ≡ false
    below_left = list_any-none (λ (row : Row). nat_le 4294967295 row.step.0) left (λ row there. none_passes (λ (r : Row). nat_le 4294967295 r.step.0) rows index.kept.below row (left_part row there))

    pub leaf_used : filter (λ n. not (is_unused counts gone n)) parts.used.items ≡ used_steps left
    leaf_used =
        same_numbers (filter (λ n. not (is_unused counts gone n)) parts.used.items) (used_steps left)
        (ascending_filter (λ n. n) (λ n. not (is_unused counts gone n)) parts.used.items (used_ascend (history_in parts) parts.used.items index.kept))
        (ascending_from 0 4294967295 (used_steps left) (used_steps-ascend 4294967295 left below_left))
        (λ step.
        list_any-filter (λ n. n == step) (λ n. not (is_unused counts gone n)) parts.used.items
        ∙ ap (list_any (λ n. not (is_unused counts gone n) && n == step)) index.kept.used
        ∙ used_steps-any (λ n. not (is_unused counts gone n) && n == step) rows
        ∙ same step (list_any (λ (row : Row). not (is_unused counts gone row.step.0) && row.step.0 == step) rows) refl (has_left step) refl
        ∙ sym (used_steps-any (λ n. n == step) left))
      where
        goes_on : (step : ℕ) → list_any (λ (row : Row). not (is_unused counts gone row.step.0) && row.step.0 == step) rows ≡ true → has_left step ≡ true
        goes_on step any =
            let w = witness (λ (row : Row). not (is_unused counts gone row.step.0) && row.step.0 == step) rows any in
            let both = and_parts (not (is_unused counts gone w.it.step.0)) (w.it.step.0 == step) w.passes in
            used_left step (w.is_in (λ (row : Row). row.step.0 == step) both.1) (ap (is_unused counts gone) (sym (eqb-true w.it.step.0 step both.1)) ∙ not_true (is_unused counts gone w.it.step.0) both.0)
          where
            not_true : (b : Bool) → not b ≡ true → b ≡ false
            not_true true is = absurd (false≢true is)
            not_true false is = refl

        comes_from : (step : ℕ) → has_left step ≡ true → list_any (λ (row : Row). not (is_unused counts gone row.step.0) && row.step.0 == step) rows ≡ true
        comes_from step has =
            let w = witness (λ (row : Row). row.step.0 == step) rows (left_any step has) in
            w.is_in (λ (row : Row). not (is_unused counts gone row.step.0) && row.step.0 == step)
            (and_from (not (is_unused counts gone w.it.step.0)) (w.it.step.0 == step) (ap not (ap (is_unused counts gone) (eqb-true w.it.step.0 step w.passes) ∙ unused_left step has)) w.passes)

        same : (step : ℕ) (a : Bool) → list_any (λ (row : Row). not (is_unused counts gone row.step.0) && row.step.0 == step) rows ≡ a → (b : Bool) → has_left step ≡ b → list_any (λ (row : Row). not (is_unused counts gone row.step.0) && row.step.0 == step) rows ≡ has_left step
        same step true is b has = is ∙ sym (goes_on step is)
        same step false isnt true has = absurd (false≢true (sym isnt ∙ comes_from step has))
        same step false isnt false hasnt = isnt ∙ sym hasnt
