-- The tracks as a whole: one of them changed, one more, and what they are as one list of rows.
use Rattle.std.proofs.Common.{◌≡◌, ◌≢◌, ℕ, suc, zero, add-one, ◌+◌, ◌-◌, ◌<◌, ◌≤◌, Bool, true, false, not, ◌&&◌, ◌||◌, List, [], ◌∷◌, ◌++◌, length, refl, ap, sym, ◌∙◌, filter, take, drop, get_or, arith, subst, append_assoc, Some}
use Rattle.std.specs.Prelude.{nat_le, nat_lt, vec_len, vec_capacity, slice_get, slice_set, ◌==◌}
use Rattle.std.specs.List.{list_any}
use Rattle.std.proofs.lemmas.Bool.{false≢true, true≢false, and_from, eq-eqb, ne_eqb, eqb-true, lt-ltb, ltb-true, leb-false, or_parts}
use Rattle.std.proofs.Math.Seq.{take-suc}
use Rattle.std.proofs.lemmas.List.{take-append-drop, set_split, append-nil}
use Rattle.std.proofs.lemmas.List.Elements.{filter-append}
use Rattle.std.proofs.lemmas.List.Concat.{flat_map-append}
use Rattle.std.proofs.lemmas.List.Folds.{list_any-append}
use Rattle.std.proofs.lemmas.Option.{none-some, get_or_from_slice_get}
use Rattle.tab_ids.specs.declared.NavId.{NavId}
use Rattle.log_model.specs.declared.row.Row.{Row}
use Rattle.log_model.specs.History.{is_of}
use Rattle.log_model.specs.Order.{is_before, with_row, ordered}
use Rattle.history_laws.proofs.Members.{or_right, or_none, some_same}
use Rattle.entry_store.specs.Kept.{PutsRow}
use Rattle.step_index.specs.declared.track.Track.{Track}
use Rattle.step_index.specs.Ascending.{IsAscending}
use Rattle.step_index.specs.Tracks.{nav_of, step_of, rows_of, IsTrack, AreTracks, IsTrackAt, IsGap, is_from}
use Rattle.step_index.specs.Cut.{HasRowRoom}
use Rattle.step_index.proofs.Searching.{not_in, none_at}

-- ---- lists

pub was_not : (b : Bool) → not b ≡ false → b ≡ true
was_not true is = refl
was_not false is = absurd (true≢false is)

pub any_insert : {A : Type 0} (p : A → Bool) (front back : List A) (x : A) → list_any p (front ++ x ∷ back) ≡ (p x || list_any p (front ++ back))
any_insert p [] back x = refl
any_insert p (y ∷ front) back x =
    ap (λ b. p y || b) (any_insert p front back x) ∙ moves (p y) (p x) (list_any p (front ++ back))
  where
    moves : (a b c : Bool) → (a || (b || c)) ≡ (b || (a || c))
    moves true true c = refl
    moves true false c = refl
    moves false true c = refl
    moves false false c = refl

pub any_front : {A : Type 0} (p : A → Bool) (front back : List A) → list_any p (front ++ back) ≡ false → list_any p front ≡ false
any_front p front back none = (or_parts (list_any p front) (list_any p back) (sym (list_any-append p front back) ∙ none)).0

pub any_back : {A : Type 0} (p : A → Bool) (front back : List A) → list_any p (front ++ back) ≡ false → list_any p back ≡ false
any_back p front back none = (or_parts (list_any p front) (list_any p back) (sym (list_any-append p front back) ∙ none)).1

-- an item behind lower ones
pub ascending_push : {A : Type 0} (number : A → ℕ) (items : List A) (item : A) → IsAscending number items → list_any (λ other. nat_le (number item) (number other)) items ≡ false → IsAscending number (items ++ item ∷ [])
ascending_push number [] item sorted lower = (refl, tt)
ascending_push number (first ∷ items) item sorted lower =
    let both = or_parts (nat_le (number item) (number first)) (list_any (λ other. nat_le (number item) (number other)) items) lower in (
      list_any-append (λ other. nat_le (number other) (number first)) items (item ∷ [])
          ∙ or_none _ _ sorted.0 (or_none _ _ both.0 refl),
      ascending_push number items item sorted.1 both.1,
    )

-- ---- the navigables' numbers

pub tracks_ascend : (tracks : List Track) → AreTracks tracks → IsAscending nav_of tracks
tracks_ascend [] are = tt
tracks_ascend (track ∷ tracks) are = (are.0, tracks_ascend tracks are.1.1)

-- the tracks cut at a place
pub split_at : (tracks : List Track) (i : ℕ) (track : Track) → slice_get tracks i ≡ Some track → tracks ≡ take i tracks ++ track ∷ drop (suc i) tracks
split_at [] i track here = absurd (none-some track here)
split_at (first ∷ tracks) zero track here = ap (λ (t : Track). t ∷ tracks) (some_same first track here)
split_at (first ∷ tracks) (suc i) track here = ap (λ rest. first ∷ rest) (split_at tracks i track here)

-- one in the place of another of the same navigable
pub tracks_swap : (front : List Track) (old new : Track) (back : List Track) → new.nav.0 ≡ old.nav.0 → IsTrack new.nav new.rows.items → AreTracks (front ++ old ∷ back) → AreTracks (front ++ new ∷ back)
tracks_swap [] old new back same is are = (ap (λ n. list_any (λ (other : Track). nat_le other.nav.0 n) back) same ∙ are.0, (is, are.1.1))
tracks_swap (track ∷ front) old new back same is are = (
  any_insert (λ (other : Track). nat_le other.nav.0 track.nav.0) front back new
      ∙ ap (λ n. nat_le n track.nav.0 || list_any (λ (other : Track). nat_le other.nav.0 track.nav.0) (front ++ back)) same
      ∙ sym (any_insert (λ (other : Track). nat_le other.nav.0 track.nav.0) front back old)
      ∙ are.0,
  (are.1.0, tracks_swap front old new back same is are.1.1),
)

-- one more at its place
tracks_put : (front : List Track) (new : Track) (back : List Track) → IsTrack new.nav new.rows.items → list_any (λ (other : Track). nat_le new.nav.0 other.nav.0) front ≡ false → list_any (λ (other : Track). nat_le other.nav.0 new.nav.0) back ≡ false → AreTracks (front ++ back) → AreTracks (front ++ new ∷ back)
tracks_put [] new back is lower higher are = (higher, (is, are))
tracks_put (track ∷ front) new back is lower higher are =
    let both = or_parts (nat_le new.nav.0 track.nav.0) (list_any (λ (other : Track). nat_le new.nav.0 other.nav.0) front) lower in (
      any_insert (λ (other : Track). nat_le other.nav.0 track.nav.0) front back new
          ∙ or_none _ _ both.0 are.0,
      (are.1.0, tracks_put front new back is both.1 higher are.1.1),
    )

-- each of them has its own rows
pub track_is : (tracks : List Track) (i : ℕ) (track : Track) → AreTracks tracks → slice_get tracks i ≡ Some track → IsTrack track.nav track.rows.items
track_is [] i track are here = absurd (none-some track here)
track_is (first ∷ tracks) zero track are here = subst (λ (t : Track). IsTrack t.nav t.rows.items) (some_same first track here) are.1.0
track_is (first ∷ tracks) (suc i) track are here = track_is tracks i track are.1.1 here

-- a test that no row passes, none of the track does
pub track_part : (test : Row → Bool) (tracks : List Track) (i : ℕ) (track : Track) → slice_get tracks i ≡ Some track → list_any test (rows_of tracks) ≡ false → list_any test track.rows.items ≡ false
track_part test [] i track here none = absurd (none-some track here)
track_part test (first ∷ tracks) zero track here none =
    subst (λ (t : Track). list_any test t.rows.items ≡ false) (some_same first track here) (any_front test first.rows.items (rows_of tracks) none)
track_part test (first ∷ tracks) (suc i) track here none = track_part test tracks i track here (any_back test first.rows.items (rows_of tracks) none)

-- the rows of one track more
pub rows_next : (tracks : List Track) (i : ℕ) (track : Track) → i < length tracks → track ≡ get_or tracks i track → rows_of (take (i + 1) tracks) ≡ rows_of (take i tracks) ++ track.rows.items
rows_next tracks i track within is =
    rw add-one (
    ap rows_of (take-suc tracks i track within)
    ∙ flat_map-append (λ (t : Track). t.rows.items) (take i tracks) (get_or tracks i track ∷ [])
    ∙ ap (λ (rows : List Row). rows_of (take i tracks) ++ rows) (append-nil (get_or tracks i track).rows.items ∙ ap (λ (t : Track). t.rows.items) (sym is)))

-- a test that a row of a track passes, one of all passes
pub track_any : (test : Row → Bool) (tracks : List Track) (i : ℕ) (track : Track) → slice_get tracks i ≡ Some track → list_any test track.rows.items ≡ true → list_any test (rows_of tracks) ≡ true
track_any test [] i track here any = absurd (none-some track here)
track_any test (first ∷ tracks) zero track here any =
    list_any-append test first.rows.items (rows_of tracks) ∙ ap (λ b. b || list_any test (rows_of tracks)) (ap (λ (t : Track). list_any test t.rows.items) (some_same first track here) ∙ any)
track_any test (first ∷ tracks) (suc i) track here any =
    list_any-append test first.rows.items (rows_of tracks) ∙ or_right (list_any test first.rows.items) (list_any test (rows_of tracks)) (track_any test tracks i track here any)

-- ---- one row more

own_row : (rows : List Row) (nav : NavId) (step : ℕ) (own : NavId) → own.0 ≡ nav.0 → list_any (λ (row : Row). not (is_of own row)) rows ≡ false → list_any (is_from nav step) rows ≡ false → list_any (λ (row : Row). nat_le step row.step.0) rows ≡ false
own_row [] nav step own same mine none = refl
own_row (row ∷ rows) nav step own same mine none =
    let both = or_parts (not (is_of own row)) (list_any (λ (r : Row). not (is_of own r)) rows) mine in
    let from = or_parts (is_of nav row && nat_le step row.step.0) (list_any (is_from nav step) rows) none in
    let is : is_of nav row ≡ true = eq-eqb row.nav.0 nav.0 (eqb-true row.nav.0 own.0 (was_not (is_of own row) both.0) ∙ same) in
    or_none _ _ (sym (ap (λ b. b && nat_le step row.step.0) is) ∙ from.0) (own_row rows nav step own same both.1 from.1)

-- a row behind the others of its navigable
pub track_push : (rows : List Row) (own : NavId) (row : Row) → own.0 ≡ row.nav.0 → IsTrack own rows → list_any (is_from row.nav row.step.0) rows ≡ false → IsTrack own (rows ++ row ∷ [])
track_push rows own row same is last = (
  list_any-append (λ (r : Row). not (is_of own r)) rows (row ∷ []) ∙ or_none _ _ is.0 (or_none _ _ (ap not (eq-eqb row.nav.0 own.0 (sym same))) refl),
  ascending_push step_of rows row is.1 (own_row rows row.nav row.step.0 own same is.0 last),
)

-- the first row of a navigable
pub track_one : (row : Row) → IsTrack row.nav (row ∷ [])
track_one row = (or_none _ _ (ap not (eq-eqb row.nav.0 row.nav.0 refl)) refl, (refl, tt))

pub rows_split : (front : List Track) (track : Track) (back : List Track) → rows_of (front ++ track ∷ back) ≡ rows_of front ++ (track.rows.items ++ rows_of back)
rows_split front track back = flat_map-append (λ (t : Track). t.rows.items) front (track ∷ back)

module _ (tracks : List Track) (at : ℕ) (are : AreTracks tracks) where
  -- one track changed
  module _ (nav : NavId) (place : IsTrackAt tracks nav at) (old new : Track) (is : old ≡ get_or tracks at old) (same : new.nav ≡ old.nav) where
    abbrev front : List Track
    front = take at tracks

    abbrev back : List Track
    back = drop (suc at) tracks

    it_is : old ≡ place.it
    it_is = is ∙ get_or_from_slice_get tracks at place.it old place.here

    were : tracks ≡ front ++ old ∷ back
    were = split_at tracks at old (place.here ∙ ap (λ (t : Track). Some t) (sym it_is))

    become : slice_set tracks at new ≡ front ++ new ∷ back
    become = set_split tracks at new place.within

    pub behind_same : new.rows.items ≡ old.rows.items → rows_of (slice_set tracks at new) ≡ rows_of tracks
    behind_same rows =
        ap rows_of become ∙ rows_split front new back
        ∙ ap (λ (mine : List Row). rows_of front ++ (mine ++ rows_of back)) rows
        ∙ sym (ap rows_of were ∙ rows_split front old back)

    swapped : IsTrack new.nav new.rows.items → AreTracks (slice_set tracks at new)
    swapped is_track =
        subst AreTracks (sym become) (tracks_swap front old new back (ap (λ (n : NavId). n.0) same) is_track (subst AreTracks were are))

    old_is : IsTrack old.nav old.rows.items
    old_is = track_is tracks at old are (place.here ∙ ap (λ (t : Track). Some t) (sym it_is))

    pub behind_kept : new.rows.items ≡ old.rows.items → AreTracks (slice_set tracks at new)
    behind_kept rows = swapped (subst (λ (n : NavId). IsTrack n new.rows.items) (sym same) (subst (λ (r : List Row). IsTrack old.nav r) (sym rows) old_is))

    pub behind_tracks : (row : Row) → nav ≡ row.nav → new.rows.items ≡ old.rows.items ++ row ∷ [] → list_any (is_from row.nav row.step.0) (rows_of tracks) ≡ false → AreTracks (slice_set tracks at new)
    behind_tracks row mine rows last =
        swapped (subst (λ (n : NavId). IsTrack n new.rows.items) (sym same) (subst (λ (r : List Row). IsTrack old.nav r) (sym rows)
        (track_push old.rows.items old.nav row (ap (λ (t : Track). t.nav.0) it_is ∙ place.is_navs ∙ ap (λ (n : NavId). n.0) mine) old_is
        (track_part (is_from row.nav row.step.0) tracks at old (place.here ∙ ap (λ (t : Track). Some t) (sym it_is)) last))))

    pub behind_puts : (row : Row) → new.rows.items ≡ old.rows.items ++ row ∷ [] → PutsRow (rows_of tracks) row (rows_of (slice_set tracks at new))
    behind_puts row rows = record {
      front = rows_of front ++ old.rows.items;
      back = rows_of back;
      was = ap rows_of were ∙ rows_split front old back ∙ sym (append_assoc (rows_of front) old.rows.items (rows_of back));
      is =
          ap rows_of become ∙ rows_split front new back
          ∙ ap (λ (mine : List Row). rows_of front ++ (mine ++ rows_of back)) rows
          ∙ ap (λ (rest : List Row). rows_of front ++ rest) (append_assoc old.rows.items (row ∷ []) (rows_of back))
          ∙ sym (append_assoc (rows_of front) old.rows.items (row ∷ rows_of back));
    }

    -- there is room for a row, and was made
    pub room_here : HasRowRoom nav tracks → vec_len old.rows < vec_capacity old.rows
    room_here room =
        let test = not_in (λ (t : Track). t.nav.0 == nav.0 && not (nat_lt (vec_len t.rows) (vec_capacity t.rows))) tracks at old (place.here ∙ ap (λ (t : Track). Some t) (sym it_is)) room in
        ltb-true (vec_len old.rows) (vec_capacity old.rows)
        (was_not (nat_lt (vec_len old.rows) (vec_capacity old.rows))
        (sym (ap (λ b. b && not (nat_lt (vec_len old.rows) (vec_capacity old.rows))) (eq-eqb old.nav.0 nav.0 (ap (λ (t : Track). t.nav.0) it_is ∙ place.is_navs))) ∙ test))

    pub room_made : vec_len new.rows < vec_capacity new.rows → HasRowRoom nav (slice_set tracks at new)
    room_made room =
        ap (list_any full) become
        ∙ any_insert full front back new
        ∙ or_none _ _ (ap (λ b. new.nav.0 == nav.0 && not b) (lt-ltb (vec_len new.rows) (vec_capacity new.rows) room) ∙ nothing (new.nav.0 == nav.0))
        (others front back old (ap (λ (t : Track). t.nav.0) it_is ∙ place.is_navs) (subst AreTracks were are))
      where
        full : Track → Bool
        full t = t.nav.0 == nav.0 && not (nat_lt (vec_len t.rows) (vec_capacity t.rows))

        nothing : (b : Bool) → (b && false) ≡ false
        nothing true = refl
        nothing false = refl

        other_full : (t : Track) → t.nav.0 ≢ nav.0 → (t.nav.0 == nav.0 && not (nat_lt (vec_len t.rows) (vec_capacity t.rows))) ≡ false
        other_full t isnt = ap (λ b. b && not (nat_lt (vec_len t.rows) (vec_capacity t.rows))) (ne_eqb t.nav.0 nav.0 isnt)

        above : (ts : List Track) (low : ℕ) → nav.0 ≡ low → list_any (λ (other : Track). nat_le other.nav.0 low) ts ≡ false → list_any (λ (t : Track). t.nav.0 == nav.0 && not (nat_lt (vec_len t.rows) (vec_capacity t.rows))) ts ≡ false
        above [] low is_ none = refl
        above (t ∷ ts) low is_ none =
            let both = or_parts (nat_le t.nav.0 low) (list_any (λ (other : Track). nat_le other.nav.0 low) ts) none in
            or_none _ _ (other_full t (λ e. omega (arith, e, is_, leb-false t.nav.0 low both.0))) (above ts low is_ both.1)

        others : (fs bs : List Track) (mid : Track) → mid.nav.0 ≡ nav.0 → AreTracks (fs ++ mid ∷ bs) → list_any (λ (t : Track). t.nav.0 == nav.0 && not (nat_lt (vec_len t.rows) (vec_capacity t.rows))) (fs ++ bs) ≡ false
        others [] bs mid is_ ts = above bs mid.nav.0 (sym is_) ts.0
        others (f ∷ fs) bs mid is_ ts =
            let mid_later : f.nav.0 < mid.nav.0 = leb-false mid.nav.0 f.nav.0 (or_parts (nat_le mid.nav.0 f.nav.0) (list_any (λ (other : Track). nat_le other.nav.0 f.nav.0) (fs ++ bs)) (sym (any_insert (λ (other : Track). nat_le other.nav.0 f.nav.0) fs bs mid) ∙ ts.0)).0 in
            or_none _ _ (other_full f (λ e. omega (arith, e, is_, mid_later))) (others fs bs mid is_ ts.1.1)

  -- the first of its navigable
  module _ (row : Row) (gap : IsGap tracks row.nav at) (new : Track) (nav : new.nav ≡ row.nav) (rows : new.rows.items ≡ row ∷ []) where
    pub first_tracks : AreTracks (take at tracks ++ new ∷ drop at tracks)
    first_tracks =
        tracks_put (take at tracks) new (drop at tracks)
        (subst (λ (n : NavId). IsTrack n new.rows.items) (sym nav) (subst (λ (r : List Row). IsTrack row.nav r) (sym rows) (track_one row)))
        (ap (λ (n : NavId). list_any (λ (other : Track). nat_le n.0 other.nav.0) (take at tracks)) nav ∙ gap.lower)
        (ap (λ (n : NavId). list_any (λ (other : Track). nat_le other.nav.0 n.0) (drop at tracks)) nav ∙ gap.higher)
        (subst AreTracks (sym (take-append-drop at tracks)) are)

    pub first_puts : PutsRow (rows_of tracks) row (rows_of (take at tracks ++ new ∷ drop at tracks))
    first_puts = record {
      front = rows_of (take at tracks);
      back = rows_of (drop at tracks);
      was = ap rows_of (sym (take-append-drop at tracks)) ∙ flat_map-append (λ (t : Track). t.rows.items) (take at tracks) (drop at tracks);
      is = rows_split (take at tracks) new (drop at tracks) ∙ ap (λ (mine : List Row). rows_of (take at tracks) ++ (mine ++ rows_of (drop at tracks))) rows;
    }

-- ---- where a navigable would stand

-- where the last lower track isn't the navigable's, it has none
pub gap_behind : (tracks : List Track) (nav : NavId) (upto : ℕ) (last : Track) → AreTracks tracks → upto ≤ length tracks → 0 < upto → slice_get tracks (upto - 1) ≡ Some last → last.nav.0 ≢ nav.0 → list_any (λ (track : Track). nat_lt nav.0 track.nav.0) (take upto tracks) ≡ false → list_any (λ (track : Track). nat_le track.nav.0 nav.0) (drop upto tracks) ≡ false → IsGap tracks nav upto
gap_behind tracks nav upto last are within some here other lower higher =
    let e : upto ≡ suc (upto - 1) = omega (arith, some) in
    record {
      within = within;
      lower =
          subst (λ (n : ℕ). list_any (λ (track : Track). nat_le nav.0 track.nav.0) (take n tracks) ≡ false) (sym e)
          (none_at nav_of tracks (upto - 1) last nav.0 (tracks_ascend tracks are) here (subst (λ (n : ℕ). list_any (λ (track : Track). nat_lt nav.0 track.nav.0) (take n tracks) ≡ false) e lower) other);
      higher = higher;
    }

pub gap_first : (tracks : List Track) (nav : NavId) (upto : ℕ) → upto ≡ 0 → list_any (λ (track : Track). nat_le track.nav.0 nav.0) (drop upto tracks) ≡ false → IsGap tracks nav upto
gap_first tracks nav upto none higher = record {
  within = omega (arith, none);
  lower = subst (λ (n : ℕ). list_any (λ (track : Track). nat_le nav.0 track.nav.0) (take n tracks) ≡ false) (sym none) refl;
  higher = higher;
}

-- ---- one navigable's rows among all

others_rows : (rows : List Row) (own nav : NavId) → own.0 ≢ nav.0 → list_any (λ (row : Row). not (is_of own row)) rows ≡ false → filter (is_of nav) rows ≡ []
others_rows [] own nav apart mine = refl
others_rows (row ∷ rows) own nav apart mine =
    let both = or_parts (not (is_of own row)) (list_any (λ (r : Row). not (is_of own r)) rows) mine in
    rw (ne_eqb row.nav.0 nav.0 (λ same. apart (sym (eqb-true row.nav.0 own.0 (was_not (is_of own row) both.0)) ∙ same))) (others_rows rows own nav apart both.1)

own_rows : (rows : List Row) (own nav : NavId) → own.0 ≡ nav.0 → list_any (λ (row : Row). not (is_of own row)) rows ≡ false → filter (is_of nav) rows ≡ rows
own_rows [] own nav same mine = refl
own_rows (row ∷ rows) own nav same mine =
    let both = or_parts (not (is_of own row)) (list_any (λ (r : Row). not (is_of own r)) rows) mine in
    rw (eq-eqb row.nav.0 nav.0 (eqb-true row.nav.0 own.0 (was_not (is_of own row) both.0) ∙ same)) (ap (λ rest. row ∷ rest) (own_rows rows own nav same both.1))

-- none of a navigable that has no track
pub none_of : (tracks : List Track) (nav : NavId) → AreTracks tracks → list_any (λ (track : Track). track.nav.0 == nav.0) tracks ≡ false → filter (is_of nav) (rows_of tracks) ≡ []
none_of [] nav are none = refl
none_of (track ∷ tracks) nav are none =
    let both = or_parts (track.nav.0 == nav.0) (list_any (λ (t : Track). t.nav.0 == nav.0) tracks) none in
    filter-append (is_of nav) track.rows.items (rows_of tracks)
    ∙ ap (λ (rows : List Row). rows ++ filter (is_of nav) (rows_of tracks)) (others_rows track.rows.items track.nav nav (apart both.0) are.1.0.0)
    ∙ none_of tracks nav are.1.1 both.1
  where
    apart : (track.nav.0 == nav.0) ≡ false → track.nav.0 ≢ nav.0
    apart isnt same = false≢true (sym isnt ∙ eq-eqb track.nav.0 nav.0 same)

-- lower than all others
later_than : (first : Track) (tracks : List Track) (nav : NavId) → first.nav.0 ≡ nav.0 → list_any (λ (other : Track). nat_le other.nav.0 first.nav.0) tracks ≡ false → list_any (λ (track : Track). track.nav.0 == nav.0) tracks ≡ false
later_than first [] nav same none = refl
later_than first (track ∷ tracks) nav same none =
    let both = or_parts (nat_le track.nav.0 first.nav.0) (list_any (λ (other : Track). nat_le other.nav.0 first.nav.0) tracks) none in
    or_none _ _ (ne_eqb track.nav.0 nav.0 (λ e. omega (arith, e, same, leb-false track.nav.0 first.nav.0 both.0))) (later_than first tracks nav same both.1)

pub rows_at : (tracks : List Track) (nav : NavId) (i : ℕ) (track : Track) → AreTracks tracks → slice_get tracks i ≡ Some track → track.nav.0 ≡ nav.0 → filter (is_of nav) (rows_of tracks) ≡ track.rows.items
rows_at [] nav i track are here is_navs = absurd (none-some track here)
rows_at (first ∷ tracks) nav zero track are here is_navs =
    let same : first ≡ track = some_same first track here in
    let mine : first.nav.0 ≡ nav.0 = ap (λ (t : Track). t.nav.0) same ∙ is_navs in
    filter-append (is_of nav) first.rows.items (rows_of tracks)
    ∙ ap (λ (rows : List Row). filter (is_of nav) first.rows.items ++ rows) (none_of tracks nav are.1.1 (later_than first tracks nav mine are.0))
    ∙ append-nil (filter (is_of nav) first.rows.items)
    ∙ own_rows first.rows.items first.nav nav mine are.1.0.0
    ∙ ap (λ (t : Track). t.rows.items) same
rows_at (first ∷ tracks) nav (suc i) track are here is_navs =
    filter-append (is_of nav) first.rows.items (rows_of tracks)
    ∙ ap (λ (rows : List Row). rows ++ filter (is_of nav) (rows_of tracks)) (others_rows first.rows.items first.nav nav apart are.1.0.0)
    ∙ rows_at tracks nav i track are.1.1 here is_navs
  where
    apart : first.nav.0 ≢ nav.0
    apart same = omega (arith, same, is_navs, leb-false track.nav.0 first.nav.0 (not_in (λ (other : Track). nat_le other.nav.0 first.nav.0) tracks i track here are.0))

gap_any : (front back : List Track) (nav : NavId) → list_any (λ (other : Track). nat_le nav.0 other.nav.0) front ≡ false → list_any (λ (other : Track). nat_le other.nav.0 nav.0) back ≡ false → list_any (λ (track : Track). track.nav.0 == nav.0) (front ++ back) ≡ false
gap_any [] [] nav lower higher = refl
gap_any [] (track ∷ back) nav lower higher =
    let both = or_parts (nat_le track.nav.0 nav.0) (list_any (λ (other : Track). nat_le other.nav.0 nav.0) back) higher in
    or_none _ _ (ne_eqb track.nav.0 nav.0 (λ e. omega (arith, e, leb-false track.nav.0 nav.0 both.0))) (gap_any [] back nav lower both.1)
gap_any (track ∷ front) back nav lower higher =
    let both = or_parts (nat_le nav.0 track.nav.0) (list_any (λ (other : Track). nat_le nav.0 other.nav.0) front) lower in
    or_none _ _ (ne_eqb track.nav.0 nav.0 (λ e. omega (arith, e, leb-false nav.0 track.nav.0 both.0))) (gap_any front back nav both.1 higher)

pub rows_in_gap : (tracks : List Track) (nav : NavId) (at : ℕ) → AreTracks tracks → IsGap tracks nav at → filter (is_of nav) (rows_of tracks) ≡ []
rows_in_gap tracks nav at are gap =
    none_of tracks nav are (ap (list_any (λ (track : Track). track.nav.0 == nav.0)) (sym (take-append-drop at tracks)) ∙ gap_any (take at tracks) (drop at tracks) nav gap.lower gap.higher)

-- ---- they are in order

pub with_row-front : (row : Row) (rows : List Row) → list_any (λ (other : Row). not (is_before row other)) rows ≡ false → with_row row rows ≡ row ∷ rows
with_row-front row [] all = refl
with_row-front row (first ∷ rows) all =
    let both = or_parts (not (is_before row first)) (list_any (λ (other : Row). not (is_before row other)) rows) all in
    rw (was_not (is_before row first) both.0) refl

-- each later row of the navigable, and each of a later navigable, stands behind
before_own : (row : Row) (own : NavId) (rows : List Row) → row.nav.0 ≡ own.0 → list_any (λ (other : Row). not (is_of own other)) rows ≡ false → list_any (λ (other : Row). nat_le other.step.0 row.step.0) rows ≡ false → list_any (λ (other : Row). not (is_before row other)) rows ≡ false
before_own row own [] mine all later = refl
before_own row own (next ∷ rows) mine all later =
    let both = or_parts (not (is_of own next)) (list_any (λ (other : Row). not (is_of own other)) rows) all in
    let steps = or_parts (nat_le next.step.0 row.step.0) (list_any (λ (other : Row). nat_le other.step.0 row.step.0) rows) later in
    or_none _ _
    (ap not (or_right (nat_lt row.nav.0 next.nav.0) (row.nav.0 == next.nav.0 && nat_lt row.step.0 next.step.0)
    (and_from _ _ (eq-eqb row.nav.0 next.nav.0 (mine ∙ sym (eqb-true next.nav.0 own.0 (was_not (is_of own next) both.0)))) (lt-ltb row.step.0 next.step.0 (leb-false next.step.0 row.step.0 steps.0)))))
    (before_own row own rows mine both.1 steps.1)

before_track : (row : Row) (own : NavId) (rows : List Row) → row.nav.0 < own.0 → list_any (λ (other : Row). not (is_of own other)) rows ≡ false → list_any (λ (other : Row). not (is_before row other)) rows ≡ false
before_track row own [] lower all = refl
before_track row own (next ∷ rows) lower all =
    let both = or_parts (not (is_of own next)) (list_any (λ (other : Row). not (is_of own other)) rows) all in
    or_none _ _
    (ap not (ap (λ b. b || (row.nav.0 == next.nav.0 && nat_lt row.step.0 next.step.0)) (lt-ltb row.nav.0 next.nav.0 (omega (arith, lower, eqb-true next.nav.0 own.0 (was_not (is_of own next) both.0))))))
    (before_track row own rows lower both.1)

before_tracks : (row : Row) (tracks : List Track) → AreTracks tracks → list_any (λ (other : Track). nat_le other.nav.0 row.nav.0) tracks ≡ false → list_any (λ (other : Row). not (is_before row other)) (rows_of tracks) ≡ false
before_tracks row [] are lower = refl
before_tracks row (track ∷ tracks) are lower =
    let both = or_parts (nat_le track.nav.0 row.nav.0) (list_any (λ (other : Track). nat_le other.nav.0 row.nav.0) tracks) lower in
    list_any-append (λ (other : Row). not (is_before row other)) track.rows.items (rows_of tracks)
    ∙ or_none _ _ (before_track row track.nav track.rows.items (leb-false track.nav.0 row.nav.0 both.0) are.1.0.0) (before_tracks row tracks are.1.1 both.1)

ordered_track : (own : NavId) (rows : List Row) (tracks : List Track) → AreTracks tracks → list_any (λ (other : Track). nat_le other.nav.0 own.0) tracks ≡ false → list_any (λ (row : Row). not (is_of own row)) rows ≡ false → IsAscending step_of rows → ordered (rows_of tracks) ≡ rows_of tracks → ordered (rows ++ rows_of tracks) ≡ rows ++ rows_of tracks
ordered_track own [] tracks are lower mine ascend rest = rest
ordered_track own (row ∷ rows) tracks are lower mine ascend rest =
    let both = or_parts (not (is_of own row)) (list_any (λ (r : Row). not (is_of own r)) rows) mine in
    let is : row.nav.0 ≡ own.0 = eqb-true row.nav.0 own.0 (was_not (is_of own row) both.0) in
    ap (with_row row) (ordered_track own rows tracks are lower both.1 ascend.1 rest)
    ∙ with_row-front row (rows ++ rows_of tracks)
    (list_any-append (λ (other : Row). not (is_before row other)) rows (rows_of tracks)
    ∙ or_none _ _ (before_own row own rows is both.1 ascend.0)
    (before_tracks row tracks are (ap (λ n. list_any (λ (other : Track). nat_le other.nav.0 n) tracks) is ∙ lower)))

pub tracks_ordered : (tracks : List Track) → AreTracks tracks → ordered (rows_of tracks) ≡ rows_of tracks
tracks_ordered [] are = refl
tracks_ordered (track ∷ tracks) are =
    ordered_track track.nav track.rows.items tracks are.1.1 are.0 are.1.0.0 are.1.0.1 (tracks_ordered tracks are.1.1)
