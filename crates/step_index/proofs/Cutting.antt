-- The forward session history cut off: what stays of each track, of the notes and of the used steps.
use Rattle.std.proofs.Common.{◌≡◌, ℕ, zero, suc, ◌+◌, ◌<◌, ◌≤◌, Bool, true, false, not, ◌&&◌, ◌||◌, cond, List, [], ◌∷◌, ◌++◌, length, refl, ap, sym, ◌∙◌, filter, take, drop, set, get_or, add-one, drop-cons, arith, inl, inr, subst, Option, Some, None}
use Rattle.std.specs.Prelude.{◌==◌, nat_le, nat_lt, IfSome, slice_get, vec_len, vec_capacity}
use Rattle.std.specs.List.{list_any}
use Rattle.std.specs.Option.{option_map_or}
use Rattle.std.proofs.Math.Seq.{take-suc, take-suc-set}
use Rattle.std.proofs.lemmas.Bool.{cases_Bool, cases_order, false≢true, true≢false, or_parts, and_parts, not-false, eqb-true, eq-eqb, ne_eqb, lt-ltb, le-ltb, lt-leb, le-leb, leb-true, leb-false}
use Rattle.std.proofs.Math.Bool.{or-false}
use Rattle.std.proofs.lemmas.List.{append-nil, drop-set-lt}
use Rattle.std.proofs.lemmas.List.Elements.{filter-append}
use Rattle.std.proofs.lemmas.List.Folds.{list_any-append}
use Rattle.std.proofs.lemmas.List.Concat.{flat_map-append}
use Rattle.std.proofs.lemmas.Option.{none-some}
use Rattle.tab_ids.specs.declared.NavId.{NavId}
use Rattle.tab_ids.specs.declared.StateId.{StateId}
use Rattle.tab_ids.specs.declared.Step.{Step}
use Rattle.tab_ids.specs.declared.EntryId.{EntryId}
use Rattle.log_model.specs.declared.row.Row.{Row}
use Rattle.log_model.specs.History.{History, same_entry, is_of, has_row, has_state, is_anchored, cleared, with_step, used_steps}
use Rattle.log_model.specs.Soundness.{is_entry, is_in_state, IsRooted}
use Rattle.history_laws.proofs.Members.{IsIn, IsIn-head, IsIn-tail, or_right, or_none, none_passes, list_any-none, IsIn-filter, IsIn-filter_passes, IsIn-into_filter, witness, filter-filter}
use Rattle.history_laws.proofs.Tidying.{tidied_times-same, owner_same}
use Rattle.entry_store.proofs.StepBounds.{used_steps-ascend}
use Rattle.step_index.specs.declared.noted.Place.{Place}
use Rattle.step_index.specs.declared.track.Track.{Track}
use Rattle.step_index.specs.Ascending.{IsAscending}
use Rattle.step_index.specs.Noted.{place_of, is_noted, AreNoted, NotesOne}
use Rattle.step_index.specs.Starts.{start_of, is_by, is_start, AreStarted}
use Rattle.step_index.specs.Tracks.{step_of, rows_of, IsTrack, AreTracks}
use Rattle.step_index.specs.Cut.{rows_upto, rows_past, NotesLess, IsCut, AreCut, has_rows, HasRowRoom, is_held, AreHeld}
use Rattle.step_index.proofs.Searching.{all_past}
use Rattle.step_index.proofs.Noting.{same_entry-turned}
use Rattle.step_index.proofs.Tracking.{was_not}
use Rattle.step_index.proofs.Looking.{ascending_from, has_row_some, has_row_none}

-- ---- notes

-- those of some rows, and then of others
pub notes_and_notes : (one two three : List (EntryId × Place)) (rows more : List Row) → NotesLess one rows two → NotesLess two more three → NotesLess one (rows ++ more) three
notes_and_notes one two three rows more first next entry =
    next entry
    ∙ ap (λ (p : Option Place). cond (list_any (is_entry entry) more) None p) (first entry)
    ∙ by_test (list_any (is_entry entry) rows) (list_any (is_entry entry) more)
    ∙ ap (λ b. cond b None (place_of entry one)) (sym (list_any-append (is_entry entry) rows more))
  where
    by_test : (a b : Bool) → cond b None (cond a None (place_of entry one)) ≡ cond (a || b) None (place_of entry one)
    by_test true true = refl
    by_test true false = refl
    by_test false true = refl
    by_test false false = refl

-- those of one row
pub notes_one : (old new : List (EntryId × Place)) (row : Row) → NotesOne old row.entry None new → NotesLess old (row ∷ []) new
notes_one old new row one entry =
    one entry ∙ ap (λ b. cond b None (place_of entry old)) (same_entry-turned entry row.entry ∙ sym (or-false (same_entry row.entry entry)))

-- the entries that stay are noted still
pub left_noted : (old : List (EntryId × Place)) (rows gone left : List Row) (new : List (EntryId × Place)) → NotesLess old gone new → ((row : Row) → IsIn left row → IsIn rows row) → ((row : Row) → IsIn left row → list_any (is_entry row.entry) gone ≡ false) → AreNoted old rows → AreNoted new left
left_noted old rows gone left new less part apart are =
    list_any-none (λ (row : Row). not (is_noted new row)) left (λ row there.
    ap (λ (p : Option Place). not (option_map_or (λ (q : Place). q.nav.0 == row.nav.0 && q.step.0 == row.step.0) p false))
    (less row.entry ∙ ap (λ b. cond b None (place_of row.entry old)) (apart row there))
    ∙ none_passes (λ (r : Row). not (is_noted old r)) rows are row (part row there))

-- ---- what lies past a number

pub filter_none : {A : Type 0} (p : A → Bool) (xs : List A) → list_any p xs ≡ false → filter p xs ≡ []
filter_none p [] none = refl
filter_none p (x ∷ xs) none =
    let both = or_parts (p x) (list_any p xs) none in rw both.0 (filter_none p xs both.1)

-- what lies past a number is the end
module _ {A : Type 0} (number : A → ℕ) where
  past_all : (bound : ℕ) (items : List A) → list_any (λ x. nat_le (number x) bound) items ≡ false → filter (λ x. not (nat_le (number x) bound)) items ≡ items
  past_all bound [] past = refl
  past_all bound (item ∷ items) past =
      let both = or_parts (nat_le (number item) bound) (list_any (λ x. nat_le (number x) bound) items) past in
      rw both.0 (ap (λ rest. item ∷ rest) (past_all bound items both.1))

  pub past_cut : (items : List A) (i bound : ℕ) → list_any (λ x. nat_lt bound (number x)) (take i items) ≡ false → list_any (λ x. nat_le (number x) bound) (drop i items) ≡ false → filter (λ x. not (nat_le (number x) bound)) items ≡ drop i items
  past_cut [] zero bound upto past = refl
  past_cut [] (suc i) bound upto past = refl
  past_cut (first ∷ items) zero bound upto past = past_all bound (first ∷ items) past
  past_cut (first ∷ items) (suc i) bound upto past =
      let both = or_parts (nat_lt bound (number first)) (list_any (λ x. nat_lt bound (number x)) (take i items)) upto in
      rw (le-leb (number first) bound (omega (arith, Rattle.std.proofs.lemmas.Bool.ltb-false bound (number first) both.0))) (past_cut items i bound both.1 past)

-- ---- one track

pub ascending_filter : {A : Type 0} (number : A → ℕ) (p : A → Bool) (items : List A) → IsAscending number items → IsAscending number (filter p items)
ascending_filter number p [] sorted = tt
ascending_filter {A} number p (item ∷ items) sorted =
    elim (p item) as (λ b. IsAscending number (cond b (item ∷ filter p items) (filter p items))) [
      | true ↦ (
        list_any-none (λ other. nat_le (number other) (number item)) (filter p items) (λ other there. none_passes (λ (o : A). nat_le (number o) (number item)) items sorted.0 other (IsIn-filter p items other there)),
        ascending_filter number p items sorted.1,
      )
      | false ↦ ascending_filter number p items sorted.1
    ]

some_items : (track : Track) → has_rows track ≡ true → 0 < length track.rows.items
some_items track has = by_length (length track.rows.items) refl
  where
    by_length : (n : ℕ) → length track.rows.items ≡ n → 0 < length track.rows.items
    by_length zero none = absurd (true≢false (sym has ∙ ap not (eq-eqb track.rows.len 0 (track.rows.ok.0 ∙ none))))
    by_length (suc n) some = omega (arith, some)

no_items : (track : Track) → has_rows track ≡ false → track.rows.items ≡ []
no_items track empty = nothing track.rows.items (sym track.rows.ok.0 ∙ eqb-true track.rows.len 0 (not-false (track.rows.len == 0) empty))
  where
    nothing : (xs : List Row) → length xs ≡ 0 → xs ≡ []
    nothing [] none = refl
    nothing (x ∷ xs) none = absurd (omega (arith, none))

-- a navigable's track has rows where it has a row
pub has_rows_is : (rows : List Row) (nav : NavId) (track : Track) → filter (is_of nav) rows ≡ track.rows.items → has_rows track ≡ has_row nav rows
has_rows_is rows nav track own = by_test (has_rows track) refl
  where
    by_test : (b : Bool) → has_rows track ≡ b → has_rows track ≡ has_row nav rows
    by_test true has = has ∙ sym (has_row_some rows track.rows.items nav own (some_items track has))
    by_test false none = none ∙ sym (has_row_none rows nav (own ∙ no_items track none))

cut_is : (step : ℕ) (old new : Track) → IsCut step old new → IsTrack old.nav old.rows.items → IsTrack new.nav new.rows.items
cut_is step old new cut is = (
  ap (λ (n : NavId). list_any (λ (row : Row). not (is_of n row)) new.rows.items) cut.nav
      ∙ ap (list_any (λ (row : Row). not (is_of old.nav row))) cut.rows
      ∙ list_any-none (λ (row : Row). not (is_of old.nav row)) (rows_upto step old.rows.items) (λ row there.
      none_passes (λ (r : Row). not (is_of old.nav r)) old.rows.items is.0 row (IsIn-filter (λ (r : Row). nat_le r.step.0 step) old.rows.items row there)),
  subst (IsAscending step_of) (sym cut.rows) (ascending_filter step_of (λ (row : Row). nat_le row.step.0 step) old.rows.items is.1),
)

-- ---- the tracks

-- those without rows dropped
pub full_rows : (tracks : List Track) → rows_of (filter has_rows tracks) ≡ rows_of tracks
full_rows [] = refl
full_rows (track ∷ tracks) = by_test (has_rows track) refl ∙ ap (λ (rows : List Row). track.rows.items ++ rows) (full_rows tracks)
  where
    by_test : (b : Bool) → has_rows track ≡ b → rows_of (filter has_rows (track ∷ tracks)) ≡ track.rows.items ++ rows_of (filter has_rows tracks)
    by_test true has = rw has refl
    by_test false empty = rw empty (ap (λ (rows : List Row). rows ++ rows_of (filter has_rows tracks)) (sym (no_items track empty)))

pub full_tracks : (tracks : List Track) → AreTracks tracks → AreTracks (filter has_rows tracks)
full_tracks [] are = tt
full_tracks (track ∷ tracks) are =
    elim (has_rows track) as (λ b. AreTracks (cond b (track ∷ filter has_rows tracks) (filter has_rows tracks))) [
      | true ↦ (
        list_any-none (λ (other : Track). nat_le other.nav.0 track.nav.0) (filter has_rows tracks) (λ other there. none_passes (λ (o : Track). nat_le o.nav.0 track.nav.0) tracks are.0 other (IsIn-filter has_rows tracks other there)),
        (are.1.0, full_tracks tracks are.1.1),
      )
      | false ↦ full_tracks tracks are.1.1
    ]

-- the rows past a step cut off
cut_whole : (step : ℕ) (old new : List Track) → AreCut step old new → rows_of new ≡ rows_upto step (rows_of old)
cut_whole step [] [] cut = refl
cut_whole step [] (new ∷ news) cut = absurd cut
cut_whole step (old ∷ olds) [] cut = absurd cut
cut_whole step (old ∷ olds) (new ∷ news) cut =
    ap (λ (rows : List Row). rows ++ rows_of news) cut.0.rows
    ∙ ap (λ (rows : List Row). rows_upto step old.rows.items ++ rows) (cut_whole step olds news cut.1)
    ∙ sym (filter-append (λ (row : Row). nat_le row.step.0 step) old.rows.items (rows_of olds))

pub cut_rows_are : (step : ℕ) (old new : List Track) → AreCut step old new → rows_of (filter has_rows new) ≡ rows_upto step (rows_of old)
cut_rows_are step old new cut = full_rows new ∙ cut_whole step old new cut

cut_lower : (step bound : ℕ) (old new : List Track) → AreCut step old new → list_any (λ (other : Track). nat_le other.nav.0 bound) old ≡ false → list_any (λ (other : Track). nat_le other.nav.0 bound) new ≡ false
cut_lower step bound [] [] cut none = refl
cut_lower step bound [] (new ∷ news) cut none = absurd cut
cut_lower step bound (old ∷ olds) [] cut none = absurd cut
cut_lower step bound (old ∷ olds) (new ∷ news) cut none =
    let both = or_parts (nat_le old.nav.0 bound) (list_any (λ (other : Track). nat_le other.nav.0 bound) olds) none in
    or_none _ _ (ap (λ (n : NavId). nat_le n.0 bound) cut.0.nav ∙ both.0) (cut_lower step bound olds news cut.1 both.1)

cut_are : (step : ℕ) (old new : List Track) → AreCut step old new → AreTracks old → AreTracks new
cut_are step [] [] cut are = tt
cut_are step [] (new ∷ news) cut are = absurd cut
cut_are step (old ∷ olds) [] cut are = absurd cut
cut_are step (old ∷ olds) (new ∷ news) cut are = (
  ap (λ (n : NavId). list_any (λ (other : Track). nat_le other.nav.0 n.0) news) cut.0.nav ∙ cut_lower step old.nav.0 olds news cut.1 are.0,
  (cut_is step old new cut.0 are.1.0, cut_are step olds news cut.1 are.1.1),
)

pub cut_tracks_are : (step : ℕ) (old new : List Track) → AreCut step old new → AreTracks old → AreTracks (filter has_rows new)
cut_tracks_are step old new cut are = full_tracks new (cut_are step old new cut are)

-- a list that is cut has room where it had
fewer : {A : Type 0} (p : A → Bool) (xs : List A) → length (filter p xs) ≤ length xs
fewer = Rattle.entry_store.proofs.StepBounds.filter-fewer

pub cut_room : (step : ℕ) (nav : NavId) (old new : List Track) → AreCut step old new → HasRowRoom nav old → HasRowRoom nav (filter has_rows new)
cut_room step nav [] [] cut room = refl
cut_room step nav [] (new ∷ news) cut room = absurd cut
cut_room step nav (old ∷ olds) [] cut room = absurd cut
cut_room step nav (old ∷ olds) (new ∷ news) cut room =
    let both = or_parts (old.nav.0 == nav.0 && not (nat_lt (vec_len old.rows) (vec_capacity old.rows))) (list_any (λ (track : Track). track.nav.0 == nav.0 && not (nat_lt (vec_len track.rows) (vec_capacity track.rows))) olds) room in
    elim (has_rows new) as (λ b. list_any (λ (track : Track). track.nav.0 == nav.0 && not (nat_lt (vec_len track.rows) (vec_capacity track.rows))) (cond b (new ∷ filter has_rows news) (filter has_rows news)) ≡ false) [
      | true ↦ or_none _ _ (ap (λ (n : NavId). n.0 == nav.0 && not (nat_lt (vec_len new.rows) (vec_capacity new.rows))) cut.0.nav ∙ by_nav (old.nav.0 == nav.0) both.0) (cut_room step nav olds news cut.1 both.1)
      | false ↦ cut_room step nav olds news cut.1 both.1
    ]
  where
    by_nav : (b : Bool) → (b && not (nat_lt (vec_len old.rows) (vec_capacity old.rows))) ≡ false → (b && not (nat_lt (vec_len new.rows) (vec_capacity new.rows))) ≡ false
    by_nav false none = refl
    by_nav true none =
        let had : vec_len old.rows < vec_capacity old.rows = Rattle.std.proofs.lemmas.Bool.ltb-true (vec_len old.rows) (vec_capacity old.rows) (was_not (nat_lt (vec_len old.rows) (vec_capacity old.rows)) none) in
        ap not (lt-ltb (vec_len new.rows) (vec_capacity new.rows) (omega (arith, had, cut.0.room, new.rows.ok.0, old.rows.ok.0, ap (length {A = Row}) cut.0.rows, fewer (λ (row : Row). nat_le row.step.0 step) old.rows.items)))

-- one track more is cut
module _ (step : ℕ) (was now : List Track) (i : ℕ) (old new : Track) (within : i < length now) (long : length now ≡ length was) (rest : drop i now ≡ drop i was) where
  here : (get_or now i old ≡ get_or was i old) × (drop (suc i) now ≡ drop (suc i) was)
  here =
      let cut_now = drop-cons now i old within in
      let cut_was = drop-cons was i old (omega (arith, within, long)) in
      let both : get_or now i old ∷ drop (suc i) now ≡ get_or was i old ∷ drop (suc i) was = sym cut_now ∙ rest ∙ cut_was in
      (cc, cc)

  pub cut_rest : drop (i + 1) (set now i new) ≡ drop (i + 1) was
  cut_rest = drop-set-lt (i + 1) now i new (omega arith) ∙ rw add-one here.1

  pub same_here : old ≡ get_or now i old → old ≡ get_or was i old
  same_here is = is ∙ here.0

  push_cut : (olds news : List Track) (one other : Track) → AreCut step olds news → IsCut step one other → AreCut step (olds ++ one ∷ []) (news ++ other ∷ [])
  push_cut [] [] one other cut is = (is, tt)
  push_cut [] (n ∷ news) one other cut is = absurd cut
  push_cut (o ∷ olds) [] one other cut is = absurd cut
  push_cut (o ∷ olds) (n ∷ news) one other cut is = (cut.0, push_cut olds news one other cut.1 is)

  pub cut_more : AreCut step (take i was) (take i now) → IsCut step (get_or was i old) new → AreCut step (take (i + 1) was) (take (i + 1) (set now i new))
  cut_more cut is =
      rw add-one (
      subst (λ (news : List Track). AreCut step (take (suc i) was) news) (sym (take-suc-set now i new within))
      (subst (λ (olds : List Track). AreCut step olds (take i now ++ new ∷ [])) (sym (take-suc was i old (omega (arith, within, long))))
      (push_cut (take i was) (take i now) (get_or was i old) new cut is)))

  -- its rows past the step, behind those of the tracks before
  pub past_more : rows_past step (rows_of (take (i + 1) was)) ≡ rows_past step (rows_of (take i was)) ++ rows_past step (get_or was i old).rows.items
  past_more =
      let f : Track → List Row = λ track. track.rows.items in
      rw add-one (
      ap (λ (tracks : List Track). rows_past step (rows_of tracks)) (take-suc was i old (omega (arith, within, long)))
      ∙ ap (rows_past step) (flat_map-append f (take i was) (get_or was i old ∷ []) ∙ ap (λ (rows : List Row). rows_of (take i was) ++ rows) (append-nil (get_or was i old).rows.items))
      ∙ filter-append (λ (row : Row). not (nat_le row.step.0 step)) (rows_of (take i was)) (get_or was i old).rows.items)

-- ---- used steps

past_none : (first c : ℕ) (steps : List ℕ) → c < first → list_any (λ n. nat_le n first) steps ≡ false → filter (λ n. nat_le n c) steps ≡ []
past_none first c steps past lower = filter_none (λ n. nat_le n c) steps (all_past (λ n. n) first c steps past lower)

keep_with : (c s : ℕ) (steps : List ℕ) → IsAscending (λ n. n) steps → s ≤ c → filter (λ n. nat_le n c) (with_step s steps) ≡ with_step s (filter (λ n. nat_le n c) steps)
keep_with c s [] sorted upto = rw (le-leb s c upto) refl
keep_with c s (first ∷ steps) sorted upto =
    elim (cases_order s first) [
      | inl same ↦
          rw (le-ltb s first (omega (arith, same)), eq-eqb s first same, le-leb first c (omega (arith, same, upto)))
          (sym (rw (le-ltb s first (omega (arith, same)), eq-eqb s first same) refl))
      | inr apart ↦
          elim apart [
            | inl lower ↦ rw (lt-ltb s first lower, le-leb s c upto) (by_test lower (nat_le first c) refl)
            | inr higher ↦
                rw (le-ltb s first (omega (arith, higher)), ne_eqb s first (λ same. omega (arith, same, higher)), le-leb first c (omega (arith, higher, upto)))
                (ap (λ rest. first ∷ rest) (keep_with c s steps sorted.1 upto)
                ∙ sym (rw (le-ltb s first (omega (arith, higher)), ne_eqb s first (λ same. omega (arith, same, higher))) refl))
          ]
    ]
  where
    by_test : s < first → (b : Bool) → nat_le first c ≡ b → s ∷ filter (λ n. nat_le n c) (first ∷ steps) ≡ with_step s (filter (λ n. nat_le n c) (first ∷ steps))
    by_test lower true in_ = rw in_ (sym (rw (lt-ltb s first lower) refl))
    by_test lower false out = rw (out, past_none first c steps (leb-false first c out) sorted.0) refl

drop_with : (c s : ℕ) (steps : List ℕ) → nat_le s c ≡ false → filter (λ n. nat_le n c) (with_step s steps) ≡ filter (λ n. nat_le n c) steps
drop_with c s [] past = rw past refl
drop_with c s (first ∷ steps) past =
    elim (cases_order s first) [
      | inl same ↦ rw (le-ltb s first (omega (arith, same)), eq-eqb s first same) refl
      | inr apart ↦
          elim apart [
            | inl lower ↦ rw (lt-ltb s first lower, past) refl
            | inr higher ↦
                rw (le-ltb s first (omega (arith, higher)), ne_eqb s first (λ same. omega (arith, same, higher)))
                (ap (λ rest. cond (nat_le first c) (first ∷ rest) rest) (drop_with c s steps past))
          ]
    ]

pub used_upto : (c : ℕ) (rows : List Row) → list_any (λ (row : Row). nat_le 4294967295 row.step.0) rows ≡ false → filter (λ n. nat_le n c) (used_steps rows) ≡ used_steps (rows_upto c rows)
used_upto c [] below = refl
used_upto c (row ∷ rows) below =
    by_test (used_upto c rows (or_parts (nat_le 4294967295 row.step.0) (list_any (λ (r : Row). nat_le 4294967295 r.step.0) rows) below).1) (nat_le row.step.0 c) refl
  where
    both : (nat_le 4294967295 row.step.0 ≡ false) × (list_any (λ (r : Row). nat_le 4294967295 r.step.0) rows ≡ false)
    both = or_parts (nat_le 4294967295 row.step.0) (list_any (λ (r : Row). nat_le 4294967295 r.step.0) rows) below

    sorted : IsAscending (λ n. n) (used_steps rows)
    sorted = ascending_from 0 4294967295 (used_steps rows) (used_steps-ascend 4294967295 rows both.1)

    by_test : filter (λ n. nat_le n c) (used_steps rows) ≡ used_steps (rows_upto c rows) → (b : Bool) → nat_le row.step.0 c ≡ b → filter (λ n. nat_le n c) (used_steps (row ∷ rows)) ≡ used_steps (rows_upto c (row ∷ rows))
    by_test rest true in_ = rw in_ (keep_with c row.step.0 (used_steps rows) sorted (leb-true row.step.0 c in_) ∙ ap (with_step row.step.0) rest)
    by_test rest false out = rw out (drop_with c row.step.0 (used_steps rows) out ∙ rest)

-- ---- a clean cut

-- all rows of a navigable do as its first does
pub held_as_first : (whole : List Row) → IsRooted whole → (starts : List (StateId × Step)) (step : ℕ) (nav : NavId) (rows : List Row) → ((row : Row) → IsIn rows row → IsIn whole row) → IsTrack nav rows → (first : Row) → slice_get rows 0 ≡ Some first → is_held starts step first ≡ true → AreHeld starts step rows
held_as_first whole rooted starts step nav [] part is first here held = absurd (none-some first here)
held_as_first whole rooted starts step nav (row ∷ rows) part is first here held =
    list_any-none (λ (r : Row). not (is_held starts step r)) (row ∷ rows) (λ r there. ap not (as_first r there))
  where
    first_is : row ≡ first
    first_is = Rattle.history_laws.proofs.Members.some_same row first here

    own : (r : Row) → IsIn (row ∷ rows) r → r.nav.0 ≡ nav.0
    own r there = eqb-true r.nav.0 nav.0 (was_not (is_of nav r) (none_passes (λ (x : Row). not (is_of nav x)) (row ∷ rows) is.0 r there))

    later : (r : Row) → IsIn (row ∷ rows) r → row.step.0 ≤ r.step.0
    later r there =
        leb-true row.step.0 r.step.0 (was_not (nat_le row.step.0 r.step.0)
        (none_passes (λ (x : Row). not (nat_le row.step.0 x.step.0)) (row ∷ rows)
        (or_none _ _ (ap not (le-leb row.step.0 row.step.0 (omega arith)))
        (list_any-none (λ (x : Row). not (nat_le row.step.0 x.step.0)) rows (λ x in_. ap not (le-leb row.step.0 x.step.0 (omega (arith, leb-false x.step.0 row.step.0 (none_passes (λ (y : Row). nat_le y.step.0 row.step.0) rows is.1.0 x in_)))))))
        r there))

    owner_is : (r : Row) → IsIn (row ∷ rows) r → r.owner ≡ row.owner
    owner_is r there = owner_same whole rooted r row (part r there) (part row (IsIn-head rows row)) (own r there ∙ sym (own row (IsIn-head rows row)))

    as_first : (r : Row) → IsIn (row ∷ rows) r → is_held starts step r ≡ true
    as_first r there = by_test (nat_le r.step.0 step) refl (nat_le row.step.0 step) refl
      where
        by_test : (b : Bool) → nat_le r.step.0 step ≡ b → (c : Bool) → nat_le row.step.0 step ≡ c → is_held starts step r ≡ true
        by_test false out c first_in = ap (λ b. not b || option_map_or (λ (o : StateId). is_by (start_of o starts) step) r.owner true) out
        by_test true in_ false first_out = absurd (false≢true (sym first_out ∙ le-leb row.step.0 step (omega (arith, later r there, leb-true r.step.0 step in_))))
        by_test true in_ true first_in =
            ap (λ b. not b || option_map_or (λ (o : StateId). is_by (start_of o starts) step) r.owner true) in_
            ∙ ap (λ (o : Option StateId). option_map_or (λ (s : StateId). is_by (start_of s starts) step) o true) (owner_is r there)
            ∙ sym (ap (λ b. not b || option_map_or (λ (o : StateId). is_by (start_of o starts) step) row.owner true) first_in)
            ∙ ap (is_held starts step) first_is ∙ held

filter-all : {A : Type 0} (p : A → Bool) (xs : List A) → ((x : A) → IsIn xs x → p x ≡ true) → filter p xs ≡ xs
filter-all = Rattle.step_index.proofs.Replacing.filter-all

-- by what is asked of its first
pub held_track : (whole : List Row) → IsRooted whole → (starts : List (StateId × Step)) (step : ℕ) (nav : NavId) (rows : List Row) → ((row : Row) → IsIn rows row → IsIn whole row) → IsTrack nav rows → (result : Bool) → IfSome (slice_get rows 0) (λ row. result ≡ is_held starts step row) → result ≡ true → AreHeld starts step rows
held_track whole rooted starts step nav [] part is result first holds = refl
held_track whole rooted starts step nav (row ∷ rows) part is result first holds = held_as_first whole rooted starts step nav (row ∷ rows) part is row refl (sym first ∙ holds)

-- then clearing leaves the rows up to the current step
pub clean_cut : (history : History) (starts : List (StateId × Step)) → AreStarted starts history.rows → AreHeld starts history.current history.rows → cleared history ≡ rows_upto history.current history.rows
clean_cut history starts are held =
    tidied_times-same (length left) left (filter-all (is_anchored left) left (λ row there. anchored row there row.owner refl))
  where
    left : List Row
    left = rows_upto history.current history.rows

    anchored : (row : Row) → IsIn left row → (owner : Option StateId) → row.owner ≡ owner → option_map_or (λ (o : StateId). has_state o left) owner true ≡ true
    anchored row there None is = refl
    anchored row there (Some owner) is = by_start (start_of owner starts) refl
      where
        upto : nat_le row.step.0 history.current ≡ true
        upto = IsIn-filter_passes (λ (r : Row). nat_le r.step.0 history.current) history.rows row there

        starts_by : is_by (start_of owner starts) history.current ≡ true
        starts_by =
            ap (λ (o : Option StateId). option_map_or (λ (s : StateId). is_by (start_of s starts) history.current) o true) (sym is)
            ∙ sym (ap (λ b. not b || option_map_or (λ (o : StateId). is_by (start_of o starts) history.current) row.owner true) upto)
            ∙ was_not (is_held starts history.current row) (none_passes (λ (r : Row). not (is_held starts history.current r)) history.rows held row (IsIn-filter (λ (r : Row). nat_le r.step.0 history.current) history.rows row there))

        by_start : (start : Option Step) → start_of owner starts ≡ start → has_state owner left ≡ true
        by_start None none = absurd (false≢true (ap (λ (s : Option Step). is_by s history.current) (sym none) ∙ starts_by))
        by_start (Some start) at =
            let w = witness (λ (r : Row). is_in_state owner r && r.step.0 == start.0) history.rows (are.at_row owner start.0 (ap (λ (s : Option Step). is_start s start.0) at ∙ eq-eqb start.0 start.0 refl)) in
            let both = and_parts (is_in_state owner w.it) (w.it.step.0 == start.0) w.passes in
            IsIn-into_filter (λ (r : Row). nat_le r.step.0 history.current) history.rows w.it w.is_in
            (ap (λ n. nat_le n history.current) (eqb-true w.it.step.0 start.0 both.1) ∙ ap (λ (s : Option Step). is_by s history.current) (sym at) ∙ starts_by)
            (is_in_state owner) both.0
