-- Where an entry is looked for: what is found there, and what stays noted as entries come and go.
use Rattle.std.proofs.Common.{◌≡◌, ℕ, suc, zero, ◌-◌, ◌<◌, ◌≤◌, Bool, true, false, not, ◌&&◌, cond, List, [], ◌∷◌, ◌++◌, refl, ap, sym, ◌∙◌, filter, find, take, drop, length, get_or, drop-cons, arith, inl, inr, subst, Option, Some, None}
use Rattle.std.specs.Prelude.{◌==◌, nat_le, nat_lt, slice_get}
use Rattle.std.specs.List.{list_any, count_by}
use Rattle.std.specs.Option.{option_map_or}
use Rattle.std.proofs.lemmas.Bool.{cases_Bool, false≢true, or_parts, eq-eqb, eqb-true, ne_eqb, le-leb, ltb-false}
use Rattle.std.proofs.lemmas.List.{take-append-drop, append-nil}
use Rattle.std.proofs.Math.Seq.{take-suc}
use Rattle.std.proofs.lemmas.Option.{none-some}
use Rattle.tab_ids.specs.declared.EntryId.{EntryId}
use Rattle.log_model.specs.declared.row.Row.{Row}
use Rattle.log_model.specs.History.{same_entry, is_of, row_of}
use Rattle.log_model.specs.Soundness.{is_entry}
use Rattle.history_laws.proofs.Members.{IsIn, IsIn-head, IsIn-tail, or_none, none_passes, list_any-none, some_same, find-filter}
use Rattle.history_laws.proofs.Joining.{entry_same}
use Rattle.history_laws.proofs.OneMore.{AddsRow-insert}
use Rattle.history_laws.proofs.Replace.{list_any-zero}
use Rattle.entry_store.specs.Kept.{PutsRow}
use Rattle.step_index.specs.declared.noted.Place.{Place}
use Rattle.step_index.specs.Ascending.{IsAscending}
use Rattle.step_index.specs.Tracks.{step_of}
use Rattle.step_index.specs.Noted.{place_of, is_noted, AreNoted, NotesOne, is_at_place}
use Rattle.step_index.proofs.Searching.{first_lower, not_in}
use Rattle.step_index.proofs.Tracking.{was_not, any_insert, any_front}

pub eqb_turned : (a b : ℕ) → (a == b) ≡ (b == a)
eqb_turned a b =
    elim (cases_Bool (a == b)) [
      | inl same ↦ same ∙ sym (eq-eqb b a (sym (eqb-true a b same)))
      | inr apart ↦ apart ∙ sym (ne_eqb b a (λ same. false≢true (sym apart ∙ eq-eqb a b (sym same))))
    ]

pub same_entry-turned : (a b : EntryId) → same_entry a b ≡ same_entry b a
same_entry-turned a b = ap (λ makers. makers && a.nr == b.nr) (eqb_turned a.maker b.maker) ∙ ap (λ numbers. b.maker == a.maker && numbers) (eqb_turned a.nr b.nr)

pub same_entry-refl : (a : EntryId) → same_entry a a ≡ true
same_entry-refl a = ap (λ makers. makers && a.nr == a.nr) (eq-eqb a.maker a.maker refl) ∙ eq-eqb a.nr a.nr refl

-- ---- a search

find-none : {A : Type 0} (test : A → Bool) (xs : List A) → list_any test xs ≡ false → find test xs ≡ None
find-none test [] none = refl
find-none test (x ∷ xs) none =
    let both = or_parts (test x) (list_any test xs) none in
    ap (λ b. cond b (Some x) (find test xs)) both.0 ∙ find-none test xs both.1

-- two tests that agree on the elements find the same
find-same : {A : Type 0} (p q : A → Bool) (xs : List A) → ((x : A) → IsIn xs x → p x ≡ q x) → find p xs ≡ find q xs
find-same p q [] same = refl
find-same p q (x ∷ xs) same =
    ap (λ b. cond b (Some x) (find p xs)) (same x (IsIn-head xs x)) ∙ ap (λ rest. cond (q x) (Some x) rest) (find-same p q xs (λ y there. same y (IsIn-tail xs x y there)))

-- ---- the row at a step

none_at_step : (step : ℕ) (p : Row → Bool) (rows : List Row) → list_any (λ (row : Row). nat_le row.step.0 step) rows ≡ false → list_any (λ (row : Row). row.step.0 == step && p row) rows ≡ false
none_at_step step p [] past = refl
none_at_step step p (row ∷ rows) past =
    let both = or_parts (nat_le row.step.0 step) (list_any (λ (r : Row). nat_le r.step.0 step) rows) past in
    or_none _ _ (beyond both.0) (none_at_step step p rows both.1)
  where
    beyond : nat_le row.step.0 step ≡ false → (row.step.0 == step && p row) ≡ false
    beyond isnt = ap (λ b. b && p row) (ne_eqb row.step.0 step (λ same. false≢true (sym isnt ∙ le-leb row.step.0 step (omega (arith, same)))))

-- no row stands at the step where none up to it does
pub none_there : (step : ℕ) (p : Row → Bool) (rows : List Row) → list_any (λ (row : Row). nat_le row.step.0 step) rows ≡ false → find (λ (row : Row). row.step.0 == step && p row) rows ≡ None
none_there step p rows past = find-none (λ (row : Row). row.step.0 == step && p row) rows (none_at_step step p rows past)

-- it is the last row up to the step, or none
pub last_there : (step : ℕ) (p : Row → Bool) (rows : List Row) (i : ℕ) (row : Row) → IsAscending step_of rows → slice_get rows i ≡ Some row → row.step.0 ≤ step → list_any (λ (r : Row). nat_le r.step.0 step) (drop (suc i) rows) ≡ false
    → find (λ (r : Row). r.step.0 == step && p r) rows ≡ (cond (row.step.0 == step && p row) (Some row) None)
last_there step p [] i row sorted here upto past = absurd (none-some row here)
last_there step p (first ∷ rows) zero row sorted here upto past =
    ap (λ rest. cond (first.step.0 == step && p first) (Some first) rest) (none_there step p rows past)
    ∙ ap (λ (r : Row). cond (r.step.0 == step && p r) (Some r) None) (some_same first row here)
last_there step p (first ∷ rows) (suc i) row sorted here upto past =
    let lower : first.step.0 < row.step.0 = first_lower step_of first rows i row sorted here in
    ap (λ b. cond (b && p first) (Some first) (find (λ (r : Row). r.step.0 == step && p r) rows)) (ne_eqb first.step.0 step (λ same. omega (arith, same, lower, upto)))
    ∙ last_there step p rows i row sorted.1 here upto past

-- the same, by how many rows stand up to it
pub upto_last : (step : ℕ) (p : Row → Bool) (rows : List Row) (upto : ℕ) (row : Row) → IsAscending step_of rows → 0 < upto → slice_get rows (upto - 1) ≡ Some row
    → list_any (λ (r : Row). nat_lt step r.step.0) (take upto rows) ≡ false → list_any (λ (r : Row). nat_le r.step.0 step) (drop upto rows) ≡ false
    → find (λ (r : Row). r.step.0 == step && p r) rows ≡ (cond (row.step.0 == step && p row) (Some row) None)
upto_last step p rows upto row sorted some here lower higher =
    let e : upto ≡ suc (upto - 1) = omega (arith, some) in
    let low : list_any (λ (r : Row). nat_lt step r.step.0) (take (suc (upto - 1)) rows) ≡ false = subst (λ (n : ℕ). list_any (λ (r : Row). nat_lt step r.step.0) (take n rows) ≡ false) e lower in
    last_there step p rows (upto - 1) row sorted here
    (ltb-false step row.step.0 (not_in (λ (r : Row). nat_lt step r.step.0) (take (suc (upto - 1)) rows) (upto - 1) row (in_front rows (upto - 1) row here) low))
    (subst (λ (n : ℕ). list_any (λ (r : Row). nat_le r.step.0 step) (drop n rows) ≡ false) e higher)
  where
    in_front : (xs : List Row) (j : ℕ) (x : Row) → slice_get xs j ≡ Some x → slice_get (take (suc j) xs) j ≡ Some x
    in_front [] j x there = absurd (none-some x there)
    in_front (y ∷ xs) zero x there = there
    in_front (y ∷ xs) (suc j) x there = in_front xs j x there

-- ---- the row at a place

-- among all rows it is found where it is among its navigable's
pub found_in : (place : Place) (entry : EntryId) (rows own : List Row) → filter (is_of place.nav) rows ≡ own
    → find (λ row. is_at_place place row && is_entry entry row) rows ≡ find (λ (row : Row). row.step.0 == place.step.0 && is_entry entry row) own
found_in place entry rows own are =
    find-same (λ row. is_at_place place row && is_entry entry row) (λ row. (row.step.0 == place.step.0 && is_entry entry row) && is_of place.nav row) rows
    (λ row there. turned (row.step.0 == place.step.0) (is_of place.nav row) (is_entry entry row))
    ∙ sym (find-filter (λ (row : Row). row.step.0 == place.step.0 && is_entry entry row) (is_of place.nav) rows)
    ∙ ap (find (λ (row : Row). row.step.0 == place.step.0 && is_entry entry row)) are
  where
    turned : (a b c : Bool) → ((b && a) && c) ≡ ((a && c) && b)
    turned true true true = refl
    turned true true false = refl
    turned true false true = refl
    turned true false false = refl
    turned false true c = refl
    turned false false c = refl

-- ---- what is noted

noted_at : (noted : List (EntryId × Place)) (rows : List Row) → AreNoted noted rows → (row : Row) → IsIn rows row → is_noted noted row ≡ true
noted_at noted rows are row there = was_not (is_noted noted row) (none_passes (λ (r : Row). not (is_noted noted r)) rows are row there)

-- an entry that isn't noted has no row
pub unnoted : (noted : List (EntryId × Place)) (rows : List Row) → AreNoted noted rows → (entry : EntryId) → place_of entry noted ≡ None → row_of entry rows ≡ None
unnoted noted rows are entry none = find-none (is_entry entry) rows (list_any-none (is_entry entry) rows (λ row there. isnt row there (is_entry entry row) refl))
  where
    isnt : (row : Row) → IsIn rows row → (b : Bool) → is_entry entry row ≡ b → is_entry entry row ≡ false
    isnt row there false fails = fails
    isnt row there true is =
        absurd (false≢true (
        ap (λ (place : Option Place). option_map_or (λ (p : Place). p.nav.0 == row.nav.0 && p.step.0 == row.step.0) place false)
        (sym none ∙ ap (λ (e : EntryId). place_of e noted) (sym (entry_same row.entry entry is)))
        ∙ noted_at noted rows are row there))

-- one that is noted has its row at the place, or none
pub noted_row : (noted : List (EntryId × Place)) (rows : List Row) → AreNoted noted rows → (entry : EntryId) (place : Place) → place_of entry noted ≡ Some place
    → row_of entry rows ≡ find (λ row. is_at_place place row && is_entry entry row) rows
noted_row noted rows are entry place is =
    find-same (is_entry entry) (λ row. is_at_place place row && is_entry entry row) rows (λ row there. agree row there (is_entry entry row) refl)
  where
    here : (row : Row) → IsIn rows row → is_entry entry row ≡ true → is_at_place place row ≡ true
    here row there passes =
        let at : (place.nav.0 == row.nav.0 && place.step.0 == row.step.0) ≡ true =
        ap (λ (p : Option Place). option_map_or (λ (q : Place). q.nav.0 == row.nav.0 && q.step.0 == row.step.0) p false)
        (sym is ∙ ap (λ (e : EntryId). place_of e noted) (sym (entry_same row.entry entry passes)))
        ∙ noted_at noted rows are row there in
        ap (λ b. b && row.step.0 == place.step.0) (eqb_turned row.nav.0 place.nav.0) ∙ ap (λ b. place.nav.0 == row.nav.0 && b) (eqb_turned row.step.0 place.step.0) ∙ at

    agree : (row : Row) → IsIn rows row → (b : Bool) → is_entry entry row ≡ b → is_entry entry row ≡ (is_at_place place row && is_entry entry row)
    agree row there true passes = passes ∙ sym (ap (λ b. b && is_entry entry row) (here row there passes) ∙ passes)
    agree row there false fails = fails ∙ sym (ap (λ b. is_at_place place row && b) fails ∙ nothing (is_at_place place row))
      where
        nothing : (b : Bool) → (b && false) ≡ false
        nothing true = refl
        nothing false = refl

-- ---- changes

-- the notes of other entries stay
pub others_noted : (old new : List (EntryId × Place)) (entry : EntryId) (place : Option Place) (rows : List Row) → NotesOne old entry place new → list_any (is_entry entry) rows ≡ false → AreNoted old rows → AreNoted new rows
others_noted old new entry place [] one none are = refl
others_noted old new entry place (row ∷ rows) one none are =
    let others = or_parts (is_entry entry row) (list_any (is_entry entry) rows) none in
    let noted = or_parts (not (is_noted old row)) (list_any (λ (r : Row). not (is_noted old r)) rows) are in
    or_none _ _
    (ap (λ (p : Option Place). not (option_map_or (λ (q : Place). q.nav.0 == row.nav.0 && q.step.0 == row.step.0) p false))
    (one row.entry ∙ ap (λ b. cond b place (place_of row.entry old)) others.0) ∙ noted.0)
    (others_noted old new entry place rows one others.1 noted.1)

-- a row that stands where it is noted
pub here_noted : (old new : List (EntryId × Place)) (row : Row) → NotesOne old row.entry (Some (record { nav = row.nav; step = row.step })) new → is_noted new row ≡ true
here_noted old new row one =
    ap (λ (p : Option Place). option_map_or (λ (q : Place). q.nav.0 == row.nav.0 && q.step.0 == row.step.0) p false)
    (one row.entry ∙ ap (λ b. cond b (Some (record { nav = row.nav; step = row.step })) (place_of row.entry old)) (same_entry-refl row.entry))
    ∙ ap (λ b. b && row.step.0 == row.step.0) (eq-eqb row.nav.0 row.nav.0 refl)
    ∙ eq-eqb row.step.0 row.step.0 refl

-- one row more
pub more_noted : (noted : List (EntryId × Place)) (old : List Row) (row : Row) (new : List Row) → PutsRow old row new → is_noted noted row ≡ true → AreNoted noted old → AreNoted noted new
more_noted noted old row new puts here are =
    ap (list_any (λ (r : Row). not (is_noted noted r))) puts.is
    ∙ any_insert (λ (r : Row). not (is_noted noted r)) puts.front puts.back row
    ∙ or_none _ _ (ap not here) (ap (list_any (λ (r : Row). not (is_noted noted r))) (sym puts.was) ∙ are)

-- an entry stands once: no other row has it
others_apart : (front back : List Row) (was : Row) (over : EntryId) → count_by (is_entry over) (front ++ was ∷ back) ≤ 1 → is_entry over was ≡ true → list_any (is_entry over) (front ++ back) ≡ false
others_apart front back was over once is =
    list_any-zero (is_entry over) (front ++ back) (omega (arith, once, (AddsRow-insert front back was).count (is_entry over), ap {B = ℕ} (λ b. cond b 1 0) is))

-- one row in the place of another
pub over_noted : (old between new : List (EntryId × Place)) (front back : List Row) (was row : Row) (over : EntryId) → AreNoted old (front ++ was ∷ back) → ((entry : EntryId) → count_by (is_entry entry) (front ++ was ∷ back) ≤ 1)
    → list_any (is_entry row.entry) (front ++ was ∷ back) ≡ false → is_entry over was ≡ true
    → NotesOne old row.entry (Some (record { nav = row.nav; step = row.step })) between → NotesOne between over None new
    → AreNoted new (front ++ row ∷ back)
over_noted old between new front back was row over are once fresh is noted forgot =
    any_insert (λ (r : Row). not (is_noted new r)) front back row ∙ or_none _ _ (ap not here) rest
  where
    was_apart : list_any (is_entry row.entry) (front ++ back) ≡ false
    was_apart = (or_parts (is_entry row.entry was) (list_any (is_entry row.entry) (front ++ back)) (sym (any_insert (is_entry row.entry) front back was) ∙ fresh)).1

    were : AreNoted old (front ++ back)
    were = (or_parts (not (is_noted old was)) (list_any (λ (r : Row). not (is_noted old r)) (front ++ back)) (sym (any_insert (λ (r : Row). not (is_noted old r)) front back was) ∙ are)).1

    rest : AreNoted new (front ++ back)
    rest =
        others_noted between new over None (front ++ back) forgot (others_apart front back was over (once over) is)
        (others_noted old between row.entry (Some (record { nav = row.nav; step = row.step })) (front ++ back) noted was_apart were)

    apart : (b : Bool) → same_entry row.entry over ≡ b → same_entry row.entry over ≡ false
    apart false isnt = isnt
    apart true same =
        absurd (false≢true (
        sym (or_parts (is_entry row.entry was) (list_any (is_entry row.entry) (front ++ back)) (sym (any_insert (is_entry row.entry) front back was) ∙ fresh)).0
        ∙ ap (λ (e : EntryId). same_entry was.entry e) (entry_same row.entry over same) ∙ is))

    here : is_noted new row ≡ true
    here =
        ap (λ (p : Option Place). option_map_or (λ (q : Place). q.nav.0 == row.nav.0 && q.step.0 == row.step.0) p false)
        (forgot row.entry ∙ ap (λ b. cond b None (place_of row.entry between)) (apart (same_entry row.entry over) refl))
        ∙ here_noted old between row noted

-- rows noted one after the other
pub next_noted : (old new : List (EntryId × Place)) (rows : List Row) (i : ℕ) (row : Row) → i < length rows → row ≡ get_or rows i row → ((entry : EntryId) → count_by (is_entry entry) rows ≤ 1)
    → NotesOne old row.entry (Some (record { nav = row.nav; step = row.step })) new → AreNoted old (take i rows) → AreNoted new (take (suc i) rows)
next_noted old new rows i row within item once one are =
    subst (λ (r : List Row). AreNoted new r) (sym (take-suc rows i row within ∙ ap (λ (r : Row). take i rows ++ r ∷ []) (sym item)))
    (more_noted new (take i rows) row (take i rows ++ row ∷ []) (record { front = take i rows; back = []; was = sym (append-nil (take i rows)); is = refl })
    (here_noted old new row one)
    (others_noted old new row.entry (Some (record { nav = row.nav; step = row.step })) (take i rows) one apart are))
  where
    split : rows ≡ take i rows ++ row ∷ drop (suc i) rows
    split = sym (take-append-drop i rows) ∙ ap (λ (rest : List Row). take i rows ++ rest) (drop-cons rows i row within ∙ ap (λ (r : Row). r ∷ drop (suc i) rows) (sym item))

    apart : list_any (is_entry row.entry) (take i rows) ≡ false
    apart =
        any_front (is_entry row.entry) (take i rows) (drop (suc i) rows)
        (others_apart (take i rows) (drop (suc i) rows) row row.entry (subst (λ (r : List Row). count_by (is_entry row.entry) r ≤ 1) split (once row.entry)) (same_entry-refl row.entry))
