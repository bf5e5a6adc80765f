-- A push at the end of a history: nothing is cleared away, and the navigable's owner is that of any of its rows.
use Rattle.std.proofs.Common.{◌≡◌, ℕ, suc, Bool, true, ◌||◌, List, [], ◌∷◌, ◌++◌, length, refl, ap, sym, ◌∙◌, ◌+◌, ◌<◌, ◌≤◌, filter, find, Option, Some, None, subst, take, drop, get_or}
use Rattle.std.specs.Prelude.{nat_le, nat_lt, slice_get, option_and_then}
use Rattle.std.specs.List.{list_any}
use Rattle.std.specs.Option.{option_map_or}
use Rattle.std.proofs.lemmas.Bool.{false≢true, eqb-true, eq-eqb, ltb-false, le-leb}
use Rattle.std.proofs.lemmas.Option.{none-some, slice_get-get_or, get_or_from_slice_get}
use Rattle.std.proofs.lemmas.List.Folds.{list_any-append}
use Rattle.tab_ids.specs.declared.NavId.{NavId}
use Rattle.tab_ids.specs.declared.StateId.{StateId}
use Rattle.tab_ids.specs.declared.EntryId.{EntryId}
use Rattle.log_model.specs.declared.row.Row.{Row}
use Rattle.log_model.specs.declared.change.Change.TheVariants.{Push}
use Rattle.log_model.specs.History.{History, is_of, has_state, has_row, owner_of, is_anchored, tidied, cleared, pushed, used_steps, greatest_step, with_step}
use Rattle.log_model.specs.Order.{SameHistory}
use Rattle.log_model.specs.Soundness.{IsSound}
use Rattle.history_laws.proofs.Members.{IsIn, IsIn-head, IsIn-tail, or_right, none_passes, some_same, found, found_none}
use Rattle.history_laws.proofs.Tidying.{hung, owner_same, tidied_times-same}
use Rattle.history_laws.proofs.Push.{up_to}
use Rattle.entry_store.specs.declared.nest.Nest.{Nest}
use Rattle.entry_store.specs.declared.nested.Nested.{Nested}
use Rattle.entry_store.specs.Store.{MayTake}
use Rattle.entry_store.specs.Nested.{rows_of}
use Rattle.entry_store.specs.Places.{rows_in, IsListOf}
use Rattle.entry_store.specs.Kept.{history_in, IsKept, PutsRow}
use Rattle.entry_store.proofs.Placing.{rows_of-split}
use Rattle.entry_store.proofs.LastStep.{none_beyond}
use Rattle.entry_store.proofs.PushLaw.{pushed_row, with_rows, IsPlaced, push_same, push_kept}

-- ---- the list that it goes to

begins : (rows : List Row) (row : Row) → slice_get rows 0 ≡ Some row → rows ≡ row ∷ drop 1 rows
begins [] row is = absurd (none-some row is)
begins (first ∷ rows) row is = ap (λ (r : Row). r ∷ rows) (some_same first row is)

-- one that begins with a row of the navigable
pub list_begins : (nests : List Nest) (nav : NavId) (place : ℕ) (nest : Nest) (row : Row) → place < length nests → nest ≡ get_or nests place nest → slice_get nest.rows.items 0 ≡ Some row → row.nav.0 ≡ nav.0 → IsListOf nests nav place row.owner
list_begins nests nav place nest row within is first is_navs = record {
  it = row;
  within = within;
  here =
      ap (λ (some : Option Nest). slice_get (rows_in some) 0) (slice_get-get_or nests place nest within ∙ ap (λ (n : Nest). Some n) (sym is)) ∙ first;
  is_navs = is_navs;
  owner_is = refl;
}

-- the row with which a list begins is among the rows
begins_in : (nests : List Nest) (place : ℕ) (row : Row) (some : Option Nest) → place < length nests → slice_get nests place ≡ some → slice_get (rows_in some) 0 ≡ Some row → IsIn (rows_of nests) row
begins_in nests place row None within is here test passes = absurd (none-some row here)
begins_in nests place row (Some nest) within is here test passes =
    let before = rows_of (take place nests) in
    let after = rows_of (drop (suc place) nests) in
    ap (list_any test)
    (rows_of-split nests place nest within
    ∙ ap (λ (n : Nest). before ++ (n.rows.items ++ after)) (get_or_from_slice_get nests place nest nest is)
    ∙ ap (λ rows. before ++ (rows ++ after)) (begins nest.rows.items row here))
    ∙ list_any-append test before (row ∷ (drop 1 nest.rows.items ++ after))
    ∙ or_right (list_any test before) (test row || list_any test (drop 1 nest.rows.items ++ after)) (ap (λ b. b || list_any test (drop 1 nest.rows.items ++ after)) passes)

-- ---- nothing is cleared away

filter-all : {A : Type 0} (p : A → Bool) (xs : List A) → ((x : A) → IsIn xs x → p x ≡ true) → filter p xs ≡ xs
filter-all p [] all = refl
filter-all p (x ∷ xs) all =
    rw (all x (IsIn-head xs x)) (ap (λ rest. x ∷ rest) (filter-all p xs (λ y there. all y (IsIn-tail xs x y there))))

up_to-last : (step : ℕ) (rows : List Row) → greatest_step rows ≤ step → up_to step rows ≡ rows
up_to-last step rows last =
    filter-all (λ row. nat_le row.step.0 step) rows (λ row there.
    le-leb row.step.0 step (ltb-false step row.step.0 (none_passes (λ (r : Row). nat_lt step r.step.0) rows (none_beyond step rows last) row there)))

-- each row of a sound history hangs on a row
anchored-sound : (history : History) → IsSound history → (row : Row) → IsIn history.rows row → (owner : Option StateId) → row.owner ≡ owner → option_map_or (λ state. has_state state history.rows) owner true ≡ true
anchored-sound history sound row there None is = refl
anchored-sound history sound row there (Some state) is = sound.anchored row.nav state (hung history.rows sound.rooted row state is there)

tidied-sound : (history : History) → IsSound history → tidied history.rows ≡ history.rows
tidied-sound history sound =
    tidied_times-same (length history.rows) history.rows
    (filter-all (is_anchored history.rows) history.rows (λ row there. anchored-sound history sound row there row.owner refl))

pub cleared-last : (history : History) → IsSound history → greatest_step history.rows ≤ history.current → cleared history ≡ history.rows
cleared-last history sound last = ap tidied (up_to-last history.current history.rows last) ∙ tidied-sound history sound

-- ---- the push

module _ (lists : Nested) (kept : IsKept (history_in lists) lists.used.keys) (room : lists.current.0 < 4294967294) (last : greatest_step (rows_of lists.nests.items) ≤ lists.current.0) (nav : NavId) (entry : EntryId) (state : StateId) (address : List ℕ) (memo : Option (List ℕ)) (may : MayTake (history_in lists) (Push nav entry state address memo)) (place : ℕ) (owner : Option StateId) (at : IsListOf lists.nests.items nav place owner) where
  abbrev history : History
  history = history_in lists

  all_stay : cleared history ≡ history.rows
  all_stay = cleared-last history kept.sound last

  it_is_in : IsIn history.rows at.it
  it_is_in = begins_in lists.nests.items place at.it (slice_get lists.nests.items place) at.within refl at.here

  -- whichever row of the navigable is found first, its owner is this one
  owner_found : (search : Option Row) → find (is_of nav) history.rows ≡ search → option_and_then (λ (row : Row). row.owner) search ≡ owner
  owner_found None none =
      absurd (false≢true (sym (found_none (is_of nav) history.rows none) ∙ it_is_in (is_of nav) (eq-eqb at.it.nav.0 nav.0 at.is_navs)))
  owner_found (Some row) is =
      let first = found (is_of nav) history.rows row is in
      owner_same history.rows kept.sound.rooted row at.it first.is_in it_is_in (eqb-true row.nav.0 nav.0 first.passes ∙ sym at.is_navs) ∙ sym at.owner_is

  placed_at : IsPlaced history nav owner
  placed_at = record {
    it = at.it;
    is_in = λ test passes. ap (list_any test) all_stay ∙ it_is_in test passes;
    is_of = at.is_navs;
    owner_is = at.owner_is;
    owner_of_is = ap (owner_of nav) all_stay ∙ owner_found (find (is_of nav) history.rows) refl;
  }

  pub appended_fits : has_row nav (cleared history) ≡ true
  appended_fits = ap (has_row nav) all_stay ∙ it_is_in (is_of nav) (eq-eqb at.it.nav.0 nav.0 at.is_navs)

  module _ (row : Row) (row_is : row ≡ pushed_row lists.current.0 owner nav entry state address memo) (new : List Row) (puts : PutsRow history.rows row new) where
    puts_is : PutsRow (cleared history) (pushed_row lists.current.0 owner nav entry state address memo) new
    puts_is =
        subst (λ (rows : List Row). PutsRow rows (pushed_row lists.current.0 owner nav entry state address memo) new) (sym all_stay)
        (subst (λ (r : Row). PutsRow history.rows r new) row_is puts)

    pub appended_same : SameHistory (with_rows history new (lists.current.0 + 1)) (pushed history nav entry state address memo)
    appended_same = push_same history lists.used.keys kept room nav entry state address memo may owner placed_at new puts_is

    pub appended_kept : (beside : List ℕ) → beside ≡ with_step row.step.0 lists.used.keys → IsKept (with_rows history new (lists.current.0 + 1)) beside
    appended_kept beside is =
        push_kept history lists.used.keys kept room nav entry state address memo may owner placed_at new puts_is beside
        (is ∙ ap (λ (r : Row). with_step r.step.0 lists.used.keys) row_is
        ∙ ap (with_step (lists.current.0 + 1)) (kept.used ∙ ap used_steps (sym all_stay)))
