-- A push: what stands past the current step goes, and the entry stands behind all others of its navigable.
use Rattle.std.proofs.Common.{◌≡◌, ℕ, ◌+◌, ◌<◌, ◌≤◌, Bool, true, false, not, ◌&&◌, ◌||◌, List, [], ◌∷◌, ◌++◌, refl, ap, sym, ◌∙◌, filter, find, subst, arith, is_le, nat_cmp, Option, Some, None}
use Rattle.std.specs.Prelude.{nat_le, nat_lt, slice_get, option_and_then, IfSome}
use Rattle.std.specs.List.{list_any, count_by}
use Rattle.std.specs.Option.{option_map}
use Rattle.std.proofs.lemmas.Bool.{cases_Bool, false≢true, eqb-true, eq-eqb, or_parts, lt-ltb, ltb-false, lt-leb, le-leb, le-ltb, ne_eqb, leb-true, leb-false}
use Rattle.std.proofs.lemmas.Bool.Decides.{nat_tests}
use Rattle.std.proofs.lemmas.Option.{none-some}
use Rattle.tab_ids.specs.declared.NavId.{NavId}
use Rattle.tab_ids.specs.declared.StateId.{StateId}
use Rattle.tab_ids.specs.declared.EntryId.{EntryId}
use Rattle.log_model.specs.declared.row.Row.{Row}
use Rattle.log_model.specs.History.{History, is_of, has_row, cleared, pushed, used_steps, greatest_step, with_step}
use Rattle.log_model.specs.declared.change.Change.TheVariants.{Push}
use Rattle.log_model.specs.Order.{SameHistory}
use Rattle.log_model.specs.Soundness.{is_entry, IsSound}
use Rattle.history_laws.proofs.Members.{IsIn, IsIn-head, or_none, none_passes, list_any-none, some_same, found, found_none, IsIn-filter, IsIn-filter_passes, IsIn-into_filter}
use Rattle.history_laws.proofs.Tidying.{owner_same}
use Rattle.entry_store.specs.Kept.{IsKept, PutsRow}
use Rattle.entry_store.specs.Store.{MayTake}
use Rattle.entry_store.proofs.LastStep.{none_beyond, used_steps-any}
use Rattle.entry_store.proofs.AppendLaw.{cleared-last}
use Rattle.entry_store.proofs.PushLaw.{IsPlaced, pushed_row, push_same, push_kept, push_fits}
use Rattle.step_index.specs.declared.noted.Place.{Place}
use Rattle.step_index.specs.declared.track.Track.{Track}
use Rattle.step_index.specs.declared.parts.Parts.{Parts}
use Rattle.step_index.specs.Noted.{AreNoted}
use Rattle.step_index.specs.Parts.{history_in, IsIndex, IsLeftAt}
use Rattle.step_index.specs.Tracks.{rows_of, AreTracks, IsTrackAt, is_from}
use Rattle.step_index.specs.Cut.{rows_upto, rows_past, NotesLess}
use Rattle.step_index.proofs.Tracking.{rows_at}
use Rattle.step_index.proofs.Replacing.{filter-all}
use Rattle.step_index.proofs.Cutting.{filter_none}
use Rattle.step_index.proofs.Counting.{count_split, rest_noted}

-- a step behind all
pub with_step-last : (step : ℕ) (steps : List ℕ) → list_any (λ other. nat_le step other) steps ≡ false → with_step step steps ≡ steps ++ step ∷ []
with_step-last step [] lower = refl
with_step-last step (first ∷ steps) lower =
    let both = or_parts (nat_le step first) (list_any (λ other. nat_le step other) steps) lower in
    let past : first < step = leb-false step first both.0 in
    rw (le-ltb step first (omega (arith, past)), ne_eqb step first (λ same. omega (arith, same, past))) (ap (λ rest. first ∷ rest) (with_step-last step steps both.1))

-- ---- the rows up to the current step

upto_steps : (current : ℕ) (rows : List Row) (row : Row) → IsIn (rows_upto current rows) row → row.step.0 ≤ current
upto_steps current rows row there = leb-true row.step.0 current (IsIn-filter_passes (λ (r : Row). nat_le r.step.0 current) rows row there)

-- a row past it stands behind them
pub behind_upto : (current step : ℕ) (nav : NavId) (rows : List Row) → current < step → list_any (is_from nav step) (rows_upto current rows) ≡ false
behind_upto current step nav rows past =
    list_any-none (is_from nav step) (rows_upto current rows) (λ row there.
    nothing (is_of nav row) (nat_le step row.step.0) (lt-leb step row.step.0 (omega (arith, past, upto_steps current rows row there))))
  where
    nothing : (a b : Bool) → b ≡ false → (a && b) ≡ false
    nothing true b e = e
    nothing false b e = refl

pub beyond_upto : (current step : ℕ) (rows : List Row) (used : List ℕ) → used ≡ used_steps (rows_upto current rows) → current < step → list_any (λ other. nat_le step other) used ≡ false
beyond_upto current step rows used are past =
    ap (list_any (λ other. nat_le step other)) are
    ∙ used_steps-any (λ other. nat_le step other) (rows_upto current rows)
    ∙ list_any-none (λ (row : Row). nat_le step row.step.0) (rows_upto current rows) (λ row there. lt-leb step row.step.0 (omega (arith, past, upto_steps current rows row there)))

pub none_upto : (test : Row → Bool) (current : ℕ) (rows : List Row) → list_any test rows ≡ false → list_any test (rows_upto current rows) ≡ false
none_upto test current rows none = list_any-none test (rows_upto current rows) (λ row there. none_passes test rows none row (IsIn-filter (λ (r : Row). nat_le r.step.0 current) rows row there))

-- what a comparison of steps has told
pub at_most : {result : Bool} {found : ℕ} (greatest current : ℕ) → found ≡ greatest → result ≡ is_le (nat_cmp found current) → result ≡ true → greatest ≤ current
at_most {result} {found} greatest current same told is = grind (arith, nat_tests, same, told, is)

-- where no row stands past it, they are all
pub all_upto : (current : ℕ) (rows : List Row) → greatest_step rows ≤ current → rows_upto current rows ≡ rows
all_upto current rows last =
    filter-all (λ (row : Row). nat_le row.step.0 current) rows (λ row there.
    le-leb row.step.0 current (ltb-false current row.step.0 (none_passes (λ (r : Row). nat_lt current r.step.0) rows (none_beyond current rows last) row there)))

-- and none goes
pub none_past : (current : ℕ) (rows : List Row) → greatest_step rows ≤ current → rows_past current rows ≡ []
none_past current rows last =
    filter_none (λ (row : Row). not (nat_le row.step.0 current)) rows
    (list_any-none (λ (row : Row). not (nat_le row.step.0 current)) rows (λ row there.
    ap not (le-leb row.step.0 current (ltb-false current row.step.0 (none_passes (λ (r : Row). nat_lt current r.step.0) rows (none_beyond current rows last) row there)))))

pub clean_last : (history : History) → IsSound history → greatest_step history.rows ≤ history.current → cleared history ≡ rows_upto history.current history.rows
clean_last history sound last = cleared-last history sound last ∙ sym (all_upto history.current history.rows last)

-- ---- what is noted of them

pub upto_noted : (old new : List (EntryId × Place)) (current : ℕ) (rows : List Row) → ((entry : EntryId) → count_by (is_entry entry) rows ≤ 1) → NotesLess old (rows_past current rows) new → AreNoted old rows → AreNoted new (rows_upto current rows)
upto_noted old new current rows once less are =
    rest_noted old new rows (rows_past current rows) (rows_upto current rows) once
    (λ test. count_split test (λ (r : Row). nat_le r.step.0 current) rows)
    (λ row there. IsIn-filter (λ (r : Row). nat_le r.step.0 current) rows row there) less are

-- ---- the same, in the history that stands before and after room was made

pub same_upto : (one other : History) → one ≡ other → rows_upto one.current one.rows ≡ rows_upto other.current other.rows
same_upto one other same = ap (λ (h : History). rows_upto h.current h.rows) same

-- ---- the push

-- the first row of the navigable's track
pub record HasFirst (rows : List Row) (row : Row) (nav : NavId) : Type 0 where
  pub there : IsIn rows row
  pub is_navs : row.nav.0 ≡ nav.0

any_filter : (p q : Row → Bool) (rows : List Row) → list_any p (filter q rows) ≡ true → list_any p rows ≡ true
any_filter p q rows any = Rattle.history_laws.proofs.Members.list_any-weaker (λ r. q r && p r) p rows (λ row there both. (Rattle.std.proofs.lemmas.Bool.and_parts (q row) (p row) both).1) (sym (Rattle.history_laws.proofs.Members.list_any-filter p q rows) ∙ any)

first_row : (tracks : List Track) (nav : NavId) (at : ℕ) (place : IsTrackAt tracks nav at) → AreTracks tracks → (row : Row) → slice_get place.it.rows.items 0 ≡ Some row → HasFirst (rows_of tracks) row nav
first_row tracks nav at place are row here = by_rows place.it.rows.items refl here
  where
    by_rows : (rows : List Row) → place.it.rows.items ≡ rows → slice_get rows 0 ≡ Some row → HasFirst (rows_of tracks) row nav
    by_rows [] none at_ = absurd (none-some row at_)
    by_rows (first ∷ rest) is at_ =
        let mine : filter (is_of nav) (rows_of tracks) ≡ row ∷ rest = rows_at tracks nav at place.it are place.here place.is_navs ∙ is ∙ ap (λ (r : Row). r ∷ rest) (some_same first row at_) in
        record {
          there = λ test passes. any_filter test (is_of nav) (rows_of tracks) (ap (list_any test) mine ∙ ap (λ b. b || list_any test rest) passes);
          is_navs =
              eqb-true row.nav.0 nav.0 (IsIn-filter_passes (is_of nav) (rows_of tracks) row (λ test passes. ap (list_any test) mine ∙ ap (λ b. b || list_any test rest) passes));
        }

-- it stands up to a step
pub first_upto : (rows : List Row) (current : ℕ) (result : Bool) → IfSome (slice_get rows 0) (λ row. result ≡ nat_le row.step.0 current) → result ≡ true → IfSome (slice_get rows 0) (λ row. row.step.0 ≤ current)
first_upto [] current result told is = told
first_upto (row ∷ rows) current result told is = leb-true row.step.0 current (sym told ∙ is)

-- the first row that stays, with its owner
record HasOwner (rows : List Row) (current : ℕ) (owner : Option StateId) : Type 0 where
  pub it : Row
  pub here : slice_get rows 0 ≡ Some it
  pub owner_is : owner ≡ it.owner
  pub upto : it.step.0 ≤ current

has_owner : (rows : List Row) (current : ℕ) (owner : Option StateId) → option_map (λ (row : Row). row.owner) (slice_get rows 0) ≡ Some owner → IfSome (slice_get rows 0) (λ row. row.step.0 ≤ current) → HasOwner rows current owner
has_owner [] current owner none upto = absurd (none-some owner none)
has_owner (row ∷ rows) current owner is upto = record { it = row; here = refl; owner_is = sym (some_same row.owner owner is); upto = upto }

module _ (parts : Parts) (index : IsIndex parts) (room : parts.current.0 < 4294967294) (nav : NavId) (entry : EntryId) (state : StateId) (address : List ℕ) (memo : Option (List ℕ)) (may : MayTake (history_in parts) (Push nav entry state address memo)) (at : ℕ) (left : IsLeftAt parts nav at) (owner : Option StateId) (search : option_map (λ (row : Row). row.owner) (slice_get left.place.it.rows.items 0) ≡ Some owner) where
  abbrev history : History
  history = history_in parts

  first : HasOwner left.place.it.rows.items parts.current.0 owner
  first = has_owner left.place.it.rows.items parts.current.0 owner search left.first

  mine : HasFirst (rows_of parts.tracks.items) first.it nav
  mine = first_row parts.tracks.items nav at left.place index.tracks first.it first.here

  stays : IsIn (rows_upto parts.current.0 (rows_of parts.tracks.items)) first.it
  stays = IsIn-into_filter (λ (r : Row). nat_le r.step.0 parts.current.0) (rows_of parts.tracks.items) first.it mine.there (le-leb first.it.step.0 parts.current.0 first.upto)

  in_cleared : IsIn (cleared history) first.it
  in_cleared test passes = ap (list_any test) left.clean ∙ stays test passes

  -- the navigable has an entry that stays
  pub left_row : has_row nav (rows_upto parts.current.0 (rows_of parts.tracks.items)) ≡ true
  left_row = stays (is_of nav) (eq-eqb first.it.nav.0 nav.0 mine.is_navs)

  in_rows : (row : Row) → IsIn (cleared history) row → IsIn (rows_of parts.tracks.items) row
  in_rows row there = IsIn-filter (λ (r : Row). nat_le r.step.0 parts.current.0) (rows_of parts.tracks.items) row (λ test passes. ap (list_any test) (sym left.clean) ∙ there test passes)

  owner_found : (result : Option Row) → find (is_of nav) (cleared history) ≡ result → option_and_then (λ (row : Row). row.owner) result ≡ first.it.owner
  owner_found None none = absurd (false≢true (sym (found_none (is_of nav) (cleared history) none) ∙ in_cleared (is_of nav) (eq-eqb first.it.nav.0 nav.0 mine.is_navs)))
  owner_found (Some row) is =
      let it = found (is_of nav) (cleared history) row is in
      owner_same (rows_of parts.tracks.items) index.kept.sound.rooted row first.it (in_rows row it.is_in) mine.there (eqb-true row.nav.0 nav.0 it.passes ∙ sym mine.is_navs)

  p : IsPlaced history nav owner
  p = record {
    it = first.it;
    is_in = in_cleared;
    is_of = mine.is_navs;
    owner_is = first.owner_is;
    owner_of_is = owner_found (find (is_of nav) (cleared history)) refl ∙ sym first.owner_is;
  }

  module _ (row : Row) (row_is : row ≡ pushed_row parts.current.0 owner nav entry state address memo) (new : List Row) (puts : PutsRow (rows_upto parts.current.0 (rows_of parts.tracks.items)) row new) where
    puts_is : PutsRow (cleared history) (pushed_row parts.current.0 owner nav entry state address memo) new
    puts_is =
        subst (λ (rows : List Row). PutsRow rows (pushed_row parts.current.0 owner nav entry state address memo) new) (sym left.clean)
        (subst (λ (r : Row). PutsRow (rows_upto parts.current.0 (rows_of parts.tracks.items)) r new) row_is puts)

    pub pushed_fits : has_row nav (cleared history) ≡ true
    pushed_fits = push_fits history parts.used.items index.kept room nav entry state address memo may owner p new puts_is

    pub pushed_same : (added : List NavId) → added ≡ history.added → SameHistory (record { rows = new; current = parts.current.0 + 1; added = added }) (pushed history nav entry state address memo)
    pushed_same added same =
        subst (λ (a : List NavId). SameHistory (record { rows = new; current = parts.current.0 + 1; added = a }) (pushed history nav entry state address memo)) (sym same)
        (push_same history parts.used.items index.kept room nav entry state address memo may owner p new puts_is)

    pub pushed_kept : (added : List NavId) → added ≡ history.added → (beside : List ℕ) → beside ≡ with_step row.step.0 (used_steps (rows_upto parts.current.0 (rows_of parts.tracks.items))) → IsKept (record { rows = new; current = parts.current.0 + 1; added = added }) beside
    pushed_kept added same beside is =
        subst (λ (a : List NavId). IsKept (record { rows = new; current = parts.current.0 + 1; added = a }) beside) (sym same)
        (push_kept history parts.used.items index.kept room nav entry state address memo may owner p new puts_is beside
        (is ∙ ap (λ (r : Row). with_step r.step.0 (used_steps (rows_upto parts.current.0 (rows_of parts.tracks.items)))) row_is ∙ ap (λ rows. with_step (parts.current.0 + 1) (used_steps rows)) (sym left.clean)))
