-- What a replace does to a history: it stays sound.
use Rattle.std.proofs.Common.{◌≡◌, ℕ, Bool, true, false, ◌&&◌, ◌||◌, cond, List, [], ◌∷◌, ◌++◌, refl, ap, sym, ◌∙◌, map, arith, subst}
use Rattle.std.specs.List.{list_any, count_by}
use Rattle.std.proofs.lemmas.Bool.{or_parts, and_from}
use Rattle.std.proofs.lemmas.List.Sums.{sum_by-cons}
use Rattle.std.proofs.lemmas.List.{map-append}
use Rattle.std.proofs.lemmas.List.Folds.{list_any-append}
use Rattle.tab_ids.specs.declared.NavId.{NavId}
use Rattle.tab_ids.specs.declared.EntryId.{EntryId}
use Rattle.log_model.specs.declared.row.Row.{Row}
use Rattle.log_model.specs.History.{History, same_entry, is_of, tidied, replaced_row}
use Rattle.log_model.specs.Soundness.{is_entry, stands_at, holds, IsRooted, IsSound}
use Rattle.history_laws.proofs.Members.{or_right, IsIn, IsIn-head, IsIn-tail, none_passes}
use Rattle.history_laws.proofs.Rooted.{IsSound-tidied}
use Rattle.history_laws.proofs.OneMore.{AddsRow, AddsRow-insert, AddsRow-push}
use Rattle.history_laws.proofs.Joining.{Joins-added, IsRooted-joined, one_at_most, entry_same}

-- no one is counted, so none passes
pub list_any-zero : {A : Type 0} (test : A → Bool) (xs : List A) → count_by test xs ≡ 0 → list_any test xs ≡ false
list_any-zero test [] none = refl
list_any-zero {A} test (x ∷ xs) none = by_test (list_any-zero test xs) (test x) refl
  where
    by_test : (count_by test xs ≡ 0 → list_any test xs ≡ false) → (b : Bool) → test x ≡ b → list_any test (x ∷ xs) ≡ false
    by_test rest true is = absurd (omega (arith, none, sum_by-cons (λ y. cond (test y) 1 0) x xs, ap {B = ℕ} (λ b. cond b 1 0) is))
    by_test rest false isnt = ap (λ b. b || list_any test xs) isnt ∙ rest (omega (arith, none, sum_by-cons (λ y. cond (test y) 1 0) x xs, ap {B = ℕ} (λ b. cond b 1 0) isnt))

-- a function that changes no element of the list
pub map-same : {A : Type 0} (f : A → A) (xs : List A) → ((x : A) → IsIn xs x → f x ≡ x) → map f xs ≡ xs
map-same f [] same = refl
map-same f (x ∷ xs) same = ap (λ y. y ∷ map f xs) (same x (IsIn-head xs x)) ∙ ap (λ ys. x ∷ ys) (map-same f xs (λ y there. same y (IsIn-tail xs x y there)))

-- one row in the place of another: it has that one's navigable, owner and step
module _ (history : History) (sound : IsSound history) (front back : List Row) (old new : Row) (was : history.rows ≡ front ++ old ∷ back) (nav_same : new.nav.0 ≡ old.nav.0) (owner_same : new.owner ≡ old.owner) (step_same : new.step.0 ≡ old.step.0) (entry_is_new : list_any (is_entry new.entry) history.rows ≡ false) (mine : (other : NavId) → holds other new.state history.rows ≡ true → other.0 ≡ new.nav.0) where
  abbrev rest : List Row
  rest = front ++ back

  abbrev put : List Row
  put = front ++ new ∷ back

  abbrev whole : List Row
  whole = history.rows ++ new ∷ []

  old_adds : AddsRow rest old history.rows
  old_adds = subst (λ (rows : List Row). AddsRow rest old rows) (sym was) (AddsRow-insert front back old)

  new_adds : AddsRow rest new put
  new_adds = AddsRow-insert front back new

  whole_adds : AddsRow history.rows new whole
  whole_adds = AddsRow-push history.rows new

  there : IsIn history.rows old
  there test passes = old_adds.any test ∙ ap (λ b. b || list_any test rest) passes

  pub replaced_whole : IsRooted whole
  replaced_whole =
      IsRooted-joined history.rows new.nav new.state whole
      (Joins-added history.rows new whole whole_adds (record { it = old; is_in = there; nav = nav_same; owner = owner_same }))
      sound.rooted sound.anchored mine

  or_part : (a b c : Bool) → (a || b) ≡ true → (a || (c || b)) ≡ true
  or_part true b c any = refl
  or_part false b true any = refl
  or_part false b false any = any

  pub replaced_part : (row : Row) → IsIn put row → IsIn whole row
  replaced_part row is_in test passes =
      whole_adds.any test ∙ ap (λ b. test new || b) (old_adds.any test) ∙ or_part (test new) (list_any test rest) (test old) (sym (new_adds.any test) ∙ is_in test passes)

  -- old and new alike at each step of a navigable
  stands_same : (nav : NavId) (step : ℕ) → stands_at nav step new ≡ stands_at nav step old
  stands_same nav step = ap (λ n. lib.Dec.eqb n nav.0 && lib.Dec.eqb new.step.0 step) nav_same ∙ ap (λ n. lib.Dec.eqb old.nav.0 nav.0 && lib.Dec.eqb n step) step_same

  pub IsSound-replaced : (current : ℕ) (added : List NavId) → IsSound (record { rows = tidied put; current = current; added = added })
  IsSound-replaced current added =
      IsSound-tidied whole replaced_whole put replaced_part current added
      (λ entry. one_at_most rest new put new_adds (is_entry entry)
      (omega (arith, sound.entries entry, old_adds.count (is_entry entry)))
      (λ is. (or_parts (is_entry entry old) (list_any (is_entry entry) rest) (sym (old_adds.any (is_entry entry)) ∙ subst (λ (e : EntryId). list_any (is_entry e) history.rows ≡ false) (entry_same new.entry entry is) entry_is_new)).1))
      (λ nav step. omega (arith, sound.steps nav step, old_adds.count (stands_at nav step), new_adds.count (stands_at nav step), ap {B = ℕ} (λ b. cond b 1 0) (stands_same nav step)))
      (λ nav zero_is. new_adds.any (stands_at nav 0) ∙ ap (λ b. b || list_any (stands_at nav 0) rest) (stands_same nav 0) ∙ sym (old_adds.any (stands_at nav 0)) ∙ sound.top_row nav zero_is)

-- the definition changes that row alone
pub replaced-split : (history : History) → IsSound history → (front back : List Row) (old new : Row) (over : EntryId) → history.rows ≡ front ++ old ∷ back → same_entry old.entry over ≡ true → is_of new.nav old ≡ true
    → map (replaced_row over new) history.rows ≡ front ++ record new { owner = old.owner; step = old.step } ∷ back
replaced-split history sound front back old new over was same mine =
    ap (map (replaced_row over new)) was ∙ map-append (replaced_row over new) front (old ∷ back)
    ∙ ap (λ rows. rows ++ map (replaced_row over new) (old ∷ back)) (map-same (replaced_row over new) front (λ row is_in. stays row (λ test passes. in_front test row is_in passes)))
    ∙ ap (λ row. front ++ row ∷ map (replaced_row over new) back) (ap (λ b. cond b (record new { owner = old.owner; step = old.step }) old) (and_from _ _ same mine))
    ∙ ap (λ rows. front ++ record new { owner = old.owner; step = old.step } ∷ rows) (map-same (replaced_row over new) back (λ row is_in. stays row (λ test passes. in_back test row is_in passes)))
  where
    adds : AddsRow (front ++ back) old history.rows
    adds = subst (λ (rows : List Row). AddsRow (front ++ back) old rows) (sym was) (AddsRow-insert front back old)

    in_front : (test : Row → Bool) (row : Row) → IsIn front row → test row ≡ true → list_any test (front ++ back) ≡ true
    in_front test row is_in passes = list_any-append test front back ∙ ap (λ b. b || list_any test back) (is_in test passes)

    in_back : (test : Row → Bool) (row : Row) → IsIn back row → test row ≡ true → list_any test (front ++ back) ≡ true
    in_back test row is_in passes = list_any-append test front back ∙ or_right (list_any test front) (list_any test back) (is_in test passes)

    none_else : list_any (is_entry over) (front ++ back) ≡ false
    none_else = list_any-zero (is_entry over) (front ++ back) (omega (arith, sound.entries over, adds.count (is_entry over), ap {B = ℕ} (λ b. cond b 1 0) same))

    stays : (row : Row) → IsIn (front ++ back) row → replaced_row over new row ≡ row
    stays row is_in = ap (λ b. cond (b && is_of new.nav row) (record new { owner = row.owner; step = row.step }) row) (none_passes (is_entry over) (front ++ back) none_else row is_in)
