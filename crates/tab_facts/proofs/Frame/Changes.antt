-- Where the rows of a history come from once a change is applied to it: they were there, but for one that is new or stands in the place of one that was.
use Rattle.address.specs.Addresses.{blank_text}
use Rattle.tab_facts.specs.FrameTab.Alive.{HasPlace}
use Rattle.seen_facts.proofs.Hang.Forms.{nav_is}
use Rattle.seen_facts.proofs.Hang.Members.{Passing, any_has, has_any, has_filter, has_map, has_more, has_tidied}
use Rattle.seen_facts.specs.Hang.Members.{Has}
use Rattle.log_model.proofs.Refl.{nat_eq_refl}
use Rattle.log_model.specs.History.{History, applied, cleared, first_step, fits, has_row, is_of, owner_of, replaced_row, same_entry}
use Rattle.log_model.specs.Seen.{Seen, place_in, place_of}
use Rattle.log_model.specs.declared.row.Row.{Row}
use Rattle.std.proofs.Common.{Bool, List, None, Option, Some, ap, cond, false, inl, inr, map, not, refl, subst, sym, true, ℕ, ◌&&◌, ◌+◌, ◌==◌, ◌∙◌, ◌≡◌, ◌⊎◌}
use Rattle.std.specs.Prelude.{filter, nat_le}
use Rattle.tab_ids.specs.declared.EntryId.{EntryId}
use Rattle.tab_ids.specs.declared.NavId.{NavId}
use Rattle.tab_ids.specs.declared.StateId.{StateId}
use Rattle.log_model.specs.declared.change.Change.TheVariants as changes

-- ---- where a row comes from

-- it stands in the place of one that was there, in its navigable and at its step, with this document state
pub record IsPutOver (rows_ : List Row) (nav : NavId) (state : StateId) (row : Row) : Type 0 where
  pub was : Row
  pub there : Has rows_ was
  pub was_nav : was.nav ≡ nav
  pub nav_is : row.nav ≡ nav
  pub step_is : row.step ≡ was.step
  pub state_is : row.state ≡ state

pub cleared_from : (history : History) (row : Row) → Has (cleared history) row → Has history.rows row
cleared_from history row has =
    (has_filter (λ (r : Row). nat_le r.step.0 history.current) history.rows row (has_tidied (filter (λ (r : Row). nat_le r.step.0 history.current) history.rows) row has).0).0

abbrev pub push_row : History → NavId → EntryId → StateId → List ℕ → Option (List ℕ) → Row
push_row history nav entry state address memo =
    record { owner = owner_of nav (cleared history); nav = nav; entry = entry; step = record { 0 = history.current + 1 }; state = state; address = address; memo = memo }

pub push_rows : (history : History) (nav : NavId) (entry : EntryId) (state : StateId) (address : List ℕ) (memo : Option (List ℕ)) (row : Row) → Has (applied history (changes.Push nav entry state address memo)).rows row → Has history.rows row ⊎ (push_row history nav entry state address memo ≡ row)
push_rows history nav entry state address memo row has = by_case (has_more (cleared history) (push_row history nav entry state address memo) row has)
  where
    by_case : Has (cleared history) row ⊎ (push_row history nav entry state address memo ≡ row) → Has history.rows row ⊎ (push_row history nav entry state address memo ≡ row)
    by_case (inl old) = inl (cleared_from history row old)
    by_case (inr new) = inr new

abbrev pub put_row : NavId → EntryId → StateId → List ℕ → Option (List ℕ) → Row
put_row nav entry state address memo =
    record { owner = None; nav = nav; entry = entry; step = record { 0 = 0 }; state = state; address = address; memo = memo }

pub replace_rows : (history : History) (nav : NavId) (over entry : EntryId) (state : StateId) (address : List ℕ) (memo : Option (List ℕ)) (row : Row) → Has (applied history (changes.Replace nav over entry state address memo)).rows row → Has history.rows row ⊎ IsPutOver history.rows nav state row
replace_rows history nav over entry state address memo row has =
    let x = has_map (replaced_row over new) history.rows row (has_tidied (map (replaced_row over new) history.rows) row has).0 in
    by_test x.it x.there (same_entry x.it.entry over && is_of nav x.it) refl x.is
  where
    new : Row
    new = put_row nav entry state address memo

    second : (a b : Bool) → (a && b) ≡ true → b ≡ true
    second true b e = e
    second false b e = absurd cc

    by_test : (it : Row) → Has history.rows it → (b : Bool) → (same_entry it.entry over && is_of nav it) ≡ b → (let r : Row = cond b (record (put_row nav entry state address memo) { owner = it.owner; step = it.step }) it in r) ≡ row → Has history.rows row ⊎ IsPutOver history.rows nav state row
    by_test it there false e is = inl (subst (Has history.rows) is there)
    by_test it there true e is =
        inr (record {
          was = it;
          there = there;
          was_nav = nav_is it.nav nav (second (same_entry it.entry over) (is_of nav it) e);
          nav_is = ap (λ (r : Row). r.nav) (sym is);
          step_is = ap (λ (r : Row). r.step) (sym is);
          state_is = ap (λ (r : Row). r.state) (sym is);
        })

abbrev pub frame_row : History → StateId → NavId → EntryId → StateId → Row
frame_row history owner nav entry state =
    record { owner = Some owner; nav = nav; entry = entry; step = record { 0 = first_step owner history.rows }; state = state; address = blank_text; memo = None }

pub add_rows : (history : History) (owner : StateId) (nav : NavId) (entry : EntryId) (state : StateId) (row : Row) → Has (applied history (changes.AddFrame owner nav entry state)).rows row → Has history.rows row ⊎ (frame_row history owner nav entry state ≡ row)
add_rows history owner nav entry state row has = has_more history.rows (frame_row history owner nav entry state) row has

pub remove_rows : (history : History) (nav : NavId) (row : Row) → Has (applied history (changes.RemoveFrame nav)).rows row → Has history.rows row
remove_rows history nav row has =
    (has_filter (λ (r : Row). not (is_of nav r)) history.rows row (has_tidied (filter (λ (r : Row). not (is_of nav r)) history.rows) row has).0).0

-- ---- who has no entry gets none

gets_none_by : (old new : List Row) (nav : NavId) → ((row : Row) → Has new row → row.nav ≡ nav → has_row nav old ≡ true) → has_row nav old ≡ false → has_row nav new ≡ false
gets_none_by old new nav each none = by_test (has_row nav new) refl
  where
    by_test : (b : Bool) → has_row nav new ≡ b → b ≡ false
    by_test false e = refl
    by_test true e =
        let a : Passing (is_of nav) new = any_has (is_of nav) new e in
        let never : true ≡ false = sym (each a.it a.there (nav_is a.it.nav nav a.passes)) ∙ none in absurd cc

of_it : (rows_ : List Row) (row : Row) (nav : NavId) → Has rows_ row → row.nav ≡ nav → has_row nav rows_ ≡ true
of_it rows_ row nav there is =
    has_any (is_of nav) rows_ row there (ap (λ (n : NavId). n.0 == nav.0) is ∙ nat_eq_refl nav.0)

pub push_none : (history : History) (nav : NavId) (entry : EntryId) (state : StateId) (address : List ℕ) (memo : Option (List ℕ)) → fits history (changes.Push nav entry state address memo) ≡ true → (other : NavId) → has_row other history.rows ≡ false → has_row other (applied history (changes.Push nav entry state address memo)).rows ≡ false
push_none history nav entry state address memo fit other none =
    gets_none_by history.rows (applied history (changes.Push nav entry state address memo)).rows other (λ row has is. by_case row is (push_rows history nav entry state address memo row has)) none
  where
    by_case : (row : Row) → row.nav ≡ other → Has history.rows row ⊎ (push_row history nav entry state address memo ≡ row) → has_row other history.rows ≡ true
    by_case row is (inl old) = of_it history.rows row other old is
    by_case row is (inr new) =
        let a : Passing (is_of nav) (cleared history) = any_has (is_of nav) (cleared history) fit in
        of_it history.rows a.it other (cleared_from history a.it a.there) (nav_is a.it.nav nav a.passes ∙ ap (λ (r : Row). r.nav) new ∙ is)

pub replace_none : (history : History) (nav : NavId) (over entry : EntryId) (state : StateId) (address : List ℕ) (memo : Option (List ℕ)) (other : NavId) → has_row other history.rows ≡ false → has_row other (applied history (changes.Replace nav over entry state address memo)).rows ≡ false
replace_none history nav over entry state address memo other none =
    gets_none_by history.rows (applied history (changes.Replace nav over entry state address memo)).rows other (λ row has is. by_case row is (replace_rows history nav over entry state address memo row has)) none
  where
    by_case : (row : Row) → row.nav ≡ other → Has history.rows row ⊎ IsPutOver history.rows nav state row → has_row other history.rows ≡ true
    by_case row is (inl old) = of_it history.rows row other old is
    by_case row is (inr put) = of_it history.rows put.was other put.there (put.was_nav ∙ sym put.nav_is ∙ is)

pub add_none : (s : Seen) (owner : StateId) (nav : NavId) (entry : EntryId) (state : StateId) → place_of s nav ≡ None → (other : NavId) → HasPlace s.places other → has_row other s.history.rows ≡ false → has_row other (applied s.history (changes.AddFrame owner nav entry state)).rows ≡ false
add_none s owner nav entry state new other placed none =
    gets_none_by s.history.rows (applied s.history (changes.AddFrame owner nav entry state)).rows other (λ row has is. by_case row is (add_rows s.history owner nav entry state row has)) none
  where
    by_case : (row : Row) → row.nav ≡ other → Has s.history.rows row ⊎ (frame_row s.history owner nav entry state ≡ row) → has_row other s.history.rows ≡ true
    by_case row is (inl old) = of_it s.history.rows row other old is
    by_case row is (inr its) =
        let same : nav ≡ other = ap (λ (r : Row). r.nav) its ∙ is in
        let never : None ≡ Some placed.place = sym new ∙ (ap (λ (n : NavId). place_in s.places n) same ∙ placed.found) in absurd cc

pub remove_none : (history : History) (nav other : NavId) → has_row other history.rows ≡ false → has_row other (applied history (changes.RemoveFrame nav)).rows ≡ false
remove_none history nav other none =
    gets_none_by history.rows (applied history (changes.RemoveFrame nav)).rows other (λ row has is. of_it history.rows row other (remove_rows history nav row has) is) none
