-- A history stays sound over each change that fits, where a new entry is new.
use Rattle.address.specs.Addresses.{blank_text}
use Rattle.seen_facts.proofs.Hang.Members.{find_has as found_has}  -- keep
use Rattle.seen_facts.proofs.Hang.Members.{Passing, any_has, has_found, is_in}
use Rattle.seen_facts.proofs.Hang.Parts.{state_is}
use Rattle.seen_facts.specs.Hang.Members.{Has}
use Rattle.history_laws.proofs.AddFrame.{IsSound-framed}
use Rattle.history_laws.proofs.Joining.{entry_same}
use Rattle.history_laws.proofs.OneMore.{AddsRow-push}
use Rattle.history_laws.proofs.Push.{IsSound-pushed}
use Rattle.history_laws.proofs.RemoveFrame.{IsSound-removed}
use Rattle.history_laws.proofs.Replace.{IsSound-replaced, replaced-split}
use Rattle.log_model.specs.Soundness.{holds}  -- keep
use Rattle.log_model.specs.History.{History, applied, cleared, first_step, fits, has_row, has_state, is_of, owner_of, same_entry, tidied, used_step_at}
use Rattle.log_model.specs.Soundness.{IsSound, is_entry, is_in_state}
use Rattle.log_model.specs.declared.row.Row.{Row}
use Rattle.std.proofs.Common.{Bool, List, None, Option, Some, [], ap, arith, false, inl, inr, not, refl, subst, sym, true, ℕ, ◌&&◌, ◌++◌, ◌+◌, ◌==◌, ◌||◌, ◌∙◌, ◌∷◌, ◌≡◌}
use Rattle.std.proofs.lemmas.Bool.{and_parts, eqb-true}
use Rattle.std.specs.List.{list_any}
use Rattle.std.specs.Prelude.{filter, option_and_then}
use Rattle.tab_ids.specs.declared.EntryId.{EntryId}
use Rattle.tab_ids.specs.declared.NavId.{NavId}
use Rattle.tab_ids.specs.declared.StateId.{StateId}
use Rattle.log_model.specs.declared.change.Change.TheVariants as changes

-- ---- what is new

-- an entry that no row has
pub none_entry : (rows : List Row) (entry : EntryId) → ((row : Row) → Has rows row → row.entry ≡ entry → ⊥) → list_any (is_entry entry) rows ≡ false
none_entry [] entry none = refl
none_entry (row ∷ rows) entry none = by_test (is_entry entry row) refl (none_entry rows entry (λ r has. none r (inr has)))
  where
    by_test : (b : Bool) → is_entry entry row ≡ b → list_any (is_entry entry) rows ≡ false → (b || list_any (is_entry entry) rows) ≡ false
    by_test true e rest = absurd (none row (inl refl) (entry_same row.entry entry e))
    by_test false e rest = rest

none_state : (rows : List Row) (state : StateId) → ((row : Row) → Has rows row → row.state ≡ state → ⊥) → has_state state rows ≡ false
none_state [] state none = refl
none_state (row ∷ rows) state none = by_test (row.state.0 == state.0) refl (none_state rows state (λ r has. none r (inr has)))
  where
    by_test : (b : Bool) → (row.state.0 == state.0) ≡ b → has_state state rows ≡ false → (b || has_state state rows) ≡ false
    by_test true e rest = absurd (none row (inl refl) (state_is row.state state e))
    by_test false e rest = rest

-- the rows of the document state are the navigable's
held_by : (rows : List Row) (nav : NavId) (state : StateId) → ((row : Row) → Has rows row → row.state ≡ state → row.nav ≡ nav) → (other : NavId) → holds other state rows ≡ true → other.0 ≡ nav.0
held_by rows nav state owned other held =
    let a : Passing (λ (row : Row). is_of other row && is_in_state state row) rows = any_has (λ (row : Row). is_of other row && is_in_state state row) rows held in
    let both = and_parts (is_of other a.it) (is_in_state state a.it) a.passes in
    sym (eqb-true a.it.nav.0 other.0 both.0) ∙ ap (λ (n : NavId). n.0) (owned a.it a.there (state_is a.it.state state both.1))

-- a row that passes, and those around it
record Split (test : Row → Bool) (rows : List Row) : Type 0 where
  it : Row
  front : List Row
  back : List Row
  is : rows ≡ front ++ it ∷ back
  passes : test it ≡ true

split : (test : Row → Bool) (rows : List Row) → list_any test rows ≡ true → Split test rows
split test [] any = absurd cc
split test (row ∷ rows) any = by_test (test row) refl any (λ e. split test rows e)
  where
    by_test : (b : Bool) → test row ≡ b → (b || list_any test rows) ≡ true → (list_any test rows ≡ true → Split test rows) → Split test (row ∷ rows)
    by_test true e any more = record { it = row; front = []; back = rows; is = refl; passes = e }
    by_test false e any more =
        (let s = more any in record { it = s.it; front = row ∷ s.front; back = s.back; is = ap (λ (l : List Row). row ∷ l) s.is; passes = s.passes })

-- ---- the changes

pub sound_pushed : (history : History) (nav : NavId) (entry : EntryId) (state : StateId) (address : List ℕ) (memo : Option (List ℕ)) → IsSound history → has_row nav (cleared history) ≡ true → list_any (is_entry entry) history.rows ≡ false → ((row : Row) → Has history.rows row → row.state ≡ state → row.nav ≡ nav) → IsSound (applied history (changes.Push nav entry state address memo))
sound_pushed history nav entry state address memo sound fit none owned =
    let a : Passing (is_of nav) (cleared history) = any_has (is_of nav) (cleared history) fit in
    let found = has_found (is_of nav) (cleared history) a.it a.there a.passes in
    let has = found_has (is_of nav) (cleared history) found.0 found.1 in
    let new : Row = record { owner = owner_of nav (cleared history); nav = nav; entry = entry; step = record { 0 = history.current + 1 }; state = state; address = address; memo = memo } in
    IsSound-pushed history new (cleared history ++ new ∷ []) (history.current + 1) history.added sound (AddsRow-push (cleared history) new)
    (record { it = found.0; is_in = is_in (cleared history) found.0 has.0; nav = sym (eqb-true found.0.nav.0 nav.0 has.1); owner = ap (λ (o : Option Row). option_and_then (λ (row : Row). row.owner) o) found.1 })
    (omega arith) none (held_by history.rows nav state owned)

pub sound_replaced : (history : History) (nav : NavId) (over entry : EntryId) (state : StateId) (address : List ℕ) (memo : Option (List ℕ)) → IsSound history → fits history (changes.Replace nav over entry state address memo) ≡ true → list_any (is_entry entry) history.rows ≡ false → ((row : Row) → Has history.rows row → row.state ≡ state → row.nav ≡ nav) → IsSound (applied history (changes.Replace nav over entry state address memo))
sound_replaced history nav over entry state address memo sound fit none owned =
    let old = split (λ (row : Row). same_entry row.entry over && is_of nav row) history.rows fit in
    let both = and_parts (same_entry old.it.entry over) (is_of nav old.it) old.passes in
    let put : Row = record { owner = None; nav = nav; entry = entry; step = record { 0 = 0 }; state = state; address = address; memo = memo } in
    let new : Row = record put { owner = old.it.owner; step = old.it.step } in
    subst (λ (rows : List Row). IsSound (record { rows = tidied rows; current = history.current; added = history.added })) (sym (replaced-split history sound old.front old.back old.it put over old.is both.0 both.1))
    (IsSound-replaced history sound old.front old.back old.it new old.is (sym (eqb-true old.it.nav.0 nav.0 both.1)) refl refl none (held_by history.rows nav state owned) history.current history.added)

pub sound_removed : (history : History) (nav : NavId) → IsSound history → (nav.0 == 0) ≡ false → IsSound (applied history (changes.RemoveFrame nav))
sound_removed history nav sound child =
    IsSound-removed history nav (used_step_at (tidied (filter (λ (row : Row). not (is_of nav row)) history.rows)) history.current) history.added sound (λ zero_is. (let never : true ≡ false = sym (ap (λ (n : ℕ). n == 0) zero_is) ∙ child in cc))

pub sound_added : (history : History) (owner : StateId) (nav : NavId) (entry : EntryId) (state : StateId) → IsSound history → has_state owner history.rows ≡ true → (nav.0 == 0) ≡ false → has_row nav history.rows ≡ false → list_any (is_entry entry) history.rows ≡ false → ((row : Row) → Has history.rows row → row.state ≡ state → ⊥) → IsSound (applied history (changes.AddFrame owner nav entry state))
sound_added history owner nav entry state sound owned child bare none new_state =
    let new : Row = record { owner = Some owner; nav = nav; entry = entry; step = record { 0 = first_step owner history.rows }; state = state; address = blank_text; memo = None } in
    IsSound-framed history.rows new (history.rows ++ new ∷ []) (AddsRow-push history.rows new) owner refl owned bare (λ zero_is. (let never : true ≡ false = sym (ap (λ (n : ℕ). n == 0) zero_is) ∙ child in cc)) (none_state history.rows state new_state)
    history.current history.current history.added (history.added ++ nav ∷ []) sound none
