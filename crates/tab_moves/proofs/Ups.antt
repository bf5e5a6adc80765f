-- What is above a navigable that the walk visits, and the row of its target in the store.
use Rattle.seen_facts.proofs.Hang.Members.{find_has, has_found}
use Rattle.seen_facts.specs.Hang.Members.{Has}
use Rattle.history_laws.proofs.InOrder.{row_of-ordered}
use Rattle.history_laws.proofs.Joining.{entry_same}
use Rattle.seen_facts.proofs.Home.Shown.{one_row}
use Rattle.log_model.proofs.Refl.{same_entry_refl}
use Rattle.log_model.specs.History.{History, row_of, same_entry}
use Rattle.log_model.specs.Places.{aim_of, is_awake, is_given_target}
use Rattle.log_model.specs.Seen.{Place, Seen, Status, asleep, awake, lost, place_in}
use Rattle.log_model.specs.Soundness.{IsSound, is_entry}
use Rattle.log_model.specs.declared.row.Row.{Row}
use Rattle.std.proofs.Common.{Bool, List, None, Option, Some, ap, false, not, refl, sym, true, ◌&&◌, ◌||◌, ◌∙◌, ◌∷◌, ◌≡◌, ◌≤◌}
use Rattle.std.specs.List.{count_by, list_any}
use Rattle.step_index.specs.Held.{history_held}
use Rattle.step_index.specs.contracts.step_index.StepIndexStore.TheImpl.Laws.{sound-law}
use Rattle.step_index.specs.declared.step_index.StepIndex.{StepIndex}
use Rattle.tab_doors.specs.Ties.{HoldsHistory}
use Rattle.tab_ids.specs.declared.NavId.{NavId}
use Rattle.tab_passes.proofs.PassedOn.{IsUpAt}
use Rattle.seen_facts.specs.Walk.Serving.{is_in_place, is_stopping}

-- ---- the row of an entry

row_there : (rows : List Row) (row : Row) → count_by (is_entry row.entry) rows ≤ 1 → Has rows row → row_of row.entry rows ≡ Some row
row_there rows row few there =
    let found = has_found (λ (r : Row). same_entry r.entry row.entry) rows row there (same_entry_refl row.entry) in
    let its = find_has (λ (r : Row). same_entry r.entry row.entry) rows found.0 found.1 in
    found.1 ∙ ap (λ (r : Row). Some r) (one_row rows row found.0 few there its.0 (entry_same found.0.entry row.entry its.1))

-- the store finds each row of the history
pub held_row : (store : StepIndex) (history : History) → HoldsHistory (history_held store) history → IsSound history → (row : Row) → Has history.rows row → row_of row.entry (history_held store).rows ≡ Some row
held_row store history same sound row has =
    sym (row_of-ordered (history_held store).rows (sound-law store).entries row.entry)
    ∙ ap (λ (l : List Row). row_of row.entry l) same.rows
    ∙ row_of-ordered history.rows sound.entries row.entry
    ∙ row_there history.rows row (sound.entries row.entry) has

-- ---- the navigable above

-- it is awake on its target, where it doesn't stop the walk
pub up_at : (s : Seen) (parent : NavId) (others : List NavId) (place : Place) → place.above ≡ parent ∷ others → list_any (is_stopping s.history.rows (aim_of s) s.places) place.above ≡ false → IsUpAt s (aim_of s) parent
up_at s parent others place is reached =
    by_place (place_in s.places parent) refl (first (is_stopping s.history.rows (aim_of s) s.places parent) (list_any (is_stopping s.history.rows (aim_of s) s.places) others) (ap (λ (l : List NavId). list_any (is_stopping s.history.rows (aim_of s) s.places) l) (sym is) ∙ reached))
  where
    first : (a b : Bool) → (a || b) ≡ false → a ≡ false
    first true b h = h
    first false b h = refl

    by_wake : (p : Place) → place_in s.places parent ≡ Some p → (st : Status) → p.status ≡ st → not (is_in_place s.history.rows (aim_of s) p) ≡ false → IsUpAt s (aim_of s) parent
    by_wake p found (awake x) wakes h = record { up = record { place = p; doc = x; placed = found; wakes = wakes }; stands = by_given (is_awake p) (is_given_target s.history.rows (aim_of s) p) h }
      where
        by_given : (a b : Bool) → not (a && b) ≡ false → b ≡ true
        by_given true true e = refl
        by_given true false e = absurd cc
        by_given false b e = absurd cc
    by_wake p found asleep wakes h = (let never : true ≡ false = sym (let r : not (is_in_place s.history.rows (aim_of s) p) ≡ true = rw wakes refl in r) ∙ h in absurd cc)
    by_wake p found lost wakes h = (let never : true ≡ false = sym (let r : not (is_in_place s.history.rows (aim_of s) p) ≡ true = rw wakes refl in r) ∙ h in absurd cc)

    by_place : (o : Option Place) → place_in s.places parent ≡ o → is_stopping s.history.rows (aim_of s) s.places parent ≡ false → IsUpAt s (aim_of s) parent
    by_place None found h = (let never : true ≡ false = sym (let r : is_stopping s.history.rows (aim_of s) s.places parent ≡ true = rw found refl in r) ∙ h in absurd cc)
    by_place (Some p) found h = by_wake p found p.status refl (sym (let r : is_stopping s.history.rows (aim_of s) s.places parent ≡ not (is_in_place s.history.rows (aim_of s) p) = rw found refl in r) ∙ h)
