-- What a push does to a history: it stays sound.
use Rattle.std.proofs.Common.{◌≡◌, ℕ, Bool, true, false, ◌&&◌, List, sym, ◌∙◌, ◌<◌, ◌≤◌, arith, filter, inl, inr}
use Rattle.std.specs.List.{list_any}
use Rattle.std.specs.Prelude.{nat_le}
use Rattle.std.proofs.lemmas.Bool.{cases_Bool, false≢true, and_parts, eqb-true, le-leb, leb-true}
use Rattle.tab_ids.specs.declared.NavId.{NavId}
use Rattle.log_model.specs.declared.row.Row.{Row}
use Rattle.log_model.specs.History.{History, is_of, cleared}
use Rattle.log_model.specs.Soundness.{is_entry, stands_at, is_in_state, holds, IsSound}
use Rattle.history_laws.proofs.Members.{IsIn, IsIn-filter, IsIn-filter_passes, IsIn-into_filter, witness, list_any-none}
use Rattle.history_laws.proofs.Tidying.{IsIn-tidied}
use Rattle.history_laws.proofs.Rooted.{count_by-filter, IsSound-tidied}
use Rattle.history_laws.proofs.OneMore.{AddsRow}
use Rattle.history_laws.proofs.Joining.{IsLike, IsSound-joined}

-- the rows up to a step
abbrev pub up_to : ℕ → List Row → List Row
up_to step rows = filter (λ row. nat_le row.step.0 step) rows

-- "clear the forward session history" keeps a history sound
pub IsSound-cleared : (history : History) (current : ℕ) (added : List NavId) → IsSound history → IsSound (record { rows = cleared history; current = current; added = added })
IsSound-cleared history current added sound =
    let passes : Row → Bool = λ row. nat_le row.step.0 history.current in
    IsSound-tidied history.rows sound.rooted (filter passes history.rows) (λ row kept. IsIn-filter passes history.rows row kept) current added
    (λ entry. omega (arith, count_by-filter (is_entry entry) passes history.rows, sound.entries entry))
    (λ nav step. omega (arith, count_by-filter (stands_at nav step) passes history.rows, sound.steps nav step))
    (λ nav zero_is.
    let w = witness (stands_at nav 0) history.rows (sound.top_row nav zero_is) in
    let both = and_parts (is_of nav w.it) (lib.Dec.eqb w.it.step.0 0) w.passes in
    IsIn-into_filter passes history.rows w.it w.is_in (le-leb w.it.step.0 history.current (omega (arith, eqb-true w.it.step.0 0 both.1))) (stands_at nav 0) w.passes)

-- the rows that a push clears away come after the current step
pub cleared-up_to : (history : History) (row : Row) → IsIn (cleared history) row → row.step.0 ≤ history.current
cleared-up_to history row kept =
    leb-true row.step.0 history.current (IsIn-filter_passes (λ r. nat_le r.step.0 history.current) history.rows row (IsIn-tidied (up_to history.current history.rows) row kept))

pub cleared-part : (history : History) (row : Row) → IsIn (cleared history) row → IsIn history.rows row
cleared-part history row kept =
    IsIn-filter (λ r. nat_le r.step.0 history.current) history.rows row (IsIn-tidied (up_to history.current history.rows) row kept)

-- a sound history, with an entry pushed after those that are left
pub IsSound-pushed : (history : History) (row : Row) (new : List Row) (now : ℕ) (added : List NavId)
    → IsSound history
    → AddsRow (cleared history) row new
    → IsLike (cleared history) row
    → history.current < row.step.0
    → list_any (is_entry row.entry) history.rows ≡ false
    → ((other : NavId) → holds other row.state history.rows ≡ true → other.0 ≡ row.nav.0)
    → IsSound (record { rows = new; current = now; added = added })
IsSound-pushed history row new now added sound adds like later entry_is_new mine =
    IsSound-joined (cleared history) row new adds
    (list_any-none (is_entry row.entry) (cleared history) (λ r kept.
    elim (cases_Bool (is_entry row.entry r)) [
      | inl is ↦ absurd (false≢true (sym entry_is_new ∙ cleared-part history r kept (is_entry row.entry) is))
      | inr isnt ↦ isnt
    ]))
    (list_any-none (stands_at row.nav row.step.0) (cleared history) (λ r kept.
    elim (cases_Bool (stands_at row.nav row.step.0 r)) [
      | inl is ↦
          let both = and_parts (is_of row.nav r) (lib.Dec.eqb r.step.0 row.step.0) is in
          absurd (omega (arith, later, cleared-up_to history r kept, eqb-true r.step.0 row.step.0 both.1))
      | inr isnt ↦ isnt
    ]))
    history.current now added added
    (IsSound-cleared history history.current added sound)
    like
    (λ other held_by.
    let w = witness (λ r. is_of other r && is_in_state row.state r) (cleared history) held_by in
    mine other (cleared-part history w.it w.is_in (λ r. is_of other r && is_in_state row.state r) w.passes))
