-- What the removal of a frame does to a history: it stays sound.
use Rattle.std.proofs.Common.{◌≡◌, ◌≢◌, ℕ, Bool, true, not, List, ap, sym, ◌∙◌, arith, filter, inl, inr}
use Rattle.std.proofs.lemmas.Bool.{cases_Bool, and_parts, eqb-true}
use Rattle.tab_ids.specs.declared.NavId.{NavId}
use Rattle.log_model.specs.declared.row.Row.{Row}
use Rattle.log_model.specs.History.{History, is_of, tidied}
use Rattle.log_model.specs.Soundness.{is_entry, stands_at, IsSound}
use Rattle.history_laws.proofs.Members.{IsIn-filter, IsIn-into_filter, witness}
use Rattle.history_laws.proofs.Rooted.{count_by-filter, IsSound-tidied}

pub IsSound-removed : (history : History) (nav : NavId) (current : ℕ) (added : List NavId) → IsSound history → nav.0 ≢ 0 → IsSound (record { rows = tidied (filter (λ row. not (is_of nav row)) history.rows); current = current; added = added })
IsSound-removed history nav current added sound is_child =
    let passes : Row → Bool = λ row. not (is_of nav row) in
    IsSound-tidied history.rows sound.rooted (filter passes history.rows) (λ row kept. IsIn-filter passes history.rows row kept) current added
    (λ entry. omega (arith, count_by-filter (is_entry entry) passes history.rows, sound.entries entry))
    (λ other step. omega (arith, count_by-filter (stands_at other step) passes history.rows, sound.steps other step))
    (λ top zero_is.
    let w = witness (stands_at top 0) history.rows (sound.top_row top zero_is) in
    let both = and_parts (is_of top w.it) (lib.Dec.eqb w.it.step.0 0) w.passes in
    IsIn-into_filter passes history.rows w.it w.is_in (others w.it (eqb-true w.it.nav.0 top.0 both.0 ∙ zero_is)) (stands_at top 0) w.passes)
  where
    others : (row : Row) → row.nav.0 ≡ 0 → not (is_of nav row) ≡ true
    others row at_top =
        elim (cases_Bool (is_of nav row)) [
          | inl mine ↦ absurd (is_child (sym (eqb-true row.nav.0 nav.0 mine) ∙ at_top))
          | inr isnt ↦ ap not isnt
        ]
