-- The line of a shown navigable, by what the world's readers answer: its target, and the view of the document that runs.
use Rattle.seen_facts.proofs.Hang.Members.{has_any}
use Rattle.seen_facts.proofs.Hang.Targets.{target_has}
use Rattle.log_model.proofs.Refl.{nat_eq_refl}
use Rattle.log_model.specs.Causes.{denial_of_poke}
use Rattle.log_model.specs.Equal.{holds}
use Rattle.log_model.specs.Formed.{newer, poked_document, running_documents}
use Rattle.log_model.specs.History.{History, has_row, is_of, same_entry, target_entry}
use Rattle.log_model.specs.Seen.{Document, Seen}
use Rattle.log_model.specs.declared.outcome.Denial.{Denial}
use Rattle.log_model.specs.declared.outcome.Denial.TheVariants as denials
use Rattle.log_model.specs.declared.row.Row.{Row}
use Rattle.report_text.specs.Reports.{is_at, is_target, one_is_at}
use Rattle.std.proofs.Common.{List, None, Option, Some, [], ap, arith, false, fold, length, refl, subst, sym, true, ℕ, ◌+◌, ◌==◌, ◌∙◌, ◌∷◌, ◌≡◌, ◌≤◌}
use Rattle.std.specs.Prelude.{if◌then◌else◌, is_some, option_and_then, option_map}
use Rattle.tab_ids.specs.declared.EntryId.{EntryId}
use Rattle.tab_ids.specs.declared.NavId.{NavId}
use Rattle.world.specs.Steps.{reached_in}

-- ---- the target

pub target_test : (o : Option Row) (entry other : EntryId) → option_map (λ (row : Row). row.entry) o ≡ Some entry → same_entry entry other ≡ holds (λ (target : Row). same_entry target.entry other) o
target_test None entry other names = absurd cc
target_test (Some row) entry other names =
    let same : row.entry ≡ entry = cc in ap (λ (x : EntryId). same_entry x other) (sym same)

pub no_target_test : (o : Option Row) (other : EntryId) → option_map (λ (row : Row). row.entry) o ≡ None → false ≡ holds (λ (target : Row). same_entry target.entry other) o
no_target_test None other names = refl
no_target_test (Some row) other names = absurd cc

-- a navigable with a target has an entry
pub target_row : (history : History) (row : Row) → is_target history row ≡ true → has_row row.nav history.rows ≡ true
target_row history row is = by_target (target_entry history.rows row.nav history.current) refl is
  where
    by_target : (o : Option Row) → target_entry history.rows row.nav history.current ≡ o → holds (λ (target : Row). same_entry target.entry row.entry) o ≡ true → has_row row.nav history.rows ≡ true
    by_target None at never = absurd cc
    by_target (Some target) at same =
        let its = target_has history.rows row.nav history.current target at in
        has_any (is_of row.nav) history.rows target its.there (subst (λ (n : NavId). (target.nav.0 == n.0) ≡ true) its.nav_is (nat_eq_refl target.nav.0))

-- ---- the document that runs

-- where not exactly one runs, none is there
pub none_at : (row : Row) (long at : ℕ) (documents : List Document) → (length documents == 1) ≡ false → one_is_at row long at documents ≡ false
none_at row long at [] many = refl
none_at row long at (d ∷ []) never = cc
none_at row long at (d ∷ e ∷ documents) many = refl

pub one_at : (s : Seen) (row : Row) (long at : ℕ) → has_row row.nav s.history.rows ≡ true → length (running_documents s row.nav) ≤ 1 → holds (is_at row long at) (option_and_then (λ (d : Document). d.view) (reached_in s row.nav)) ≡ one_is_at row long at (running_documents s row.nav)
one_at s row long at there sole = by_list (running_documents s row.nav) refl
  where
    denied : (l : List Document) → running_documents s row.nav ≡ l → denial_of_poke s row.nav ≡ (if length l == 0 then Some denials.NoDocument else None)
    denied l is = rw there (ap (λ (m : List Document). let o : Option Denial = if length m == 0 then Some denials.NoDocument else None in o) is)

    reached : (l : List Document) → running_documents s row.nav ≡ l → reached_in s row.nav ≡ (if is_some (let o : Option Denial = if length l == 0 then Some denials.NoDocument else None in o) then None else fold newer None l)
    reached l is =
        ap (λ (o : Option Denial). let x : Option Document = if is_some o then None else poked_document s row.nav in x) (denied l is)
        ∙ ap (λ (m : List Document). let x : Option Document = if is_some (let o : Option Denial = if length l == 0 then Some denials.NoDocument else None in o) then None else fold newer None m in x) is

    by_list : (l : List Document) → running_documents s row.nav ≡ l → holds (is_at row long at) (option_and_then (λ (d : Document). d.view) (reached_in s row.nav)) ≡ one_is_at row long at (running_documents s row.nav)
    by_list [] is =
        ap (λ (o : Option Document). holds (is_at row long at) (option_and_then (λ (d : Document). d.view) o)) (reached [] is)
        ∙ sym (ap (λ (m : List Document). one_is_at row long at m) is)
    by_list (d ∷ []) is =
        ap (λ (o : Option Document). holds (is_at row long at) (option_and_then (λ (x : Document). x.view) o)) (reached (d ∷ []) is)
        ∙ sym (ap (λ (m : List Document). one_is_at row long at m) is)
    by_list (d ∷ e ∷ l) is =
        let two : length (d ∷ e ∷ l) ≡ length l + 2 = omega arith in
        let many : length (running_documents s row.nav) ≡ length l + 2 = ap (λ (m : List Document). length m) is ∙ two in
        absurd (omega (arith, sole, many))
