-- A navigable's target at a step is an entry of it, up to that step; and it has one where it has such an entry.
use Rattle.std.proofs.Common.{◌≡◌, ◌⊎◌, inl, inr, ℕ, ◌≤◌, Bool, true, false, ◌&&◌, cond, List, [], ◌∷◌, refl, ◌∙◌, subst, Option, Some, None, fold, ◌==◌}
use Rattle.std.specs.Prelude.{filter, nat_le, nat_lt, is_some}
use Rattle.std.proofs.lemmas.Bool.{and_parts, and_from, leb-true, le-leb}
use Rattle.tab_ids.specs.declared.NavId.{NavId}
use Rattle.log_model.specs.declared.row.Row.{Row}
use Rattle.log_model.specs.History.{is_of, later_row, target_entry}
use Rattle.log_model.proofs.Refl.{nat_eq_refl}
use Rattle.seen_facts.specs.Hang.Members.{Has}
use Rattle.seen_facts.proofs.Hang.Forms.{nav_is}
use Rattle.seen_facts.proofs.Hang.Members.{has_filter, into_filter}

later_has : (best : Option Row) (rows : List Row) (row : Row) → fold later_row best rows ≡ Some row → (best ≡ Some row) ⊎ Has rows row
later_has best [] row e = inl e
later_has best (first ∷ rows) row e = by_rest (later_has (later_row best first) rows row e)
  where
    by_best : (o : Option Row) → best ≡ o → later_row o first ≡ Some row → (best ≡ Some row) ⊎ ((first ≡ row) ⊎ Has rows row)
    by_best None b h = inr (inl (let same : first ≡ row = cc in same))
    by_best (Some old) b h = by_test (nat_lt old.step.0 first.step.0) h
      where
        by_test : (c : Bool) → cond c (Some first) (Some old) ≡ Some row → (best ≡ Some row) ⊎ ((first ≡ row) ⊎ Has rows row)
        by_test true h = inr (inl (let same : first ≡ row = cc in same))
        by_test false h = inl (b ∙ h)

    by_rest : (later_row best first ≡ Some row) ⊎ Has rows row → (best ≡ Some row) ⊎ ((first ≡ row) ⊎ Has rows row)
    by_rest (inl h) = by_best best refl h
    by_rest (inr more) = inr (inr more)

later_stays : (row : Row) (rows : List Row) → is_some (fold later_row (Some row) rows) ≡ true
later_stays row [] = refl
later_stays row (first ∷ rows) = by_test (nat_lt row.step.0 first.step.0) (later_stays row rows) (later_stays first rows)
  where
    by_test : (c : Bool) → is_some (fold later_row (Some row) rows) ≡ true → is_some (fold later_row (Some first) rows) ≡ true → is_some (fold later_row (cond c (Some first) (Some row)) rows) ≡ true
    by_test true old new = new
    by_test false old new = old

later_some : (best : Option Row) (rows : List Row) (row : Row) → Has rows row → is_some (fold later_row best rows) ≡ true
later_some best [] row h = absurd h
later_some None (first ∷ rows) row h = later_stays first rows
later_some (Some old) (first ∷ rows) row h = later_stays old (first ∷ rows)

pub record IsTarget (rows : List Row) (nav : NavId) (step : ℕ) (row : Row) : Type 0 where
  pub there : Has rows row
  pub nav_is : row.nav ≡ nav
  pub by : row.step.0 ≤ step

pub target_has : (rows : List Row) (nav : NavId) (step : ℕ) (row : Row) → target_entry rows nav step ≡ Some row → IsTarget rows nav step row
target_has rows nav step row e = by_case (later_has None (filter (λ r. is_of nav r && nat_le r.step.0 step) rows) row e)
  where
    by_case : (None ≡ Some row) ⊎ Has (filter (λ r. is_of nav r && nat_le r.step.0 step) rows) row → IsTarget rows nav step row
    by_case (inl never) = cc
    by_case (inr there) =
        let h = has_filter (λ r. is_of nav r && nat_le r.step.0 step) rows row there in
        let both = and_parts (is_of nav row) (nat_le row.step.0 step) h.1 in
        record { there = h.0; nav_is = nav_is row.nav nav both.0; by = leb-true row.step.0 step both.1 }

pub target_there : (rows : List Row) (nav : NavId) (step : ℕ) (row : Row) → Has rows row → row.nav ≡ nav → row.step.0 ≤ step → is_some (target_entry rows nav step) ≡ true
target_there rows nav step row there same by =
    later_some None (filter (λ r. is_of nav r && nat_le r.step.0 step) rows) row
    (into_filter (λ r. is_of nav r && nat_le r.step.0 step) rows row there
    (and_from (is_of nav row) (nat_le row.step.0 step) (subst (λ (n : NavId). (row.nav.0 == n.0) ≡ true) same (nat_eq_refl row.nav.0)) (le-leb row.step.0 step by)))

-- an option that is some
pub some_is : {A : Type 0} (o : Option A) → is_some o ≡ true → (x : A) × (o ≡ Some x)
some_is None e = cc
some_is (Some x) e = (x, refl)
