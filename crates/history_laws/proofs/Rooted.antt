-- Soundness through tidying.
use Rattle.std.proofs.Common.{◌≡◌, ℕ, ◌≤◌, Bool, true, false, not, ◌&&◌, ◌||◌, cond, List, [], ◌∷◌, refl, ap, sym, ◌∙◌, filter, arith, inl, inr, Option, Some, None}
use Rattle.std.specs.List.{list_any, count_by}
use Rattle.std.specs.Option.{option_map_or}
use Rattle.std.proofs.lemmas.Bool.{cases_Bool, or_cases, false≢true, not-true, and_parts, and_from, eqb-true, eq-eqb}
use Rattle.std.proofs.lemmas.List.Sums.{sum_by-cons}
use Rattle.tab_ids.specs.declared.NavId.{NavId}
use Rattle.tab_ids.specs.declared.StateId.{StateId}
use Rattle.tab_ids.specs.declared.EntryId.{EntryId}
use Rattle.log_model.specs.declared.row.Row.{Row}
use Rattle.log_model.specs.History.{is_of, has_row, has_state, is_anchored, tidied}
use Rattle.log_model.specs.Soundness.{is_entry, stands_at, is_in_state, is_owned_by, holds, hangs_on, IsRooted, IsSound, LeadsToTop}
use Rattle.history_laws.proofs.Members.{or_right, IsIn, witness}
use Rattle.history_laws.proofs.Tidying.{nav_same, state_same, hung, free, IsIn-tidied, IsIn-into_tidied, tidied-anchored, tidied-filter}

-- a filter has no more of a kind
pub count_by-filter : {A : Type 0} (p q : A → Bool) (xs : List A) → count_by p (filter q xs) ≤ count_by p xs
count_by-filter p q [] = omega arith
count_by-filter p q (x ∷ xs) =
    elim (q x) as (λ b. count_by p (cond b (x ∷ filter q xs) (filter q xs)) ≤ count_by p (x ∷ xs)) [
      | true ↦ omega (arith, count_by-filter p q xs, sum_by-cons (λ y. cond (p y) 1 0) x (filter q xs), sum_by-cons (λ y. cond (p y) 1 0) x xs)
      | false ↦ omega (arith, count_by-filter p q xs, sum_by-cons (λ y. cond (p y) 1 0) x xs)
    ]

-- a test, at the navigables that have a row
abbrev pub passes_where_rows : List Row → (NavId → Bool) → NavId → Bool
passes_where_rows rows test nav = not (has_row nav rows) || test nav

module _ (whole : List Row) (rooted : IsRooted whole) (rows : List Row) (part : (row : Row) → IsIn rows row → IsIn whole row) where
  kept_part : (row : Row) → IsIn (tidied rows) row → IsIn whole row
  kept_part row kept = part row (IsIn-tidied rows row kept)

  up : (test : Row → Bool) → list_any test (tidied rows) ≡ true → list_any test whole ≡ true
  up test any = let w = witness test (tidied rows) any in kept_part w.it w.is_in test w.passes

  -- a kept row that hangs on a document state hangs on that of a kept row
  pub tidied-has_owner : (nav : NavId) (owner : StateId) → hangs_on nav owner (tidied rows) ≡ true → has_state owner (tidied rows) ≡ true
  tidied-has_owner nav owner hangs =
      let w = witness (λ row. is_of nav row && is_owned_by owner row) (tidied rows) hangs in
      let both = and_parts (is_of nav w.it) (is_owned_by owner w.it) w.passes in
      by_owner w.it.owner both.1 (tidied-anchored rows w.it w.is_in)
    where
      by_owner : (mine : Option StateId) → option_map_or (λ (o : StateId). lib.Dec.eqb o.0 owner.0) mine false ≡ true → option_map_or (λ (o : StateId). has_state o (tidied rows)) mine true ≡ true → has_state owner (tidied rows) ≡ true
      by_owner None is anchored = absurd (false≢true is)
      by_owner (Some mine) is anchored = rw (sym (state_same mine owner (eqb-true mine.0 owner.0 is))) anchored

  leads_on : (nav : NavId) → has_row nav (tidied rows) ≡ true → LeadsToTop (tidied rows) nav
  leads_on nav has test top step =
      elim (or_cases (not (has_row nav (tidied rows))) (test nav) (rooted.leads nav (up _ has) (passes_where_rows (tidied rows) test) there_at_top there_below)) [
        | inl gone ↦ absurd (false≢true (sym (not-true (has_row nav (tidied rows)) gone) ∙ has))
        | inr passes ↦ passes
      ]
    where
      there_at_top : (n : NavId) → n.0 ≡ 0 → passes_where_rows (tidied rows) test n ≡ true
      there_at_top n zero_is = or_right (not (has_row n (tidied rows))) (test n) (top n zero_is)

      there_below : (child parent : NavId) (owner : StateId) → hangs_on child owner whole ≡ true → holds parent owner whole ≡ true → passes_where_rows (tidied rows) test parent ≡ true → passes_where_rows (tidied rows) test child ≡ true
      there_below child parent owner hangs held_by above =
          elim (cases_Bool (has_row child (tidied rows))) [
            | inl has_child ↦ or_right (not (has_row child (tidied rows))) (test child) (below has_child)
            | inr none ↦ rw none refl
          ]
        where
          below : has_row child (tidied rows) ≡ true → test child ≡ true
          below has_child =
              let w = witness (is_of child) (tidied rows) has_child in
              let hangs_left = hangs_by w.it w.is_in (eqb-true w.it.nav.0 child.0 w.passes) in
              let v = witness (is_in_state owner) (tidied rows) (tidied-has_owner child owner hangs_left) in
              let holds_at : holds v.it.nav owner whole ≡ true = kept_part v.it v.is_in (λ r. is_of v.it.nav r && is_in_state owner r) (and_from _ _ (eq-eqb v.it.nav.0 v.it.nav.0 refl) v.passes) in
              let is_parent = nav_same v.it.nav parent (rooted.states owner v.it.nav parent holds_at held_by) in
              let of_parent : is_of parent v.it ≡ true = eq-eqb v.it.nav.0 parent.0 (ap (λ (n : NavId). n.0) is_parent) in
              let has_parent : has_row parent (tidied rows) ≡ true = v.is_in (is_of parent) of_parent in
              let holds_left : holds parent owner (tidied rows) ≡ true = v.is_in (λ r. is_of parent r && is_in_state owner r) (and_from _ _ of_parent v.passes) in
              elim (or_cases (not (has_row parent (tidied rows))) (test parent) above) [
                | inl gone ↦ absurd (false≢true (sym (not-true (has_row parent (tidied rows)) gone) ∙ has_parent))
                | inr passes ↦ step child parent owner hangs_left holds_left passes
              ]
            where
              hangs_by : (row : Row) → IsIn (tidied rows) row → row.nav.0 ≡ child.0 → hangs_on child owner (tidied rows) ≡ true
              hangs_by row kept navs = by_owner row kept navs row.owner refl
                where
                  by_owner : (row : Row) → IsIn (tidied rows) row → row.nav.0 ≡ child.0 → (mine : Option StateId) → row.owner ≡ mine → hangs_on child owner (tidied rows) ≡ true
                  by_owner row kept navs None is = absurd (rooted.top_owner child owner hangs (sym navs ∙ rooted.child_owner row.nav (free whole rooted row is (kept_part row kept))))
                  by_owner row kept navs (Some mine) is =
                      let hangs_mine : hangs_on child mine whole ≡ true = rw (sym (nav_same row.nav child navs)) (hung whole rooted row mine is (kept_part row kept)) in
                      kept (λ r. is_of child r && is_owned_by owner r) (and_from _ _ (eq-eqb row.nav.0 child.0 navs) (rw is (eq-eqb mine.0 owner.0 (rooted.owners child mine owner hangs_mine hangs))))

  pub IsRooted-tidied : IsRooted (tidied rows)
  IsRooted-tidied = record {
    owners = λ nav one other hangs hangs_too. rooted.owners nav one other (up _ hangs) (up _ hangs_too);
    top_owner = λ nav owner hangs. rooted.top_owner nav owner (up _ hangs);
    child_owner = λ nav is. rooted.child_owner nav (up _ is);
    states = λ state one other held_one held_other. rooted.states state one other (up _ held_one) (up _ held_other);
    another = λ nav owner hangs.
        elim (cases_Bool (holds nav owner (tidied rows))) [
          | inl holds_too ↦ absurd (false≢true (sym (rooted.another nav owner (up _ hangs)) ∙ up _ holds_too))
          | inr apart ↦ apart
        ];
    leads = leads_on;
  }

  -- a sound history, of the rows that tidying keeps
  pub IsSound-tidied : (current : ℕ) (added : List NavId)
      → ((entry : EntryId) → count_by (is_entry entry) rows ≤ 1)
      → ((nav : NavId) (step : ℕ) → count_by (stands_at nav step) rows ≤ 1)
      → ((nav : NavId) → nav.0 ≡ 0 → list_any (stands_at nav 0) rows ≡ true)
      → IsSound (record { rows = tidied rows; current = current; added = added })
  IsSound-tidied current added entries steps top_row = record {
    entries = λ entry. omega (arith, fewer (is_entry entry), entries entry);
    steps = λ nav step. omega (arith, fewer (stands_at nav step), steps nav step);
    rooted = IsRooted-tidied;
    top_row = λ nav zero_is.
        let w = witness (stands_at nav 0) rows (top_row nav zero_is) in
        let both = and_parts (is_of nav w.it) (lib.Dec.eqb w.it.step.0 0) w.passes in
        IsIn-into_tidied rows w.it w.is_in (top_stays w.it w.is_in (eqb-true w.it.nav.0 nav.0 both.0 ∙ zero_is) w.it.owner refl) (stands_at nav 0) w.passes;
    anchored = tidied-has_owner;
  }
    where
      fewer : (p : Row → Bool) → count_by p (tidied rows) ≤ count_by p rows
      fewer p = rw (tidied-filter rows) (count_by-filter p (is_anchored (tidied rows)) rows)

      top_stays : (row : Row) → IsIn rows row → row.nav.0 ≡ 0 → (owner : Option StateId) → row.owner ≡ owner → option_map_or (λ (o : StateId). has_state o (tidied rows)) owner true ≡ true
      top_stays row there here None is = refl
      top_stays row there here (Some owner) is = absurd (rooted.top_owner row.nav owner (hung whole rooted row owner is (part row there)) here)
