-- The history with which a tab opens is sound.
use Rattle.std.proofs.Common.{◌≡◌, ℕ, ◌≤◌, Bool, true, false, ◌&&◌, ◌||◌, cond, List, [], ◌∷◌, refl, ap, sym, ◌∙◌, arith, inl, inr, None}
use Rattle.std.specs.List.{list_any, count_by}
use Rattle.std.specs.Option.{is_none}
use Rattle.std.proofs.lemmas.Bool.{or_cases, false≢true, and_parts, and_from, eqb-true, eq-eqb}
use Rattle.std.proofs.lemmas.List.Sums.{sum_by-cons}
use Rattle.tab_ids.specs.declared.NavId.{NavId}
use Rattle.tab_ids.specs.declared.StateId.{StateId}
use Rattle.tab_ids.specs.declared.EntryId.{EntryId}
use Rattle.log_model.specs.declared.row.Row.{Row}
use Rattle.log_model.specs.History.{is_of}
use Rattle.log_model.specs.Opening.{opening_history}
use Rattle.log_model.specs.Soundness.{is_entry, stands_at, is_in_state, is_owned_by, holds, hangs_on, IsSound}

-- of one element at most one is counted
pub count_by-one : {A : Type 0} (test : A → Bool) (x : A) → count_by test (x ∷ []) ≤ 1
count_by-one {A} test x = by_test (test x) refl
  where
    by_test : (b : Bool) → test x ≡ b → count_by test (x ∷ []) ≤ 1
    by_test true is = omega (arith, sum_by-cons (λ y. cond (test y) 1 0) x [], ap {B = ℕ} (λ b. cond b 1 0) is)
    by_test false is = omega (arith, sum_by-cons (λ y. cond (test y) 1 0) x [], ap {B = ℕ} (λ b. cond b 1 0) is)

-- and it passes where one does
pub list_any-one : {A : Type 0} (test : A → Bool) (x : A) → list_any test (x ∷ []) ≡ true → test x ≡ true
list_any-one test x any =
    elim (or_cases (test x) false any) [
      | inl is ↦ is
      | inr never ↦ absurd (false≢true never)
    ]

module _ (entry : EntryId) (state : StateId) (address : List ℕ) where
  abbrev row : Row
  row = record { owner = None; nav = record { 0 = 0 }; entry = entry; step = record { 0 = 0 }; state = state; address = address; memo = None }

  no_owner : (nav : NavId) (owner : StateId) → hangs_on nav owner (row ∷ []) ≡ true → ⊥
  no_owner nav owner hangs =
      false≢true (and_parts (is_of nav row) (is_owned_by owner row) (list_any-one (λ r. is_of nav r && is_owned_by owner r) row hangs)).1

  at_top : (nav : NavId) → is_of nav row ≡ true → nav.0 ≡ 0
  at_top nav mine = sym (eqb-true 0 nav.0 mine)

  holder : (nav : NavId) (its : StateId) → holds nav its (row ∷ []) ≡ true → nav.0 ≡ 0
  holder nav its held = at_top nav (and_parts (is_of nav row) (is_in_state its row) (list_any-one (λ r. is_of nav r && is_in_state its r) row held)).0

  pub IsSound-opening : IsSound (opening_history entry state address)
  IsSound-opening = record {
    entries = λ e. count_by-one (is_entry e) row;
    steps = λ nav step. count_by-one (stands_at nav step) row;
    rooted = record {
      owners = λ nav one other hangs too. absurd (no_owner nav one hangs);
      top_owner = λ nav owner hangs. absurd (no_owner nav owner hangs);
      child_owner = λ nav is. at_top nav (and_parts (is_of nav row) (is_none row.owner) (list_any-one (λ r. is_of nav r && is_none r.owner) row is)).0;
      states = λ its one other held too. holder one its held ∙ sym (holder other its too);
      another = λ nav owner hangs. absurd (no_owner nav owner hangs);
      leads = λ nav has test top step. top nav (at_top nav (list_any-one (is_of nav) row has));
    };
    top_row = λ nav zero_is. ap (λ b. b || false) (and_from (lib.Dec.eqb 0 nav.0) true (eq-eqb 0 nav.0 (sym zero_is)) refl);
    anchored = λ nav owner hangs. absurd (no_owner nav owner hangs);
  }
