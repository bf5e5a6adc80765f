-- A replace in the lists: what is left is what the definition leaves.
use Rattle.std.proofs.Common.{◌≡◌, ℕ, Bool, true, false, ◌||◌, List, [], ◌∷◌, ◌++◌, refl, ap, sym, ◌∙◌, filter, Option, None, subst}
use Rattle.std.specs.Prelude.{nat_le, slice_get}
use Rattle.std.specs.List.{list_any}
use Rattle.std.proofs.lemmas.Bool.{and_parts, eqb-true}
use Rattle.tab_ids.specs.declared.NavId.{NavId}
use Rattle.tab_ids.specs.declared.StateId.{StateId}
use Rattle.tab_ids.specs.declared.EntryId.{EntryId}
use Rattle.log_model.specs.declared.row.Row.{Row}
use Rattle.log_model.specs.declared.change.Change.TheVariants.{Replace}
use Rattle.log_model.specs.History.{same_entry, is_of, has_nav, applied, tidied, used_steps}
use Rattle.log_model.specs.Order.{ordered, SameHistory}
use Rattle.log_model.specs.Soundness.{is_entry, holds, IsSound}
use Rattle.tab_ids.specs.declared.Step.{Step}
use Rattle.history_laws.proofs.Members.{IsIn, witness, some_same, list_any-none, none_passes}
use Rattle.history_laws.proofs.Tidying.{IsIn-tidied}
use Rattle.history_laws.proofs.OneMore.{AddsRow, AddsRow-insert, AddsRow-push}
use Rattle.history_laws.proofs.Replace.{replaced_whole, replaced_part, IsSound-replaced, replaced-split}
use Rattle.entry_store.specs.declared.cut.Cut.TheVariants.{Nothing}
use Rattle.entry_store.specs.declared.nest.Nest.{Nest}
use Rattle.entry_store.specs.declared.nested.Nested.{Nested}
use Rattle.entry_store.specs.Nested.{rows_of, outlives, stays, AreHeld}
use Rattle.entry_store.specs.Places.{rows_at, rows_before, rows_after, IsPlaceOf}
use Rattle.entry_store.specs.Store.{MayTake}
use Rattle.entry_store.specs.Kept.{history_in, IsKept, IsPutOver}
use Rattle.entry_store.proofs.Left.{stays-tidied_part, outlives_nothing}

abbrev pub replacing_row : Option StateId → NavId → EntryId → ℕ → StateId → List ℕ → Option (List ℕ) → Row
replacing_row owner nav entry step state address memo =
    record { owner = owner; nav = nav; entry = entry; step = record { 0 = step }; state = state; address = address; memo = memo }

module _ (lists : Nested) (kept : IsKept (history_in lists) lists.used.keys) (nav : NavId) (over entry : EntryId) (state : StateId) (address : List ℕ) (memo : Option (List ℕ)) (may : MayTake (history_in lists) (Replace nav over entry state address memo)) (nests : List Nest) (nests_are : nests ≡ lists.nests.items) (place at : ℕ) (owner : Option StateId) (step : ℕ) (found : IsPlaceOf nests nav over place at owner step) (row : Row) (row_is : row ≡ replacing_row owner nav entry step state address memo) (new : Nested) (over_is : IsPutOver lists place at row new) where
  abbrev front : List Row
  front = rows_before lists.nests.items place at

  abbrev back : List Row
  back = rows_after lists.nests.items place at

  old_is : over_is.was ≡ found.it
  old_is =
      some_same over_is.was found.it (sym over_is.there ∙ ap (λ (some : List Nest). slice_get (rows_at some place) at) (sym nests_are) ∙ found.here)

  was : rows_of lists.nests.items ≡ front ++ found.it ∷ back
  was = over_is.of_old ∙ ap (λ (r : Row). front ++ r ∷ back) old_is

  both : (same_entry found.it.entry over ≡ true) × (is_of nav found.it ≡ true)
  both = and_parts (same_entry found.it.entry over) (is_of nav found.it) found.passes

  nav_of : row.nav.0 ≡ found.it.nav.0
  nav_of = ap (λ (r : Row). r.nav.0) row_is ∙ sym (eqb-true found.it.nav.0 nav.0 both.1)

  owner_of : row.owner ≡ found.it.owner
  owner_of = ap (λ (r : Row). r.owner) row_is ∙ found.owner_is

  step_of : row.step.0 ≡ found.it.step.0
  step_of = ap (λ (r : Row). r.step.0) row_is ∙ found.step_is

  entry_new : list_any (is_entry row.entry) (rows_of lists.nests.items) ≡ false
  entry_new = ap (λ (r : Row). list_any (is_entry r.entry) (rows_of lists.nests.items)) row_is ∙ may.0

  mine : (other : NavId) → holds other row.state (rows_of lists.nests.items) ≡ true → other.0 ≡ row.nav.0
  mine other held = may.1 other (ap (λ (r : Row). holds other r.state (rows_of lists.nests.items)) (sym row_is) ∙ held) ∙ ap (λ (r : Row). r.nav.0) (sym row_is)

  part : (r : Row) → IsIn (front ++ row ∷ back) r → IsIn (rows_of lists.nests.items ++ row ∷ []) r
  part = replaced_part (history_in lists) kept.sound front back found.it row was nav_of owner_of step_of entry_new mine

  held : AreHeld over_is.states (filter (outlives Nothing) (front ++ row ∷ back))
  held = subst (λ (rows : List Row). AreHeld over_is.states (filter (outlives Nothing) rows)) over_is.put_is over_is.held

  swept_tidied : rows_of new.nests.items ≡ tidied (front ++ row ∷ back)
  swept_tidied =
      over_is.swept ∙ ap (filter (stays Nothing over_is.states)) over_is.put_is
      ∙ stays-tidied_part (rows_of lists.nests.items ++ row ∷ [])
      (replaced_whole (history_in lists) kept.sound front back found.it row was nav_of owner_of step_of entry_new mine)
      (front ++ row ∷ back) part Nothing over_is.states held
      ∙ ap tidied (outlives_nothing (front ++ row ∷ back))

  pub replaced_same : SameHistory (history_in new) (applied (history_in lists) (Replace nav over entry state address memo))
  replaced_same = record {
    rows =
        ap ordered swept_tidied
        ∙ ap (λ (r : Row). ordered (tidied (front ++ r ∷ back)))
        (row_is ∙ ap (λ (o : Option StateId). replacing_row o nav entry step state address memo) found.owner_is ∙ ap (λ (n : ℕ). replacing_row found.it.owner nav entry n state address memo) found.step_is)
        ∙ ap (λ rows. ordered (tidied rows)) (sym (replaced-split (history_in lists) kept.sound front back found.it (replacing_row None nav entry 0 state address memo) over was both.0 both.1));
    current = ap (λ (s : Step). s.0) over_is.current;
    added = over_is.added;
  }

  in_whole : (test : Row → Bool) → test row ≡ test found.it → list_any test (rows_of lists.nests.items ++ row ∷ []) ≡ list_any test (rows_of lists.nests.items)
  in_whole test same =
      (AddsRow-push (rows_of lists.nests.items) row).any test ∙ ap (λ b. b || list_any test (rows_of lists.nests.items)) same ∙ twice (test found.it) refl
    where
      adds : AddsRow (front ++ back) found.it (rows_of lists.nests.items)
      adds = subst (λ (rows : List Row). AddsRow (front ++ back) found.it rows) (sym was) (AddsRow-insert front back found.it)

      twice : (b : Bool) → test found.it ≡ b → (b || list_any test (rows_of lists.nests.items)) ≡ list_any test (rows_of lists.nests.items)
      twice false isnt = refl
      twice true is = sym (adds.any test ∙ ap (λ b. b || list_any test (front ++ back)) is)

  in_old : (r : Row) → IsIn (rows_of new.nests.items) r → IsIn (rows_of lists.nests.items ++ row ∷ []) r
  in_old r there = part r (IsIn-tidied (front ++ row ∷ back) r (λ test passes. ap (list_any test) (sym swept_tidied) ∙ there test passes))

  pub replaced_kept : IsKept (history_in new) new.used.keys
  replaced_kept = record {
    sound =
        subst (λ (rows : List Row). IsSound (record { rows = rows; current = new.current.0; added = new.added.keys })) (sym swept_tidied)
        (IsSound-replaced (history_in lists) kept.sound front back found.it row was nav_of owner_of step_of entry_new mine new.current.0 new.added.keys);
    added = λ child has is_child.
        let w = witness (is_of child) (rows_of new.nests.items) has in
        ap (λ (navs : List NavId). has_nav navs child) over_is.added
        ∙ kept.added child (sym (in_whole (is_of child) (ap (λ n. lib.Dec.eqb n child.0) nav_of)) ∙ in_old w.it w.is_in (is_of child) w.passes) is_child;
    used = over_is.steps ∙ ap used_steps (sym over_is.swept);
    below = list_any-none (λ (r : Row). nat_le 4294967295 r.step.0) (rows_of new.nests.items) (λ r there.
        none_passes (λ (x : Row). nat_le 4294967295 x.step.0) (rows_of lists.nests.items ++ row ∷ [])
        (in_whole (λ (x : Row). nat_le 4294967295 x.step.0) (ap (λ n. nat_le 4294967295 n) step_of) ∙ kept.below) r (in_old r there));
  }
