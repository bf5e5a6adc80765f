-- A part of the rows of a history, tidied, leaves the navigables hanging together; so does one more row of a navigable that is there.
use Rattle.std.proofs.Common.{◌≡◌, ◌⊎◌, inl, inr, ℕ, ◌≤◌, Bool, true, List, [], ◌∷◌, ◌++◌, refl, sym, ap, ◌∙◌, subst, arith, Option, Some, ◌==◌}
use Rattle.std.specs.Prelude.{filter}
use Rattle.std.specs.Option.{option_map_or}
use Rattle.std.proofs.lemmas.Bool.Decides.{nat_tests}
use Rattle.tab_ids.specs.declared.NavId.{NavId}
use Rattle.tab_ids.specs.declared.StateId.{StateId}
use Rattle.log_model.specs.declared.row.Row.{Row}
use Rattle.log_model.specs.History.{has_state, is_anchored, tidied}
use Rattle.log_model.specs.Soundness.{IsRooted}
use Rattle.log_model.proofs.Refl.{nat_eq_refl}
use Rattle.history_laws.proofs.Tidying.{owner_same}
use Rattle.seen_facts.specs.Hang.Members.{Has}
use Rattle.seen_facts.specs.Hang.Forms.{Form, form_in}
use Rattle.seen_facts.specs.Hang.Hanging.{IsPlaced, BeginsBy, HangIn}
use Rattle.seen_facts.proofs.Hang.Members.{is_in, has_any, has_filter, into_filter, has_tidied, into_tidied, has_more, into_more}

pub nav_number : (one other : NavId) → one ≡ other → one.0 ≡ other.0
nav_number one other same = ap (λ (n : NavId). n.0) same

pub state_is : (one other : StateId) → (one.0 == other.0) ≡ true → one ≡ other
state_is one other e =
    let number : one.0 ≡ other.0 = grind (arith, nat_tests, e) in
    ap (λ (n : ℕ). let state : StateId = record { 0 = n } in state) number

pub same_state : (one other : StateId) → one ≡ other → (one.0 == other.0) ≡ true
same_state one other same = subst (λ (x : StateId). (one.0 == x.0) ≡ true) same (nat_eq_refl one.0)

-- a row that hangs on the document state of another is anchored beside it
pub anchored_by : (rows : List Row) (row holder : Row) → Has rows holder → row.owner ≡ Some holder.state → is_anchored rows row ≡ true
anchored_by rows row holder there owner =
    ap (λ (o : Option StateId). option_map_or (λ (state : StateId). has_state state rows) o true) owner
    ∙ has_any (λ (r : Row). r.state.0 == holder.state.0) rows holder there (nat_eq_refl holder.state.0)

module _ (whole : List Row) (forms : List Form) (rooted : IsRooted whole) (hang : HangIn whole forms) where
  -- rows of one navigable hang on one document state
  pub owner_is : (one other : Row) → Has whole one → Has whole other → one.nav ≡ other.nav → one.owner ≡ other.owner
  owner_is one other there too same =
      owner_same whole rooted one other (is_in whole one there) (is_in whole other too) (nav_number one.nav other.nav same)

  -- the rows that pass a test, tidied: an entry with which a navigable begins passes where the entries do that it comes before
  pub part_hangs : (p : Row → Bool) → ((row holder w : Row) → p row ≡ true → p holder ≡ true → w.nav ≡ row.nav → w.step.0 ≤ holder.step.0 → p w ≡ true) → HangIn (tidied (filter p whole)) forms
  part_hangs p first =
      record {
        placed = λ row there. hang.placed row (up row there);
        holders = λ row holder form parent above there too found is owner. hang.holders row holder form parent above (up row there) (up holder too) found is owner;
        begins = begin;
      }
    where
      up : (row : Row) → Has (tidied (filter p whole)) row → Has whole row
      up row there = (has_filter p whole row (has_tidied (filter p whole) row there).0).0

      passes : (row : Row) → Has (tidied (filter p whole)) row → p row ≡ true
      passes row there = (has_filter p whole row (has_tidied (filter p whole) row there).0).1

      begin : (row holder : Row) → Has (tidied (filter p whole)) row → Has (tidied (filter p whole)) holder → row.owner ≡ Some holder.state → BeginsBy (tidied (filter p whole)) row.nav holder.step.0
      begin row holder there too owner =
          let b : BeginsBy whole row.nav holder.step.0 = hang.begins row holder (up row there) (up holder too) owner in
          let own : b.row.owner ≡ Some holder.state = owner_is b.row row b.there (up row there) b.nav_is ∙ owner in
          let kept : p b.row ≡ true = first row holder b.row (passes row there) (passes holder too) b.nav_is b.by in
          record {
            row = b.row;
            there = into_tidied (filter p whole) b.row (into_filter p whole b.row b.there kept) (anchored_by (tidied (filter p whole)) b.row holder too own);
            nav_is = b.nav_is;
            by = b.by;
          }

-- ---- one more row, of a navigable that is there

-- an old row stands for one of the new list: it is of the same navigable and owner
record StandsIn (rows : List Row) (row : Row) : Type 0 where
  it : Row
  there : Has rows it
  nav : it.nav ≡ row.nav
  owner : it.owner ≡ row.owner

-- a row of the document state, of the same navigable, no later
pub record IsEarlier (rows : List Row) (row : Row) : Type 0 where
  pub it : Row
  pub there : Has rows it
  pub state : it.state ≡ row.state
  pub nav : it.nav ≡ row.nav
  pub by : it.step.0 ≤ row.step.0

module _ (rows : List Row) (forms : List Form) (hang : HangIn rows forms) (new like : Row) (there_like : Has rows like) (nav_like : like.nav ≡ new.nav) (owner_like : like.owner ≡ new.owner) (earlier : (row : Row) → Has rows row → row.owner ≡ Some new.state → IsEarlier rows new) where
  stand_in : (row : Row) → Has (rows ++ new ∷ []) row → StandsIn rows row
  stand_in row there = by_case (has_more rows new row there)
    where
      by_case : Has rows row ⊎ (new ≡ row) → StandsIn rows row
      by_case (inl old) = record { it = row; there = old; nav = refl; owner = refl }
      by_case (inr same) = record { it = like; there = there_like; nav = nav_like ∙ ap (λ (r : Row). r.nav) same; owner = owner_like ∙ ap (λ (r : Row). r.owner) same }

  earlier_in : (row holder : Row) → Has rows row → row.owner ≡ Some holder.state → Has (rows ++ new ∷ []) holder → IsEarlier rows holder
  earlier_in row holder there owner too = by_case (has_more rows new holder too)
    where
      by_case : Has rows holder ⊎ (new ≡ holder) → IsEarlier rows holder
      by_case (inl old) = record { it = holder; there = old; state = refl; nav = refl; by = omega arith }
      by_case (inr same) = subst (λ (r : Row). IsEarlier rows r) same (earlier row there (owner ∙ ap (λ (r : Row). Some r.state) (sym same)))

  pub more_hangs : HangIn (rows ++ new ∷ []) forms
  more_hangs =
      record {
        placed = λ row there. (let s = stand_in row there in placed_by row s (hang.placed s.it s.there));
        holders = λ row holder form parent above there too found is owner.
            let s = stand_in row there in
            let on : s.it.owner ≡ Some holder.state = s.owner ∙ owner in
            let e = earlier_in s.it holder s.there on too in
            let same : e.it.nav ≡ parent = hang.holders s.it e.it form parent above s.there e.there (ap (λ (n : NavId). form_in forms n) s.nav ∙ found) is (on ∙ ap (λ (x : StateId). Some x) (sym e.state)) in
            sym e.nav ∙ same;
        begins = λ row holder there too owner.
            let s = stand_in row there in
            let on : s.it.owner ≡ Some holder.state = s.owner ∙ owner in
            let e = earlier_in s.it holder s.there on too in
            let b : BeginsBy rows s.it.nav e.it.step.0 = hang.begins s.it e.it s.there e.there (on ∙ ap (λ (x : StateId). Some x) (sym e.state)) in
            record { row = b.row; there = into_more rows new b.row b.there; nav_is = b.nav_is ∙ s.nav; by = omega (arith, b.by, e.by) };
      }
    where
      placed_by : (row : Row) (s : StandsIn rows row) → IsPlaced forms s.it → IsPlaced forms row
      placed_by row s p = record { form = p.form; found = ap (λ (n : NavId). form_in forms n) (sym s.nav) ∙ p.found; owner = sym s.owner ∙ p.owner }
