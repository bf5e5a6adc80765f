-- A push, a replace and a removed frame leave the navigables hanging together in the history.
use Rattle.std.proofs.Common.{◌≡◌, ◌⊎◌, inl, inr, ℕ, ◌+◌, ◌≤◌, Bool, true, false, not, List, map, refl, sym, ap, ◌∙◌, arith, Option, Some, None, ◌==◌}
use Rattle.std.specs.Prelude.{filter, nat_le, option_and_then}
use Rattle.std.specs.Option.{option_map_or}
use Rattle.std.proofs.lemmas.Bool.{leb-true, le-leb}
use Rattle.tab_ids.specs.declared.EntryId.{EntryId}
use Rattle.tab_ids.specs.declared.NavId.{NavId}
use Rattle.tab_ids.specs.declared.StateId.{StateId}
use Rattle.tab_ids.specs.declared.Step.{Step}
use Rattle.log_model.specs.declared.row.Row.{Row}
use Rattle.log_model.specs.History.{History, same_entry, is_of, has_row, has_state, owner_of, tidied, cleared, replaced_row, pushed}
use Rattle.log_model.specs.Soundness.{IsSound}
use Rattle.history_laws.proofs.Tidying.{hung}
use Rattle.seen_facts.specs.Hang.Members.{Has}
use Rattle.seen_facts.specs.Hang.Forms.{Form, form_in}
use Rattle.seen_facts.specs.Hang.Hanging.{IsPlaced, BeginsBy, HangIn}
use Rattle.seen_facts.specs.Hang.Changing.{IsItsState, IsNewState, HasState}
use Rattle.seen_facts.proofs.Hang.Forms.{nav_is}
use Rattle.seen_facts.proofs.Hang.Members.{Passing, IsOf, is_in, any_has, find_has, has_found, has_filter, has_map, into_map, has_tidied, into_tidied}
use Rattle.seen_facts.proofs.Hang.Parts.{IsEarlier, state_is, anchored_by, owner_is, part_hangs, more_hangs}

module _ (history : History) (forms : List Form) (sound : IsSound history) (hang : HangIn history.rows forms) where
  -- a row of the document state on which another one hangs
  pub anchor : (row : Row) (owner : StateId) → Has history.rows row → row.owner ≡ Some owner → Passing (λ (r : Row). r.state.0 == owner.0) history.rows
  anchor row owner there is =
      any_has (λ (r : Row). r.state.0 == owner.0) history.rows (sound.anchored row.nav owner (hung history.rows sound.rooted row owner is (is_in history.rows row there)))

  -- none hangs on a new document state
  pub none_hangs : (state : StateId) → IsNewState history.rows state → (row : Row) → Has history.rows row → row.owner ≡ Some state → ⊥
  none_hangs state new row there is =
      let a = anchor row state there is in new a.it a.there (ap (λ (x : StateId). x.0) (state_is a.it.state state a.passes))

  -- ---- the forward history is cleared, a frame is removed

  pub cleared_hangs : HangIn (cleared history) forms
  cleared_hangs =
      part_hangs history.rows forms sound.rooted hang (λ row. nat_le row.step.0 history.current) (λ row holder w passes too nav by.
      le-leb w.step.0 history.current (let up : holder.step.0 ≤ history.current = leb-true holder.step.0 history.current too in omega (arith, by, up)))

  pub removed_hangs : (nav : NavId) → HangIn (tidied (filter (λ row. not (is_of nav row)) history.rows)) forms
  removed_hangs nav =
      part_hangs history.rows forms sound.rooted hang (λ row. not (is_of nav row)) (λ row holder w passes too same by.
      ap (λ (n : NavId). not (n.0 == nav.0)) same ∙ passes)

  -- ---- a push

  module _ (nav : NavId) (entry : EntryId) (state : StateId) (address : List ℕ) (memo : Option (List ℕ)) (fit : has_row nav (cleared history) ≡ true) (its : IsItsState history.rows nav state) where
    abbrev new : Row
    new = record { owner = owner_of nav (cleared history); nav = nav; entry = entry; step = record { 0 = history.current + 1 }; state = state; address = address; memo = memo }

    record IsFirst : Type 0 where
      it : Row
      there : Has (cleared history) it
      nav_is_its : it.nav ≡ nav
      owner : it.owner ≡ owner_of nav (cleared history)

    first : IsFirst
    first =
        let a = any_has (is_of nav) (cleared history) fit in
        let f = has_found (is_of nav) (cleared history) a.it a.there a.passes in
        let h = find_has (is_of nav) (cleared history) f.0 f.1 in
        record { it = f.0; there = h.0; nav_is_its = nav_is f.0.nav nav h.1; owner = sym (ap (λ (o : Option Row). option_and_then (λ (r : Row). r.owner) o) f.1) }

    up : (row : Row) → Has (cleared history) row → Has history.rows row
    up row there = (has_filter (λ r. nat_le r.step.0 history.current) history.rows row (has_tidied (filter (λ r. nat_le r.step.0 history.current) history.rows) row there).0).0

    before : (row : Row) → Has (cleared history) row → row.step.0 ≤ history.current
    before row there = leb-true row.step.0 history.current (has_filter (λ r. nat_le r.step.0 history.current) history.rows row (has_tidied (filter (λ r. nat_le r.step.0 history.current) history.rows) row there).0).1

    earlier : (row : Row) → Has (cleared history) row → row.owner ≡ Some state → IsEarlier (cleared history) new
    earlier row there is =
        let anchored = (has_tidied (filter (λ r. nat_le r.step.0 history.current) history.rows) row there).1 in
        let any = sym (ap (λ (o : Option StateId). option_map_or (λ (x : StateId). has_state x (cleared history)) o true) is) ∙ anchored in
        let a = any_has (λ (r : Row). r.state.0 == state.0) (cleared history) any in
        record {
          it = a.it;
          there = a.there;
          state = state_is a.it.state state a.passes;
          nav = its a.it (up a.it a.there) (ap (λ (x : StateId). x.0) (state_is a.it.state state a.passes));
          by = let low : a.it.step.0 ≤ history.current = before a.it a.there in omega (arith, low);
        }

    pub pushed_hangs : HangIn (pushed history nav entry state address memo).rows forms
    pushed_hangs = more_hangs (cleared history) forms cleared_hangs new first.it first.there first.nav_is_its first.owner earlier

  -- ---- a replace

  module _ (nav : NavId) (over entry : EntryId) (state : StateId) (address : List ℕ) (memo : Option (List ℕ)) (brings : HasState history.rows over state ⊎ IsNewState history.rows state) where
    abbrev put : Row
    put = record { owner = None; nav = nav; entry = entry; step = record { 0 = 0 }; state = state; address = address; memo = memo }

    abbrev changed : Row → Row
    changed row = replaced_row over put row

    -- a row keeps its navigable, its owner and its step; and its document state, if its entry isn't the one that is replaced
    record IsLike (row : Row) : Type 0 where
      nav_same : (changed row).nav ≡ row.nav
      owner_same_ : (changed row).owner ≡ row.owner
      step_same : (changed row).step ≡ row.step
      state_same_ : ((changed row).state ≡ row.state) ⊎ (((changed row).state ≡ state) × (same_entry row.entry over ≡ true))

    like : (row : Row) → IsLike row
    like row = by_test (same_entry row.entry over) (is_of nav row) refl refl
      where
        by_test : (b c : Bool) → same_entry row.entry over ≡ b → is_of nav row ≡ c → IsLike row
        by_test true true e f =
            record {
              nav_same = rw (e, f) (sym (nav_is row.nav nav f));
              owner_same_ = rw (e, f) refl;
              step_same = rw (e, f) refl;
              state_same_ = inr (rw (e, f) refl, e);
            }
        by_test true false e f =
            record { nav_same = rw (e, f) refl; owner_same_ = rw (e, f) refl; step_same = rw (e, f) refl; state_same_ = inl (rw (e, f) refl) }
        by_test false c e f =
            record { nav_same = rw e refl; owner_same_ = rw e refl; step_same = rw e refl; state_same_ = inl (rw e refl) }

    -- who hangs on the document state of a changed row hung on that of the row
    hung_on : (row holder : Row) → Has history.rows row → Has history.rows holder → row.owner ≡ Some (changed holder).state → row.owner ≡ Some holder.state
    hung_on row holder there too is = by_state (like holder).state_same_
      where
        by_brings : (changed holder).state ≡ state → same_entry holder.entry over ≡ true → HasState history.rows over state ⊎ IsNewState history.rows state → row.owner ≡ Some holder.state
        by_brings now over_is (inl has) = is ∙ ap (λ (x : StateId). Some x) (now ∙ sym (has holder too over_is))
        by_brings now over_is (inr new) = absurd (none_hangs state new row there (is ∙ ap (λ (x : StateId). Some x) now))

        by_state : ((changed holder).state ≡ holder.state) ⊎ (((changed holder).state ≡ state) × (same_entry holder.entry over ≡ true)) → row.owner ≡ Some holder.state
        by_state (inl same) = is ∙ ap (λ (x : StateId). Some x) same
        by_state (inr both) = by_brings both.0 both.1 brings

    abbrev rows : List Row
    rows = tidied (map changed history.rows)

    was : (row : Row) → Has rows row → IsOf changed history.rows row
    was row there = has_map changed history.rows row (has_tidied (map changed history.rows) row there).0

    owner_was : (row : Row) (w : IsOf changed history.rows row) → w.it.owner ≡ row.owner
    owner_was row w = sym (like w.it).owner_same_ ∙ ap (λ (r : Row). r.owner) w.is

    nav_was : (row : Row) (w : IsOf changed history.rows row) → w.it.nav ≡ row.nav
    nav_was row w = sym (like w.it).nav_same ∙ ap (λ (r : Row). r.nav) w.is

    on_old : (row holder : Row) (w : IsOf changed history.rows row) (v : IsOf changed history.rows holder) → row.owner ≡ Some holder.state → w.it.owner ≡ Some v.it.state
    on_old row holder w v is =
        hung_on w.it v.it w.there v.there (owner_was row w ∙ is ∙ ap (λ (r : Row). Some r.state) (sym v.is))

    pub replaced_hangs : HangIn rows forms
    replaced_hangs =
        record {
          placed = λ row there. (let w = was row there in placed_by row w (hang.placed w.it w.there));
          holders = λ row holder form parent above there too found is owner.
              let w = was row there in
              let v = was holder too in
              sym (nav_was holder v) ∙ hang.holders w.it v.it form parent above w.there v.there (ap (λ (n : NavId). form_in forms n) (nav_was row w) ∙ found) is (on_old row holder w v owner);
          begins = λ row holder there too owner. (let w = was row there in let v = was holder too in begun row holder w v too owner (hang.begins w.it v.it w.there v.there (on_old row holder w v owner)));
        }
      where
        placed_by : (row : Row) (w : IsOf changed history.rows row) → IsPlaced forms w.it → IsPlaced forms row
        placed_by row w p = record { form = p.form; found = ap (λ (n : NavId). form_in forms n) (sym (nav_was row w)) ∙ p.found; owner = sym (owner_was row w) ∙ p.owner }

        begun : (row holder : Row) (w : IsOf changed history.rows row) (v : IsOf changed history.rows holder) → Has rows holder → row.owner ≡ Some holder.state → BeginsBy history.rows w.it.nav v.it.step.0 → BeginsBy rows row.nav holder.step.0
        begun row holder w v too owner b =
            let its = like b.row in
            let own : (changed b.row).owner ≡ Some holder.state = its.owner_same_ ∙ owner_is history.rows forms sound.rooted hang b.row w.it b.there w.there b.nav_is ∙ owner_was row w ∙ owner in
            let step : (changed b.row).step.0 ≡ b.row.step.0 = ap (λ (s : Step). s.0) its.step_same in
            let late : v.it.step.0 ≡ holder.step.0 = sym (ap (λ (s : Step). s.0) (like v.it).step_same) ∙ ap (λ (r : Row). r.step.0) v.is in
            record {
              row = changed b.row;
              there = into_tidied (map changed history.rows) (changed b.row) (into_map changed history.rows b.row b.there) (anchored_by rows (changed b.row) holder too own);
              nav_is = its.nav_same ∙ b.nav_is ∙ nav_was row w;
              by = omega (arith, b.by, step, late);
            }
