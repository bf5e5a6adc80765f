-- A push and a replace keep the targets of the others, and the entries of those that were shown and aren't below their navigable.
use Rattle.tab_facts.proofs.FrameTab.Aims.{others_pushed, own_pushed}
use Rattle.tab_facts.proofs.FrameTab.Stating.{puts_nav, puts_owner}
use Rattle.tab_facts.proofs.FrameTab.Swaps.{replace_keeps}
use Rattle.seen_facts.proofs.Hang.Hung.{hangs_as, own_form, place_chain}
use Rattle.seen_facts.proofs.Hang.Members.{IsOf, has_any, has_map, has_tidied, into_map, into_tidied}
use Rattle.seen_facts.proofs.Hang.Targets.{IsTarget, some_is, target_has}
use Rattle.seen_facts.specs.Hang.AsPlaces.{IsChain}
use Rattle.seen_facts.specs.Hang.Forms.{Form, form_in, form_of, forms_of}
use Rattle.seen_facts.specs.Hang.Hanging.{Hangs, IsPlaced}
use Rattle.seen_facts.specs.Hang.Members.{Has}
use Rattle.log_model.proofs.Refl.{nat_eq_refl}
use Rattle.log_model.specs.History.{History, applied, cleared, has_nav, has_row, has_state, is_of, owner_of, replaced_row, same_entry, target_entry}
use Rattle.log_model.specs.AfterPlaces.{given_entry}
use Rattle.log_model.specs.Equal.{holds}
use Rattle.log_model.specs.Places.{is_given_target, is_shown}
use Rattle.log_model.specs.Seen.{Document, Place, Seen, place_of}
use Rattle.log_model.specs.Soundness.{IsSound, hangs_on, is_owned_by}
use Rattle.log_model.specs.declared.row.Row.{Row}
use Rattle.tab_facts.proofs.ShownWays.Cleared.{shown_left}
use Rattle.tab_facts.proofs.ShownWays.Ways.{on_target}
use Rattle.tab_facts.specs.ShownWays.Ways.{IsOnTarget, KeepsTargets, hanging}
use Rattle.std.proofs.Common.{Bool, List, None, Option, Some, [], ap, arith, cond, false, map, refl, subst, sym, true, ℕ, ◌&&◌, ◌++◌, ◌+◌, ◌==◌, ◌||◌, ◌∙◌, ◌∷◌, ◌≡◌}
use Rattle.std.proofs.lemmas.Bool.Decides.{nat_tests}
use Rattle.std.proofs.lemmas.Bool.{or_parts}
use Rattle.std.specs.Option.{option_map_or}
use Rattle.std.specs.Prelude.{option_map, slice_get}
use Rattle.tab_ids.specs.declared.EntryId.{EntryId}
use Rattle.tab_ids.specs.declared.NavId.{NavId}
use Rattle.tab_ids.specs.declared.StateId.{StateId}
use Rattle.seen_facts.proofs.Walk.Placed.{found_nav}
use Rattle.seen_facts.proofs.Walk.Upwards.{shown_up}
use Rattle.seen_facts.proofs.Hang.Hung.{has_begun}
use Rattle.log_model.specs.declared.change.Change.TheVariants as changes

-- an entry of another one is no entry of the last row
any_last : (nav : NavId) (rows : List Row) (new : Row) → is_of nav new ≡ false → has_row nav (rows ++ new ∷ []) ≡ has_row nav rows
any_last nav [] new none = ap (λ (b : Bool). b || false) none
any_last nav (row ∷ rows) new none = ap (λ (b : Bool). is_of nav row || b) (any_last nav rows new none)

any_first : (nav : NavId) (rows : List Row) (new : Row) → has_row nav rows ≡ true → has_row nav (rows ++ new ∷ []) ≡ true
any_first nav [] new has = absurd cc
any_first nav (row ∷ rows) new has = by_test (is_of nav row) has (any_first nav rows new)
  where
    by_test : (b : Bool) → (b || has_row nav rows) ≡ true → (has_row nav rows ≡ true → has_row nav (rows ++ new ∷ []) ≡ true) → (b || has_row nav (rows ++ new ∷ [])) ≡ true
    by_test true h more = refl
    by_test false h more = more h

module _ (s t : Seen) (sound : IsSound s.history) (hangs : Hangs s) (nav : NavId) (entry : EntryId) (state : StateId) (address : List ℕ) (memo : Option (List ℕ)) (hung : (other : NavId) → option_map hanging (place_of t other) ≡ option_map hanging (place_of s other)) where
  abbrev forms : List Form
  forms = forms_of s.places

  -- ---- a push

  module _ (is : t.history ≡ applied s.history (changes.Push nav entry state address memo)) where
    abbrev new : Row
    new = record { owner = owner_of nav (cleared s.history); nav = nav; entry = entry; step = record { 0 = s.history.current + 1 }; state = state; address = address; memo = memo }

    pub push_keeps : KeepsTargets s t nav
    push_keeps = record { hung = hung; targets = λ other apart has. each other apart (ap (λ (h : History). has_row other h.rows) (sym is) ∙ has) }
      where
        each : (other : NavId) → (other.0 == nav.0) ≡ false → has_row other (cleared s.history ++ new ∷ []) ≡ true → target_entry t.history.rows other t.history.current ≡ target_entry s.history.rows other s.history.current
        each other apart has =
            let turned : (nav.0 == other.0) ≡ false = grind (arith, nat_tests, apart) in
            ap (λ (h : History). target_entry h.rows other h.current) is
            ∙ others_pushed s.history forms sound hangs.rows new refl other turned (sym (any_last other (cleared s.history) new turned) ∙ has)

    pub push_own : target_entry t.history.rows nav t.history.current ≡ Some new
    push_own = ap (λ (h : History). target_entry h.rows nav h.current) is ∙ own_pushed s.history forms sound hangs.rows new refl

    pub push_left : (x : NavId) → is_shown s.history.rows s.history.current x ≡ true → has_row x t.history.rows ≡ true
    push_left x shown =
        let o = some_is (target_entry s.history.rows x s.history.current) (has_begun s sound hangs s.history.current x shown) in
        ap (λ (h : History). has_row x h.rows) is ∙ any_first x (cleared s.history) new (shown_left s.history forms sound hangs.rows x o.0 shown o.1)

  -- ---- a replace

  module _ (over : EntryId) (is : t.history ≡ applied s.history (changes.Replace nav over entry state address memo)) where
    abbrev put : Row
    put = record { owner = None; nav = nav; entry = entry; step = record { 0 = 0 }; state = state; address = address; memo = memo }

    abbrev replaced : History
    replaced = applied s.history (changes.Replace nav over entry state address memo)

    abbrev swapped : List Row
    swapped = map (replaced_row over put) s.history.rows

    -- a document of the navigable and the document state, as far as the change reads it
    abbrev like : Document
    like =
        record {
          nr = record { 0 = 0 };
          nav = nav;
          state = state;
          proc = record { 0 = 0 };
          incarnation = 0;
          slot = None;
          view = None;
          told = None;
          is_ready = false;
          is_fresh = false;
          is_frozen = false;
          is_discarded = false;
          dead_by = None;
          is_known_dead = false;
          last_applied = 0;
        }

    module _ (place : Place) (own : place.nav ≡ nav) (given : place.given ≡ Some over) where
      pub replace_targets : KeepsTargets s t nav
      replace_targets =
          record {
            hung = hung;
            targets = λ other apart has. ap (λ (h : History). target_entry h.rows other h.current) is ∙ (replace_keeps s forms sound hangs.rows like over entry memo address place own given).others other apart (ap (λ (h : History). has_row other h.rows) (sym is) ∙ has);
          }

      -- the new entry is the navigable's target, where it was to show the one that goes
      pub replace_own : is_given_target s.history.rows s.history.current place ≡ true → has_row nav t.history.rows ≡ true → holds (λ (row : Row). same_entry row.entry entry) (target_entry t.history.rows nav t.history.current) ≡ true
      replace_own was has =
          ap (λ (h : History). holds (λ (row : Row). same_entry row.entry entry) (target_entry h.rows nav h.current)) is
          ∙ sym (by_own (place.nav.0 == nav.0) (ap (λ (m : NavId). m.0 == nav.0) own ∙ nat_eq_refl nav.0))
          ∙ (replace_keeps s forms sound hangs.rows like over entry memo address place own given).own was (ap (λ (h : History). has_row nav h.rows) (sym is) ∙ has)
        where
          by_own : (b : Bool) → b ≡ true → is_given_target replaced.rows replaced.current (let q : Place = cond b (given_entry entry place) place in q) ≡ holds (λ (row : Row). same_entry row.entry entry) (target_entry replaced.rows nav replaced.current)
          by_own true h =
              ap (λ (m : NavId). holds (λ (row : Row). same_entry row.entry entry) (target_entry replaced.rows m replaced.current)) own
          by_own false h = absurd cc

    -- the new entry is of the document state
    pub replace_new : (row : Row) → Has t.history.rows row → row.entry ≡ entry → ((r : Row) → Has s.history.rows r → r.entry ≡ entry → ⊥) → row.state ≡ state
    replace_new row there own unused =
        by_test (same_entry was.it.entry over && is_of nav was.it) was.is
      where
        was : IsOf (replaced_row over put) s.history.rows row
        was =
            has_map (replaced_row over put) s.history.rows row (has_tidied swapped row (subst (λ (h : History). Has h.rows row) is there)).0

        by_test : (b : Bool) → (let x : Row = cond b (record put { owner = was.it.owner; step = was.it.step }) was.it in x) ≡ row → row.state ≡ state
        by_test true e = sym (ap (λ (r : Row). r.state) e)
        by_test false e = absurd (unused was.it was.there (ap (λ (r : Row). r.entry) e ∙ own))

    -- a row of another one is left as it is
    other_row : (row : Row) → (row.nav.0 == nav.0) ≡ false → replaced_row over put row ≡ row
    other_row row apart = by_entry (same_entry row.entry over) (row.nav.0 == nav.0) apart
      where
        by_entry : (a b : Bool) → b ≡ false → (let x : Row = cond (a && b) (record put { owner = row.owner; step = row.step }) row in x) ≡ row
        by_entry true true e = absurd cc
        by_entry true false e = refl
        by_entry false b e = refl

    -- the row is there then, if that on which it hangs is
    left_on : (row : Row) → Has s.history.rows row → (o : Option StateId) → row.owner ≡ o → option_map_or (λ (owner : StateId). has_state owner t.history.rows) o true ≡ true → Has t.history.rows (replaced_row over put row)
    left_on row there o owned anchored =
        subst (λ (h : History). Has h.rows (replaced_row over put row)) (sym is)
        (into_tidied swapped (replaced_row over put row) (into_map (replaced_row over put) s.history.rows row there) (ap (λ (x : Option StateId). option_map_or (λ (owner : StateId). has_state owner (applied s.history (changes.Replace nav over entry state address memo)).rows) x true) (puts_owner over put row ∙ owned) ∙ ap (λ (h : History). option_map_or (λ (owner : StateId). has_state owner h.rows) o true) (sym is) ∙ anchored))

    -- the owner of a navigable's rows
    owned_by : (x : NavId) (place : Place) (row : Row) → place_of s x ≡ Some place → Has s.history.rows row → row.nav ≡ x → row.owner ≡ slice_get place.owners 0
    owned_by x place row found there same =
        let p : IsPlaced (forms_of s.places) row = hangs.rows.placed row there in
        let at : form_in (forms_of s.places) row.nav ≡ Some (form_of place) = ap (λ (n : NavId). form_in (forms_of s.places) n) (same ∙ sym (found_nav s.places x place found)) ∙ own_form s sound hangs x place found in
        let two : Some p.form ≡ Some (form_of place) = sym p.found ∙ at in
        let one : p.form ≡ form_of place = cc in
        p.owner ∙ ap (λ (f : Form). slice_get f.owners 0) one

    -- so is its target's row, of one that was shown and isn't below the navigable
    left_at : (above : List NavId) (x : NavId) (place : Place) (row : Row) → place_of s x ≡ Some place → place.above ≡ above → IsChain s.places above → has_nav above nav ≡ false → is_shown s.history.rows s.history.current x ≡ true → target_entry s.history.rows x s.history.current ≡ Some row → Has t.history.rows (replaced_row over put row)
    left_at [] x place row found up chain beside shown at =
        by_owner row.owner refl
      where
        its : IsTarget s.history.rows x s.history.current row
        its = target_has s.history.rows x s.history.current row at

        top : row.nav.0 ≡ 0
        top =
            ap (λ (n : NavId). n.0) (its.nav_is ∙ sym (found_nav s.places x place found)) ∙ (hangs_as s sound hangs x place found).top up

        by_owner : (o : Option StateId) → row.owner ≡ o → Has t.history.rows (replaced_row over put row)
        by_owner None e = left_on row its.there None e refl
        by_owner (Some owner) e =
            let owned : is_owned_by owner row ≡ true = ap (λ (o : Option StateId). option_map_or (λ (y : StateId). y.0 == owner.0) o false) e ∙ nat_eq_refl owner.0 in
            let own : is_of row.nav row ≡ true = nat_eq_refl row.nav.0 in
            let hung_on : hangs_on row.nav owner s.history.rows ≡ true = has_any (λ (r : Row). is_of row.nav r && is_owned_by owner r) s.history.rows row its.there (rw (own, owned) refl) in
            absurd (sound.rooted.top_owner row.nav owner hung_on top)
    left_at (parent ∷ others) x place row found up chain beside shown at =
        hung_on (left_at others parent chain.0.place its.target chain.0.found chain.0.above_is chain.1 parts.1 (shown_up s sound hangs s.history.current x place parent others found up (ap (λ (n : NavId). is_shown s.history.rows s.history.current n) (found_nav s.places x place found) ∙ shown)) its.at)
      where
        its : IsOnTarget s.history.rows s.history.current place parent
        its = on_target s sound hangs s.history.current x place parent others found up shown

        parts : ((parent.0 == nav.0) ≡ false) × (has_nav others nav ≡ false)
        parts = or_parts (parent.0 == nav.0) (has_nav others nav) beside

        hung_on : Has t.history.rows (replaced_row over put its.target) → Has t.history.rows (replaced_row over put row)
        hung_on there =
            let mine : IsTarget s.history.rows x s.history.current row = target_has s.history.rows x s.history.current row at in
            let above : IsTarget s.history.rows parent s.history.current its.target = target_has s.history.rows parent s.history.current its.target its.at in
            let same : replaced_row over put its.target ≡ its.target = other_row its.target (ap (λ (n : NavId). n.0 == nav.0) above.nav_is ∙ parts.0) in
            let held : has_state its.target.state t.history.rows ≡ true = has_any (λ (r : Row). r.state.0 == its.target.state.0) t.history.rows its.target (subst (λ (r : Row). Has t.history.rows r) same there) (nat_eq_refl its.target.state.0) in
            left_on row mine.there (Some its.target.state) (owned_by x place row found mine.there mine.nav_is ∙ its.owner) held

    -- who was shown, and isn't below the navigable, has an entry still
    pub replace_left : (x : NavId) (place : Place) → place_of s x ≡ Some place → has_nav place.above nav ≡ false → is_shown s.history.rows s.history.current x ≡ true → has_row x t.history.rows ≡ true
    replace_left x place found beside shown =
        let o = some_is (target_entry s.history.rows x s.history.current) (has_begun s sound hangs s.history.current x shown) in
        let its : IsTarget s.history.rows x s.history.current o.0 = target_has s.history.rows x s.history.current o.0 o.1 in
        has_any (is_of x) t.history.rows (replaced_row over put o.0) (left_at place.above x place o.0 found refl (place_chain s sound hangs x place found) beside shown o.1) (ap (λ (n : NavId). n.0 == x.0) (puts_nav over put o.0 ∙ its.nav_is) ∙ nat_eq_refl x.0)
