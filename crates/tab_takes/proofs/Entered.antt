-- On the way up from a navigable that is awake and has an entry, each is awake on a document whose state has an entry; and the greatest used step where a row comes at a step that is used.
use Rattle.seen_facts.proofs.Hang.Forms.{nav_is}
use Rattle.seen_facts.proofs.Hang.Hung.{own_form, place_chain}
use Rattle.seen_facts.proofs.Hang.Members.{Passing, any_has, has_any}
use Rattle.seen_facts.proofs.Hang.Parts.{state_is}
use Rattle.seen_facts.specs.Hang.AsPlaces.{IsChain}
use Rattle.seen_facts.specs.Hang.Forms.{Form, form_in, form_of, forms_of}
use Rattle.seen_facts.specs.Hang.Hanging.{IsPlaced}
use Rattle.seen_facts.specs.Hang.Members.{Has}
use Rattle.seen_facts.specs.Home.Homes.{IsHomed, IsOnAwake}
use Rattle.log_model.proofs.Refl.{nat_eq_refl}
use Rattle.log_model.specs.History.{first_step, has_nav, has_row, has_state, is_of, used_step_at}
use Rattle.log_model.specs.Seen.{Document, Place, Seen, awake, document_of, place_of}
use Rattle.log_model.specs.Soundness.{hangs_on, is_owned_by}
use Rattle.log_model.specs.declared.made.Made.{Made}
use Rattle.log_model.specs.declared.row.Row.{Row}
use Rattle.std.proofs.Common.{Bool, List, Option, Some, [], ap, append-nil, arith, cond, false, fold, inl, inr, map, max, min, refl, subst, sym, true, ℕ, ◌&&◌, ◌++◌, ◌==◌, ◌||◌, ◌∙◌, ◌∷◌, ◌≡◌, ◌≤◌, ◌⊎◌}
use Rattle.std.proofs.lemmas.Bool.Decides.{nat_tests}
use Rattle.std.proofs.lemmas.List.Elements.{filter-append}
use Rattle.std.proofs.lemmas.List.{map-append}
use Rattle.std.specs.Option.{option_map_or}
use Rattle.std.specs.Prelude.{filter, nat_le, slice_get}
use Rattle.tab_ids.specs.declared.DocId.{DocId}
use Rattle.tab_ids.specs.declared.NavId.{NavId}
use Rattle.tab_ids.specs.declared.ReqId.{ReqId}
use Rattle.tab_ids.specs.declared.StateId.{StateId}
use Rattle.tab_rests.specs.PassedOn.{IsTab}
use Rattle.seen_facts.proofs.Walk.Placed.{found_nav}

-- ---- who is awake on the way up

module _ (run : Option ReqId) (loads : List ReqId) (hand : List Made) (s : Seen) (tab : IsTab run loads hand s) where
  -- the document of the one above has an entry
  pub above_entered : (nav : NavId) (place : Place) (parent : NavId) (on : IsOnAwake s place parent) → place_of s nav ≡ Some place → has_row nav s.history.rows ≡ true → has_state on.document.state s.history.rows ≡ true
  above_entered nav place parent on found has =
      let a : Passing (is_of nav) s.history.rows = any_has (is_of nav) s.history.rows has in
      let own : a.it.nav ≡ place.nav = nav_is a.it.nav nav a.passes ∙ sym (found_nav s.places nav place found) in
      let p : IsPlaced (forms_of s.places) a.it = tab.hangs.rows.placed a.it a.there in
      let forms : Some p.form ≡ Some (form_of place) = sym p.found ∙ ap (λ (n : NavId). form_in (forms_of s.places) n) own ∙ own_form s tab.sound tab.hangs nav place found in
      let one : p.form ≡ form_of place = cc in
      let owned : a.it.owner ≡ Some on.document.state = p.owner ∙ ap (λ (f : Form). slice_get f.owners 0) one ∙ on.owner in
      let owns : is_owned_by on.document.state a.it ≡ true = ap (λ (o : Option StateId). option_map_or (λ (x : StateId). x.0 == on.document.state.0) o false) owned ∙ nat_eq_refl on.document.state.0 in
      let itself : is_of a.it.nav a.it ≡ true = nat_eq_refl a.it.nav.0 in
      let hung : hangs_on a.it.nav on.document.state s.history.rows ≡ true = has_any (λ (r : Row). is_of a.it.nav r && is_owned_by on.document.state r) s.history.rows a.it a.there (rw (itself, owns) refl) in
      tab.sound.anchored a.it.nav on.document.state hung

  -- so it has one itself
  above_row : (nav : NavId) (place : Place) (parent : NavId) (on : IsOnAwake s place parent) → place_of s nav ≡ Some place → has_row nav s.history.rows ≡ true → has_row parent s.history.rows ≡ true
  above_row nav place parent on found has =
      let a : Passing (λ (row : Row). row.state.0 == on.document.state.0) s.history.rows = any_has (λ (row : Row). row.state.0 == on.document.state.0) s.history.rows (above_entered nav place parent on found has) in
      let home : IsHomed s.documents on.above on.doc = tab.homes.homed parent on.above on.doc on.there on.wakes in
      let two : Some home.home.document ≡ Some on.document = sym home.home.found ∙ on.found in
      let one : home.home.document ≡ on.document = cc in
      let navs : on.document.nav ≡ parent = ap (λ (d : Document). d.nav) (sym one) ∙ home.home.nav_is ∙ found_nav s.places parent on.above on.there in
      let of_it : a.it.nav ≡ parent = tab.whose.whose on.doc on.document a.it on.found a.there (state_is a.it.state on.document.state a.passes) ∙ navs in
      has_any (is_of parent) s.history.rows a.it a.there (ap (λ (n : NavId). n.0 == parent.0) of_it ∙ nat_eq_refl parent.0)

  up : (above : List NavId) (nav : NavId) (place : Place) (doc : DocId) → place_of s nav ≡ Some place → place.status ≡ awake doc → has_row nav s.history.rows ≡ true → place.above ≡ above → IsChain s.places above → (x : NavId) (own : Place) (its : DocId) (d : Document) → has_nav above x ≡ true → place_of s x ≡ Some own → own.status ≡ awake its → document_of s its ≡ Some d → has_state d.state s.history.rows ≡ true
  up [] nav place doc found wakes has is chain x own its d in_ at on_ there = absurd cc
  up (parent ∷ others) nav place doc found wakes has is chain x own its d in_ at on_ there =
      by_first (parent.0 == x.0) refl in_ (up others parent on.above on.doc on.there on.wakes (above_row nav place parent on found has) rest chain.1 x own its d)
    where
      on : IsOnAwake s place parent
      on = tab.homes.hung nav place doc found wakes parent others is

      rest : on.above.above ≡ others
      rest =
          let two : Some on.above ≡ Some chain.0.place = sym on.there ∙ chain.0.found in
          let one : on.above ≡ chain.0.place = cc in
          ap (λ (p : Place). p.above) one ∙ chain.0.above_is

      by_first : (b : Bool) → (parent.0 == x.0) ≡ b → (b || has_nav others x) ≡ true → (has_nav others x ≡ true → place_of s x ≡ Some own → own.status ≡ awake its → document_of s its ≡ Some d → has_state d.state s.history.rows ≡ true) → has_state d.state s.history.rows ≡ true
      by_first false apart h more = more h at on_ there
      by_first true same h more =
          let places : Some on.above ≡ Some own = sym on.there ∙ ap (λ (n : NavId). place_of s n) (nav_is parent x same) ∙ at in
          let one : on.above ≡ own = cc in
          let status : awake on.doc ≡ awake its = sym on.wakes ∙ ap (λ (p : Place). p.status) one ∙ on_ in
          let docs : on.doc ≡ its = cc in
          let two : Some on.document ≡ Some d = sym on.found ∙ ap (λ (k : DocId). document_of s k) docs ∙ there in
          let same_ : on.document ≡ d = cc in
          ap (λ (y : Document). has_state y.state s.history.rows) (sym same_) ∙ above_entered nav place parent on found has

  pub way_entered : (nav : NavId) (place : Place) (doc : DocId) → place_of s nav ≡ Some place → place.status ≡ awake doc → has_row nav s.history.rows ≡ true → (x : NavId) (own : Place) (its : DocId) (d : Document) → has_nav place.above x ≡ true → place_of s x ≡ Some own → own.status ≡ awake its → document_of s its ≡ Some d → has_state d.state s.history.rows ≡ true
  way_entered nav place doc found wakes has =
      up place.above nav place doc found wakes has refl (place_chain s tab.sound tab.hangs nav place found)

-- ---- used steps

low : (best : ℕ) (l : List ℕ) → best ≤ fold max best l
low best [] = omega arith
low best (x ∷ l) = let more : max best x ≤ fold max (max best x) l = low (max best x) l in omega (arith, more)

within : (best : ℕ) (l : List ℕ) (x : ℕ) → Has l x → x ≤ fold max best l
within best [] x has = absurd has
within best (y ∷ l) x (inl same) = let more : max best y ≤ fold max (max best y) l = low (max best y) l in omega (arith, more, same)
within best (y ∷ l) x (inr has) = within (max best y) l x has

one_more : (best : ℕ) (l : List ℕ) (x : ℕ) → x ≤ fold max best l → fold max best (l ++ x ∷ []) ≡ fold max best l
one_more best [] x is = omega (arith, is)
one_more best (y ∷ l) x is = one_more (max best y) l x is

steps_in : (rows_ : List Row) (step : ℕ) (row : Row) → Has rows_ row → nat_le row.step.0 step ≡ true → Has (filter (λ (used : ℕ). nat_le used step) (map (λ (r : Row). r.step.0) rows_)) row.step.0
steps_in [] step row has is = absurd has
steps_in (r ∷ rows_) step row (inl same) is =
    by_test (nat_le r.step.0 step) (ap (λ (x : Row). nat_le x.step.0 step) same ∙ is)
  where
    by_test : (b : Bool) → b ≡ true → Has (let l : List ℕ = cond b (r.step.0 ∷ filter (λ (used : ℕ). nat_le used step) (map (λ (x : Row). x.step.0) rows_)) (filter (λ (used : ℕ). nat_le used step) (map (λ (x : Row). x.step.0) rows_)) in l) row.step.0
    by_test true e = inl (ap (λ (x : Row). x.step.0) same)
    by_test false e = absurd cc
steps_in (r ∷ rows_) step row (inr has) is = by_test (nat_le r.step.0 step) (steps_in rows_ step row has is)
  where
    by_test : (b : Bool) → Has (filter (λ (used : ℕ). nat_le used step) (map (λ (x : Row). x.step.0) rows_)) row.step.0 → Has (let l : List ℕ = cond b (r.step.0 ∷ filter (λ (used : ℕ). nat_le used step) (map (λ (x : Row). x.step.0) rows_)) (filter (λ (used : ℕ). nat_le used step) (map (λ (x : Row). x.step.0) rows_)) in l) row.step.0
    by_test true more = inr more
    by_test false more = more

-- a row at a step that is used leaves the used ones
pub used_more : (rows_ : List Row) (f row : Row) → Has rows_ row → row.step.0 ≡ f.step.0 → (step : ℕ) → used_step_at (rows_ ++ f ∷ []) step ≡ used_step_at rows_ step
used_more rows_ f row has same step =
    ap (λ (l : List ℕ). fold max 0 (filter (λ (used : ℕ). nat_le used step) l)) (map-append (λ (r : Row). r.step.0) rows_ (f ∷ []))
    ∙ ap (λ (l : List ℕ). fold max 0 l) (filter-append (λ (used : ℕ). nat_le used step) (map (λ (r : Row). r.step.0) rows_) (f.step.0 ∷ []))
    ∙ by_test (nat_le f.step.0 step) refl
  where
    by_test : (b : Bool) → nat_le f.step.0 step ≡ b → fold max 0 (filter (λ (used : ℕ). nat_le used step) (map (λ (r : Row). r.step.0) rows_) ++ (let l : List ℕ = cond b (f.step.0 ∷ []) [] in l)) ≡ fold max 0 (filter (λ (used : ℕ). nat_le used step) (map (λ (r : Row). r.step.0) rows_))
    by_test false is = ap (λ (l : List ℕ). fold max 0 l) (append-nil (filter (λ (used : ℕ). nat_le used step) (map (λ (r : Row). r.step.0) rows_)))
    by_test true is =
        one_more 0 (filter (λ (used : ℕ). nat_le used step) (map (λ (r : Row). r.step.0) rows_)) f.step.0 (let in_ = within 0 (filter (λ (used : ℕ). nat_le used step) (map (λ (r : Row). r.step.0) rows_)) row.step.0 (steps_in rows_ step row has (ap (λ (k : ℕ). nat_le k step) same ∙ is)) in omega (arith, in_, same))

-- ---- the least step of a document state

least_in : (best : ℕ) (l : List ℕ) → Has (best ∷ l) (fold min best l)
least_in best [] = inl refl
least_in best (x ∷ l) = by_rest (least_in (min best x) l)
  where
    which : (min best x ≡ best) ⊎ (min best x ≡ x)
    which = by_order (nat_le best x) refl
      where
        by_order : (b : Bool) → nat_le best x ≡ b → (min best x ≡ best) ⊎ (min best x ≡ x)
        by_order true is = inl (let le : best ≤ x = grind (arith, nat_tests, is) in omega (arith, le))
        by_order false is = inr (let le : x ≤ best = grind (arith, nat_tests, is) in omega (arith, le))

    by_first : (min best x ≡ best) ⊎ (min best x ≡ x) → min best x ≡ fold min (min best x) l → Has (best ∷ x ∷ l) (fold min (min best x) l)
    by_first (inl one) same = inl (sym one ∙ same)
    by_first (inr two) same = inr (inl (sym two ∙ same))

    by_rest : (min best x ≡ fold min (min best x) l) ⊎ Has l (fold min (min best x) l) → Has (best ∷ x ∷ l) (fold min (min best x) l)
    by_rest (inl same) = by_first which same
    by_rest (inr has) = inr (inr has)

-- a row of the document state at its least step
pub record IsLeast (rows_ : List Row) (state : StateId) : Type 0 where
  pub row : Row
  pub there : Has rows_ row
  pub is : row.step.0 ≡ first_step state rows_

from_map : (rows_ : List Row) (state : StateId) (k : ℕ) → Has (map (λ (r : Row). r.step.0) (filter (λ (r : Row). r.state.0 == state.0) rows_)) k → (row : Row) × (Has rows_ row) × (row.step.0 ≡ k)
from_map [] state k has = absurd has
from_map (r ∷ rows_) state k has = by_test (r.state.0 == state.0) has (from_map rows_ state k)
  where
    by_test : (b : Bool) → Has (map (λ (x : Row). x.step.0) (let l : List Row = cond b (r ∷ filter (λ (x : Row). x.state.0 == state.0) rows_) (filter (λ (x : Row). x.state.0 == state.0) rows_) in l)) k → (Has (map (λ (x : Row). x.step.0) (filter (λ (x : Row). x.state.0 == state.0) rows_)) k → (row : Row) × (Has rows_ row) × (row.step.0 ≡ k)) → (row : Row) × (Has (r ∷ rows_) row) × (row.step.0 ≡ k)
    by_test true (inl same) more = (r, inl refl, same)
    by_test true (inr h) more = (let x = more h in (x.0, inr x.1, x.2))
    by_test false h more = (let x = more h in (x.0, inr x.1, x.2))

pub least_row : (rows_ : List Row) (state : StateId) → has_state state rows_ ≡ true → IsLeast rows_ state
least_row rows_ state has =
    by_list (map (λ (r : Row). r.step.0) (filter (λ (r : Row). r.state.0 == state.0) rows_)) refl
  where
    a : Passing (λ (r : Row). r.state.0 == state.0) rows_
    a = any_has (λ (r : Row). r.state.0 == state.0) rows_ has

    some_in : (l : List Row) → Has l a.it → Has (map (λ (r : Row). r.step.0) (filter (λ (r : Row). r.state.0 == state.0) l)) a.it.step.0
    some_in [] there = absurd there
    some_in (r ∷ l) (inl same) = by_test (r.state.0 == state.0) (ap (λ (x : Row). x.state.0 == state.0) same ∙ a.passes)
      where
        by_test : (b : Bool) → b ≡ true → Has (map (λ (x : Row). x.step.0) (let k : List Row = cond b (r ∷ filter (λ (x : Row). x.state.0 == state.0) l) (filter (λ (x : Row). x.state.0 == state.0) l) in k)) a.it.step.0
        by_test true e = inl (ap (λ (x : Row). x.step.0) same)
        by_test false e = absurd cc
    some_in (r ∷ l) (inr there) = by_test (r.state.0 == state.0) (some_in l there)
      where
        by_test : (b : Bool) → Has (map (λ (x : Row). x.step.0) (filter (λ (x : Row). x.state.0 == state.0) l)) a.it.step.0 → Has (map (λ (x : Row). x.step.0) (let k : List Row = cond b (r ∷ filter (λ (x : Row). x.state.0 == state.0) l) (filter (λ (x : Row). x.state.0 == state.0) l) in k)) a.it.step.0
        by_test true more = inr more
        by_test false more = more

    by_list : (l : List ℕ) → map (λ (r : Row). r.step.0) (filter (λ (r : Row). r.state.0 == state.0) rows_) ≡ l → IsLeast rows_ state
    by_list [] is = absurd (subst (λ (l : List ℕ). Has l a.it.step.0) is (some_in rows_ a.there))
    by_list (k ∷ ks) is =
        let least : first_step state rows_ ≡ fold min k ks = rw is refl in
        let x = from_map rows_ state (fold min k ks) (subst (λ (l : List ℕ). Has l (fold min k ks)) (sym is) (least_in k ks)) in
        record { row = x.0; there = x.1; is = x.2 ∙ sym least }
