-- How each place's navigable hangs in the history, once the navigables hang together.
use Rattle.std.proofs.Common.{◌≡◌, ◌⊎◌, inl, inr, ℕ, zero, suc, ◌<◌, Bool, true, false, ◌||◌, cond, List, [], ◌∷◌, length, refl, sym, ap, ◌∙◌, subst, arith, Option, Some, None, ◌==◌}
use Rattle.std.specs.Prelude.{find, option_map, option_and_then, is_some, slice_get, if◌then◌else◌}
use Rattle.std.proofs.lemmas.Bool.{and_parts, eqb-true}
use Rattle.tab_ids.specs.declared.NavId.{NavId}
use Rattle.tab_ids.specs.declared.StateId.{StateId}
use Rattle.log_model.specs.declared.row.Row.{Row}
use Rattle.log_model.specs.Equal.{holds}
use Rattle.log_model.specs.History.{has_nav, is_of, owner_of, target_entry}
use Rattle.log_model.specs.Places.{holder_of, targets_state, way_up, is_shown_within, is_shown}
use Rattle.log_model.specs.Seen.{Seen, Place, place_in, place_of}
use Rattle.log_model.specs.Soundness.{stands_at, IsSound}
use Rattle.log_model.proofs.Refl.{nat_eq_refl}
use Rattle.seen_facts.specs.Hang.Members.{Has}
use Rattle.seen_facts.specs.Hang.Forms.{Form, form_of, forms_of, form_in, AreApart, AreLinked, IsOneOf}
use Rattle.seen_facts.specs.Hang.Hanging.{IsPlaced, BeginsBy, Hangs}
use Rattle.seen_facts.specs.Hang.AsPlaces.{AreDistinct, IsHung, HangsAs, IsChain}
use Rattle.seen_facts.proofs.Hang.Forms.{IsPlaceOf, nav_is, form_found, form_there, place_there}
use Rattle.seen_facts.proofs.Hang.Members.{any_has, find_has, has_found}
use Rattle.seen_facts.proofs.Hang.Parts.{state_is, same_state, owner_is}
use Rattle.seen_facts.proofs.Hang.Depths.{IsBelow, way_shorter, below, depth}
use Rattle.seen_facts.proofs.Hang.Targets.{IsTarget, target_has, target_there, some_is}

-- ---- the places

pub distinct : (places : List Place) → AreApart (forms_of places) → AreDistinct places
distinct [] apart = tt
distinct (place ∷ places) apart = (none_of (place_in places place.nav) refl, distinct places apart.1)
  where
    none_of : (o : Option Place) → place_in places place.nav ≡ o → place_in places place.nav ≡ None
    none_of None e = e
    none_of (Some other) e = let no_ : None ≡ Some (form_of other) = sym apart.0 ∙ form_there places place.nav other e in cc

pub chain : (places : List Place) (above : List NavId) → AreLinked (forms_of places) above → IsChain places above
chain places [] linked = tt
chain places (nav ∷ above) linked =
    let at : IsPlaceOf places nav linked.0.form = place_there places nav linked.0.form linked.0.found in
    (record { place = at.place; found = at.found; above_is = ap (λ (f : Form). f.above) at.is ∙ linked.0.above_is }, chain places above linked.1)

-- ---- who is shown

-- the navigable is the top, or hangs on the document state of a parent's target
pub record IsUp (rows : List Row) (step : ℕ) (nav parent : NavId) : Type 0 where
  pub owner : StateId
  pub target : Row
  pub owner_at : owner_of nav rows ≡ Some owner
  pub holder_at : holder_of owner rows ≡ Some parent
  pub at : target_entry rows parent step ≡ Some target
  pub its_state : target.state ≡ owner

pub is_up : (rows : List Row) (step : ℕ) (nav parent : NavId) → way_up rows step nav ≡ Some parent → IsUp rows step nav parent
is_up rows step nav parent e = by_owner (owner_of nav rows) refl e
  where
    by_target : (owner : StateId) (holder : NavId) → owner_of nav rows ≡ Some owner → holder_of owner rows ≡ Some holder → (o : Option Row) → target_entry rows holder step ≡ o → holds (λ (row : Row). row.state.0 == owner.0) o ≡ true → IsUp rows step nav holder
    by_target owner holder one two None t has = cc
    by_target owner holder one two (Some row) t has =
        record { owner = owner; target = row; owner_at = one; holder_at = two; at = t; its_state = state_is row.state owner has }

    by_test : (owner : StateId) (holder : NavId) → owner_of nav rows ≡ Some owner → holder_of owner rows ≡ Some holder → (b : Bool) → targets_state rows step holder owner ≡ b → cond b (Some holder) None ≡ Some parent → IsUp rows step nav parent
    by_test owner holder one two true t h =
        let same : holder ≡ parent = cc in
        subst (λ (p : NavId). IsUp rows step nav p) same (by_target owner holder one two (target_entry rows holder step) refl t)
    by_test owner holder one two false t h = cc

    by_holder : (owner : StateId) → owner_of nav rows ≡ Some owner → (o : Option NavId) → holder_of owner rows ≡ o → option_and_then (λ (p : NavId). if targets_state rows step p owner then Some p else None) o ≡ Some parent → IsUp rows step nav parent
    by_holder owner one None two h = cc
    by_holder owner one (Some holder) two h = by_test owner holder one two (targets_state rows step holder owner) refl h

    by_owner : (o : Option StateId) → owner_of nav rows ≡ o → option_and_then (λ (owner : StateId). option_and_then (λ (p : NavId). if targets_state rows step p owner then Some p else None) (holder_of owner rows)) o ≡ Some parent → IsUp rows step nav parent
    by_owner None one h = cc
    by_owner (Some owner) one h = by_holder owner one (holder_of owner rows) refl h

pub record IsUpTo (rows : List Row) (step : ℕ) (nav : NavId) : Type 0 where
  pub parent : NavId
  pub up : IsUp rows step nav parent

pub shown_up : (n : ℕ) (rows : List Row) (step : ℕ) (nav : NavId) → is_shown_within n rows step (Some nav) ≡ true → ((nav.0 == 0) ≡ true) ⊎ IsUpTo rows step nav
shown_up zero rows step nav shown = inl shown
shown_up (suc n) rows step nav shown = by_test (nav.0 == 0) refl shown
  where
    by_way : (o : Option NavId) → way_up rows step nav ≡ o → is_shown_within n rows step o ≡ true → IsUpTo rows step nav
    by_way None e h = none_shown n h
      where
        none_shown : (m : ℕ) → is_shown_within m rows step None ≡ true → IsUpTo rows step nav
        none_shown zero h = cc
        none_shown (suc m) h = cc
    by_way (Some parent) e h = record { parent = parent; up = is_up rows step nav parent e }

    by_test : (b : Bool) → (nav.0 == 0) ≡ b → (b || is_shown_within n rows step (way_up rows step nav)) ≡ true → ((nav.0 == 0) ≡ true) ⊎ IsUpTo rows step nav
    by_test true e h = inl e
    by_test false e h = inr (by_way (way_up rows step nav) refl h)

-- ---- each place

module _ (s : Seen) (sound : IsSound s.history) (hangs : Hangs s) where
  -- the first row of a navigable
  record IsRowOf (nav : NavId) (owner : Option StateId) : Type 0 where
    row : Row
    there : Has s.history.rows row
    its_nav : row.nav ≡ nav
    its_owner : row.owner ≡ owner

  first_of : (nav : NavId) (owner : StateId) → owner_of nav s.history.rows ≡ Some owner → IsRowOf nav (Some owner)
  first_of nav owner e = by_row (find (is_of nav) s.history.rows) refl e
    where
      by_row : (o : Option Row) → find (is_of nav) s.history.rows ≡ o → option_and_then (λ (row : Row). row.owner) o ≡ Some owner → IsRowOf nav (Some owner)
      by_row None f h = cc
      by_row (Some row) f h =
          let has = find_has (is_of nav) s.history.rows row f in
          record { row = row; there = has.0; its_nav = nav_is row.nav nav has.1; its_owner = h }

  pub own_form : (nav : NavId) (place : Place) → place_of s nav ≡ Some place → form_in (forms_of s.places) place.nav ≡ Some (form_of place)
  own_form nav place found =
      let at : form_in (forms_of s.places) nav ≡ Some (form_of place) = form_there s.places nav place found in
      ap (λ (n : NavId). form_in (forms_of s.places) n) (form_found (forms_of s.places) nav (form_of place) at) ∙ at

  -- one with entries hangs on a document state of its parent
  pub is_hung : (nav : NavId) (place : Place) → place_of s nav ≡ Some place → (row : Row) → Has s.history.rows row → row.nav ≡ place.nav → (parent : NavId) (above : List NavId) → place.above ≡ parent ∷ above → IsHung s.history.rows place parent
  is_hung nav place found row there same parent above is =
      let form_found_ : form_in (forms_of s.places) row.nav ≡ Some (form_of place) = ap (λ (n : NavId). form_in (forms_of s.places) n) same ∙ own in
      let b : IsBelow s.history (forms_of s.places) sound hangs.woven hangs.rows row parent = below s.history (forms_of s.places) sound hangs.woven hangs.rows row (form_of place) parent above there form_found_ is in
      let holder_found = has_found (λ (r : Row). r.state.0 == b.owner.0) s.history.rows b.holder b.there (same_state b.holder.state b.owner b.its_state) in
      let first = has_found (is_of place.nav) s.history.rows row there (subst (λ (n : NavId). (row.nav.0 == n.0) ≡ true) same (nat_eq_refl row.nav.0)) in
      let first_has = find_has (is_of place.nav) s.history.rows first.0 first.1 in
      let holder_has = find_has (λ (r : Row). r.state.0 == b.owner.0) s.history.rows holder_found.0 holder_found.1 in
      let holder_state : holder_found.0.state ≡ b.owner = state_is holder_found.0.state b.owner holder_has.1 in
      let holder_nav : holder_found.0.nav ≡ parent = hangs.rows.holders row holder_found.0 (form_of place) parent above there holder_has.0 form_found_ is (b.owner_is ∙ ap (λ (x : StateId). Some x) (sym holder_state)) in
      let p : IsPlaced (forms_of s.places) row = hangs.rows.placed row there in
      let forms : Some p.form ≡ Some (form_of place) = sym p.found ∙ form_found_ in
      let one : p.form ≡ form_of place = cc in
      record {
        owner = b.owner;
        owner_is = ap (λ (o : Option Row). option_and_then (λ (r : Row). r.owner) o) first.1 ∙ owner_is s.history.rows (forms_of s.places) sound.rooted hangs.rows first.0 row first_has.0 there (nav_is first.0.nav place.nav first_has.1 ∙ sym same) ∙ b.owner_is;
        holder_is = ap (λ (o : Option Row). option_map (λ (r : Row). r.nav) o) holder_found.1 ∙ ap (λ (n : NavId). Some n) holder_nav;
        first = sym (ap (λ (f : Form). slice_get f.owners 0) one) ∙ sym p.owner ∙ b.owner_is;
      }
    where
      own : form_in (forms_of s.places) place.nav ≡ Some (form_of place)
      own = own_form nav place found

  -- one that is shown has a target
  pub has_begun : (step : ℕ) (nav : NavId) → is_shown s.history.rows step nav ≡ true → is_some (target_entry s.history.rows nav step) ≡ true
  has_begun step nav shown = by_case (shown_up (length s.history.rows) s.history.rows step nav shown)
    where
      by_case : ((nav.0 == 0) ≡ true) ⊎ IsUpTo s.history.rows step nav → is_some (target_entry s.history.rows nav step) ≡ true
      by_case (inl top) =
          let at_top : nav.0 ≡ 0 = eqb-true nav.0 0 top in
          let a = any_has (stands_at nav 0) s.history.rows (sound.top_row nav at_top) in
          let both = and_parts (is_of nav a.it) (a.it.step.0 == 0) a.passes in
          let first : a.it.step.0 ≡ 0 = eqb-true a.it.step.0 0 both.1 in
          target_there s.history.rows nav step a.it a.there (nav_is a.it.nav nav both.0) (omega (arith, first))
      by_case (inr to) =
          let up : IsUp s.history.rows step nav to.parent = to.up in
          let first = first_of nav up.owner up.owner_at in
          let t : IsTarget s.history.rows to.parent step up.target = target_has s.history.rows to.parent step up.target up.at in
          let b : BeginsBy s.history.rows first.row.nav up.target.step.0 = hangs.rows.begins first.row up.target first.there t.there (first.its_owner ∙ ap (λ (x : StateId). Some x) (sym up.its_state)) in
          target_there s.history.rows nav step b.row b.there (b.nav_is ∙ first.its_nav) (omega (arith, b.by, t.by))

  pub hangs_as : (nav : NavId) (place : Place) → place_of s nav ≡ Some place → HangsAs s.history.rows place
  hangs_as nav place found =
      record {
        top = its.top;
        child = its.child;
        hung = λ step parent above some is. (let o = some_is (target_entry s.history.rows place.nav step) some in let t = target_has s.history.rows place.nav step o.0 o.1 in is_hung nav place found o.0 t.there t.nav_is parent above is);
        rooted = λ step some. (let o = some_is (target_entry s.history.rows place.nav step) some in let t = target_has s.history.rows place.nav step o.0 o.1 in depth s.history (forms_of s.places) sound hangs.woven hangs.rows o.0 (form_of place) t.there (ap (λ (n : NavId). form_in (forms_of s.places) n) t.nav_is ∙ own_form nav place found));
        begun = λ step shown. has_begun step place.nav shown;
      }
    where
      its : IsOneOf s.history.added (form_of place)
      its = hangs.woven.each nav (form_of place) (form_there s.places nav place found)

  pub places_distinct : AreDistinct s.places
  places_distinct = distinct s.places hangs.woven.apart

  pub place_chain : (nav : NavId) (place : Place) → place_of s nav ≡ Some place → IsChain s.places place.above
  place_chain nav place found = chain s.places place.above (hangs.woven.linked nav (form_of place) (form_there s.places nav place found))

  -- none is above itself
  pub not_above_itself : (nav : NavId) (place : Place) → place_of s nav ≡ Some place → has_nav place.above place.nav ≡ false
  not_above_itself nav place found = by_test (has_nav place.above place.nav) refl
    where
      by_test : (b : Bool) → has_nav place.above place.nav ≡ b → has_nav place.above place.nav ≡ false
      by_test false e = e
      by_test true e =
          let a = any_has (λ (n : NavId). n.0 == place.nav.0) place.above e in
          let navs : a.it ≡ place.nav = nav_is a.it place.nav a.passes in
          let own : form_in (forms_of s.places) a.it ≡ Some (form_of place) = ap (λ (n : NavId). form_in (forms_of s.places) n) navs ∙ own_form nav place found in
          let less : length place.above < length place.above = way_shorter (forms_of s.places) place.above a.it (form_of place) (hangs.woven.linked nav (form_of place) (form_there s.places nav place found)) a.there own in
          absurd (omega (arith, less))
