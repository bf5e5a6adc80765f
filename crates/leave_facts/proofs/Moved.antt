-- Where a navigable is awake on a document that its target at a step hasn't the state of, no document stays there on which it, or one below it, is awake.
use Rattle.leave_facts.specs.Leaving.{stays_at}
use Rattle.leave_facts.specs.Moved.{IsMoved}
use Rattle.log_model.proofs.Refl.{nat_eq_refl}
use Rattle.log_model.specs.Equal.{holds}
use Rattle.log_model.specs.History.{has_nav, target_entry}
use Rattle.log_model.specs.Places.{is_shown, targets_state, way_of}
use Rattle.log_model.specs.Seen.{Document, Place, Seen, awake, document_of, place_of}
use Rattle.log_model.specs.Soundness.{IsSound}
use Rattle.log_model.specs.declared.row.Row.{Row}
use Rattle.seen_facts.proofs.Hang.Hung.{place_chain}
use Rattle.seen_facts.proofs.Hang.Forms.{nav_is}
use Rattle.seen_facts.proofs.Walk.Placed.{found_nav}
use Rattle.seen_facts.specs.Hang.AsPlaces.{IsChain}
use Rattle.seen_facts.specs.Hang.Hanging.{Hangs}
use Rattle.seen_facts.specs.Home.Homes.{EachWake, HangsOnAwake, IsOnAwake}
use Rattle.std.proofs.Common.{Bool, List, Option, Some, [], ap, false, refl, sym, true, ℕ, ◌&&◌, ◌||◌, ◌==◌, ◌∙◌, ◌∷◌, ◌≡◌}
use Rattle.tab_facts.proofs.ShownWays.Keeps.{way_more}
use Rattle.tab_facts.proofs.ShownWays.Ways.{shown_leads}
use Rattle.tab_facts.specs.ShownWays.Ways.{IsOnTarget}
use Rattle.tab_ids.specs.declared.DocId.{DocId}
use Rattle.tab_ids.specs.declared.NavId.{NavId}
use Rattle.tab_ids.specs.declared.StateId.{StateId}

either : (a b : Bool) → b ≡ true → (a || b) ≡ true
either true b is = refl
either false b is = is

module _ (s : Seen) (sound : IsSound s.history) (hangs : Hangs s) (hung : EachWake (HangsOnAwake s) s) (step : ℕ) (moved : NavId) (its : IsMoved s step moved) where
  -- ---- one that is shown and hangs on it

  -- where it is shown, what hangs on the moved one's document hangs on its target
  never_on : (parent : NavId) → parent ≡ moved → (own : Place) → IsOnAwake s own parent → IsOnTarget s.history.rows step own parent → ⊥
  never_on parent same own wakes target =
      let place_same : Some wakes.above ≡ Some its.place = sym wakes.there ∙ ap (λ (n : NavId). place_of s n) same ∙ its.there in
      let place_is : wakes.above ≡ its.place = cc in
      let status : awake wakes.doc ≡ awake its.doc = sym wakes.wakes ∙ ap (λ (p : Place). p.status) place_is ∙ its.wakes in
      let doc_is : wakes.doc ≡ its.doc = cc in
      let both : Some wakes.document ≡ Some its.document = sym wakes.found ∙ ap (λ (d : DocId). document_of s d) doc_is ∙ its.found in
      let document_is : wakes.document ≡ its.document = cc in
      let owners : Some target.target.state ≡ Some wakes.document.state = sym target.owner ∙ wakes.owner in
      let state_is : target.target.state ≡ its.document.state = (let one : target.target.state ≡ wakes.document.state = cc in one ∙ ap (λ (d : Document). d.state) document_is) in
      let at : target_entry s.history.rows moved step ≡ Some target.target = ap (λ (n : NavId). target_entry s.history.rows n step) (sym same) ∙ target.at in
      let targets : targets_state s.history.rows step moved its.document.state ≡ true = ap (λ (o : Option Row). holds (λ (row : Row). row.state.0 == its.document.state.0) o) at ∙ ap (λ (x : StateId). x.0 == its.document.state.0) state_is ∙ nat_eq_refl its.document.state.0 in
      let never : true ≡ false = sym targets ∙ its.leaves in
      absurd cc

  module _ (nav : NavId) (place : Place) (at : place_of s nav ≡ Some place) (shown : is_shown s.history.rows step nav ≡ true) where
    -- up the way from one that is awake
    none_up : (above : List NavId) (x : NavId) (own : Place) (doc : DocId) → place_of s x ≡ Some own → own.above ≡ above → IsChain s.places above → own.status ≡ awake doc → has_nav (nav ∷ place.above) x ≡ true → has_nav above moved ≡ true → ⊥
    none_up [] x own doc there up chain wakes on_way has = absurd cc
    none_up (parent ∷ others) x own doc there up chain wakes on_way has =
        by_first (parent.0 == moved.0) refl has (λ h. none_up others parent on.above on.doc on.there above_is chain.1 on.wakes parent_way h)
      where
        on : IsOnAwake s own parent
        on = hung x own doc there wakes parent others up

        target : IsOnTarget s.history.rows step own parent
        target = shown_leads s sound hangs step nav place at shown x own parent others on_way there up

        own_above : has_nav own.above parent ≡ true
        own_above = ap (λ (l : List NavId). has_nav l parent) up ∙ ap (λ (b : Bool). b || has_nav others parent) (nat_eq_refl parent.0)

        parent_way : has_nav (nav ∷ place.above) parent ≡ true
        parent_way = either (nav.0 == parent.0) (has_nav place.above parent) (way_more s sound hangs nav place at x own on_way there parent own_above)

        above_is : on.above.above ≡ others
        above_is =
            let two : Some on.above ≡ Some chain.0.place = sym on.there ∙ chain.0.found in
            let one : on.above ≡ chain.0.place = cc in
            ap (λ (p : Place). p.above) one ∙ chain.0.above_is

        by_first : (b : Bool) → (parent.0 == moved.0) ≡ b → (b || has_nav others moved) ≡ true → (has_nav others moved ≡ true → ⊥) → ⊥
        by_first true same h more = never_on parent (nav_is parent moved same) own on target
        by_first false apart h more = more h

  -- ---- who is below doesn't stay

  pub moved_leaves : (nav : NavId) (place : Place) (doc : DocId) (d : Document) → place_of s nav ≡ Some place → place.status ≡ awake doc → document_of s doc ≡ Some d → d.nav ≡ nav → has_nav (way_of place) moved ≡ true → stays_at s.history.rows step d ≡ false
  moved_leaves nav place doc d at wakes found home below =
      by_own (place.nav.0 == moved.0) refl below
    where
      nav_there : place.nav ≡ nav
      nav_there = found_nav s.places nav place at

      ends : (a b : Bool) → b ≡ false → (a && b) ≡ false
      ends true b is = is
      ends false b is = refl

      by_shown : has_nav place.above moved ≡ true → (b : Bool) → is_shown s.history.rows step nav ≡ b → (b && targets_state s.history.rows step d.nav d.state) ≡ false
      by_shown has false e = refl
      by_shown has true shown =
          absurd (none_up nav place at shown place.above nav place doc at refl (place_chain s sound hangs nav place at) wakes (ap (λ (b : Bool). b || has_nav place.above nav) (nat_eq_refl nav.0)) has)

      by_own : (b : Bool) → (place.nav.0 == moved.0) ≡ b → (b || has_nav place.above moved) ≡ true → stays_at s.history.rows step d ≡ false
      by_own true same h =
          let nav_same : nav ≡ moved = sym nav_there ∙ nav_is place.nav moved same in
          let two : Some place ≡ Some its.place = sym at ∙ ap (λ (n : NavId). place_of s n) nav_same ∙ its.there in
          let one : place ≡ its.place = cc in
          let status : awake doc ≡ awake its.doc = sym wakes ∙ ap (λ (p : Place). p.status) one ∙ its.wakes in
          let doc_is : doc ≡ its.doc = cc in
          let both : Some d ≡ Some its.document = sym found ∙ ap (λ (x : DocId). document_of s x) doc_is ∙ its.found in
          let document_is : d ≡ its.document = cc in
          ends (is_shown s.history.rows step d.nav) (targets_state s.history.rows step d.nav d.state)
          (ap (λ (n : NavId). targets_state s.history.rows step n d.state) (home ∙ nav_same) ∙ ap (λ (x : Document). targets_state s.history.rows step moved x.state) document_is ∙ its.leaves)
      by_own false apart h =
          ap (λ (n : NavId). is_shown s.history.rows step n && targets_state s.history.rows step d.nav d.state) home ∙ by_shown h (is_shown s.history.rows step nav) refl
