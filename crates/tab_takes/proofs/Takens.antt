-- The forward session history is cleared: who is awake on a document whose state loses its entries was given one that goes, or one above it was.
use Rattle.tab_facts.specs.Calm.Calm.{AreRooted, IsRooted}
use Rattle.seen_facts.proofs.Hang.Hung.{hangs_as, own_form, place_chain}
use Rattle.seen_facts.proofs.Hang.Members.{Passing, any_has, has_any, has_filter, has_tidied, into_filter, into_tidied}
use Rattle.seen_facts.proofs.Hang.Parts.{state_is}
use Rattle.seen_facts.specs.Hang.AsPlaces.{IsChain}
use Rattle.seen_facts.specs.Hang.Forms.{form_in, form_of, forms_of}
use Rattle.seen_facts.specs.Hang.Hanging.{IsPlaced}
use Rattle.seen_facts.specs.Hang.Members.{Has}
use Rattle.seen_facts.specs.Home.Homes.{IsHomed, IsOnAwake}
use Rattle.log_model.proofs.Refl.{nat_eq_refl}
use Rattle.log_model.specs.History.{cleared, has_nav, has_row, has_state, is_anchored, is_of}
use Rattle.log_model.specs.Seen.{Document, Place, Seen, awake, document_of, place_of}
use Rattle.log_model.specs.Soundness.{hangs_on, is_owned_by}
use Rattle.log_model.specs.declared.made.Made.{Made}
use Rattle.log_model.specs.declared.row.Row.{Row}
use Rattle.std.proofs.Common.{Bool, List, None, Option, Some, [], ap, arith, false, inl, inr, refl, sym, true, ◌&&◌, ◌==◌, ◌||◌, ◌∙◌, ◌∷◌, ◌≡◌, ◌⊎◌}
use Rattle.std.proofs.lemmas.Bool.Decides.{nat_tests}
use Rattle.std.specs.Option.{option_map_or}
use Rattle.std.specs.Prelude.{filter, nat_le, slice_get}
use Rattle.tab_ids.specs.declared.DocId.{DocId}
use Rattle.tab_ids.specs.declared.NavId.{NavId}
use Rattle.tab_ids.specs.declared.ReqId.{ReqId}
use Rattle.tab_ids.specs.declared.StateId.{StateId}
use Rattle.tab_takes.proofs.Entered.{above_entered}
use Rattle.tab_rests.specs.PassedOn.{IsTab}
use Rattle.seen_facts.proofs.Walk.Placed.{found_nav}

some_same : {A : Type 0} {a b : A} → (let o : Option A = Some a in o) ≡ Some b → a ≡ b
some_same e = cc

module _ (run : Option ReqId) (loads : List ReqId) (hand : List Made) (s : Seen) (tab : IsTab run loads hand s) where
  abbrev low : Row → Bool
  low row = nat_le row.step.0 s.history.current

  pub was_low : (row : Row) → Has (cleared s.history) row → Has s.history.rows row × (nat_le row.step.0 s.history.current ≡ true)
  was_low row has =
      has_filter (λ (r : Row). nat_le r.step.0 s.history.current) s.history.rows row (has_tidied (filter (λ (r : Row). nat_le r.step.0 s.history.current) s.history.rows) row has).0

  stays : (row : Row) → Has s.history.rows row → nat_le row.step.0 s.history.current ≡ true → is_anchored (cleared s.history) row ≡ true → Has (cleared s.history) row
  stays row there is anchored =
      into_tidied (filter (λ (r : Row). nat_le r.step.0 s.history.current) s.history.rows) row (into_filter (λ (r : Row). nat_le r.step.0 s.history.current) s.history.rows row there is) anchored

  -- an entry of its document's state is of the navigable that is awake on it
  pub own_row : (m : NavId) (place : Place) (doc : DocId) (d : Document) → place_of s m ≡ Some place → place.status ≡ awake doc → document_of s doc ≡ Some d → (row : Row) → Has s.history.rows row → row.state ≡ d.state → row.nav ≡ m
  own_row m place doc d found wakes there row has same =
      let homed : IsHomed s.documents place doc = tab.homes.homed m place doc found wakes in
      let one : homed.home.document ≡ d = some_same (sym homed.home.found ∙ there) in
      tab.whose.whose doc d row there has same ∙ ap (λ (x : Document). x.nav) (sym one) ∙ homed.home.nav_is ∙ found_nav s.places m place found

  owned_by : (x : NavId) (place : Place) (row : Row) → place_of s x ≡ Some place → Has s.history.rows row → row.nav ≡ x → row.owner ≡ slice_get place.owners 0
  owned_by x place row found there same =
      let p : IsPlaced (forms_of s.places) row = tab.hangs.rows.placed row there in
      let at = ap (λ (n : NavId). form_in (forms_of s.places) n) (same ∙ sym (found_nav s.places x place found)) ∙ own_form s tab.sound tab.hangs x place found in
      let two : Some p.form ≡ Some (form_of place) = sym p.found ∙ at in
      let one : p.form ≡ form_of place = cc in
      p.owner ∙ ap (λ f. slice_get f.owners 0) one

  -- one of these was given an entry that goes
  pub record IsGone (navs : List NavId) : Type 0 where
    pub mover : NavId
    pub on_way : has_nav navs mover ≡ true
    pub own : Place
    pub there : place_of s mover ≡ Some own
    pub row : Row
    pub has : Has s.history.rows row
    pub given : own.given ≡ Some row.entry
    pub gone : Has (cleared s.history) row → ⊥

  module _ (rooted : AreRooted s) where
    -- its own entry stays, where it hangs on what stays; or it goes
    by_rooted : (m : NavId) (place : Place) (doc : DocId) (d : Document) (above : List NavId) → place_of s m ≡ Some place → place.status ≡ awake doc → document_of s doc ≡ Some d → ((row : Row) → Has s.history.rows row → row.nav ≡ m → is_anchored (cleared s.history) row ≡ true) → IsRooted s place d → (has_state d.state (cleared s.history) ≡ true) ⊎ IsGone (m ∷ above)
    by_rooted m place doc d above found wakes there anchored (inl root) = by_low (nat_le root.0.step.0 s.history.current) refl
      where
        navs : root.0.nav ≡ m
        navs = root.2 ∙ found_nav s.places m place found

        of_state : root.0.state ≡ d.state
        of_state =
            tab.homes.state m place doc found wakes root.0 d root.1 root.2 root.3 there

        by_low : (b : Bool) → nat_le root.0.step.0 s.history.current ≡ b → (has_state d.state (cleared s.history) ≡ true) ⊎ IsGone (m ∷ above)
        by_low true is =
            inl (has_any (λ (r : Row). r.state.0 == d.state.0) (cleared s.history) root.0 (stays root.0 root.1 is (anchored root.0 root.1 navs)) (ap (λ (x : StateId). x.0 == d.state.0) of_state ∙ nat_eq_refl d.state.0))
        by_low false is =
            inr (record {
              mover = m;
              on_way = ap (λ (b : Bool). b || has_nav above m) (nat_eq_refl m.0);
              own = place;
              there = found;
              row = root.0;
              has = root.1;
              given = root.3;
              gone = λ has. (let never : true ≡ false = sym (was_low root.0 has).1 ∙ is in cc);
            })
    by_rooted m place doc d above found wakes there anchored (inr root) =
        let is : nat_le root.0.step.0 s.history.current ≡ true = (let by = root.3 in grind (arith, nat_tests, by)) in
        inl (has_any (λ (r : Row). r.state.0 == d.state.0) (cleared s.history) root.0 (stays root.0 root.1 is (anchored root.0 root.1 (own_row m place doc d found wakes there root.0 root.1 root.2))) (ap (λ (x : StateId). x.0 == d.state.0) root.2 ∙ nat_eq_refl d.state.0))

    later : (m : NavId) (navs : List NavId) → IsGone navs → IsGone (m ∷ navs)
    later m navs g =
        record {
          mover = g.mover;
          on_way = by_test (m.0 == g.mover.0);
          own = g.own;
          there = g.there;
          row = g.row;
          has = g.has;
          given = g.given;
          gone = g.gone;
        }
      where
        by_test : (b : Bool) → (b || has_nav navs g.mover) ≡ true
        by_test true = refl
        by_test false = g.on_way

    entered : (m : NavId) (place : Place) (doc : DocId) (d : Document) → place_of s m ≡ Some place → place.status ≡ awake doc → document_of s doc ≡ Some d → has_state d.state s.history.rows ≡ true → has_row m s.history.rows ≡ true
    entered m place doc d found wakes there had =
        let a : Passing (λ (r : Row). r.state.0 == d.state.0) s.history.rows = any_has (λ (r : Row). r.state.0 == d.state.0) s.history.rows had in
        has_any (is_of m) s.history.rows a.it a.there (ap (λ (x : NavId). x.0 == m.0) (own_row m place doc d found wakes there a.it a.there (state_is a.it.state d.state a.passes)) ∙ nat_eq_refl m.0)

    leaves : (above : List NavId) (m : NavId) (place : Place) (doc : DocId) (d : Document) → place_of s m ≡ Some place → place.status ≡ awake doc → document_of s doc ≡ Some d → has_state d.state s.history.rows ≡ true → place.above ≡ above → IsChain s.places above → (has_state d.state (cleared s.history) ≡ true) ⊎ IsGone (m ∷ above)
    leaves [] m place doc d found wakes there had up chain =
        by_rooted m place doc d [] found wakes there anchored (rooted m place doc d found wakes there had)
      where
        anchored : (row : Row) → Has s.history.rows row → row.nav ≡ m → is_anchored (cleared s.history) row ≡ true
        anchored row has navs = by_owner row.owner refl
          where
            top : row.nav.0 ≡ 0
            top =
                ap (λ (n : NavId). n.0) (navs ∙ sym (found_nav s.places m place found)) ∙ (hangs_as s tab.sound tab.hangs m place found).top up

            by_owner : (o : Option StateId) → row.owner ≡ o → is_anchored (cleared s.history) row ≡ true
            by_owner None e =
                ap (λ (o : Option StateId). option_map_or (λ (y : StateId). has_state y (cleared s.history)) o true) e
            by_owner (Some owner) e =
                let owned : is_owned_by owner row ≡ true = ap (λ (o : Option StateId). option_map_or (λ (y : StateId). y.0 == owner.0) o false) e ∙ nat_eq_refl owner.0 in
                let own : is_of row.nav row ≡ true = nat_eq_refl row.nav.0 in
                let hung_on : hangs_on row.nav owner s.history.rows ≡ true = has_any (λ (r : Row). is_of row.nav r && is_owned_by owner r) s.history.rows row has (rw (own, owned) refl) in
                absurd (tab.sound.rooted.top_owner row.nav owner hung_on top)
    leaves (parent ∷ others) m place doc d found wakes there had up chain =
        by_above (leaves others parent on.above on.doc on.document on.there on.wakes on.found (above_entered run loads hand s tab m place parent on found (entered m place doc d found wakes there had)) rest chain.1)
      where
        on : IsOnAwake s place parent
        on = tab.homes.hung m place doc found wakes parent others up

        rest : on.above.above ≡ others
        rest =
            let two : Some on.above ≡ Some chain.0.place = sym on.there ∙ chain.0.found in
            let one : on.above ≡ chain.0.place = cc in
            ap (λ (p : Place). p.above) one ∙ chain.0.above_is

        by_above : (has_state on.document.state (cleared s.history) ≡ true) ⊎ IsGone (parent ∷ others) → (has_state d.state (cleared s.history) ≡ true) ⊎ IsGone (m ∷ parent ∷ others)
        by_above (inr g) = inr (later m (parent ∷ others) g)
        by_above (inl held) =
            by_rooted m place doc d (parent ∷ others) found wakes there (λ row has navs. ap (λ (o : Option StateId). option_map_or (λ (y : StateId). has_state y (cleared s.history)) o true) (owned_by m place row found has navs ∙ on.owner) ∙ held) (rooted m place doc d found wakes there had)

    pub loses : (m : NavId) (place : Place) (doc : DocId) (d : Document) → place_of s m ≡ Some place → place.status ≡ awake doc → document_of s doc ≡ Some d → has_state d.state s.history.rows ≡ true → has_state d.state (cleared s.history) ≡ false → IsGone (m ∷ place.above)
    loses m place doc d found wakes there had bare =
        by_case (leaves place.above m place doc d found wakes there had refl (place_chain s tab.sound tab.hangs m place found))
      where
        by_case : (has_state d.state (cleared s.history) ≡ true) ⊎ IsGone (m ∷ place.above) → IsGone (m ∷ place.above)
        by_case (inl held) = let never : true ≡ false = sym held ∙ bare in absurd cc
        by_case (inr g) = g
