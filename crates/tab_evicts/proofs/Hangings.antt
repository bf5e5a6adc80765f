-- Who hangs on a document state, as the tables tell, does in the log; and nobody is awake below a document that was left.
use Rattle.apply_plan.specs.Order.{parent_in}
use Rattle.seen_facts.proofs.Hang.Hung.{place_chain}
use Rattle.seen_facts.proofs.Hang.Parts.{state_is}
use Rattle.seen_facts.specs.Hang.AsPlaces.{IsChain}
use Rattle.seen_facts.specs.Hang.Hanging.{Hangs}
use Rattle.seen_facts.specs.Hang.Members.{Has}
use Rattle.seen_facts.specs.Home.Homes.{IsOnAwake}
use Rattle.seen_facts.specs.Kept.Keeping.{IsKeptDoc, is_last}
use Rattle.row_facts.specs.Left.Left.{IsOwnedAs, OwnersFollow}
use Rattle.log_model.proofs.Refl.{nat_eq_refl}
use Rattle.log_model.specs.Equal.{holds}
use Rattle.log_model.specs.Places.{hangs_on}
use Rattle.log_model.specs.Seen.{Document, Place, Seen, awake, document_of, place_of}
use Rattle.log_model.specs.Soundness.{IsSound}
use Rattle.log_model.specs.declared.made.Made.{Made}
use Rattle.seen_laws.proofs.Keyed.{find_has as seen_number}
use Rattle.std.proofs.Common.{Bool, List, Option, Some, [], ap, arith, false, length, refl, subst, suc, sym, true, zero, ℕ, ◌==◌, ◌||◌, ◌∙◌, ◌∷◌, ◌≡◌, ◌≤◌}
use Rattle.std.specs.List.{list_any}
use Rattle.std.specs.Prelude.{slice_get}
use Rattle.tab_doors.proofs.Holding.{HasNode, its_node}
use Rattle.tab_doors.specs.Look.{look_of}
use Rattle.tab_doors.specs.Ties.{AreHeld}
use Rattle.tab_doors.specs.declared.tables.Tables.{Tables}
use Rattle.tab_ids.specs.declared.DocId.{DocId}
use Rattle.tab_ids.specs.declared.NavId.{NavId}
use Rattle.tab_ids.specs.declared.ReqId.{ReqId}
use Rattle.tab_ids.specs.declared.StateId.{StateId}
use Rattle.tab_evicts.proofs.Climbs.{within}
use Rattle.tab_evicts.specs.Evicting.{hangs_in, owner_in}
use Rattle.tab_passes.specs.PassedOn.{IsTab}
use Rattle.seen_facts.proofs.Walk.Placed.{found_nav}

-- ---- the tables

module _ (s : Seen) (run : Option ReqId) (t : Tables) (held : AreHeld (look_of s run) t.tree) (owned : OwnersFollow s.places) (state : StateId) where
  its : (nav : NavId) (place : Place) → place_of s nav ≡ Some place → HasNode (look_of s run) t.tree nav place
  its nav place at = its_node (look_of s run) t.tree nav place held at

  owner_is : (nav : NavId) (place : Place) → place_of s nav ≡ Some place → owner_in t.tree nav ≡ slice_get place.owners 0
  owner_is nav place at = let h = its nav place at in rw h.there h.tied.owner

  parent_is : (nav : NavId) (place : Place) → place_of s nav ≡ Some place → parent_in t.tree nav ≡ slice_get place.above 0
  parent_is nav place at = let h = its nav place at in rw h.there h.tied.parent

  -- by so many above it as there are
  hangs_above : (above : List NavId) (nav : NavId) (place : Place) (n : ℕ) → place_of s nav ≡ Some place → place.above ≡ above → IsChain s.places above → length above ≤ n → within n t.tree state nav ≡ hangs_on state place
  hangs_above [] nav place zero at is chain low = rw (owner_is nav place at) (rw (owned.top nav place at is) refl)
  hangs_above [] nav place (suc n) at is chain low =
      rw (owner_is nav place at, parent_is nav place at) (rw (is, owned.top nav place at is) refl)
  hangs_above (parent ∷ others) nav place zero at is chain low = absurd (omega (arith, low))
  hangs_above (parent ∷ others) nav place (suc n) at is chain low =
      rw (owner_is nav place at, parent_is nav place at) (rw (is, so.owners) (ap (λ (b : Bool). (so.owner.0 == state.0) || b) (hangs_above others parent so.up n so.there above_is chain.1 (omega (arith, low)))))
    where
      so : IsOwnedAs s.places place parent
      so = owned.child nav place parent others at is

      above_is : so.up.above ≡ others
      above_is =
          let both : Some so.up ≡ Some chain.0.place = sym so.there ∙ chain.0.found in
          let one : so.up ≡ chain.0.place = cc in
          ap (λ (p : Place). p.above) one ∙ chain.0.above_is

  pub hangs_same : (nav : NavId) (place : Place) → IsSound s.history → Hangs s → place_of s nav ≡ Some place → length place.above ≤ length t.tree.navs → hangs_in t.tree state nav ≡ hangs_on state place
  hangs_same nav place sound hangs at low = hangs_above place.above nav place (length t.tree.navs) at refl (place_chain s sound hangs nav place at) low

-- ---- below a kept document

module _ (run : Option ReqId) (loads : List ReqId) (hand : List Made) (s : Seen) (tab : IsTab run loads hand s) (owned : OwnersFollow s.places) (gone : DocId) (d : Document) (found : document_of s gone ≡ Some d) (kept : Has s.kept gone) where
  its_kept : IsKeptDoc s.documents s.places gone
  its_kept = tab.kept.each gone kept

  -- no navigable is awake on it
  pub not_awake : (nav : NavId) (place : Place) (doc : DocId) (e : Document) → place_of s nav ≡ Some place → place.status ≡ awake doc → document_of s doc ≡ Some e → e.state ≡ d.state → ⊥
  not_awake nav place doc e placed wakes there state =
      let homed = tab.homes.homed nav place doc placed wakes in
      let docs : Some homed.home.document ≡ Some e = sym homed.home.found ∙ there in
      let same : homed.home.document ≡ e = cc in
      let keeps : Some its_kept.d ≡ Some d = sym its_kept.found ∙ found in
      let kept_is : its_kept.d ≡ d = cc in
      let undiscarded : d.is_discarded ≡ false = ap (λ (x : Document). x.is_discarded) (sym kept_is) ∙ its_kept.undiscarded in
      let one : e.nr ≡ d.nr = tab.docs.sole doc gone e d there found state (ap (λ (x : Document). x.is_discarded) (sym same) ∙ homed.home.undiscarded) undiscarded in
      let number : doc.0 ≡ gone.0 = sym (seen_number (λ (x : Document). x.nr.0) doc.0 s.documents e there) ∙ ap (λ (n : DocId). n.0) one ∙ seen_number (λ (x : Document). x.nr.0) gone.0 s.documents d found in
      let doc_is : doc ≡ gone = ap (λ (n : ℕ). let x : DocId = record { 0 = n } in x) number in
      let both : Some e ≡ Some d = sym there ∙ ap (λ (x : DocId). document_of s x) doc_is ∙ found in
      let e_is : e ≡ d = cc in
      let navs : its_kept.d.nav ≡ nav = ap (λ (x : Document). x.nav) (kept_is ∙ sym e_is ∙ sym same) ∙ homed.home.nav_is ∙ found_nav s.places nav place placed in
      let places : Some its_kept.place ≡ Some place = sym its_kept.placed ∙ ap (λ (n : NavId). place_of s n) navs ∙ placed in
      let here : its_kept.place ≡ place = cc in
      let last : is_last gone place ≡ true = ap (λ (o : Option DocId). holds (λ (x : DocId). x.0 == gone.0) o) homed.last ∙ ap (λ (n : ℕ). n == gone.0) number ∙ nat_eq_refl gone.0 in
      let never : true ≡ false = sym last ∙ ap (λ (p : Place). is_last gone p) (sym here) ∙ its_kept.left in
      cc

  -- so none hangs below it whose parent is awake on the document state on which it hangs, nor does one above
  pub none_hangs : (above : List NavId) (nav : NavId) (place : Place) → place_of s nav ≡ Some place → place.above ≡ above → IsChain s.places above → ((parent : NavId) (others : List NavId) → place.above ≡ parent ∷ others → IsOnAwake s place parent) → hangs_on d.state place ≡ false
  none_hangs [] nav place at is chain on = rw (owned.top nav place at is) refl
  none_hangs (parent ∷ others) nav place at is chain on =
      by_owned (owned.child nav place parent others at is) (on parent others is) (λ q qat qis qon. none_hangs others parent q qat qis chain.1 qon)
    where
      by_owned : IsOwnedAs s.places place parent → IsOnAwake s place parent → ((q : Place) → place_of s parent ≡ Some q → q.above ≡ others → ((p : NavId) (os : List NavId) → q.above ≡ p ∷ os → IsOnAwake s q p) → hangs_on d.state q ≡ false) → hangs_on d.state place ≡ false
      by_owned so up more = ap (λ (l : List StateId). list_any (λ (o : StateId). o.0 == d.state.0) l) so.owners ∙ by_owner (so.owner.0 == d.state.0) refl
        where
          same : so.up ≡ up.above
          same = let both : Some so.up ≡ Some up.above = sym so.there ∙ up.there in cc

          above_is : so.up.above ≡ others
          above_is =
              let both : Some so.up ≡ Some chain.0.place = sym so.there ∙ chain.0.found in
              let one : so.up ≡ chain.0.place = cc in
              ap (λ (p : Place). p.above) one ∙ chain.0.above_is

          owner_is : so.owner ≡ up.document.state
          owner_is =
              let both : Some so.owner ≡ Some up.document.state = ap (λ (l : List StateId). slice_get l 0) (sym so.owners) ∙ up.owner in
              cc

          rest : hangs_on d.state so.up ≡ false
          rest =
              more so.up so.there above_is (λ p os e. subst (λ (q : Place). IsOnAwake s q p) (sym same) (tab.homes.hung parent up.above up.doc up.there up.wakes p os (ap (λ (q : Place). q.above) (sym same) ∙ e)))

          by_owner : (b : Bool) → (so.owner.0 == d.state.0) ≡ b → (b || hangs_on d.state so.up) ≡ false
          by_owner false apart = rest
          by_owner true is_ =
              absurd (not_awake parent up.above up.doc up.document up.there up.wakes up.found (sym owner_is ∙ state_is so.owner d.state is_))

  -- nobody is awake on a document below it
  pub none_awake : (nav : NavId) (place : Place) (doc : DocId) → place_of s nav ≡ Some place → place.status ≡ awake doc → hangs_on d.state place ≡ false
  none_awake nav place doc at wakes =
      none_hangs place.above nav place at refl (place_chain s tab.sound tab.hangs nav place at) (λ parent others is. tab.homes.hung nav place doc at wakes parent others is)
