-- A navigable that is awake below one whose document's state has no entry is awake on a document of a state without one.
use Rattle.seen_facts.proofs.Hang.Forms.{nav_is}
use Rattle.seen_facts.proofs.Hang.Hung.{own_form}
use Rattle.seen_facts.proofs.Hang.Members.{Passing, any_has, has_any}
use Rattle.seen_facts.proofs.Hang.Parts.{state_is}
use Rattle.seen_facts.specs.Hang.AsPlaces.{IsChain}
use Rattle.seen_facts.specs.Hang.Forms.{Form, form_in, form_of, forms_of}
use Rattle.seen_facts.specs.Hang.Hanging.{IsPlaced}
use Rattle.seen_facts.specs.Home.Homes.{IsAtHome, IsOnAwake}
use Rattle.log_model.proofs.Refl.{nat_eq_refl}
use Rattle.log_model.specs.History.{has_nav, has_state, is_of}
use Rattle.log_model.specs.Seen.{Document, Place, Seen, awake, document_of, place_of}
use Rattle.log_model.specs.Soundness.{hangs_on, is_owned_by}
use Rattle.log_model.specs.declared.made.Made.{Made}
use Rattle.log_model.specs.declared.row.Row.{Row}
use Rattle.std.proofs.Common.{Bool, List, Option, Some, [], ap, false, refl, sym, true, ◌&&◌, ◌==◌, ◌||◌, ◌∙◌, ◌∷◌, ◌≡◌}
use Rattle.std.specs.Option.{option_map_or}
use Rattle.std.specs.Prelude.{slice_get}
use Rattle.tab_ids.specs.declared.DocId.{DocId}
use Rattle.tab_ids.specs.declared.NavId.{NavId}
use Rattle.tab_ids.specs.declared.ReqId.{ReqId}
use Rattle.tab_ids.specs.declared.StateId.{StateId}
use Rattle.tab_passes.specs.PassedOn.{IsTab}

both : (a b : Bool) → a ≡ true → b ≡ true → (a && b) ≡ true
both true b e f = f
both false b e f = absurd cc

module _ (run : Option ReqId) (loads : List ReqId) (hand : List Made) (s : Seen) (tab : IsTab run loads hand s) where
  -- the state of a document has no entry where the one on which its navigable hangs has none
  bare_child : (nav : NavId) (place : Place) (doc : DocId) (d : Document) (owner : StateId) → place_of s nav ≡ Some place → document_of s doc ≡ Some d → d.nav ≡ place.nav → slice_get place.owners 0 ≡ Some owner → has_state owner s.history.rows ≡ false → has_state d.state s.history.rows ≡ false
  bare_child nav place doc d owner placed found own first bare = by_test (has_state d.state s.history.rows) refl
    where
      by_row : Passing (λ (row : Row). row.state.0 == d.state.0) s.history.rows → ⊥
      by_row a =
          let row_nav : a.it.nav ≡ place.nav = tab.whose.whose doc d a.it found a.there (state_is a.it.state d.state a.passes) ∙ own in
          let p : IsPlaced (forms_of s.places) a.it = tab.hangs.rows.placed a.it a.there in
          let forms : Some p.form ≡ Some (form_of place) = sym p.found ∙ ap (λ (n : NavId). form_in (forms_of s.places) n) row_nav ∙ own_form s tab.sound tab.hangs nav place placed in
          let one : p.form ≡ form_of place = cc in
          let owner_is : a.it.owner ≡ Some owner = p.owner ∙ ap (λ (f : Form). slice_get f.owners 0) one ∙ first in
          let owned : is_owned_by owner a.it ≡ true = ap (λ (o : Option StateId). option_map_or (λ (x : StateId). x.0 == owner.0) o false) owner_is ∙ nat_eq_refl owner.0 in
          let hangs : hangs_on a.it.nav owner s.history.rows ≡ true = has_any (λ (row : Row). is_of a.it.nav row && is_owned_by owner row) s.history.rows a.it a.there (both (is_of a.it.nav a.it) (is_owned_by owner a.it) (nat_eq_refl a.it.nav.0) owned) in
          let there : has_state owner s.history.rows ≡ true = tab.sound.anchored a.it.nav owner hangs in
          let no_ : true ≡ false = sym there ∙ bare in
          cc

      by_test : (b : Bool) → has_state d.state s.history.rows ≡ b → has_state d.state s.history.rows ≡ false
      by_test false e = e
      by_test true e = absurd (by_row (any_has (λ (row : Row). row.state.0 == d.state.0) s.history.rows e))

  -- a document that a navigable is awake on is its own
  pub own_document : (nav : NavId) (place : Place) (doc : DocId) (d : Document) → place_of s nav ≡ Some place → place.status ≡ awake doc → document_of s doc ≡ Some d → d.nav ≡ place.nav
  own_document nav place doc d placed wakes found =
      let home : IsAtHome s.documents place.nav doc = (tab.homes.homed nav place doc placed wakes).home in
      let two : Some home.document ≡ Some d = sym home.found ∙ found in
      let one : home.document ≡ d = cc in
      ap (λ (x : Document). x.nav) (sym one) ∙ home.nav_is

  module _ (top : NavId) (top_place : Place) (doc : DocId) (d : Document) (top_placed : place_of s top ≡ Some top_place) (top_wakes : top_place.status ≡ awake doc) (found : document_of s doc ≡ Some d) (bare : has_state d.state s.history.rows ≡ false) where
    pub bare_below : (above : List NavId) (nav : NavId) (place : Place) (x : DocId) (e : Document) → place_of s nav ≡ Some place → place.status ≡ awake x → document_of s x ≡ Some e → place.above ≡ above → IsChain s.places above → has_nav above top ≡ true → has_state e.state s.history.rows ≡ false
    bare_below [] nav place x e placed wakes x_found is chain has = absurd cc
    bare_below (parent ∷ others) nav place x e placed wakes x_found is chain has =
        bare_child nav place x e up.document.state placed x_found (own_document nav place x e placed wakes x_found) up.owner
        (by_first (parent.0 == top.0) refl has (λ rest. bare_below others parent up.above up.doc up.document up.there up.wakes up.found above_is chain.1 rest))
      where
        up : IsOnAwake s place parent
        up = tab.homes.hung nav place x placed wakes parent others is

        above_is : up.above.above ≡ others
        above_is =
            let two : Some up.above ≡ Some chain.0.place = sym up.there ∙ chain.0.found in
            let one : up.above ≡ chain.0.place = cc in
            ap (λ (p : Place). p.above) one ∙ chain.0.above_is

        by_first : (b : Bool) → (parent.0 == top.0) ≡ b → (b || has_nav others top) ≡ true → (has_nav others top ≡ true → has_state up.document.state s.history.rows ≡ false) → has_state up.document.state s.history.rows ≡ false
        by_first false apart h more = more h
        by_first true same h more =
            let named : parent ≡ top = nav_is parent top same in
            let two : Some up.above ≡ Some top_place = sym up.there ∙ ap (λ (n : NavId). place_of s n) named ∙ top_placed in
            let here : up.above ≡ top_place = cc in
            let docs : awake up.doc ≡ awake doc = sym up.wakes ∙ ap (λ (p : Place). p.status) here ∙ top_wakes in
            let doc_is : up.doc ≡ doc = cc in
            let twice : Some up.document ≡ Some d = sym up.found ∙ ap (λ (n : DocId). document_of s n) doc_is ∙ found in
            let one : up.document ≡ d = cc in
            ap (λ (y : Document). has_state y.state s.history.rows) one ∙ bare
