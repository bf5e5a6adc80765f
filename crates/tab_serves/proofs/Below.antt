-- No ongoing load is of a navigable below a kept document, nor below one that a navigable in need was shown last: where loads stand.
use Rattle.seen_facts.proofs.Hang.Forms.{nav_is}
use Rattle.seen_facts.proofs.Hang.Hung.{place_chain}
use Rattle.seen_facts.proofs.Hang.Members.{slice_has}
use Rattle.seen_facts.proofs.Hang.Parts.{state_is}
use Rattle.seen_facts.specs.Hang.AsPlaces.{IsChain}
use Rattle.seen_facts.specs.Hang.Members.{Has}
use Rattle.seen_facts.specs.Home.Homes.{IsHomed, IsOnAwake}
use Rattle.seen_facts.specs.Kept.Keeping.{IsMadeFor, state_in}
use Rattle.row_facts.specs.Left.Left.{IsOwnedAs, OwnersFollow}
use Rattle.seen_facts.specs.LoadEnds.Standing.{LoadsStand, is_reached}
use Rattle.seen_facts.specs.Load.Loading.{Look, is_ongoing, look, look_of}
use Rattle.log_model.proofs.Refl.{nat_eq_refl}
use Rattle.log_model.specs.Equal.{holds}
use Rattle.log_model.specs.History.{has_nav}
use Rattle.log_model.specs.Once.{loads}
use Rattle.log_model.specs.Places.{aim_of, hangs_on, has_arrived, is_given_target, is_ongoing_load, is_shown, is_standing, stands}
use Rattle.log_model.specs.Points.{nav_of_request}
use Rattle.log_model.specs.Seen.{Asked, Document, Place, Seen, Status, asleep, awake, document_of, lost, place_of, request_in}
use Rattle.log_model.specs.declared.made.Made.{Made}
use Rattle.log_model.specs.declared.request.Request.{Request}
use Rattle.seen_facts.specs.Place.Standing.{IsStanding}
use Rattle.seen_facts.proofs.Rest.Seated.{all_has}
use Rattle.seen_laws.proofs.Keyed.{find_has as seen_number}
use Rattle.std.proofs.Common.{Bool, List, None, Option, Some, [], ap, cond, false, not, refl, subst, sym, true, ℕ, ◌&&◌, ◌-◌, ◌==◌, ◌||◌, ◌∙◌, ◌∷◌, ◌≡◌}
use Rattle.std.proofs.lemmas.Bool.{and_parts}
use Rattle.std.specs.List.{list_any}
use Rattle.std.specs.Prelude.{option_map, slice_get}
use Rattle.tab_walk.proofs.PassedOn.{has_filter_map, none_awake}
use Rattle.tab_walk.specs.Cutting.{NoLoadBelow}
use Rattle.tab_ids.specs.declared.DocId.{DocId}
use Rattle.tab_ids.specs.declared.NavId.{NavId}
use Rattle.tab_ids.specs.declared.ReqId.{ReqId}
use Rattle.tab_ids.specs.declared.StateId.{StateId}
use Rattle.tab_serves.proofs.Reached.{IsReachedAt, need_off, reached_at}
use Rattle.tab_walk.specs.Moving.{NoLoadBelowKept}
use Rattle.tab_walk.specs.PassedOn.{IsTab}
use Rattle.seen_facts.proofs.Walk.Placed.{found_nav}
use Rattle.row_facts.specs.WalkRows.Since.{IsVisitedInNeed}
use Rattle.log_model.specs.declared.request.Request.TheVariants as requests

-- ---- the navigable of an ongoing load

pub load_reached : (s : Seen) → LoadsStand s → (req : ReqId) (l : Look) (nav : NavId) → look_of s req ≡ Some l → is_ongoing l ≡ true → loads nav l.what ≡ true → is_reached s nav ≡ true
load_reached s stand req l nav at ongoing its = by_found (request_in s.requests req) refl
  where
    there : (b : Bool) (q : Asked) → cond b None (slice_get s.requests (req.0 - 1)) ≡ Some q → Has s.requests q
    there true q e = absurd cc
    there false q e = slice_has s.requests (req.0 - 1) q e

    by_what : (what : Request) → loads nav what ≡ true → holds (is_reached s) (nav_of_request what) ≡ true → is_reached s nav ≡ true
    by_what (requests.Load n mode address) own so = subst (λ (m : NavId). is_reached s m ≡ true) (nav_is n nav own) so
    by_what _ own so = absurd cc

    by_test : (b : Bool) (o : Bool) → b ≡ true → (not b || o) ≡ true → o ≡ true
    by_test true o is so = so
    by_test false o is so = absurd cc

    by_found : (o : Option Asked) → request_in s.requests req ≡ o → is_reached s nav ≡ true
    by_found None none = let never : None ≡ Some l = sym (ap (option_map look) none) ∙ at in absurd cc
    by_found (Some q) found =
        let both : Some (look q) ≡ Some l = sym (ap (option_map look) found) ∙ at in
        let same : look q ≡ l = cc in
        let test : (not (is_ongoing_load q) || holds (is_reached s) (nav_of_request q.what)) ≡ true = all_has (λ (x : Asked). not (is_ongoing_load x) || holds (is_reached s) (nav_of_request x.what)) s.requests stand q (there (req.0 == 0) q found) in
        let on : is_ongoing_load q ≡ true = ap is_ongoing same ∙ ongoing in
        by_what q.what (ap (λ (x : Look). loads nav x.what) same ∙ its) (by_test (is_ongoing_load q) (holds (is_reached s) (nav_of_request q.what)) on test)

-- one of those above, among these, is awake on a document of the state
pub record HangsWhere (s : Seen) (above : List NavId) (state : StateId) : Type 0 where
  pub nav : NavId
  pub has : has_nav above nav ≡ true
  pub place : Place
  pub placed : place_of s nav ≡ Some place
  pub doc : DocId
  pub wakes : place.status ≡ awake doc
  pub document : Document
  pub found : document_of s doc ≡ Some document
  pub its : document.state ≡ state

module _ (run : Option ReqId) (reqs : List ReqId) (hand : List Made) (s : Seen) (tab : IsTab run reqs hand s) (owned : OwnersFollow s.places) where
  -- a reached navigable is awake
  pub reached_awake : (nav : NavId) (its : IsReachedAt s nav) → (doc : DocId) × (its.place.status ≡ awake doc)
  reached_awake nav its = by_status its.place.status refl
    where
      standing : IsStanding s its.place
      standing = tab.standing nav its.place its.placed

      own : has_nav (nav ∷ its.place.above) nav ≡ true
      own = ap (λ (b : Bool). b || has_nav its.place.above nav) (nat_eq_refl nav.0)

      stand : is_standing s.history.rows (aim_of s) its.place ≡ true
      stand =
          sym (ap (holds (is_standing s.history.rows (aim_of s))) its.placed) ∙ (and_parts (is_shown s.history.rows (aim_of s) nav) (stands s (aim_of s) nav) (its.each nav own)).1

      arrived : has_arrived its.place ≡ true
      arrived = (and_parts (is_given_target s.history.rows (aim_of s) its.place && not its.place.is_unmet) (has_arrived its.place) stand).1

      by_status : (status : Status) → its.place.status ≡ status → (doc : DocId) × (its.place.status ≡ awake doc)
      by_status (awake doc) is = (doc, is)
      by_status asleep is =
          let none : has_arrived its.place ≡ false = rw is refl in
          let never : false ≡ true = sym none ∙ arrived in absurd cc
      by_status lost is = absurd (standing.unlost is)

  -- where an awake navigable hangs on a document state, one above it is awake on the document of that
  pub hangs_where : (above : List NavId) (nav : NavId) (place : Place) (doc : DocId) (state : StateId) → place_of s nav ≡ Some place → place.status ≡ awake doc → place.above ≡ above → IsChain s.places above → hangs_on state place ≡ true → HangsWhere s above state
  hangs_where [] nav place doc state at wakes is chain hangs =
      let none : hangs_on state place ≡ false = ap (λ (l : List StateId). list_any (λ (owner : StateId). owner.0 == state.0) l) (owned.top nav place at is) in
      let never : false ≡ true = sym none ∙ hangs in absurd cc
  hangs_where (parent ∷ others) nav place doc state at wakes is chain hangs =
      by_owner (so.owner.0 == state.0) refl (sym (ap (λ (l : List StateId). list_any (λ (owner : StateId). owner.0 == state.0) l) so.owners) ∙ hangs) (λ more. hangs_where others parent up.above up.doc state up.there up.wakes (ap (λ (q : Place). q.above) (sym same) ∙ above_is) chain.1 more)
    where
      so : IsOwnedAs s.places place parent
      so = owned.child nav place parent others at is

      up : IsOnAwake s place parent
      up = tab.homes.hung nav place doc at wakes parent others is

      same : so.up ≡ up.above
      same = let both : Some so.up ≡ Some up.above = sym so.there ∙ up.there in cc

      above_is : so.up.above ≡ others
      above_is =
          let both : Some so.up ≡ Some chain.0.place = sym so.there ∙ chain.0.found in
          let one : so.up ≡ chain.0.place = cc in
          ap (λ (p : Place). p.above) one ∙ chain.0.above_is

      owner_is : so.owner ≡ up.document.state
      owner_is = let both : Some so.owner ≡ Some up.document.state = ap (λ (l : List StateId). slice_get l 0) (sym so.owners) ∙ up.owner in cc

      later : (other : NavId) → has_nav others other ≡ true → has_nav (parent ∷ others) other ≡ true
      later other has = by_test (parent.0 == other.0)
        where
          by_test : (b : Bool) → (b || has_nav others other) ≡ true
          by_test true = refl
          by_test false = has

      by_owner : (b : Bool) → (so.owner.0 == state.0) ≡ b → (b || hangs_on state so.up) ≡ true → (hangs_on state up.above ≡ true → HangsWhere s others state) → HangsWhere s (parent ∷ others) state
      by_owner true own h more =
          record {
            nav = parent;
            has = ap (λ (b : Bool). b || has_nav others parent) (nat_eq_refl parent.0);
            place = up.above;
            placed = up.there;
            doc = up.doc;
            wakes = up.wakes;
            document = up.document;
            found = up.found;
            its = sym owner_is ∙ state_is so.owner state own;
          }
      by_owner false apart h more =
          let rest = more (ap (λ (p : Place). hangs_on state p) (sym same) ∙ h) in
          record {
            nav = rest.nav;
            has = later rest.nav rest.has;
            place = rest.place;
            placed = rest.placed;
            doc = rest.doc;
            wakes = rest.wakes;
            document = rest.document;
            found = rest.found;
            its = rest.its;
          }

  module _ (stand : LoadsStand s) where
    -- ---- kept documents

    kept_document : (doc : DocId) (gone : StateId) → state_in s.documents doc ≡ Some gone → (d : Document) × (document_of s doc ≡ Some d) × (d.state ≡ gone)
    kept_document doc gone is = by_found (document_of s doc) refl is
      where
        by_found : (o : Option Document) → document_of s doc ≡ o → option_map (λ (d : Document). d.state) o ≡ Some gone → (d : Document) × (document_of s doc ≡ Some d) × (d.state ≡ gone)
        by_found None at e = absurd cc
        by_found (Some d) at e = (d, at, let same : d.state ≡ gone = cc in same)

    pub kept_loads : NoLoadBelowKept s
    kept_loads gone has req l nav place at ongoing own placed =
        let kept = has_filter_map (state_in s.documents) s.kept gone has in
        let its = kept_document kept.it gone kept.is in
        let reached = reached_at s nav (load_reached s stand req l nav at ongoing own) in
        let wakes = reached_awake nav reached in
        subst (λ (x : StateId). hangs_on x place ≡ false) its.2
        (none_awake run reqs hand s tab owned kept.it its.0 its.1 kept.there nav place wakes.0 placed (let both : Some place ≡ Some reached.place = sym placed ∙ reached.placed in let one : place ≡ reached.place = cc in ap (λ (p : Place). p.status) one ∙ wakes.1))

    -- ---- the one that is left

    module _ (x : NavId) (here : Place) (at_x : place_of s x ≡ Some here) (visited : IsVisitedInNeed s here) where
      pub left_loads : (left : DocId) (d : Document) → here.last ≡ Some left → document_of s left ≡ Some d → d.is_discarded ≡ false → NoLoadBelow s d.state
      left_loads left d last found undiscarded req l nav place at ongoing own placed =
          by_test (hangs_on d.state place) refl
        where
          reached : IsReachedAt s nav
          reached = reached_at s nav (load_reached s stand req l nav at ongoing own)

          wakes : (doc : DocId) × (reached.place.status ≡ awake doc)
          wakes = reached_awake nav reached

          same : reached.place ≡ place
          same = let both : Some reached.place ≡ Some place = sym reached.placed ∙ placed in cc

          -- the one above that is awake on a document of the state is awake on that very document, which is of the navigable in need
          own_document : (w : HangsWhere s reached.place.above d.state) → w.nav ≡ x
          own_document w =
              let homed : IsHomed s.documents w.place w.doc = tab.homes.homed w.nav w.place w.doc w.placed w.wakes in
              let docs : Some homed.home.document ≡ Some w.document = sym homed.home.found ∙ w.found in
              let home_is : homed.home.document ≡ w.document = cc in
              let one : w.document.nr ≡ d.nr = tab.docs.sole w.doc left w.document d w.found found w.its (ap (λ (y : Document). y.is_discarded) (sym home_is) ∙ homed.home.undiscarded) undiscarded in
              let number : w.doc.0 ≡ left.0 = sym (seen_number (λ (y : Document). y.nr.0) w.doc.0 s.documents w.document w.found) ∙ ap (λ (n : DocId). n.0) one ∙ seen_number (λ (y : Document). y.nr.0) left.0 s.documents d found in
              let doc_is : w.doc ≡ left = ap (λ (n : ℕ). let y : DocId = record { 0 = n } in y) number in
              let both : Some w.document ≡ Some d = sym w.found ∙ ap (λ (y : DocId). document_of s y) doc_is ∙ found in
              let document_is : w.document ≡ d = cc in
              let made : IsMadeFor s.documents x left = tab.kept.lasts x here left at_x last in
              let twice : Some made.d ≡ Some d = sym made.found ∙ found in
              let made_is : made.d ≡ d = cc in
              let navs : w.nav.0 ≡ x.0 = ap (λ (n : NavId). n.0) (sym (found_nav s.places w.nav w.place w.placed) ∙ sym homed.home.nav_is ∙ ap (λ (y : Document). y.nav) (home_is ∙ document_is ∙ sym made_is)) ∙ made.nav_is in
              ap (λ (n : ℕ). let y : NavId = record { 0 = n } in y) navs

          by_test : (b : Bool) → hangs_on d.state place ≡ b → hangs_on d.state place ≡ false
          by_test false is = is
          by_test true is =
              let w = hangs_where reached.place.above nav reached.place wakes.0 d.state reached.placed wakes.1 refl (place_chain s tab.sound tab.hangs nav reached.place reached.placed) (ap (λ (p : Place). hangs_on d.state p) same ∙ is) in
              let on : has_nav reached.place.above x ≡ true = ap (λ (n : NavId). has_nav reached.place.above n) (sym (own_document w)) ∙ w.has in
              let off : has_nav (nav ∷ reached.place.above) x ≡ false = need_off s x here at_x visited nav reached in
              let never : true ≡ false = sym (more (nav.0 == x.0) on) ∙ off in absurd cc
            where
              more : (b : Bool) → has_nav reached.place.above x ≡ true → (b || has_nav reached.place.above x) ≡ true
              more true on = refl
              more false on = on
