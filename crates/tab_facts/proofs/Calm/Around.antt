-- Once the navigable of a load that was just applied is served, the tab is calm.
use Rattle.tab_facts.proofs.Calm.Calms.{IsGivenRow, awake_on, given_row}
use Rattle.tab_facts.proofs.Calm.Sames.{IsUsableAt, way_at}
use Rattle.tab_facts.proofs.Calm.Turns.{none_below, row_owner}
use Rattle.tab_facts.specs.Calm.Calm.{HasUsable, IsCalm, IsCalmAround, IsHere}
use Rattle.seen_facts.proofs.Coord.Singles.{AreApart}
use Rattle.seen_facts.specs.Doc.Docs.{AreDocs}
use Rattle.tab_facts.specs.FrameWhole.Tab.{AreAwakeWithRows}
use Rattle.seen_facts.proofs.Hang.Forms.{IsPlaceOf, nav_is, place_there}
use Rattle.seen_facts.proofs.Hang.Hung.{not_above_itself, place_chain}
use Rattle.seen_facts.proofs.Hang.Members.{Passing, any_has}
use Rattle.seen_facts.proofs.Hang.Targets.{IsTarget, target_has}
use Rattle.seen_facts.specs.Hang.AsPlaces.{IsChain}
use Rattle.seen_facts.specs.Hang.Forms.{form_in, forms_of}
use Rattle.seen_facts.specs.Hang.Hanging.{Hangs, IsPlaced}
use Rattle.seen_facts.specs.Hang.Members.{Has}
use Rattle.seen_facts.specs.Home.Homes.{AreHomed, IsOnAwake}
use Rattle.log_model.proofs.Refl.{nat_eq_refl}
use Rattle.log_model.specs.Equal.{holds}
use Rattle.log_model.specs.History.{has_nav, is_of, target_entry}
use Rattle.log_model.specs.Orders.{is_usable}
use Rattle.log_model.specs.Places.{aim_of, is_asleep, is_awake, is_below, is_given_target, is_shown, way_to}
use Rattle.log_model.specs.Seen.{Document, Place, Seen, Status, asleep, awake, document_of, lost, place_of}
use Rattle.log_model.specs.Soundness.{IsSound}
use Rattle.log_model.specs.declared.row.Row.{Row}
use Rattle.seen_facts.specs.Place.Standing.{AreStanding}
use Rattle.seen_facts.specs.Rest.Between.{AreKept}
use Rattle.tab_facts.proofs.ShownWays.Keeps.{shown_on_way, way_more, way_there}
use Rattle.std.proofs.Common.{Bool, List, None, Option, Some, [], ap, arith, cond, false, inl, inr, not, refl, subst, suc, sym, true, zero, ℕ, ◌&&◌, ◌==◌, ◌||◌, ◌∙◌, ◌∷◌, ◌≡◌, ◌≤◌, ◌⊎◌}
use Rattle.std.proofs.lemmas.Bool.{and_parts, eqb-true, or_parts}
use Rattle.std.specs.List.{list_any}
use Rattle.std.specs.Prelude.{find, is_some}
use Rattle.tab_ids.specs.declared.DocId.{DocId}
use Rattle.tab_ids.specs.declared.NavId.{NavId}
use Rattle.tab_ids.specs.declared.StateId.{StateId}
use Rattle.seen_facts.proofs.Walk.Placed.{found_nav}
use Rattle.seen_facts.specs.Walk.Serving.{AreServed, IsMaking, is_in_place, is_needing, is_stopping}

-- ---- documents by their numbers

not_found : (l : List Document) (n : ℕ) (x : Document) → find (λ (d : Document). d.nr.0 == n) l ≡ None → Has l x → (x.nr.0 == n) ≡ false
not_found [] n x none has = absurd has
not_found (y ∷ l) n x none has =
    by_test (y.nr.0 == n) refl none has (not_found l n x)
  where
    by_test : (b : Bool) → (y.nr.0 == n) ≡ b → (let o : Option Document = cond b (Some y) (find (λ (d : Document). d.nr.0 == n) l) in o) ≡ None → (y ≡ x) ⊎ Has l x → (find (λ (d : Document). d.nr.0 == n) l ≡ None → Has l x → (x.nr.0 == n) ≡ false) → (x.nr.0 == n) ≡ false
    by_test true e never is more = absurd cc
    by_test false e none_ (inl is) more = ap (λ (d : Document). d.nr.0 == n) (sym is) ∙ e
    by_test false e none_ (inr later) more = more none_ later

found_by : (l : List Document) (x : Document) → AreApart (λ (d : Document). d.nr.0) l → Has l x → find (λ (d : Document). d.nr.0 == x.nr.0) l ≡ Some x
found_by [] x apart has = absurd has
found_by (y ∷ l) x apart (inl is) =
    subst (λ (z : Document). find (λ (d : Document). d.nr.0 == z.nr.0) (y ∷ l) ≡ Some z) is (rw (nat_eq_refl y.nr.0) refl)
found_by (y ∷ l) x apart (inr later) = by_test (y.nr.0 == x.nr.0) refl (found_by l x apart.1 later)
  where
    by_test : (c : Bool) → (y.nr.0 == x.nr.0) ≡ c → find (λ (d : Document). d.nr.0 == x.nr.0) l ≡ Some x → (let o : Option Document = cond c (Some y) (find (λ (d : Document). d.nr.0 == x.nr.0) l) in o) ≡ Some x
    by_test false e more = more
    by_test true e more =
        let number : y.nr.0 ≡ x.nr.0 = eqb-true y.nr.0 x.nr.0 e in
        let no_ : true ≡ false = sym (nat_eq_refl y.nr.0) ∙ ap (λ (n : ℕ). n == y.nr.0) number ∙ not_found l y.nr.0 x apart.0 later in
        absurd cc

-- a usable one is found by its number
pub usable_found : (s : Seen) → AreKept s → (state : StateId) → HasUsable s state → (doc : DocId) × IsUsableAt s doc state
usable_found s kept state some =
    let a : Passing (λ (d : Document). is_usable d state) s.documents = any_has (λ (d : Document). is_usable d state) s.documents some in
    (a.it.nr, record { d = a.it; found = found_by s.documents a.it kept.numbered a.there; usable = a.passes })

-- where a usable document is there, none of its state is being made
pub usable_unmade : (s : Seen) → AreDocs s → AreKept s → (doc : DocId) (d : Document) (state : StateId) → document_of s doc ≡ Some d → is_usable d state ≡ true → IsMaking s.documents state → ⊥
usable_unmade s docs kept doc d state found usable making =
    let never : true ≡ false = sym ready ∙ ap (λ (x : Document). x.is_ready) (sym one) ∙ unready in absurd cc
  where
    its : ((d.state.0 == state.0 && d.is_ready && not d.is_discarded) ≡ true) × (not d.is_known_dead ≡ true)
    its = and_parts (d.state.0 == state.0 && d.is_ready && not d.is_discarded) (not d.is_known_dead) usable

    more : ((d.state.0 == state.0 && d.is_ready) ≡ true) × (not d.is_discarded ≡ true)
    more = and_parts (d.state.0 == state.0 && d.is_ready) (not d.is_discarded) its.0

    last : ((d.state.0 == state.0) ≡ true) × (d.is_ready ≡ true)
    last = and_parts (d.state.0 == state.0) d.is_ready more.0

    ready : d.is_ready ≡ true
    ready = last.1

    negated : (b : Bool) → not b ≡ true → b ≡ false
    negated false is = refl
    negated true is = absurd cc

    there : document_of s making.document.nr ≡ Some making.document
    there = found_by s.documents making.document kept.numbered making.there

    unready : making.document.is_ready ≡ false
    unready =
        negated making.document.is_ready (and_parts (not making.document.is_ready) (not making.document.is_known_dead) making.made).0

    undiscarded : making.document.is_discarded ≡ false
    undiscarded = by_test making.document.is_discarded refl
      where
        by_test : (b : Bool) → making.document.is_discarded ≡ b → making.document.is_discarded ≡ false
        by_test false is = is
        by_test true is =
            let never : true ≡ false = sym ((docs.each making.document.nr making.document there).live.made is) ∙ unready in absurd cc

    states : d.state ≡ making.document.state
    states =
        ap (λ (n : ℕ). let x : StateId = record { 0 = n } in x) (eqb-true d.state.0 state.0 last.0) ∙ sym making.state_is

    number : d.nr ≡ making.document.nr
    number =
        docs.sole doc making.document.nr d making.document found there states (negated d.is_discarded more.1) undiscarded

    own : d.nr.0 ≡ doc.0
    own = by_found s.documents found
      where
        by_found : (l : List Document) → find (λ (x : Document). x.nr.0 == doc.0) l ≡ Some d → d.nr.0 ≡ doc.0
        by_found [] at = absurd cc
        by_found (y ∷ l) at = by_test (y.nr.0 == doc.0) refl at (by_found l)
          where
            by_test : (b : Bool) → (y.nr.0 == doc.0) ≡ b → (let o : Option Document = cond b (Some y) (find (λ (x : Document). x.nr.0 == doc.0) l) in o) ≡ Some d → (find (λ (x : Document). x.nr.0 == doc.0) l ≡ Some d → d.nr.0 ≡ doc.0) → d.nr.0 ≡ doc.0
            by_test true e h rest =
                let same : y ≡ d = cc in ap (λ (x : Document). x.nr.0) (sym same) ∙ eqb-true y.nr.0 doc.0 e
            by_test false e h rest = rest h

    one : making.document ≡ d
    one =
        let same : making.document.nr.0 ≡ doc.0 = ap (λ (n : DocId). n.0) (sym number) ∙ own in
        let both : Some making.document ≡ Some d = sym there ∙ ap (λ (n : ℕ). find (λ (x : Document). x.nr.0 == n) s.documents) same ∙ found in
        cc

-- ---- tests of several

none_of : (f : NavId → Bool) (navs : List NavId) → ((nav : NavId) → has_nav navs nav ≡ true → f nav ≡ false) → list_any f navs ≡ false
none_of f [] each = refl
none_of f (nav ∷ navs) each =
    rw (each nav (ap (λ (b : Bool). b || has_nav navs nav) (nat_eq_refl nav.0))) (none_of f navs (λ x has. each x (later nav x has)))
  where
    later : (first x : NavId) → has_nav navs x ≡ true → has_nav (first ∷ navs) x ≡ true
    later first x has = by_test (first.0 == x.0)
      where
        by_test : (b : Bool) → (b || has_nav navs x) ≡ true
        by_test true = refl
        by_test false = has

module _ (s : Seen) (sound : IsSound s.history) (hangs : Hangs s) (homes : AreHomed s) (standing : AreStanding s) (docs : AreDocs s) (kept : AreKept s) (with_rows : AreAwakeWithRows s) (parents : (nav above : NavId) (place up : Place) → place_of s nav ≡ Some place → has_nav place.above above ≡ true → place_of s above ≡ Some up → is_some up.last ≡ true) (served : AreServed s) (aim : aim_of s ≡ s.history.current) (by : NavId) (calm : IsCalmAround s by) where
  abbrev step : ℕ
  step = s.history.current

  -- it has a place
  record IsHereBy : Type 0 where
    place : Place
    placed : place_of s by ≡ Some place

  own_place : IsHereBy
  own_place =
      let target : IsTarget s.history.rows by step calm.target = target_has s.history.rows by step calm.target calm.to in
      let p : IsPlaced (forms_of s.places) calm.target = hangs.rows.placed calm.target target.there in
      let its : IsPlaceOf s.places by p.form = place_there s.places by p.form (ap (λ (n : NavId). form_in (forms_of s.places) n) (sym target.nav_is) ∙ p.found) in
      record { place = its.place; placed = its.found }

  abbrev place : Place
  place = own_place.place

  -- ---- those above it

  -- each is neither it nor below it
  above_off : (x : NavId) (up : Place) → has_nav place.above x ≡ true → place_of s x ≡ Some up → has_nav (way_to s x) by ≡ true → ⊥
  above_off x up has there under =
      by_own (x.0 == by.0) refl (ap (λ (l : List NavId). has_nav l by) (sym (way_at s x up there)) ∙ under)
    where
      itself : has_nav place.above by ≡ true → ⊥
      itself above =
          let never : true ≡ false = sym above ∙ ap (λ (n : NavId). has_nav place.above n) (sym (found_nav s.places by place own_place.placed)) ∙ not_above_itself s sound hangs by place own_place.placed in
          cc

      by_own : (b : Bool) → (x.0 == by.0) ≡ b → (b || has_nav up.above by) ≡ true → ⊥
      by_own true same h =
          itself (ap (λ (n : NavId). has_nav place.above n) (sym (nav_is x by same)) ∙ has)
      by_own false apart h =
          itself (way_more s sound hangs by place own_place.placed x up (later has) there by h)
        where
          later : has_nav place.above x ≡ true → has_nav (by ∷ place.above) x ≡ true
          later above = by_test (by.0 == x.0)
            where
              by_test : (b : Bool) → (b || has_nav place.above x) ≡ true
              by_test true = refl
              by_test false = above

  above_shown : (x : NavId) → has_nav place.above x ≡ true → is_shown s.history.rows step x ≡ true
  above_shown x has =
      shown_on_way s sound hangs step by place own_place.placed calm.shown x (by_test (by.0 == x.0))
    where
      by_test : (b : Bool) → (b || has_nav place.above x) ≡ true
      by_test true = refl
      by_test false = has

  -- one that was shown a document has an epoch
  raised : (nav : NavId) (up : Place) → place_of s nav ≡ Some up → is_some up.last ≡ true → 1 ≤ up.epoch.0
  raised nav up there last = by_epoch up.epoch.0 refl
    where
      by_epoch : (k : ℕ) → up.epoch.0 ≡ k → 1 ≤ up.epoch.0
      by_epoch zero is =
          let none : up.last ≡ None = ((standing nav up there).told.0 is).last in
          let never : true ≡ false = sym last ∙ ap is_some none in absurd cc
      by_epoch (suc k) is = omega (arith, is)

  -- each is awake on its target
  above_here : (x : NavId) (up : Place) → has_nav place.above x ≡ true → place_of s x ≡ Some up → (is_awake up ≡ true) × IsHere s up
  above_here x up has there =
      by_wakes (calm.but.wakes x up there (ap (λ (n : NavId). is_shown s.history.rows step n) (found_nav s.places x up there) ∙ above_shown x has) (raised x up there (parents by x place up own_place.placed has there)))
    where
      by_here : (has_nav (way_to s x) by ≡ true) ⊎ IsHere s up → IsHere s up
      by_here (inl under) = absurd (above_off x up has there under)
      by_here (inr here) = here

      by_wakes : (has_nav (way_to s x) by ≡ true) ⊎ (is_awake up ≡ true) → (is_awake up ≡ true) × IsHere s up
      by_wakes (inl under) = absurd (above_off x up has there under)
      by_wakes (inr wakes) =
          let on = awake_on up wakes in (wakes, by_here (calm.but.here x up on.0 there on.1))

  reached : list_any (is_stopping s.history.rows step s.places) place.above ≡ false
  reached = none_of (is_stopping s.history.rows step s.places) place.above goes_on
    where
      goes_on : (x : NavId) → has_nav place.above x ≡ true → is_stopping s.history.rows step s.places x ≡ false
      goes_on x has =
          let up = way_there s sound hangs by place own_place.placed x has in
          let its = above_here x up.0 has up.1 in
          ap (λ (o : Option Place). not (holds (is_in_place s.history.rows step) o)) up.1
          ∙ ap (λ (b : Bool). not (b && is_given_target s.history.rows step up.0)) its.0
          ∙ ap not its.1.target

  -- ---- it

  its_nav : place.nav ≡ by
  its_nav = found_nav s.places by place own_place.placed

  own_shown : is_shown s.history.rows step place.nav ≡ true
  own_shown = ap (λ (n : NavId). is_shown s.history.rows step n) its_nav ∙ calm.shown

  needs_none : is_needing s.history.rows step place ≡ false
  needs_none = by_test (is_needing s.history.rows step place) refl
    where
      by_test : (b : Bool) → is_needing s.history.rows step place ≡ b → is_needing s.history.rows step place ≡ false
      by_test false is = is
      by_test true is =
          absurd (usable_unmade s docs kept calm.doc calm.document calm.target.state calm.found calm.usable ((served.each by).serve place own_place.placed (ap (λ (k : ℕ). is_shown s.history.rows k place.nav) aim ∙ own_shown) (ap (λ (k : ℕ). list_any (is_stopping s.history.rows k s.places) place.above) aim ∙ reached) (ap (λ (k : ℕ). is_needing s.history.rows k place) aim ∙ is) calm.target (ap (λ (n : NavId). target_entry s.history.rows n (aim_of s)) its_nav ∙ ap (λ (k : ℕ). target_entry s.history.rows by k) aim ∙ calm.to)))

  own_here : (is_awake place ≡ true) × (is_given_target s.history.rows step place ≡ true)
  own_here = (awake_ place.status refl, negated (is_given_target s.history.rows step place) parts.1)
    where
      first : ((is_asleep place || place.is_unmet) ≡ false) × (not (is_given_target s.history.rows step place) ≡ false)
      first =
          or_parts (is_asleep place || place.is_unmet) (not (is_given_target s.history.rows step place)) needs_none

      parts : (is_asleep place ≡ false) × (not (is_given_target s.history.rows step place) ≡ false)
      parts = ((or_parts (is_asleep place) place.is_unmet first.0).0, first.1)

      negated : (b : Bool) → not b ≡ false → b ≡ true
      negated true is = refl
      negated false is = absurd cc

      awake_ : (status : Status) → place.status ≡ status → is_awake place ≡ true
      awake_ (awake doc) is = rw is refl
      awake_ lost is = absurd ((standing by place own_place.placed).unlost is)
      awake_ asleep is =
          let sleeps : is_asleep place ≡ true = rw is refl in
          let never : true ≡ false = sym sleeps ∙ parts.0 in absurd cc

  -- ---- those below it

  -- one below isn't awake: the child on the way would hang on the state of the document that this one is awake on
  below_asleep : (nav : NavId) (p : Place) (doc : DocId) → place_of s nav ≡ Some p → p.status ≡ awake doc → is_below by p ≡ true → ⊥
  below_asleep nav p doc there wakes below =
      by_child (p.above) nav p doc there wakes refl (place_chain s sound hangs nav p there) below
    where
      never : (child : NavId) (q : Place) (on : DocId) (others : List NavId) → place_of s child ≡ Some q → q.status ≡ awake on → q.above ≡ by ∷ others → ⊥
      never child q on others at up is =
          calm.childless a.it a.there (row_owner s sound hangs child q a.it at a.there own ∙ hung.owner ∙ ap (λ (x : StateId). Some x) (sym states))
        where
          hung : IsOnAwake s q by
          hung = homes.hung child q on at up by others is

          a : Passing (is_of q.nav) s.history.rows
          a = any_has (is_of q.nav) s.history.rows (with_rows child q on at up)

          own : a.it.nav ≡ child
          own = nav_is a.it.nav q.nav a.passes ∙ found_nav s.places child q at

          one : hung.above ≡ place
          one = let both : Some hung.above ≡ Some place = sym hung.there ∙ own_place.placed in cc

          given : IsGivenRow s step place
          given = given_row s step place own_here.1

          target : IsTarget s.history.rows place.nav step given.row
          target = target_has s.history.rows place.nav step given.row given.at

          same : given.row ≡ calm.target
          same =
              let both : Some given.row ≡ Some calm.target = sym given.at ∙ ap (λ (n : NavId). target_entry s.history.rows n step) its_nav ∙ calm.to in cc

          states : calm.target.state ≡ hung.document.state
          states =
              ap (λ (r : Row). r.state) (sym same)
              ∙ homes.state by place hung.doc own_place.placed (ap (λ (x : Place). x.status) (sym one) ∙ hung.wakes) given.row hung.document target.there target.nav_is given.given hung.found

      by_child : (above : List NavId) (n : NavId) (q : Place) (on : DocId) → place_of s n ≡ Some q → q.status ≡ awake on → q.above ≡ above → IsChain s.places above → has_nav above by ≡ true → ⊥
      by_child [] n q on at up is chain has = absurd cc
      by_child (first ∷ rest) n q on at up is chain has =
          by_first (first.0 == by.0) refl has (by_child rest first hung.above hung.doc hung.there hung.wakes rest_is chain.1)
        where
          hung : IsOnAwake s q first
          hung = homes.hung n q on at up first rest is

          rest_is : hung.above.above ≡ rest
          rest_is =
              let both : Some hung.above ≡ Some chain.0.place = sym hung.there ∙ chain.0.found in
              let one : hung.above ≡ chain.0.place = cc in
              ap (λ (x : Place). x.above) one ∙ chain.0.above_is

          by_first : (b : Bool) → (first.0 == by.0) ≡ b → (b || has_nav rest by) ≡ true → (has_nav rest by ≡ true → ⊥) → ⊥
          by_first true same h more =
              never n q on rest at up (is ∙ ap (λ (m : NavId). m ∷ rest) (nav_is first by same))
          by_first false apart h more = more h

  -- ---- all of it

  its : (nav : NavId) (p : Place) → place_of s nav ≡ Some p → (nav.0 == by.0) ≡ true → p ≡ place
  its nav p there same =
      let both : Some p ≡ Some place = sym there ∙ ap (λ (n : NavId). place_of s n) (nav_is nav by same) ∙ own_place.placed in cc

  here_of : (nav : NavId) (p : Place) (doc : DocId) → place_of s nav ≡ Some p → p.status ≡ awake doc → (has_nav (way_to s nav) by ≡ true) ⊎ IsHere s p → IsHere s p
  here_of nav p doc there wakes (inr here) = here
  here_of nav p doc there wakes (inl under) =
      by_own (nav.0 == by.0) refl (ap (λ (l : List NavId). has_nav l by) (sym (way_at s nav p there)) ∙ under)
    where
      by_own : (b : Bool) → (nav.0 == by.0) ≡ b → (b || has_nav p.above by) ≡ true → IsHere s p
      by_own true same h =
          subst (λ (x : Place). IsHere s x) (sym (its nav p there same)) (record { shown = own_shown; target = own_here.1 })
      by_own false apart h = absurd (below_asleep nav p doc there wakes h)

  wakes_of : (nav : NavId) (p : Place) → place_of s nav ≡ Some p → is_shown s.history.rows step p.nav ≡ true → (has_nav (way_to s nav) by ≡ true) ⊎ (is_awake p ≡ true) → is_awake p ≡ true
  wakes_of nav p there shown (inr up) = up
  wakes_of nav p there shown (inl under) =
      by_own (nav.0 == by.0) refl (ap (λ (l : List NavId). has_nav l by) (sym (way_at s nav p there)) ∙ under)
    where
      by_own : (b : Bool) → (nav.0 == by.0) ≡ b → (b || has_nav p.above by) ≡ true → is_awake p ≡ true
      by_own true same h = ap (λ (x : Place). is_awake x) (its nav p there same) ∙ own_here.0
      by_own false apart h =
          absurd (none_below s sound hangs by calm.target calm.to calm.childless nav p there h (ap (λ (n : NavId). is_shown s.history.rows step n) (sym (found_nav s.places nav p there)) ∙ shown))

  pub around_calm : IsCalm s
  around_calm =
      record {
        here = λ nav p doc there wakes. inr (here_of nav p doc there wakes (calm.but.here nav p doc there wakes));
        wakes = λ nav p there shown epoch. inr (wakes_of nav p there shown (calm.but.wakes nav p there shown epoch));
      }
