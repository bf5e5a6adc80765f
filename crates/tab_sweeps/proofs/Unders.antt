-- Who falls asleep with a stray document: the documents that they are awake on are stray, too.
use Rattle.seen_facts.proofs.Hang.Forms.{nav_is}
use Rattle.seen_facts.proofs.Hang.Hung.{place_chain, places_distinct}
use Rattle.seen_facts.proofs.Hang.Members.{has_filter}
use Rattle.seen_facts.specs.Hang.AsPlaces.{AreDistinct}
use Rattle.seen_facts.specs.Hang.Members.{Has}
use Rattle.seen_facts.specs.Home.Homes.{IsAtHome}
use Rattle.log_model.proofs.Refl.{nat_eq_refl}
use Rattle.log_model.specs.AfterPlaces.{sleepers_with, woken_below}
use Rattle.log_model.specs.Equal.{has_doc, holds}
use Rattle.log_model.specs.History.{has_nav, has_state}
use Rattle.log_model.specs.Places.{awake_document, is_asleep, is_below, shower_of}
use Rattle.log_model.specs.Seen.{Document, Place, Seen, Status, asleep, awake, lost, place_of, document_of}
use Rattle.log_model.specs.declared.job.Why.{Why}
use Rattle.log_model.specs.declared.made.Made.{Made}
use Rattle.seen_facts.proofs.Mover.Orders.{MovesEach}
use Rattle.seen_facts.proofs.Rest.Stands.{get_of}
use Rattle.row_facts.specs.RestRows.Left.{left_below, shown_by}
use Rattle.std.proofs.Common.{Bool, List, None, Option, Some, [], ap, arith, false, inl, inr, not, refl, subst, sym, true, ◌&&◌, ◌==◌, ◌||◌, ◌∙◌, ◌∷◌, ◌≡◌, ◌⊎◌}
use Rattle.std.proofs.lemmas.Bool.Decides.{nat_tests}
use Rattle.std.proofs.lemmas.Bool.{and_parts}
use Rattle.std.specs.Option.{option_map_or}
use Rattle.tab_ids.specs.declared.DocId.{DocId}
use Rattle.tab_ids.specs.declared.NavId.{NavId}
use Rattle.tab_ids.specs.declared.ReqId.{ReqId}
use Rattle.tab_ids.specs.declared.StateId.{StateId}
use Rattle.tab_sweeps.proofs.Bares.{bare_below}
use Rattle.tab_sweeps.proofs.Lists.{has_of}
use Rattle.tab_sweeps.proofs.Loads.{awake_unloaded}
use Rattle.tab_sweeps.specs.Sweeping.{IsStray, MovesUnder, IsOnStray}
use Rattle.tab_sweeps.specs.Turns.{IsAnyStray}
use Rattle.tab_passes.specs.PassedOn.{IsTab}
use Rattle.seen_facts.proofs.Walk.Placed.{each_found}
use Rattle.seen_facts.proofs.Walk.Sleepers.{has_nav_where}
use Rattle.row_facts.proofs.WalkRows.Sleeping.{IsShower, shower_is}

-- ---- who falls asleep

-- a navigable is awake on the document, and this one is it, or below it
pub record IsSleeper (s : Seen) (doc : DocId) (other : NavId) : Type 0 where
  pub shower : Place
  pub placed : place_of s shower.nav ≡ Some shower
  pub wakes : shower.status ≡ awake doc
  pub under : Place
  pub at : place_of s other ≡ Some under
  pub is : ((other.0 == shower.nav.0) ≡ true) ⊎ (is_below shower.nav under ≡ true)

pub sleeper_is : (s : Seen) (doc : DocId) (other : NavId) → AreDistinct s.places → has_nav (sleepers_with s doc) other ≡ true → IsSleeper s doc other
sleeper_is s doc other distinct has = by_shower (shower_of s doc) refl has
  where
    by_under : (shower : Place) → IsShower s doc shower → (o : Option Place) → place_of s other ≡ o → holds (λ (p : Place). is_below shower.nav p && not (is_asleep p)) o ≡ true → IsSleeper s doc other
    by_under shower it None at h = absurd cc
    by_under shower it (Some under) at h =
        record { shower = shower; placed = it.placed; wakes = it.wakes; under = under; at = at; is = inr (and_parts (is_below shower.nav under) (not (is_asleep under)) h).0 }

    by_head : (shower : Place) → IsShower s doc shower → (b : Bool) → (shower.nav.0 == other.0) ≡ b → (b || has_nav (woken_below s shower.nav) other) ≡ true → IsSleeper s doc other
    by_head shower it true same h =
        record {
          shower = shower;
          placed = it.placed;
          wakes = it.wakes;
          under = shower;
          at = ap (λ (n : NavId). place_of s n) (sym (nav_is shower.nav other same)) ∙ it.placed;
          is = inl (grind (arith, nat_tests, same));
        }
    by_head shower it false apart h =
        by_under shower it (place_of s other) refl (sym (has_nav_where (λ (p : Place). is_below shower.nav p && not (is_asleep p)) s.places other distinct) ∙ h)

    by_shower : (o : Option Place) → shower_of s doc ≡ o → has_nav (option_map_or (λ (place : Place). place.nav ∷ woken_below s place.nav) o []) other ≡ true → IsSleeper s doc other
    by_shower None is h = absurd cc
    by_shower (Some shower) is h = by_head shower (shower_is s doc shower distinct is) (shower.nav.0 == other.0) refl h

-- each is moved by what moves them
pub moves_sleepers : (s : Seen) (doc : DocId) (why : Why) → AreDistinct s.places → MovesUnder s doc why → MovesEach s why (sleepers_with s doc)
moves_sleepers s doc why distinct moves other has =
    let it = sleeper_is s doc other distinct has in moves it.shower.nav it.shower other it.under it.placed it.wakes it.at it.is

-- ---- the documents that they are awake on

-- one of these navigables is awake on the document
record IsShownBy (navs : List NavId) (places : List Place) (doc : DocId) : Type 0 where
  place : Place
  there : Has places place
  among : has_nav navs place.nav ≡ true
  wakes : place.status ≡ awake doc

awake_of : (place : Place) (doc : DocId) → awake_document place ≡ Some doc → place.status ≡ awake doc
awake_of place doc is = by_status place.status refl is
  where
    by_status : (status : Status) → place.status ≡ status → awake_document (record place { status = status }) ≡ Some doc → place.status ≡ awake doc
    by_status (awake d) at e = at ∙ (let same : d ≡ doc = cc in ap (λ (x : DocId). awake x) same)
    by_status lost at e = absurd cc
    by_status asleep at e = absurd cc

has_shown : (navs : List NavId) (places : List Place) (doc : DocId) → Has (shown_by navs places) doc → IsShownBy navs places doc
has_shown navs [] doc there = absurd there
has_shown navs (p ∷ places) doc there =
    by_nav (has_nav navs p.nav) refl (has_shown navs places doc)
  where
    later : IsShownBy navs places doc → IsShownBy navs (p ∷ places) doc
    later its = record { place = its.place; there = inr its.there; among = its.among; wakes = its.wakes }

    by_member : (d : DocId) → has_nav navs p.nav ≡ true → awake_document p ≡ Some d → (Has (shown_by navs places) doc → IsShownBy navs places doc) → (d ≡ doc) ⊎ Has (shown_by navs places) doc → IsShownBy navs (p ∷ places) doc
    by_member d e f more (inl same) = record { place = p; there = inl refl; among = e; wakes = awake_of p doc (f ∙ ap (λ (x : DocId). Some x) same) }
    by_member d e f more (inr rest) = later (more rest)

    by_document : (o : Option DocId) → has_nav navs p.nav ≡ true → awake_document p ≡ o → (Has (shown_by navs places) doc → IsShownBy navs places doc) → IsShownBy navs (p ∷ places) doc
    by_document None e f more =
        let same : shown_by navs (p ∷ places) ≡ shown_by navs places = rw e (rw f refl) in
        later (more (subst (λ (l : List DocId). Has l doc) same there))
    by_document (Some d) e f more =
        let same : shown_by navs (p ∷ places) ≡ d ∷ shown_by navs places = rw e (rw f refl) in
        by_member d e f more (subst (λ (l : List DocId). Has l doc) same there)

    by_nav : (b : Bool) → has_nav navs p.nav ≡ b → (Has (shown_by navs places) doc → IsShownBy navs places doc) → IsShownBy navs (p ∷ places) doc
    by_nav true e more = by_document (awake_document p) e refl more
    by_nav false e more =
        let same : shown_by navs (p ∷ places) ≡ shown_by navs places = rw e refl in
        later (more (subst (λ (l : List DocId). Has l doc) same there))

module _ (run : Option ReqId) (loads : List ReqId) (hand : List Made) (s : Seen) (tab : IsTab run loads hand s) (doc : DocId) (state : StateId) (stray : IsStray s doc state) where
  distinct : AreDistinct s.places
  distinct = places_distinct s tab.sound tab.hangs

  -- another document that one of them is awake on is stray
  shown_stray : (nav : NavId) (place : Place) (x : DocId) → place_of s nav ≡ Some place → place.status ≡ awake x → has_nav (sleepers_with s doc) nav ≡ true → (x.0 == doc.0) ≡ false → IsAnyStray s x
  shown_stray nav place x placed wakes has apart =
      record {
        state = home.document.state;
        stray = record {
          document = home.document;
          found = home.found;
          its_state = refl;
          ready = home.ready;
          undiscarded = home.undiscarded;
          bare = by_case it.is;
          unloaded = awake_unloaded s tab.loading tab.shown.ever nav place x home.document placed wakes home.found;
        };
      }
    where
      it : IsSleeper s doc nav
      it = sleeper_is s doc nav distinct has

      home : IsAtHome s.documents place.nav x
      home = (tab.homes.homed nav place x placed wakes).home

      here : it.under ≡ place
      here = let two : Some it.under ≡ Some place = sym it.at ∙ placed in cc

      by_case : ((nav.0 == it.shower.nav.0) ≡ true) ⊎ (is_below it.shower.nav it.under ≡ true) → has_state home.document.state s.history.rows ≡ false
      by_case (inl same) =
          let two : Some place ≡ Some it.shower = sym placed ∙ ap (λ (n : NavId). place_of s n) (nav_is nav it.shower.nav same) ∙ it.placed in
          let one : place ≡ it.shower = cc in
          let docs : awake x ≡ awake doc = sym wakes ∙ ap (λ (p : Place). p.status) one ∙ it.wakes in
          let doc_is : x ≡ doc = cc in
          let no_ : true ≡ false = sym (ap (λ (d : DocId). d.0 == doc.0) doc_is ∙ nat_eq_refl doc.0) ∙ apart in
          absurd cc
      by_case (inr below) =
          bare_below run loads hand s tab it.shower.nav it.shower doc stray.document it.placed it.wakes stray.found (ap (λ (x : StateId). has_state x s.history.rows) stray.its_state ∙ stray.bare) place.above nav place x home.document placed wakes home.found refl (place_chain s tab.sound tab.hangs nav place placed) (ap (λ (p : Place). is_below it.shower.nav p) (sym here) ∙ below)

  -- so each is that is left with it, which is another one
  pub left_stray : (x : DocId) → has_doc (left_below s doc) x ≡ true → IsAnyStray s x × ((x.0 == doc.0) ≡ false)
  left_stray x has =
      let in_ = has_filter (λ (d : DocId). not (d.0 == doc.0)) (shown_by (sleepers_with s doc) s.places) x (has_of (left_below s doc) x has) in
      let its = has_shown (sleepers_with s doc) s.places x in_.0 in
      let at = get_of s.places its.place its.there in
      let placed : place_of s its.place.nav ≡ Some its.place = each_found s.places distinct at.0 its.place at.1 in
      let apart : (x.0 == doc.0) ≡ false = untrue (x.0 == doc.0) in_.1 in
      (shown_stray its.place.nav its.place x placed its.wakes its.among apart, apart)
    where
      untrue : (b : Bool) → not b ≡ true → b ≡ false
      untrue true e = cc
      untrue false e = refl

-- a document on which a navigable is awake that is on a stray one, or below such a one, is stray
pub on_stray : (run : Option ReqId) (loads : List ReqId) (hand : List Made) (s : Seen) → IsTab run loads hand s → (nav : NavId) (place : Place) (x : DocId) → place_of s nav ≡ Some place → place.status ≡ awake x → IsOnStray s nav → IsAnyStray s x
on_stray run loads hand s tab nav place x placed wakes on =
    record {
      state = home.document.state;
      stray = record {
        document = home.document;
        found = home.found;
        its_state = refl;
        ready = home.ready;
        undiscarded = home.undiscarded;
        bare = by_under on.under;
        unloaded = awake_unloaded s tab.loading tab.shown.ever nav place x home.document placed wakes home.found;
      };
    }
  where
    home : IsAtHome s.documents place.nav x
    home = (tab.homes.homed nav place x placed wakes).home

    here : on.place ≡ place
    here = let two : Some on.place ≡ Some place = sym on.placed ∙ placed in cc

    over_bare : has_state on.stray.document.state s.history.rows ≡ false
    over_bare = ap (λ (y : StateId). has_state y s.history.rows) on.stray.its_state ∙ on.stray.bare

    by_under : ((nav.0 == on.over.0) ≡ true) ⊎ (is_below on.over on.place ≡ true) → has_state home.document.state s.history.rows ≡ false
    by_under (inl same) =
        let two : Some place ≡ Some on.own = sym placed ∙ ap (λ (n : NavId). place_of s n) (nav_is nav on.over same) ∙ on.there in
        let one : place ≡ on.own = cc in
        let docs : awake x ≡ awake on.doc = sym wakes ∙ ap (λ (p : Place). p.status) one ∙ on.wakes in
        let doc_is : x ≡ on.doc = cc in
        let both : Some home.document ≡ Some on.stray.document = sym home.found ∙ ap (λ (d : DocId). document_of s d) doc_is ∙ on.stray.found in
        let document_is : home.document ≡ on.stray.document = cc in
        ap (λ (d : Document). has_state d.state s.history.rows) document_is ∙ over_bare
    by_under (inr below) =
        bare_below run loads hand s tab on.over on.own on.doc on.stray.document on.there on.wakes on.stray.found over_bare place.above nav place x home.document placed wakes home.found refl (place_chain s tab.sound tab.hangs nav place placed) (ap (λ (p : Place). is_below on.over p) (sym here) ∙ below)
