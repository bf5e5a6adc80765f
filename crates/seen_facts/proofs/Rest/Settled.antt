-- Quiet is settled: where nothing is in transit, each request has its outcome, and each shown navigable runs one document at its target, with the length and index of the current step; and no other document runs.
use Rattle.std.proofs.Common.{◌≡◌, inl, ℕ, suc, Bool, true, false, not, ◌&&◌, ◌||◌, ◌==◌, List, [], ◌∷◌, Option, Some, None, refl, sym, ap, ◌∙◌, subst}
use Rattle.std.specs.Prelude.{find, slice_get}
use Rattle.std.specs.List.{list_all}
use Rattle.std.proofs.lemmas.Bool.{and_parts, eqb-true}
use Rattle.tab_ids.specs.declared.DocId.{DocId}
use Rattle.tab_ids.specs.declared.NavId.{NavId}
use Rattle.tab_ids.specs.declared.ReqId.{ReqId}
use Rattle.log_model.specs.Equal.{holds, implies}
use Rattle.log_model.specs.Formed.{running_documents}
use Rattle.log_model.specs.Logs.{is_still, is_quiet}
use Rattle.log_model.specs.Places.{is_load, is_under_way, is_shown, is_lost, is_awake_on, is_given_target, pair_at}
use Rattle.log_model.specs.Seen.{Seen, Document, Asked, Place, Status, awake, lost, asleep, document_of, desk_of, place_of, request_in}
use Rattle.log_model.specs.Settled.{is_below_lost, is_at_target, is_place_settled, is_document_settled, is_settled, is_settled_if_quiet}
use Rattle.log_model.specs.Views.{View}
use Rattle.log_model.proofs.Refl.{nat_eq_refl, same_entry_refl}
use Rattle.seen_laws.proofs.Sendings.{both}
use Rattle.seen_facts.proofs.Coord.Flowings.{settles}
use Rattle.seen_facts.proofs.Coord.Settlings.{ShowsRow, runs_its_target}
use Rattle.seen_facts.proofs.Coord.Singles.{filter_one}
use Rattle.seen_facts.proofs.Hang.Hung.{places_distinct}
use Rattle.seen_facts.proofs.Hang.Members.{find_has, has_found, slice_has}
use Rattle.seen_facts.proofs.Hang.Targets.{IsTarget, target_has}
use Rattle.seen_facts.specs.Hang.Members.{Has}
use Rattle.seen_facts.specs.Home.Homes.{IsHomed}
use Rattle.seen_facts.specs.Request.Whereabouts.{is_of_load}
use Rattle.seen_facts.proofs.Walk.Placed.{found_nav, each_found}
use Rattle.seen_facts.specs.Rest.Between.{IsComposed, IsPlainWithLoads, IsComposedWithLoads}
use Rattle.seen_facts.specs.Rest.Resting.{will_run, is_resting, runs_in, is_swept, IsUnshown}
use Rattle.seen_facts.proofs.Rest.Still.{idle_desks, none_making, found_itself}
use Rattle.seen_facts.proofs.Rest.Stands.{get_of, none_passed, stand_now}
use Rattle.seen_facts.proofs.Rest.Seated.{IsSeated, has_entries, unlost, sits, awake_shown, told_now}
use Rattle.seen_facts.proofs.Rest.Ended.{all_ended}

all_of : {A : Type 0} (test : A → Bool) (xs : List A) → ((i : ℕ) (x : A) → slice_get xs i ≡ Some x → test x ≡ true) → list_all test xs ≡ true
all_of test [] each = refl
all_of test (x ∷ xs) each = rw (each 0 x refl) (all_of test xs (λ i y there. each (suc i) y there))

implied : (a : Bool) {b : Bool} → (a ≡ true → b ≡ true) → implies a b ≡ true
implied true then_ = then_ refl
implied false then_ = refl

either : (a : Bool) {b : Bool} → b ≡ true → (a || b) ≡ true
either true e = refl
either false e = e

-- the number of a document that is found by one
number_of : (documents : List Document) (doc : DocId) (d : Document) → find (λ (x : Document). x.nr.0 == doc.0) documents ≡ Some d → d.nr ≡ doc
number_of documents doc d found =
    let same : d.nr.0 ≡ doc.0 = eqb-true d.nr.0 doc.0 (find_has (λ (x : Document). x.nr.0 == doc.0) documents d found).1 in
    rw same refl

awake_on : (doc : DocId) (place : Place) → is_awake_on doc place ≡ true → place.status ≡ awake doc
awake_on doc place e = by_status place.status refl
  where
    by_status : (st : Status) → place.status ≡ st → place.status ≡ awake doc
    by_status (awake d) is = (let same : d.0 ≡ doc.0 = eqb-true d.0 doc.0 (let h = e in rw is at h) in let one : d ≡ doc = rw same refl in is ∙ ap (λ (x : DocId). awake x) one)
    by_status lost is = (let no_ : false ≡ true = (let h = e in rw is at h) in cc)
    by_status asleep is = (let no_ : false ≡ true = (let h = e in rw is at h) in cc)

-- a document runs
abbrev runs : Document → Bool
runs d = holds (λ (view : View). view.running) d.view

-- one that rests and has no orders left doesn't
resting : (view : _) → is_resting (runs_in view) ≡ true → holds (λ (v : View). v.running) view ≡ false
resting None e = refl
resting (Some view) e = by_test view.running refl
  where
    by_test : (b : Bool) → view.running ≡ b → view.running ≡ false
    by_test false is = is
    by_test true is = (let no_ : false ≡ true = sym (ap not is) ∙ e in cc)

-- a navigable is awake on the document
record IsShownBy (s : Seen) (d : Document) : Type 0 where
  place : Place
  placed : place_of s d.nav ≡ Some place
  wakes : place.status ≡ awake d.nr

module _ (s : Seen) (is : IsComposedWithLoads s) (still : is_still s ≡ true) where
  -- ---- what runs is shown

  swept : (doc : DocId) (d : Document) → document_of s doc ≡ Some d → is_swept s d ≡ true
  swept doc d found = by_discarded d.is_discarded refl
    where
      by_ready : (b : Bool) → d.is_ready ≡ b → d.is_discarded ≡ false → is_swept s d ≡ true
      by_ready true ready there = either d.is_discarded (has_entries s is still doc d found ready there)
      by_ready false unready there = absurd (none_making s is still doc d found (rw unready (rw (is.plain.unknown doc d found) refl)))

      by_discarded : (b : Bool) → d.is_discarded ≡ b → is_swept s d ≡ true
      by_discarded true e = rw e refl
      by_discarded false e = by_ready d.is_ready refl e

  stopped : (doc : DocId) (d : Document) → document_of s doc ≡ Some d → IsUnshown s doc → runs d ≡ false
  stopped doc d found unshown =
      let rests : is_resting (will_run (desk_of s d.proc) d) ≡ true = is.rests doc d found unshown (swept doc d found) in
      let idle = idle_desks s is still d.proc in
      let now_ : will_run (desk_of s d.proc) d ≡ runs_in d.view = rw (idle.hand, idle.mail) refl in
      resting d.view (sym (ap is_resting now_) ∙ rests)

  shown_by : (d : Document) → Has s.documents d → runs d ≡ true → IsShownBy s d
  shown_by d there running = by_found (find (is_awake_on d.nr) s.places) refl
    where
      found : document_of s d.nr ≡ Some d
      found = found_itself s.documents d is.kept.numbered there

      by_found : (o : Option Place) → find (is_awake_on d.nr) s.places ≡ o → IsShownBy s d
      by_found None none =
          let no_ : true ≡ false = sym running ∙ stopped d.nr d found unshown in cc
        where
          unshown : IsUnshown s d.nr
          unshown nav place at wakes =
              let has = (find_has (λ (p : Place). p.nav.0 == nav.0) s.places place at).0 in
              let passes : is_awake_on d.nr place ≡ true = rw wakes (nat_eq_refl d.nr.0) in
              let other = has_found (is_awake_on d.nr) s.places place has passes in
              let no_ : None ≡ Some other.0 = sym none ∙ other.1 in cc
      by_found (Some place) some =
          let has = find_has (is_awake_on d.nr) s.places place some in
          let wakes : place.status ≡ awake d.nr = awake_on d.nr place has.1 in
          let own : place_of s place.nav ≡ Some place = itself has.0 in
          let h : IsHomed s.documents place d.nr = is.homes.homed place.nav place d.nr own wakes in
          let ones : Some h.home.document ≡ Some d = sym h.home.found ∙ found in
          let one : h.home.document ≡ d = cc in
          let navs : d.nav ≡ place.nav = sym (ap (λ (x : Document). x.nav) one) ∙ h.home.nav_is in
          record { place = place; placed = ap (λ n. place_of s n) navs ∙ own; wakes = wakes }
        where
          itself : Has s.places place → place_of s place.nav ≡ Some place
          itself has = (let at = get_of s.places place has in each_found s.places (places_distinct s is.sound is.hangs) at.0 place at.1)

  -- ---- the document of a shown navigable runs, and it alone

  module _ (nav : NavId) (place : Place) (placed : place_of s nav ≡ Some place) (seat : IsSeated s.history.rows s.history.current place) where
    home : IsHomed s.documents place seat.doc
    home = is.homes.homed nav place seat.doc placed seat.wakes

    abbrev d : Document
    d = home.home.document

    shows_it : (view : View) × ShowsRow d seat.row view (pair_at s s.history.current)
    shows_it =
        let t : IsTarget s.history.rows place.nav s.history.current seat.row = target_has s.history.rows place.nav s.history.current seat.row seat.target in
        let at = get_of s.history.rows seat.row t.there in
        settles s is.flows (is.plain.unparked (none_passed s is still)) (idle_desks s is still) nav place seat.doc d placed seat.wakes home.home.found at.0 seat.row (pair_at s s.history.current) at.1 seat.given (told_now s is still nav place seat.doc d placed seat.wakes home.home.found)

    only : (i : ℕ) (x : Document) → slice_get s.documents i ≡ Some x → (x.nav.0 == place.nav.0 && runs x) ≡ true → x.nr.0 ≡ seat.doc.0
    only i x there passes =
        let parts = and_parts (x.nav.0 == place.nav.0) (runs x) passes in
        let by = shown_by x (slice_has s.documents i x there) parts.1 in
        let number : x.nav.0 ≡ place.nav.0 = eqb-true x.nav.0 place.nav.0 parts.0 in
        let navs : x.nav ≡ nav = (let same : x.nav ≡ place.nav = rw number refl in same ∙ found_nav s.places nav place placed) in
        let places : Some by.place ≡ Some place = sym by.placed ∙ ap (λ n. place_of s n) navs ∙ placed in
        let one : by.place ≡ place = cc in
        let both_ : awake x.nr ≡ awake seat.doc = sym by.wakes ∙ ap (λ (p : Place). p.status) one ∙ seat.wakes in
        let docs : x.nr ≡ seat.doc = cc in
        ap (λ (doc : DocId). doc.0) docs

    alone : running_documents s place.nav ≡ d ∷ []
    alone =
        filter_one (λ (x : Document). x.nr.0) seat.doc.0 (λ (x : Document). x.nav.0 == place.nav.0 && runs x) s.documents d is.kept.numbered home.home.found
        (both (subst (λ (n : NavId). (n.0 == place.nav.0) ≡ true) (sym home.home.nav_is) (nat_eq_refl place.nav.0)) (rw shows_it.1.has shows_it.1.runs))
        only

    same_state : d.state ≡ seat.row.state
    same_state =
        let t : IsTarget s.history.rows place.nav s.history.current seat.row = target_has s.history.rows place.nav s.history.current seat.row seat.target in
        sym (is.homes.state nav place seat.doc placed seat.wakes seat.row d t.there t.nav_is seat.given home.home.found)

    at_target : is_at_target s place ≡ true
    at_target =
        let given : is_given_target s.history.rows s.history.current place ≡ true = rw seat.target (rw seat.given (same_entry_refl seat.row.entry)) in
        both given (either (is_lost s place) (runs_its_target s place d seat.row shows_it.0 shows_it.1 seat.target same_state alone))

  -- ---- all is settled

  place_settled : (i : ℕ) (place : Place) → slice_get s.places i ≡ Some place → is_place_settled s place ≡ true
  place_settled i place there =
      implied (is_shown s.history.rows s.history.current place.nav && not (is_below_lost s place)) (λ wanted.
      at_target place.nav place own (sits s is still place.nav place own (and_parts (is_shown s.history.rows s.history.current place.nav) (not (is_below_lost s place)) wanted).0))
    where
      own : place_of s place.nav ≡ Some place
      own = each_found s.places (places_distinct s is.sound is.hangs) i place there

  document_settled : (i : ℕ) (x : Document) → slice_get s.documents i ≡ Some x → is_document_settled s x ≡ true
  document_settled i x there =
      implied (runs x) (λ running.
      let by = shown_by x (slice_has s.documents i x there) running in
      let shown : is_shown s.history.rows s.history.current by.place.nav ≡ true = awake_shown s is still x.nav by.place x.nr by.placed by.wakes in
      ap (λ (o : Option Place). holds (λ (p : Place). is_shown s.history.rows s.history.current p.nav && not (is_lost s p)) o) by.placed ∙ both shown (ap not (unlost s is still by.place)))

  pub still_settles : is_settled s ≡ true
  still_settles =
      both (both (both (all_ended s is still) (stand_now s is still)) (all_of (is_place_settled s) s.places place_settled)) (all_of (is_document_settled s) s.documents document_settled)

-- so it is where nothing is in transit and no prompt is up
pub loads_settle : (s : Seen) → IsComposedWithLoads s → is_settled_if_quiet s ≡ true
loads_settle s is = by_quiet (is_quiet s) refl
  where
    by_quiet : (b : Bool) → is_quiet s ≡ b → is_settled_if_quiet s ≡ true
    by_quiet true e = rw e (still_settles s is (and_parts (is_still s) _ e).0)
    by_quiet false e = rw e refl

-- ---- a tab without loads is one with loads

module _ (s : Seen) (is : IsComposed s) where
  no_load : (req : ReqId) (q : Asked) → request_in s.requests req ≡ Some q → is_load q.what ≡ true → ⊥
  no_load req q at load = (let no_ : false ≡ true = sym (is.plain.no_loads req) ∙ ap is_of_load at ∙ load in cc)

  plain_loads : IsPlainWithLoads s
  plain_loads =
      record {
        alive = is.plain.alive;
        unknown = is.plain.unknown;
        unlost = is.plain.unlost;
        swept = λ doc d found ready there. inl (is.plain.swept doc d found ready there);
        loading = λ req q at going. absurd (no_load req q at (and_parts (is_under_way q) (is_load q.what) going).1);
        trips = λ req q at load unended nowhere. absurd (no_load req q at load);
        steps = is.plain.steps;
        unparked = is.plain.unparked;
      }

pub composed_loads : (s : Seen) → IsComposed s → IsComposedWithLoads s
composed_loads s is =
    record {
      sound = is.sound;
      hangs = is.hangs;
      homes = is.homes;
      kept = is.kept;
      served = is.served;
      ways = is.ways;
      rests = is.rests;
      flows = is.flows;
      once = is.once;
      told = is.told;
      stepped = is.stepped;
      plain = plain_loads s is;
    }

pub quiet_settles : (s : Seen) → IsComposed s → is_settled_if_quiet s ≡ true
quiet_settles s is = loads_settle s (composed_loads s is)
