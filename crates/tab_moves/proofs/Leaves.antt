-- A navigable may leave the document that it is awake on: who falls asleep is moved, and the document is to be frozen, as are those below it.
use Rattle.seen_facts.specs.Doc.Docs.{IsDoc}
use Rattle.tab_facts.specs.FrameTab.Alive.{HasPlace}
use Rattle.seen_facts.proofs.Hang.Forms.{nav_is}
use Rattle.seen_facts.proofs.Hang.Hung.{not_above_itself, places_distinct}
use Rattle.seen_facts.specs.Hang.AsPlaces.{AreDistinct}
use Rattle.seen_facts.specs.Home.Homes.{IsAtHome}
use Rattle.tab_passes.proofs.PassedOn.{slept_placed}
use Rattle.log_model.proofs.Refl.{nat_eq_refl}
use Rattle.log_model.specs.AfterPlaces.{sleepers_with}
use Rattle.log_model.specs.History.{has_nav}
use Rattle.log_model.specs.Places.{is_below, way_of}
use Rattle.log_model.specs.Seen.{Document, Place, Seen, awake, document_of, place_of}
use Rattle.log_model.specs.declared.job.Why.{Why}
use Rattle.log_model.specs.declared.row_kind.RowKind.{RowKind}
use Rattle.seen_facts.proofs.Mover.Orders.{MovesEach}
use Rattle.seen_facts.proofs.Mover.Stays.{StaysAt}
use Rattle.seen_facts.specs.Mover.Movers.{IsMovedBy}
use Rattle.row_facts.proofs.RestRows.Again.{doc_same}
use Rattle.seen_laws.specs.InEvent.{now_of}
use Rattle.std.proofs.Common.{Bool, List, Some, [], ap, false, inl, inr, refl, subst, sym, true, ◌==◌, ◌||◌, ◌∙◌, ◌≡◌, ◌⊎◌}
use Rattle.tab_doors.specs.Orders.{IsThere, order_to, proc_at}
use Rattle.tab_doors.specs.Working.{MaySend}
use Rattle.tab_doors.specs.declared.tables.Tables.{Tables}
use Rattle.tab_ids.specs.declared.DocId.{DocId}
use Rattle.tab_ids.specs.declared.NavId.{NavId}
use Rattle.tab_moves.specs.Moving.{AreLeftUnder, InMoving, IsToLeave}
use Rattle.tab_passes.proofs.Freezable.{freeze_ahead}
use Rattle.tab_passes.proofs.Goings.{for_passed, is_passed_for, none_to_begin}
use Rattle.tab_passes.proofs.Others.{cause_off}
use Rattle.tab_passes.specs.Leaving.{IsLeaving, IsToFreeze}
pub use Rattle.tab_passes.specs.Leaving.{MayLeave}
use Rattle.seen_facts.proofs.Walk.Placed.{found_nav}
use Rattle.row_facts.proofs.WalkRows.Sinces.{ShowsThen, was_shower}
use Rattle.row_facts.proofs.WalkRows.Sleeping.{IsUnder, SleepUnder, shower_is, sleepers_under}
use Rattle.row_facts.proofs.WalkRows.Walks.{below_moved}
use Rattle.row_facts.specs.WalkRows.Since.{WasAwake}
use Rattle.log_model.specs.declared.job.Task.TheVariants as tasks

-- the way of one that was awake as the event began has those above it
above_has : (place : Place) (nav : NavId) → has_nav place.above nav ≡ true → has_nav (way_of place) nav ≡ true
above_has place nav has = by_test (place.nav.0 == nav.0)
  where
    by_test : (b : Bool) → (b || has_nav place.above nav) ≡ true
    by_test true = refl
    by_test false = has

module _ (m : InMoving) (nav : NavId) (doc : DocId) (why : Why) (out : List RowKind) (t : Tables) (leaving : IsLeaving m.pass (Some m.move) [] out t) (to : IsToLeave m t.running (now_of m.pass.event out) nav doc why) where
  abbrev pub s : Seen
  s = now_of m.pass.event out

  pub distinct : AreDistinct s.places
  distinct = places_distinct s leaving.going.tab.sound leaving.going.tab.hangs

  -- ---- any document that a navigable is awake on

  -- the one that is awake on it
  pub shows : (other : NavId) (place : Place) (x : DocId) → place_of s other ≡ Some place → place.status ≡ awake x → ShowsThen s other x
  shows other place x placed wakes = was_shower s other x distinct leaving.going.tab.homes.homed (record { place = place; placed = placed; wakes = wakes })

  pub home_of : (other : NavId) (place : Place) (x : DocId) → place_of s other ≡ Some place → place.status ≡ awake x → IsAtHome s.documents other x
  home_of other place x placed wakes =
      subst (λ (n : NavId). IsAtHome s.documents n x) (found_nav s.places other place placed) (leaving.going.tab.homes.homed other place x placed wakes).home

  -- it is to be frozen, where it is the navigable's or that of one below
  pub to_freeze : (other : NavId) (place : Place) (x : DocId) → ((other.0 == nav.0) ≡ true) ⊎ (is_below nav place ≡ true) → place_of s other ≡ Some place → place.status ≡ awake x → IsToFreeze m.pass.event s nav x
  to_freeze other place x under placed wakes =
      record {
        document = home.document;
        found = home.found;
        ready = home.ready;
        alive = rw (home.undiscarded, home.unknown) refl;
        unfrozen = leaving.going.tab.docs.thawed other place x home.document placed wakes home.found;
        unhandled = its.live.slot;
        place = then_.place;
        was_awake = then_.showed;
        below = by_under under;
      }
    where
      home : IsAtHome s.documents other x
      home = home_of other place x placed wakes

      its : IsDoc s home.document
      its = leaving.going.tab.docs.each x home.document home.found

      was : WasAwake m.pass.event.start other x
      was = to.movable.awake_since other place x under placed wakes

      then_ : ShowsThen m.pass.event.start other x
      then_ = was_shower m.pass.event.start other x to.movable.since.distinct to.movable.since.homed was

      -- it hung as it does
      stays : StaysAt s.places other was.place
      stays = to.movable.since.ways other was.place was.placed

      above_is : was.place.above ≡ place.above
      above_is =
          let both : Some stays.new ≡ Some place = sym stays.found ∙ placed in
          let same : stays.new ≡ place = cc in
          sym stays.above ∙ ap (λ (p : Place). p.above) same

      -- what was found as the one that is awake on it is that place
      then_was : then_.place ≡ was.place
      then_was =
          let it = shower_is m.pass.event.start x then_.place to.movable.since.distinct then_.showed in
          let both : Some then_.place ≡ Some was.place = sym it.placed ∙ ap (place_of m.pass.event.start) then_.nav_is ∙ was.placed in
          cc

      by_under : ((other.0 == nav.0) ≡ true) ⊎ (is_below nav place ≡ true) → has_nav (way_of then_.place) nav ≡ true
      by_under (inl same) =
          let own : then_.place.nav ≡ nav = then_.nav_is ∙ nav_is other nav same in
          rw own (rw (nat_eq_refl nav.0) refl)
      by_under (inr below) =
          above_has then_.place nav (ap (λ (p : Place). has_nav p.above nav) then_was ∙ ap (λ (l : List NavId). has_nav l nav) above_is ∙ below)

  -- ---- the document that is left

  pub its_home : IsAtHome s.documents nav doc
  its_home = home_of nav to.place doc to.placed to.wakes

  pub showed : ShowsThen s nav doc
  showed = shows nav to.place doc to.placed to.wakes

  pub under : SleepUnder s doc nav
  under = sleepers_under s doc nav showed.place distinct showed.showed showed.nav_is

  own_moved : IsMovedBy s why nav
  own_moved = to.movable.moved to.place to.placed ((leaving.going.tab.standing nav to.place to.placed).shown doc to.wakes)

  moves : MovesEach s why (sleepers_with s doc)
  moves other has = by_case (under other has) (slept_placed s doc other has)
    where
      by_case : IsUnder s nav other → HasPlace s.places other → IsMovedBy s why other
      by_case (inl same) at = subst (λ (n : NavId). IsMovedBy s why n) (sym (nav_is other nav same)) own_moved
      by_case (inr below) at = below_moved s why nav leaving.going.tab.sound leaving.going.tab.hangs own_moved other at.place at.found (below at.place at.found)

  pub may_leave : MayLeave s doc why
  may_leave =
      record { document = its_home.document; found = its_home.found; ready = its_home.ready; moves = moves; begun = inr (none_to_begin s why to.may); may = to.may }

  pub is_there : IsThere s doc
  is_there =
      record {
        document = its_home.document;
        found = its_home.found;
        alive = rw (its_home.undiscarded, its_home.unknown) refl;
        known = (leaving.going.tab.asked.died its_home.document.proc).0;
      }

  pub may_send : AreLeftUnder m.pass.event out nav why → MaySend (Some m.move) m.pass.event out (order_to s doc why tasks.Freeze)
  may_send lefts =
      freeze_ahead m.pass.event out m.move t nav doc why leaving.work leaving.duly (lefts nav to.place doc (inl (nat_eq_refl nav.0)) to.placed to.wakes) (to_freeze nav to.place doc (inl (nat_eq_refl nav.0)) to.placed to.wakes) (leaving.going.tab.asked.died (proc_at s doc)).0
      (is_passed_for s t.running leaving.going.tab.asked tasks.Freeze why to.may)
      (for_passed s t.running leaving.going.tab.asked (order_to s doc why tasks.Freeze) m.cause to.for_run)
      (cause_off m.pass.event out t leaving.work leaving.going.tab.asked.each why to.may) to.new

  -- ---- one below it

  -- its navigable is another one
  pub differs : (place : Place) → place_of s place.nav ≡ Some place → is_below nav place ≡ true → (place.nav.0 == nav.0) ≡ false
  differs place placed below = by_test (place.nav.0 == nav.0) refl
    where
      by_test : (b : Bool) → (place.nav.0 == nav.0) ≡ b → (place.nav.0 == nav.0) ≡ false
      by_test false is = is
      by_test true is =
          let own : place.nav ≡ nav = nav_is place.nav nav is in
          let never : false ≡ true = sym (not_above_itself s leaving.going.tab.sound leaving.going.tab.hangs place.nav place placed) ∙ ap (λ (n : NavId). has_nav place.above n) own ∙ below in
          absurd cc

  -- a document of another navigable is another one
  pub docs_apart : (x y : DocId) (d e : Document) → document_of s x ≡ Some d → document_of s y ≡ Some e → (d.nav.0 == e.nav.0) ≡ false → (x.0 == y.0) ≡ false
  docs_apart x y d e at there apart = by_test (x.0 == y.0) refl
    where
      by_test : (b : Bool) → (x.0 == y.0) ≡ b → (x.0 == y.0) ≡ false
      by_test false is = is
      by_test true is =
          let same : x ≡ y = doc_same x y is in
          let both : Some d ≡ Some e = sym at ∙ ap (document_of s) same ∙ there in
          let one : d ≡ e = cc in
          let never : true ≡ false = sym (nat_eq_refl d.nav.0) ∙ ap (λ (z : Document). d.nav.0 == z.nav.0) one ∙ apart in
          absurd cc
