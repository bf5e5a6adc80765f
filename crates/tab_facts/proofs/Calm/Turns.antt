-- A turn of a walk keeps the tab calm: who is in need was never shown a document, so none is below it, and only its place changes.
use Rattle.tab_facts.proofs.Calm.Calms.{need_new, shown_row}
use Rattle.tab_facts.proofs.Calm.Sames.{IsUsableAt, around_by, but_more, here_same, way_at, way_same, yet_same}
use Rattle.tab_facts.proofs.Calm.Sents.{AreSeated, KeepsSeats}
use Rattle.tab_facts.specs.Calm.Calm.{AreRooted, IsCalmAround, IsCalmBut, IsCalmYet, IsHere, KeepsCalm}
use Rattle.seen_facts.proofs.Hang.Forms.{nav_is}
use Rattle.seen_facts.proofs.Hang.Hung.{has_begun, own_form, place_chain}
use Rattle.seen_facts.proofs.Hang.Targets.{IsTarget, some_is, target_has}
use Rattle.seen_facts.specs.Hang.AsPlaces.{IsChain}
use Rattle.seen_facts.specs.Hang.Forms.{Form, form_in, form_of, forms_of}
use Rattle.seen_facts.specs.Hang.Hanging.{Hangs, IsPlaced}
use Rattle.seen_facts.specs.Hang.Members.{Has}
use Rattle.seen_facts.specs.Home.Homes.{AreHomed}
use Rattle.log_model.proofs.Refl.{nat_eq_refl}
use Rattle.log_model.specs.History.{History, has_nav, has_row, target_entry}
use Rattle.log_model.specs.Places.{aim_of, is_awake, is_below, is_given_target, is_shown, way_to}
use Rattle.log_model.specs.Orders.{is_usable}
use Rattle.log_model.specs.Seen.{Document, Place, Seen, awake, document_of, place_of}
use Rattle.log_model.specs.Soundness.{IsSound}
use Rattle.log_model.specs.declared.row.Row.{Row}
use Rattle.seen_facts.specs.Place.Standing.{AreStanding}
use Rattle.tab_facts.proofs.ShownWays.Keeps.{shown_on_way}
use Rattle.tab_facts.proofs.ShownWays.Ways.{on_target}
use Rattle.tab_facts.specs.ShownWays.Ways.{IsOnTarget}
use Rattle.std.proofs.Common.{Bool, List, None, Option, Some, [], ap, arith, false, inl, inr, refl, subst, sym, true, ℕ, ◌==◌, ◌||◌, ◌∙◌, ◌∷◌, ◌≡◌, ◌≤◌, ◌⊎◌}
use Rattle.std.specs.Prelude.{is_some, option_map, slice_get}
use Rattle.tab_ids.specs.declared.DocId.{DocId}
use Rattle.tab_ids.specs.declared.NavId.{NavId}
use Rattle.tab_ids.specs.declared.StateId.{StateId}
use Rattle.seen_facts.proofs.Walk.Placed.{found_nav}
use Rattle.seen_facts.specs.Walk.Walking.{LeavesOthers}
use Rattle.row_facts.specs.WalkRows.Since.{IsVisitedInNeed}

-- ---- the child on the way

-- one on the way to a navigable, or that one, is a child of this one
pub record IsChildOn (s : Seen) (at : NavId) (way : List NavId) : Type 0 where
  pub nav : NavId
  pub on : has_nav way nav ≡ true
  pub place : Place
  pub placed : place_of s nav ≡ Some place
  pub others : List NavId
  pub above : place.above ≡ at ∷ others

pub own_in : (nav : NavId) (navs : List NavId) → has_nav (nav ∷ navs) nav ≡ true
own_in nav navs = ap (λ (b : Bool). b || has_nav navs nav) (nat_eq_refl nav.0)

pub later_in : (first nav : NavId) (navs : List NavId) → has_nav navs nav ≡ true → has_nav (first ∷ navs) nav ≡ true
later_in first nav navs has = by_test (first.0 == nav.0)
  where
    by_test : (b : Bool) → (b || has_nav navs nav) ≡ true
    by_test true = refl
    by_test false = has

pub child_on : (s : Seen) (at : NavId) (above : List NavId) (nav : NavId) (place : Place) → place_of s nav ≡ Some place → place.above ≡ above → IsChain s.places above → has_nav above at ≡ true → IsChildOn s at (nav ∷ above)
child_on s at [] nav place placed is chain has = absurd cc
child_on s at (first ∷ rest) nav place placed is chain has =
    by_first (first.0 == at.0) refl has (child_on s at rest first chain.0.place chain.0.found chain.0.above_is chain.1)
  where
    by_first : (b : Bool) → (first.0 == at.0) ≡ b → (b || has_nav rest at) ≡ true → (has_nav rest at ≡ true → IsChildOn s at (first ∷ rest)) → IsChildOn s at (nav ∷ first ∷ rest)
    by_first true same h more =
        record { nav = nav; on = own_in nav (first ∷ rest); place = place; placed = placed; others = rest; above = is ∙ ap (λ (n : NavId). n ∷ rest) (nav_is first at same) }
    by_first false apart h more =
        let its = more h in
        record { nav = its.nav; on = later_in nav its.nav (first ∷ rest) its.on; place = its.place; placed = its.placed; others = its.others; above = its.above }

module _ (s : Seen) (sound : IsSound s.history) (hangs : Hangs s) where
  -- the owner of a navigable's entries is the first of its place
  pub row_owner : (nav : NavId) (place : Place) (row : Row) → place_of s nav ≡ Some place → Has s.history.rows row → row.nav ≡ nav → row.owner ≡ slice_get place.owners 0
  row_owner nav place row placed has own =
      let p : IsPlaced (forms_of s.places) row = hangs.rows.placed row has in
      let forms : Some p.form ≡ Some (form_of place) = sym p.found ∙ ap (λ (n : NavId). form_in (forms_of s.places) n) (own ∙ sym (found_nav s.places nav place placed)) ∙ own_form s sound hangs nav place placed in
      let one : p.form ≡ form_of place = cc in
      p.owner ∙ ap (λ (f : Form). slice_get f.owners 0) one

  -- none below a load's navigable is shown, where no entry hangs on its target's state
  pub none_below : (at : NavId) (target : Row) → target_entry s.history.rows at s.history.current ≡ Some target → ((row : Row) → Has s.history.rows row → row.owner ≡ Some target.state → ⊥) → (nav : NavId) (place : Place) → place_of s nav ≡ Some place → is_below at place ≡ true → is_shown s.history.rows s.history.current nav ≡ true → ⊥
  none_below at target to childless nav place placed below shown =
      childless row.0 its.there (row_owner child.nav child.place row.0 child.placed its.there its.nav_is ∙ hung.owner ∙ ap (λ (r : Row). Some r.state) same)
    where
      child : IsChildOn s at (nav ∷ place.above)
      child =
          child_on s at place.above nav place placed refl (place_chain s sound hangs nav place placed) below

      child_shown : is_shown s.history.rows s.history.current child.nav ≡ true
      child_shown = shown_on_way s sound hangs s.history.current nav place placed shown child.nav child.on

      hung : IsOnTarget s.history.rows s.history.current child.place at
      hung =
          on_target s sound hangs s.history.current child.nav child.place at child.others child.placed child.above child_shown

      same : hung.target ≡ target
      same = let both : Some hung.target ≡ Some target = sym hung.at ∙ to in cc

      row : (r : Row) × (target_entry s.history.rows child.nav s.history.current ≡ Some r)
      row =
          some_is (target_entry s.history.rows child.nav s.history.current) (has_begun s sound hangs s.history.current child.nav child_shown)

      its : IsTarget s.history.rows child.nav s.history.current row.0
      its = target_has s.history.rows child.nav s.history.current row.0 row.1

-- ---- the turn

-- the place is awake, and was given its target at the current step
pub record IsInPlace (s : Seen) (place : Place) : Type 0 where
  pub up : is_awake place ≡ true
  pub target : is_given_target s.history.rows s.history.current place ≡ true

module _ (s t : Seen) (sound : IsSound s.history) (hangs : Hangs s) (standing : AreStanding s) (aim : aim_of s ≡ s.history.current) (at : NavId) (place : Place) (placed : place_of s at ≡ Some place) (visited : IsVisitedInNeed s place) (others : LeavesOthers s t at) (own : (p : Place) → place_of t at ≡ Some p → (p ≡ place) ⊎ IsInPlace s p) (raised : (other : NavId) (q : Place) → place_of s other ≡ Some q → is_below at q ≡ true → 1 ≤ place.epoch.0) where
  visible : is_shown s.history.rows s.history.current at ≡ true
  visible =
      ap (λ (step : ℕ). is_shown s.history.rows step at) (sym aim) ∙ ap (λ (n : NavId). is_shown s.history.rows (aim_of s) n) (sym (found_nav s.places at place placed)) ∙ visited.shown

  -- the place before of one below whom it was
  record WasBelow (nav : NavId) (p : Place) : Type 0 where
    old : Place
    there : place_of s nav ≡ Some old
    above : old.above ≡ p.above

  was_below : (nav : NavId) (p : Place) → place_of t nav ≡ Some p → WasBelow nav p
  was_below nav p here =
      by_old (place_of s nav) refl (sym (ap (option_map (λ (x : Place). x.above)) here) ∙ others.ways nav)
    where
      by_old : (o : Option Place) → place_of s nav ≡ o → Some p.above ≡ option_map (λ (x : Place). x.above) o → WasBelow nav p
      by_old None was same = absurd cc
      by_old (Some old) was same =
          record { old = old; there = was; above = (let one : p.above ≡ old.above = cc in sym one) }

  -- where it is excepted with those below it, or was never shown a document
  abbrev MayTurn : (NavId → Type 0) → Type 0
  MayTurn Except =
      ((Except at) × ((other : NavId) (q : Place) → place_of s other ≡ Some q → is_below at q ≡ true → Except other)) ⊎ (place.epoch.0 ≡ 0)

  module _ (Except : NavId → Type 0) (calm : IsCalmBut Except s) (may : MayTurn Except) where
    here_then : (one other : Place) → one ≡ other → IsHere s other → IsHere t one
    here_then one other is here =
        here_same s t others.history one other (ap (λ (p : Place). p.nav) is) (ap (λ (p : Place). p.given) is) here

    -- ---- one that is apart

    apart_here : (nav : NavId) (p : Place) (doc : DocId) → place_of s nav ≡ Some p → p.status ≡ awake doc → Except nav ⊎ IsHere t p
    apart_here nav p doc was wakes = by_case (calm.here nav p doc was wakes)
      where
        by_case : Except nav ⊎ IsHere s p → Except nav ⊎ IsHere t p
        by_case (inl out) = inl out
        by_case (inr here) = inr (here_then p p refl here)

    apart_wakes : (nav : NavId) (p : Place) → place_of s nav ≡ Some p → is_shown t.history.rows t.history.current p.nav ≡ true → 1 ≤ p.epoch.0 → Except nav ⊎ (is_awake p ≡ true)
    apart_wakes nav p was shown =
        calm.wakes nav p was (sym (ap (λ (h : History). is_shown h.rows h.current p.nav) others.history) ∙ shown)

    -- ---- its own place

    own_put : (p : Place) → place_of t at ≡ Some p → IsInPlace s p → IsHere t p
    own_put p here put =
        let navs : p.nav ≡ at = found_nav t.places at p here in
        record {
          shown = ap (λ (h : History). is_shown h.rows h.current p.nav) others.history ∙ ap (λ (n : NavId). is_shown s.history.rows s.history.current n) navs ∙ visible;
          target = ap (λ (h : History). is_given_target h.rows h.current p) others.history ∙ put.target;
        }

    own_here : (p : Place) (doc : DocId) → place_of t at ≡ Some p → p.status ≡ awake doc → (p ≡ place) ⊎ IsInPlace s p → Except at ⊎ IsHere t p
    own_here p doc here wakes (inl same) =
        apart_here at p doc (placed ∙ ap (λ (x : Place). Some x) (sym same)) wakes
    own_here p doc here wakes (inr put) = inr (own_put p here put)

    own_wakes : (p : Place) → is_shown t.history.rows t.history.current p.nav ≡ true → 1 ≤ p.epoch.0 → (p ≡ place) ⊎ IsInPlace s p → Except at ⊎ (is_awake p ≡ true)
    own_wakes p shown epoch (inl same) =
        apart_wakes at p (placed ∙ ap (λ (x : Place). Some x) (sym same)) shown epoch
    own_wakes p shown epoch (inr put) = inr put.up

    -- ---- which one it is

    -- it is below, so it is excepted
    below_out : (nav : NavId) (old : Place) → place_of s nav ≡ Some old → is_below at old ≡ true → MayTurn Except → Except nav
    below_out nav old was below (inl out) = out.1 nav old was below
    below_out nav old was below (inr none) =
        let up = raised nav old was below in absurd (omega (arith, none, up))

    apart_place : (nav : NavId) (p : Place) → (nav.0 == at.0) ≡ false → (was : WasBelow nav p) → is_below at was.old ≡ false → place_of t nav ≡ Some p → place_of s nav ≡ Some p
    apart_place nav p differs was beside here =
        sym (others.others nav (record { differs = differs; beside = λ q there. (let both : Some q ≡ Some was.old = sym there ∙ was.there in let one : q ≡ was.old = cc in ap (λ (x : Place). is_below at x) one ∙ beside) })) ∙ here

    pub turn_but : IsCalmBut Except t
    turn_but =
        record {
          here = λ nav p doc here wakes. here_by nav p doc here wakes (nav.0 == at.0) refl;
          wakes = λ nav p here shown epoch. wakes_by nav p here shown epoch (nav.0 == at.0) refl;
        }
      where
        here_by : (nav : NavId) (p : Place) (doc : DocId) → place_of t nav ≡ Some p → p.status ≡ awake doc → (b : Bool) → (nav.0 == at.0) ≡ b → Except nav ⊎ IsHere t p
        here_by nav p doc here wakes true same =
            let one : nav ≡ at = nav_is nav at same in
            let there : place_of t at ≡ Some p = ap (λ (n : NavId). place_of t n) (sym one) ∙ here in
            subst (λ (n : NavId). Except n ⊎ IsHere t p) (sym one) (own_here p doc there wakes (own p there))
        here_by nav p doc here wakes false differs =
            let was = was_below nav p here in by_below was (is_below at was.old) refl
          where
            by_below : (was : WasBelow nav p) (b : Bool) → is_below at was.old ≡ b → Except nav ⊎ IsHere t p
            by_below was true below = inl (below_out nav was.old was.there below may)
            by_below was false beside =
                apart_here nav p doc (apart_place nav p differs was beside here) wakes

        wakes_by : (nav : NavId) (p : Place) → place_of t nav ≡ Some p → is_shown t.history.rows t.history.current p.nav ≡ true → 1 ≤ p.epoch.0 → (b : Bool) → (nav.0 == at.0) ≡ b → Except nav ⊎ (is_awake p ≡ true)
        wakes_by nav p here shown epoch true same =
            let one : nav ≡ at = nav_is nav at same in
            let there : place_of t at ≡ Some p = ap (λ (n : NavId). place_of t n) (sym one) ∙ here in
            subst (λ (n : NavId). Except n ⊎ (is_awake p ≡ true)) (sym one) (own_wakes p shown epoch (own p there))
        wakes_by nav p here shown epoch false differs =
            let was = was_below nav p here in by_below was (is_below at was.old) refl
          where
            by_below : (was : WasBelow nav p) (b : Bool) → is_below at was.old ≡ b → Except nav ⊎ (is_awake p ≡ true)
            by_below was true below = inl (below_out nav was.old was.there below may)
            by_below was false beside =
                apart_wakes nav p (apart_place nav p differs was beside here) shown epoch

  -- ---- but for those without an entry

  pub turn_yet : IsCalmYet s → IsCalmYet t
  turn_yet calm =
      yet_same s t others.history (turn_but (λ (n : NavId). has_row n s.history.rows ≡ false) calm (by_case (need_new s standing aim (λ (n : NavId). has_row n s.history.rows ≡ false) calm at place placed visited)))
    where
      by_case : (has_row at s.history.rows ≡ false) ⊎ (place.epoch.0 ≡ 0) → MayTurn (λ (n : NavId). has_row n s.history.rows ≡ false)
      by_case (inl none) =
          let never : true ≡ false = sym (shown_row s sound hangs s.history.current at visible) ∙ none in absurd cc
      by_case (inr is) = inr is

  -- ---- around a load's navigable

  module _ (by : NavId) (calm : IsCalmAround s by) where
    abbrev Under : NavId → Type 0
    Under nav = has_nav (way_to s nav) by ≡ true

    -- who is in need is that one, or was never shown a document
    pub around_need : ((at.0 == by.0) ≡ true) ⊎ (place.epoch.0 ≡ 0)
    around_need = by_case (need_new s standing aim Under calm.but at place placed visited)
      where
        by_test : (b : Bool) → (at.0 == by.0) ≡ b → (b || has_nav place.above by) ≡ true → ((at.0 == by.0) ≡ true) ⊎ (place.epoch.0 ≡ 0)
        by_test true same has = inl same
        by_test false apart has =
            absurd (none_below s sound hangs by calm.target calm.to calm.childless at place placed has visible)

        by_case : Under at ⊎ (place.epoch.0 ≡ 0) → ((at.0 == by.0) ≡ true) ⊎ (place.epoch.0 ≡ 0)
        by_case (inl under) =
            by_test (at.0 == by.0) refl (ap (λ (l : List NavId). has_nav l by) (sym (way_at s at place placed)) ∙ under)
        by_case (inr is) = inr is

    may_around : MayTurn Under
    may_around = by_case around_need
      where
        by_case : ((at.0 == by.0) ≡ true) ⊎ (place.epoch.0 ≡ 0) → MayTurn Under
        by_case (inl same) =
            let one : at ≡ by = nav_is at by same in
            inl (
              ap (λ (l : List NavId). has_nav l by) (way_at s at place placed) ∙ ap (λ (b : Bool). b || has_nav place.above by) same,
              λ other q there below. ap (λ (l : List NavId). has_nav l by) (way_at s other q there) ∙ later_in other by q.above (ap (λ (n : NavId). has_nav q.above n) (sym one) ∙ below),
            )
        by_case (inr is) = inr is

    pub turn_around : (doc : DocId) → IsUsableAt t doc calm.target.state → IsCalmAround t by
    turn_around doc there =
        around_by s t others.history by calm (but_more t Under (λ (nav : NavId). has_nav (way_to t nav) by ≡ true) (λ nav has. ap (λ (l : List NavId). has_nav l by) (way_same s t others.ways nav) ∙ has) (turn_but Under calm.but may_around)) doc there

-- ---- all of it

-- what the rows of a turn do to its navigable, to documents that are usable, to who is awake, and to what navigables were given
pub record IsCalmTurn (s t : Seen) (at : NavId) (place : Place) : Type 0 where
  pub own : aim_of s ≡ s.history.current → (p : Place) → place_of t at ≡ Some p → (p ≡ place) ⊎ IsInPlace s p
  -- where it was never shown a document, each usable one is usable still
  pub usable : place.epoch.0 ≡ 0 → (doc : DocId) (d : Document) (state : StateId) → document_of s doc ≡ Some d → is_usable d state ≡ true → IsUsableAt t doc state
  -- and where one is usable for its target, one is still
  pub target : (row : Row) → target_entry s.history.rows at (aim_of s) ≡ Some row → (doc : DocId) (d : Document) → document_of s doc ≡ Some d → is_usable d row.state ≡ true → (other : DocId) × IsUsableAt t other row.state
  pub seats : KeepsSeats s t

-- who is awake is so on a document that is there
pub homes_seated : (s : Seen) → AreHomed s → AreRooted s → AreSeated s
homes_seated s homes are =
    record {
      there = λ nav place doc placed wakes. ap (λ (o : Option Document). is_some o) (homes.homed nav place doc placed wakes).home.found;
      rooted = are;
    }

pub turn_keeps : (s t : Seen) → IsSound s.history → Hangs s → AreHomed s → AreStanding s → (at : NavId) (place : Place) → place_of s at ≡ Some place → IsVisitedInNeed s place → LeavesOthers s t at → ((other : NavId) (q : Place) → place_of s other ≡ Some q → is_below at q ≡ true → 1 ≤ place.epoch.0) → IsCalmTurn s t at place → KeepsCalm s t
turn_keeps s t sound hangs homes standing at place placed visited others raised turn =
    record {
      yet = λ now. turn_yet s t sound hangs standing now at place placed visited others (turn.own now) raised;
      around = λ now by calm. around now by calm (around_need s t sound hangs standing now at place placed visited others (turn.own now) raised by calm);
      rooted = λ are. (turn.seats.seated (homes_seated s homes are)).rooted;
    }
  where
    around : aim_of s ≡ s.history.current → (by : NavId) → (calm : IsCalmAround s by) → ((at.0 == by.0) ≡ true) ⊎ (place.epoch.0 ≡ 0) → IsCalmAround t by
    around now by calm (inl same) =
        let to : target_entry s.history.rows at (aim_of s) ≡ Some calm.target = ap (λ (n : NavId). target_entry s.history.rows n (aim_of s)) (nav_is at by same) ∙ ap (λ (k : ℕ). target_entry s.history.rows by k) now ∙ calm.to in
        let there = turn.target calm.target to calm.doc calm.document calm.found calm.usable in
        turn_around s t sound hangs standing now at place placed visited others (turn.own now) raised by calm there.0 there.1
    around now by calm (inr none) =
        turn_around s t sound hangs standing now at place placed visited others (turn.own now) raised by calm calm.doc (turn.usable none calm.doc calm.document calm.target.state calm.found calm.usable)
