-- How calm a pass leaves the tab: where loads give way, where stray documents are discarded, and where who is awake is told.
use Rattle.seen_facts.specs.Asked.Asking.{IsThere}
use Rattle.tab_facts.proofs.Calm.Around.{around_calm}
use Rattle.tab_facts.proofs.Calm.Calms.{IsGivenRow, calm_rows, given_row, shown_row}
use Rattle.tab_facts.proofs.Calm.Loads.{HasOne, IsLoads, loads_sent, loads_then}
use Rattle.tab_facts.proofs.Calm.Moves.{AreUnmoved}
use Rattle.tab_facts.proofs.Calm.Sames.{IsUsableAt, around_by, but_more, here_same, keeps_same, root_same, sights_same, way_at, way_same, yet_same}
use Rattle.tab_facts.proofs.Calm.Sents.{DiscardsNone, usable_sent}
use Rattle.tab_facts.specs.Calm.Calm.{AreRooted, CalmUnless, IsCalm, IsCalmAround, IsCalmBut, IsCalmYet, IsHere, IsRooted, KeepsCalm, UnmovedAreHere}
use Rattle.tab_facts.specs.Calm.Loads.{LoadsHaveDocuments}
use Rattle.seen_facts.specs.Each.Runs.{OnlyRuns}
use Rattle.seen_facts.proofs.Hang.Forms.{nav_is}
use Rattle.seen_facts.proofs.Hang.Members.{has_any}
use Rattle.seen_facts.proofs.Hang.Parts.{state_is}
use Rattle.seen_facts.proofs.Hang.Targets.{IsTarget, target_has}
use Rattle.log_model.proofs.Refl.{nat_eq_refl}
use Rattle.log_model.specs.History.{History, has_nav, has_row, has_state}
use Rattle.log_model.specs.Orders.{is_being_made, is_usable}
use Rattle.log_model.specs.Places.{aim_of, is_awake, is_below, is_shown, way_to}
use Rattle.tab_one_pass.proofs.Moves.{put_unmoved}
use Rattle.tab_serves.specs.PassedOn.{HasOnlyTold, IsToldMore, IsUpdateFor, aim_in, length_index, IsTab}
use Rattle.log_model.specs.Seen.{Document, Place, Seen, awake, document_of, place_of}
use Rattle.log_model.specs.declared.job.Task.{Task}
use Rattle.log_model.specs.declared.job.Why.{Why}
use Rattle.log_model.specs.declared.made.Made.{Made}
use Rattle.log_model.specs.declared.row.Row.{Row}
use Rattle.log_model.specs.declared.row_kind.RowKind.{RowKind}
use Rattle.seen_facts.specs.Home.Homes.{document_in}
use Rattle.seen_facts.proofs.Place.Documents.{KeepStates, MakesNone, state_in, states_stay}
use Rattle.seen_laws.specs.InEvent.{InEvent, now_of}
use Rattle.tab_facts.proofs.ShownWays.Keeps.{shown_on_way, way_more, way_there}
use Rattle.std.proofs.Common.{Bool, List, None, Option, Some, ap, false, inl, inr, not, refl, subst, sym, true, ◌&&◌, ◌==◌, ◌||◌, ◌∙◌, ◌∷◌, ◌≡◌, ◌≤◌, ◌⊎◌}
use Rattle.std.proofs.lemmas.Bool.{and_parts}
use Rattle.std.specs.Prelude.{option_map}
use Rattle.tab_doors.specs.declared.tables.Tables.{Tables}
pub use Rattle.tab_drops.specs.Dropping.{LeavesAll}
use Rattle.tab_ids.specs.declared.DocId.{DocId}
use Rattle.tab_ids.specs.declared.NavId.{NavId}
use Rattle.tab_ids.specs.declared.ReqId.{ReqId}
use Rattle.tab_ids.specs.declared.StateId.{StateId}
use Rattle.tab_one_pass.specs.Passing.{HasPassed, HasPutOut, LeavesCalm, LeavesPass}
pub use Rattle.tab_serves.proofs.PassedOn.{aim_is}
pub use Rattle.tab_serves.proofs.Calms.{only_as}
use Rattle.tab_serves.specs.Serving.{HasOnly, InPass, IsPassing, IsUp, KeepsUp}
use Rattle.tab_serves.proofs.Orders.{IsOrderOf, over_orders, tells_quiet}
pub use Rattle.tab_sweeps.proofs.Loads.{loaded_never}
use Rattle.tab_sweeps.specs.Sweeping.{IsNoStray, IsOnStray, IsStray, IsSweptTurn, but_status}
use Rattle.seen_facts.proofs.Walk.Placed.{found_nav}
use Rattle.seen_facts.specs.Walk.Serving.{AreServed}
use Rattle.row_facts.specs.WalkRows.Since.{WasAwake}
use Rattle.log_model.specs.declared.job.Task.TheVariants as tasks
use Rattle.log_model.specs.declared.row_kind.RowKind.TheVariants as rows

-- ---- loads give way

pub drops_calm : (s t : Seen) → LeavesAll s t → KeepsCalm s t
drops_calm s t left =
    keeps_same s t left.history (sights_same s t left.places) (λ doc. ap (λ (l : List Document). state_in l doc) left.documents) (λ doc d state found usable. record { d = d; found = ap (λ (l : List Document). document_in l doc) left.documents ∙ found; usable = usable })

-- ---- who is awake is told

-- the order tells length and index
abbrev Tells : Task → Type 0
Tells task = length_index task ≡ true

tells_none : (task : Task) → Tells task → DiscardsNone task × MakesNone task
tells_none (tasks.Update long at) is = (tt, tt)
tells_none (tasks.Activate entry epoch long at memo address) is = (tt, tt)
tells_none (tasks.Populate nav state address initial) is = absurd cc
tells_none tasks.Freeze is = absurd cc
tells_none tasks.Discard is = absurd cc
tells_none (tasks.Ask slot cause) is = absurd cc
tells_none (tasks.DoFragment req mode address) is = absurd cc

pub told_calm : (e : InEvent) (why : Why) (was out : List RowKind) → HasOnlyTold why was out → IsToldMore (now_of e was) (now_of e out) → KeepsCalm (now_of e was) (now_of e out)
told_calm e why was out only more =
    keeps_same (now_of e was) (now_of e out) more.history (sights_same (now_of e was) (now_of e out) more.places) states usable
  where
    one : (row : RowKind) → IsUpdateFor why row → IsOrderOf Tells row
    one (rows.Sent job) is = record { job = job; is = refl; task = is.1 }
    one _ is = absurd is

    orders : HasOnly (IsOrderOf Tells) was out
    orders = only_as (IsUpdateFor why) (IsOrderOf Tells) was out one only

    states : KeepStates (now_of e was).documents (now_of e out).documents
    states =
        over_orders Tells tells_quiet (λ (x : Seen). KeepStates (now_of e was).documents x.documents) (λ x event job tells so doc. states_stay x (rows.Sent job) (tells_none job.task tells).1 doc ∙ so doc) e was out orders (λ doc. refl)

    usable : (doc : DocId) (d : Document) (state : StateId) → document_of (now_of e was) doc ≡ Some d → is_usable d state ≡ true → IsUsableAt (now_of e out) doc state
    usable doc d state found is =
        over_orders Tells tells_quiet (λ (x : Seen). IsUsableAt x doc state) (λ x event job tells so. usable_sent x event.event event.actor job (tells_none job.task tells).0 doc so.d state so.found so.usable) e was out orders (record { d = d; found = found; usable = is })

pub told_loads : (e : InEvent) (why : Why) (was out : List RowKind) → HasOnlyTold why was out → LoadsHaveDocuments (now_of e was) → LoadsHaveDocuments (now_of e out)
told_loads e why was out only =
    over_orders Tells tells_quiet LoadsHaveDocuments (λ x event job tells. loads_sent x event.event event.actor job (inl (tells_none job.task tells).0)) e was out (only_as (IsUpdateFor why) (IsOrderOf Tells) was out one only)
  where
    one : (row : RowKind) → IsUpdateFor why row → IsOrderOf Tells row
    one (rows.Sent job) is = record { job = job; is = refl; task = is.1 }
    one _ is = absurd is

-- ---- stray documents are discarded

-- a load's document isn't stray: its state has an ongoing load, or it is still being made
pub swept_loads : (s t : Seen) → IsSweptTurn s t → LoadsHaveDocuments s → LoadsHaveDocuments t
swept_loads s t turn = loads_then s t (λ req l at on. sym (turn.looks req) ∙ at) docs
  where
    not_stray : (state : StateId) → IsLoads s state → (one : HasOne s state) → IsNoStray s one.doc
    not_stray state its one other stray = by_there one.there
      where
        same : stray.document ≡ one.d
        same = let both : Some stray.document ≡ Some one.d = sym stray.found ∙ one.found in cc

        states : other ≡ state
        states = sym stray.its_state ∙ ap (λ (x : Document). x.state) same ∙ one.of_state

        by_there : (is_usable one.d state ≡ true) ⊎ (is_being_made one.d ≡ true) → ⊥
        by_there (inl usable) =
            loaded_never s other stray.unloaded its.req its.q state its.found its.ongoing its.own (ap (λ (x : StateId). x.0) (sym states))
        by_there (inr made) =
            let unready : not one.d.is_ready ≡ true = (and_parts (not one.d.is_ready) (not one.d.is_known_dead) made).0 in
            let ready : one.d.is_ready ≡ true = ap (λ (x : Document). x.is_ready) (sym same) ∙ stray.ready in
            let never : false ≡ true = sym (ap (λ (b : Bool). not b) ready) ∙ unready in
            absurd cc

    docs : (state : StateId) → IsLoads s state → HasOne s state → HasOne t state
    docs state its one =
        record { doc = one.doc; d = one.d; found = turn.others one.doc (not_stray state its one) ∙ one.found; of_state = one.of_state; there = one.there }

module _ (run : Option ReqId) (loads : List ReqId) (hand : List Made) (s t : Seen) (tab : IsTab run loads hand s) (turn : IsSweptTurn s t) where
  -- the place before, of which all is so but whether its navigable is awake
  record WasThere (nav : NavId) (place : Place) : Type 0 where
    old : Place
    placed : place_of s nav ≡ Some old
    same : but_status place ≡ but_status old

  was_there : (nav : NavId) (place : Place) → place_of t nav ≡ Some place → WasThere nav place
  was_there nav place placed =
      by_old (place_of s nav) refl (sym (ap (option_map but_status) placed) ∙ turn.places nav)
    where
      by_old : (o : Option Place) → place_of s nav ≡ o → Some (but_status place) ≡ option_map but_status o → WasThere nav place
      by_old None at is = absurd cc
      by_old (Some old) at is = record { old = old; placed = at; same = cc }

  given_was : (nav : NavId) (place old : Place) → place_of t nav ≡ Some place → place_of s nav ≡ Some old → place.given ≡ old.given
  given_was nav place old placed at =
      let was = was_there nav place placed in
      let both : Some was.old ≡ Some old = sym was.placed ∙ at in
      let one : was.old ≡ old = cc in
      ap (λ (p : Place). p.given) was.same ∙ ap (λ (p : Place). p.given) one

  nav_was : (nav : NavId) (place old : Place) → place_of t nav ≡ Some place → place_of s nav ≡ Some old → place.nav ≡ old.nav
  nav_was nav place old placed at =
      found_nav t.places nav place placed ∙ sym (found_nav s.places nav old at)

  -- who is awake on its target isn't on a stray document: its state has an entry
  here_off : (over : NavId) (own : Place) (doc : DocId) (state : StateId) → place_of s over ≡ Some own → own.status ≡ awake doc → IsHere s own → IsStray s doc state → ⊥
  here_off over own doc state there wakes here stray =
      let never : true ≡ false = sym has ∙ stray.bare in cc
    where
      its : IsGivenRow s s.history.current own
      its = given_row s s.history.current own here.target

      target : IsTarget s.history.rows own.nav s.history.current its.row
      target = target_has s.history.rows own.nav s.history.current its.row its.at

      states : its.row.state ≡ state
      states =
          tab.homes.state over own doc there wakes its.row stray.document target.there target.nav_is its.given stray.found ∙ stray.its_state

      has : has_state state s.history.rows ≡ true
      has =
          has_any (λ (row : Row). row.state.0 == state.0) s.history.rows its.row target.there (ap (λ (x : StateId). x.0 == state.0) states ∙ nat_eq_refl state.0)

  module _ (Except : NavId → Type 0) (either : (nav : NavId) → Except nav ⊎ (Except nav → ⊥)) (closed : (nav : NavId) (place : Place) (over : NavId) → place_of s nav ≡ Some place → is_shown s.history.rows s.history.current nav ≡ true → has_nav (nav ∷ place.above) over ≡ true → Except over → Except nav) (calm : IsCalmBut Except s) where
    here_then : (nav : NavId) (place : Place) (doc : DocId) → place_of t nav ≡ Some place → WasAwake s nav doc → Except nav ⊎ IsHere t place
    here_then nav place doc placed was = by_case (calm.here nav was.place doc was.placed was.wakes)
      where
        by_case : Except nav ⊎ IsHere s was.place → Except nav ⊎ IsHere t place
        by_case (inl out) = inl out
        by_case (inr here) =
            inr (here_same s t turn.history place was.place (nav_was nav place was.place placed was.placed) (given_was nav place was.place placed was.placed) here)

    -- one that is shown, and not excepted, isn't on a stray document
    off : (nav : NavId) (old : Place) → place_of s nav ≡ Some old → is_shown s.history.rows s.history.current nav ≡ true → (Except nav → ⊥) → IsOnStray s nav → ⊥
    off nav old at shown not_out on =
        by_case (calm.here on.over on.own on.doc on.there on.wakes)
      where
        same : on.place ≡ old
        same = let both : Some on.place ≡ Some old = sym on.placed ∙ at in cc

        way : has_nav (nav ∷ old.above) on.over ≡ true
        way = by_under on.under
          where
            by_under : ((nav.0 == on.over.0) ≡ true) ⊎ (is_below on.over on.place ≡ true) → has_nav (nav ∷ old.above) on.over ≡ true
            by_under (inl own) = ap (λ (b : Bool). b || has_nav old.above on.over) own
            by_under (inr below) =
                by_test (nav.0 == on.over.0) (ap (λ (p : Place). has_nav p.above on.over) (sym same) ∙ below)
              where
                by_test : (b : Bool) → has_nav old.above on.over ≡ true → (b || has_nav old.above on.over) ≡ true
                by_test true is = refl
                by_test false is = is

        by_case : Except on.over ⊎ IsHere s on.own → ⊥
        by_case (inl out) = not_out (closed nav old on.over at shown way out)
        by_case (inr here) = here_off on.over on.own on.doc on.state on.there on.wakes here on.stray

    -- who is up, and not excepted, is as it was
    up_but : (nav : NavId) (place : Place) (doc : DocId) → IsUp t nav place doc → Except nav ⊎ (place_of s nav ≡ Some place)
    up_but nav place doc up = by_out (either nav)
      where
        was : WasAwake s nav doc
        was = turn.awake_ nav place doc refl up.placed up.wakes

        visible : is_shown s.history.rows s.history.current nav ≡ true
        visible = ap (λ (h : History). is_shown h.rows h.current nav) (sym turn.history) ∙ up.shown

        by_out : Except nav ⊎ (Except nav → ⊥) → Except nav ⊎ (place_of s nav ≡ Some place)
        by_out (inl out) = inl out
        by_out (inr not_out) = inr (sym (turn.stays nav (off nav was.place was.placed visible not_out)) ∙ up.placed)

    wakes_then : (nav : NavId) (place : Place) → place_of t nav ≡ Some place → is_shown t.history.rows t.history.current place.nav ≡ true → 1 ≤ place.epoch.0 → Except nav ⊎ (is_awake place ≡ true)
    wakes_then nav place placed shown epoch =
        by_out (either nav) (calm.wakes nav was.old was.placed (ap (λ (n : NavId). is_shown s.history.rows s.history.current n) (found_nav s.places nav was.old was.placed) ∙ visible) (subst (λ (p : Place). 1 ≤ p.epoch.0) was.same epoch))
      where
        was : WasThere nav place
        was = was_there nav place placed

        visible : is_shown s.history.rows s.history.current nav ≡ true
        visible =
            ap (λ (n : NavId). is_shown s.history.rows s.history.current n) (sym (found_nav t.places nav place placed))
            ∙ sym (ap (λ (h : History). is_shown h.rows h.current place.nav) turn.history)
            ∙ shown

        by_out : Except nav ⊎ (Except nav → ⊥) → Except nav ⊎ (is_awake was.old ≡ true) → Except nav ⊎ (is_awake place ≡ true)
        by_out (inl out) up = inl out
        by_out (inr not_out) (inl out) = inl out
        by_out (inr not_out) (inr up) =
            let both : Some place ≡ Some was.old = sym placed ∙ turn.stays nav (off nav was.old was.placed visible not_out) ∙ was.placed in
            let one : place ≡ was.old = cc in
            inr (ap (λ (p : Place). is_awake p) one ∙ up)

    swept_but : IsCalmBut Except t
    swept_but =
        record {
          here = λ nav place doc placed wakes. here_then nav place doc placed (turn.awake_ nav place doc refl placed wakes);
          wakes = wakes_then;
        }

  test : (b : Bool) → (b ≡ false) ⊎ (b ≡ false → ⊥)
  test false = inl refl
  test true = inr (λ is. let never : true ≡ false = is in cc)

  test_on : (b : Bool) → (b ≡ true) ⊎ (b ≡ true → ⊥)
  test_on true = inl refl
  test_on false = inr (λ is. let never : false ≡ true = is in cc)

  closed_bare : (nav : NavId) (place : Place) (over : NavId) → place_of s nav ≡ Some place → is_shown s.history.rows s.history.current nav ≡ true → has_nav (nav ∷ place.above) over ≡ true → has_row over s.history.rows ≡ false → has_row nav s.history.rows ≡ false
  closed_bare nav place over placed shown way none =
      let up = shown_on_way s tab.sound tab.hangs s.history.current nav place placed shown over way in
      let never : true ≡ false = sym (shown_row s tab.sound tab.hangs s.history.current over up) ∙ none in
      absurd cc

  swept_yet : IsCalmYet s → IsCalmYet t
  swept_yet calm =
      yet_same s t turn.history (swept_but (λ (nav : NavId). has_row nav s.history.rows ≡ false) (λ nav. test (has_row nav s.history.rows)) closed_bare calm)

  up_yet : IsCalmYet s → (nav : NavId) (place : Place) (doc : DocId) → IsUp t nav place doc → place_of s nav ≡ Some place
  up_yet calm nav place doc up =
      by_case (up_but (λ (n : NavId). has_row n s.history.rows ≡ false) (λ n. test (has_row n s.history.rows)) closed_bare calm nav place doc up)
    where
      by_case : (has_row nav s.history.rows ≡ false) ⊎ (place_of s nav ≡ Some place) → place_of s nav ≡ Some place
      by_case (inl none) =
          let shown : is_shown s.history.rows s.history.current nav ≡ true = ap (λ (h : History). is_shown h.rows h.current nav) (sym turn.history) ∙ up.shown in
          let never : true ≡ false = sym (shown_row s tab.sound tab.hangs s.history.current nav shown) ∙ none in
          absurd cc
      by_case (inr same) = same

  ways_then : (nav : NavId) → option_map (λ (p : Place). p.above) (place_of t nav) ≡ option_map (λ (p : Place). p.above) (place_of s nav)
  ways_then nav =
      but_above (place_of t nav) ∙ ap (option_map (λ (p : Place). p.above)) (turn.places nav) ∙ sym (but_above (place_of s nav))
    where
      but_above : (o : Option Place) → option_map (λ (p : Place). p.above) o ≡ option_map (λ (p : Place). p.above) (option_map but_status o)
      but_above None = refl
      but_above (Some p) = refl

  module _ (by : NavId) (calm : IsCalmAround s by) where
    abbrev Under : NavId → Type 0
    Under nav = has_nav (way_to s nav) by ≡ true

    closed : (nav : NavId) (place : Place) (over : NavId) → place_of s nav ≡ Some place → is_shown s.history.rows s.history.current nav ≡ true → has_nav (nav ∷ place.above) over ≡ true → Under over → Under nav
    closed nav place over placed shown way under = by_own (nav.0 == over.0) refl way
      where
        later : (b : Bool) → has_nav place.above by ≡ true → (b || has_nav place.above by) ≡ true
        later true has = refl
        later false has = has

        -- by one above it
        by_above : (own : Place) → place_of s over ≡ Some own → has_nav place.above over ≡ true → (b : Bool) → (over.0 == by.0) ≡ b → (b || has_nav own.above by) ≡ true → has_nav place.above by ≡ true
        by_above own there above true same h =
            ap (λ (n : NavId). has_nav place.above n) (sym (nav_is over by same)) ∙ above
        by_above own there above false apart h =
            way_more s tab.sound tab.hangs nav place placed over own (later_on (nav.0 == over.0) above) there by h
          where
            later_on : (b : Bool) → has_nav place.above over ≡ true → (b || has_nav place.above over) ≡ true
            later_on true has = refl
            later_on false has = has

        by_own : (b : Bool) → (nav.0 == over.0) ≡ b → (b || has_nav place.above over) ≡ true → Under nav
        by_own true same h = subst (λ (n : NavId). Under n) (sym (nav_is nav over same)) under
        by_own false apart h =
            let own = way_there s tab.sound tab.hangs nav place placed over h in
            ap (λ (l : List NavId). has_nav l by) (way_at s nav place placed)
            ∙ later (nav.0 == by.0) (by_above own.0 own.1 h (over.0 == by.0) refl (ap (λ (l : List NavId). has_nav l by) (sym (way_at s over own.0 own.1)) ∙ under))

    no_stray : IsNoStray s calm.doc
    no_stray state stray =
        let never : true ≡ false = sym has ∙ stray.bare in cc
      where
        target : IsTarget s.history.rows by s.history.current calm.target
        target = target_has s.history.rows by s.history.current calm.target calm.to

        same : stray.document ≡ calm.document
        same = let both : Some stray.document ≡ Some calm.document = sym stray.found ∙ calm.found in cc

        number : (calm.document.state.0 == calm.target.state.0) ≡ true
        number =
            (and_parts (calm.document.state.0 == calm.target.state.0) calm.document.is_ready (and_parts (calm.document.state.0 == calm.target.state.0 && calm.document.is_ready) (not calm.document.is_discarded) (and_parts (calm.document.state.0 == calm.target.state.0 && calm.document.is_ready && not calm.document.is_discarded) (not calm.document.is_known_dead) calm.usable).0).0).0

        states : state ≡ calm.target.state
        states =
            sym stray.its_state ∙ ap (λ (x : Document). x.state) same ∙ state_is calm.document.state calm.target.state number

        has : has_state state s.history.rows ≡ true
        has =
            has_any (λ (row : Row). row.state.0 == state.0) s.history.rows calm.target target.there (ap (λ (x : StateId). calm.target.state.0 == x.0) states ∙ nat_eq_refl calm.target.state.0)

    swept_around : IsCalmAround t by
    swept_around =
        around_by s t turn.history by calm (but_more t Under (λ (nav : NavId). has_nav (way_to t nav) by ≡ true) (λ nav has. ap (λ (l : List NavId). has_nav l by) (way_same s t ways_then nav) ∙ has) (swept_but Under (λ nav. test_on (has_nav (way_to s nav) by)) closed calm.but)) calm.doc (record { d = calm.document; found = turn.others calm.doc no_stray ∙ calm.found; usable = calm.usable })

    up_around : (nav : NavId) (place : Place) (doc : DocId) → IsUp t nav place doc → (place_of s nav ≡ Some place) ⊎ (has_nav (nav ∷ place.above) by ≡ true)
    up_around nav place doc up =
        by_case (up_but Under (λ n. test_on (has_nav (way_to s n) by)) closed calm.but nav place doc up)
      where
        by_case : Under nav ⊎ (place_of s nav ≡ Some place) → (place_of s nav ≡ Some place) ⊎ (has_nav (nav ∷ place.above) by ≡ true)
        by_case (inl under) =
            inr (ap (λ (l : List NavId). has_nav l by) (sym (way_at t nav place up.placed) ∙ way_same s t ways_then nav) ∙ under)
        by_case (inr same) = inl same

  pub swept_up : KeepsUp s t
  swept_up = record { yet = λ now. up_yet; around = λ now. up_around }

  swept_rooted : AreRooted s → AreRooted t
  swept_rooted are nav place doc d placed wakes found has =
      by_old (document_of s doc) refl (sym (turn.states doc) ∙ ap (option_map (λ (x : Document). x.state)) found)
    where
      was : WasAwake s nav doc
      was = turn.awake_ nav place doc refl placed wakes

      by_old : (o : Option Document) → document_of s doc ≡ o → option_map (λ (x : Document). x.state) o ≡ Some d.state → IsRooted t place d
      by_old None at is = absurd cc
      by_old (Some old) at is =
          let state : old.state ≡ d.state = cc in
          root_same s t turn.history was.place place old d (nav_was nav place was.place placed was.placed) (given_was nav place was.place placed was.placed) state (are nav was.place doc old was.placed was.wakes at (ap (λ (x : StateId). has_state x s.history.rows) state ∙ sym (ap (λ (h : History). has_state d.state h.rows) turn.history) ∙ has))

  pub swept_calm : KeepsCalm s t
  swept_calm =
      record { yet = λ now. swept_yet; around = λ now. swept_around; rooted = swept_rooted }

-- ---- the pass

-- where a traversal runs, whom it hasn't moved is where it is to be, if that was so before a pass or one of its parts
pub put_here : (p : InPass) (was : List RowKind) (t : Tables) → IsPassing p was t → (out : List RowKind) (cause tells : Why) → HasPutOut p.event t.running cause tells was out → (req : ReqId) → t.running ≡ Some req → UnmovedAreHere (now_of p.event was) → AreUnmoved req (now_of p.event out)
put_here p was t before out cause tells only req is here =
    let there : IsThere (now_of p.event was) req = before.going.tab.asked.runs req is in
    put_unmoved p.event req cause tells was out (subst (λ (r : Option ReqId). HasPutOut p.event r cause tells was out) is only)
    (record { only = subst (λ (r : Option ReqId). OnlyRuns r (now_of p.event was)) is before.going.tab.asked.only; q = there.q; found = there.found; traverses = there.traverses; here = here })

module _ (p : InPass) (was : List RowKind) (t : Tables) (before : IsPassing p was t) (out : List RowKind) (u : Tables) (after_ : IsPassing p out u) (left : LeavesPass (now_of p.event was) (now_of p.event out)) (passed : HasPassed p.event (now_of p.event out)) (served : AreServed (now_of p.event out)) (cause tells : Why) (only : HasPutOut p.event t.running cause tells was out) where
  abbrev a : Seen
  a = now_of p.event was

  abbrev z : Seen
  z = now_of p.event out

  abbrev tab : IsTab u.running p.loads p.hand z
  tab = after_.going.tab

  now_aim : t.running ≡ None → aim_of a ≡ a.history.current
  now_aim none =
      aim_is a t.running before.going.tab.asked t.goal before.work.goal ∙ ap (λ (r : Option ReqId). aim_in a.history r t.goal) none

  pub passed_calm : LeavesCalm t.running a z
  passed_calm = record { yet = yet t.running refl; around = λ at. around at t.running refl; rooted = left.calms.rooted; unmoved = λ req is here. (put_here p was t before out cause tells only req is here).here }
    where
      yet : (run : Option ReqId) → t.running ≡ run → CalmUnless IsCalmYet run a → CalmUnless IsCalm run z
      yet (Some run) is calm = tt
      yet None is calm =
          calm_rows z tab.sound tab.hangs passed.rows_ (left.calms.yet (now_aim is) calm)

      around : (at : NavId) (run : Option ReqId) → t.running ≡ run → CalmUnless (λ (x : Seen). IsCalmAround x at) run a → CalmUnless IsCalm run z
      around at (Some run) is calm = tt
      around at None is calm =
          around_calm z tab.sound tab.hangs tab.homes tab.standing tab.docs tab.whose passed.rows_ passed.walked.parents served (left.aim ∙ now_aim is ∙ ap (λ (h : History). h.current) (sym left.history)) at (left.calms.around (now_aim is) at calm)
