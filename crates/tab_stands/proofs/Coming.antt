-- What an event's own row leaves of a tab as one is between two events, so that what documents made may be taken then, and a pass may follow.
use Rattle.seen_facts.specs.Hang.AsPlaces.{AreDistinct}
use Rattle.leave_facts.proofs.Bares.{homes_log}
use Rattle.seen_facts.specs.Home.Homes.{AreHomed}
use Rattle.tab_facts.proofs.Calm.Calms.{calm_but, calm_need, calm_rooted}
use Rattle.tab_facts.proofs.Calm.Sames.{SameSights, Sight, calm_same, given_same, here_same, rooted_kept, sight_of, way_at}
use Rattle.tab_facts.proofs.Calm.Awakes.{lost_none}
use Rattle.tab_facts.specs.Calm.Calm.{AreRooted, CalmUnless, IsCalm, IsCalmYet, UnmovedAreHere, NeedIsNew}
use Rattle.tab_facts.specs.Calm.Loads.{LoadsHaveDocuments}
use Rattle.tab_facts.specs.FrameWhole.Tab.{AreAwakeWithRows}
use Rattle.seen_facts.proofs.Hang.Hung.{places_distinct}
use Rattle.row_facts.specs.Left.Left.{WereShown}
use Rattle.seen_facts.specs.LoadEnds.Standing.{LoadsStand, is_reached}
use Rattle.seen_facts.specs.Load.Loading.{Look, is_ongoing, look_of}
use Rattle.log_model.specs.Equal.{holds}
use Rattle.log_model.specs.History.{History, has_nav, has_row}
use Rattle.log_model.specs.Places.{aim_of, all_stand, has_arrived, is_given_target, is_lost_in, is_moved, is_placed, is_shown, is_standing, way_to}
use Rattle.log_model.specs.Seen.{Asked, Document, Place, Seen, document_of, place_in, place_of, request_of}
use Rattle.log_model.specs.declared.change.Change.{Change}
use Rattle.log_model.specs.declared.job.Why.{Why}
use Rattle.seen_facts.proofs.Mover.Places.{WasThere, place_then, was_there, ways_mapped}
use Rattle.seen_facts.proofs.Mover.Stays.{KeepWays}
use Rattle.seen_facts.proofs.Place.Documents.{KeepStates}
use Rattle.seen_laws.proofs.Sendings.{both}
use Rattle.seen_laws.specs.InEvent.{InEvent}
use Rattle.std.proofs.Common.{Bool, List, None, Option, Some, [], ap, arith, false, inl, inr, map, not, refl, subst, sym, true, ℕ, ◌&&◌, ◌∙◌, ◌∷◌, ◌≡◌, ◌⊎◌}
use Rattle.std.proofs.lemmas.Bool.{and_parts}
use Rattle.std.specs.List.{list_any}
use Rattle.std.specs.Prelude.{is_some, option_map}
use Rattle.tab_settles.proofs.PassedOn.{IsReachedAt, aim_is, all_of, bare_move, calm_unmoved, each_stands, own_document, reached_at, run_leavers, show_causes, stand_awake, stand_bare, stand_reached}
use Rattle.tab_doors.specs.Working.{HasGoal}
use Rattle.tab_facts.specs.TabEvents.Between.{IsBetweenChecks}
use Rattle.tab_ids.specs.declared.DocId.{DocId}
use Rattle.tab_ids.specs.declared.EntryId.{EntryId}
use Rattle.tab_ids.specs.declared.NavId.{NavId}
use Rattle.tab_ids.specs.declared.ReqId.{ReqId}
use Rattle.tab_ids.specs.declared.StateId.{StateId}
use Rattle.tab_ids.specs.declared.Step.{Step}
use Rattle.log_model.specs.declared.made.Made.{Made}
use Rattle.tab_settles.specs.PassedOn.{AreUnheld, IsBlamed, IsLeftStray, IsLoadOf, IsStray, IsTab, IsTaking, LoadsLive, LoadsMadeOwn, MayCause, MayServe, MayStand, ParentsShown, TakersServe, aim_in, show_why}
use Rattle.tab_settles.specs.Settling.{IsCalmAfter}
use Rattle.tab_stands.specs.Standing.{Lasts, seen_start}
use Rattle.row_facts.proofs.WalkRows.Moved.{run_moves}
use Rattle.row_facts.specs.WalkRows.Since.{AwakeSince, MovesVisited, WasAwake}
use Rattle.log_model.specs.declared.job.Why.TheVariants as whys

-- ---- what a row leaves

-- a change of a place by which it may be known that its document is shown, and no more
pub record OnlyArrives (g : Place → Place) : Type 0 where
  pub nav : (p : Place) → (g p).nav ≡ p.nav
  pub sight : (p : Place) → sight_of (g p) ≡ sight_of p
  pub last : (p : Place) → (g p).last ≡ p.last
  pub why : (p : Place) → (g p).why ≡ p.why
  pub taken : (p : Place) → (g p).taken_by ≡ p.taken_by
  pub ever : (p : Place) → (g p).ever_given ≡ p.ever_given
  pub arrived : (p : Place) → has_arrived p ≡ true → has_arrived (g p) ≡ true

-- a request but for how it ended, and by which change, what documents answered and made, and whether one was found running
abbrev pub bare : Asked → Asked
bare q =
    record q { ending = None; made = None; is_not_found = false; asks = []; change = None; took = [] }

-- the request is there still, and read as the same but for that; the change by which it ended is
pub record IsAlike (n : Seen) (req : ReqId) (q : Asked) : Type 0 where
  pub now : Asked
  pub at : request_of n req ≡ Some now
  pub same : bare now ≡ bare q
  pub changed : (change : Change) → q.change ≡ Some change → now.change ≡ Some change

-- the history and the kept documents are as they were, and each request that was there but for how it ended, and by which change, and what documents answered and made; a navigable may have arrived; each ongoing load was one, and has its document; orders may be for whom they might be, the traversal that runs has moved whom it had, each document is of its state, and for each stray document a request is noted; the load that was applied last is, and where not all have stood since, they haven't, if not all stand
pub record IsComing (blame : List (StateId × ReqId)) (s n : Seen) : Type 0 where
  pub g : Place → Place
  pub arrives : OnlyArrives g
  pub places : n.places ≡ map g s.places
  pub history : n.history ≡ s.history
  pub kept : n.kept ≡ s.kept
  pub asked : (req : ReqId) (q : Asked) → request_of s req ≡ Some q → IsAlike n req q
  pub loads : (req : ReqId) (l : Look) → look_of n req ≡ Some l → is_ongoing l ≡ true → look_of s req ≡ Some l
  pub loading : LoadsHaveDocuments n
  pub serves : (req : ReqId) → MayServe s req → MayServe n req
  pub moved : (nav : NavId) → is_moved n nav ≡ is_moved s nav
  pub states : KeepStates s.documents n.documents
  pub homes : (doc : DocId) (d : Document) → document_of s doc ≡ Some d → (now : Document) × (document_of n doc ≡ Some now) × (now.nav ≡ d.nav)
  pub strays : (doc : DocId) (state : StateId) → IsStray n doc state → IsLeftStray n blame doc state ⊎ IsBlamed n blame doc state
  pub were : WereShown n
  pub theirs : LoadsMadeOwn n
  pub step : n.last_step ≡ s.last_step
  pub unstood : s.has_stood ≡ false → all_stand n n.history.current ≡ false → n.has_stood ≡ false

-- ---- what is so then

module _ (s : Seen) (run : Option ReqId) (keep : ℕ) (goal : Step) (blame : List (StateId × ReqId)) (n : Seen) {loads : List ReqId} {waits : Bool} (between : IsBetweenChecks keep run loads waits s) (lasts : Lasts run s) (goal_was : HasGoal s.requests run goal) (ids : List ReqId) (hand : List Made) (tab : IsTab run ids hand n) (goal_then : HasGoal n.requests run goal) (comes : IsComing blame s n) where
  -- the place before
  was : (nav : NavId) (place : Place) → place_of n nav ≡ Some place → WasThere comes.g s.places nav place
  was nav place there =
      was_there comes.g s.places comes.arrives.nav nav place (ap (λ (l : List Place). place_in l nav) (sym comes.places) ∙ there)

  -- and then
  still : (nav : NavId) (place : Place) → place_of s nav ≡ Some place → place_of n nav ≡ Some (comes.g place)
  still nav place there =
      ap (λ (l : List Place). place_in l nav) comes.places
      ∙ place_then comes.g s.places comes.arrives.nav nav
      ∙ ap (λ (o : Option Place). option_map comes.g o) there

  above_same : (p : Place) → (comes.g p).above ≡ p.above
  above_same p = ap (λ (x : Sight). x.above) (comes.arrives.sight p)

  status_same : (p : Place) → (comes.g p).status ≡ p.status
  status_same p = ap (λ (x : Sight). x.status) (comes.arrives.sight p)

  given_is : (p : Place) → (comes.g p).given ≡ p.given
  given_is p = ap (λ (x : Sight). x.given) (comes.arrives.sight p)

  sights : SameSights s n
  sights nav =
      ap (λ (l : List Place). option_map sight_of (place_in l nav)) comes.places
      ∙ ap (λ (o : Option Place). option_map sight_of o) (place_then comes.g s.places comes.arrives.nav nav)
      ∙ by_found (place_in s.places nav)
    where
      by_found : (o : Option Place) → option_map sight_of (option_map comes.g o) ≡ option_map sight_of o
      by_found None = refl
      by_found (Some p) = ap (λ (x : Sight). let o : Option Sight = Some x in o) (comes.arrives.sight p)

  -- the aim is as it was
  pub aim_same : aim_of n ≡ aim_of s
  aim_same =
      aim_is n run tab.asked goal goal_then
      ∙ ap (λ (h : History). aim_in h run goal) comes.history
      ∙ sym (aim_is s run between.tab.asked goal goal_was)

  -- each ongoing load was one
  load_was : (req : ReqId) (nav : NavId) → IsLoadOf n req nav → IsLoadOf s req nav
  load_was req nav its = record { look = its.look; at = comes.loads req its.look its.at its.ongoing; ongoing = its.ongoing; loads_it = its.loads_it }

  -- ---- ongoing loads stand

  standing_then : (x : NavId) (old : Place) → place_of s x ≡ Some old → (step : ℕ) → is_standing s.history.rows step old ≡ true → is_standing s.history.rows step (comes.g old) ≡ true
  standing_then x old there step is =
      let parts = and_parts (is_given_target s.history.rows step old && not old.is_unmet) (has_arrived old) is in
      let target : is_given_target s.history.rows step old ≡ true = (and_parts (is_given_target s.history.rows step old) (not old.is_unmet) parts.0).0 in
      let met : not (comes.g old).is_unmet ≡ true = ap not (tab.standing x (comes.g old) (still x old there)).met in
      both (both (given_same s.history.rows step (comes.g old) old (comes.arrives.nav old) (given_is old) ∙ target) met) (comes.arrives.arrived old parts.1)

  placed_then : (x : NavId) → is_placed s (aim_of s) x ≡ true → is_placed n (aim_of n) x ≡ true
  placed_then x placed =
      ap (λ (k : ℕ). is_placed n k x) aim_same
      ∙ both (ap (λ (h : History). is_shown h.rows (aim_of s) x) comes.history ∙ parts.0) (ap (λ (h : History). holds (is_standing h.rows (aim_of s)) (place_of n x)) comes.history ∙ by_found (place_of s x) refl)
    where
      parts : (is_shown s.history.rows (aim_of s) x ≡ true) × (holds (is_standing s.history.rows (aim_of s)) (place_of s x) ≡ true)
      parts = and_parts (is_shown s.history.rows (aim_of s) x) (holds (is_standing s.history.rows (aim_of s)) (place_of s x)) placed

      by_found : (o : Option Place) → place_of s x ≡ o → holds (is_standing s.history.rows (aim_of s)) (place_of n x) ≡ true
      by_found None none =
          let never : false ≡ true = ap (λ (o : Option Place). holds (is_standing s.history.rows (aim_of s)) o) (sym none) ∙ parts.1 in absurd cc
      by_found (Some old) there =
          ap (λ (o : Option Place). holds (is_standing s.history.rows (aim_of s)) o) (still x old there)
          ∙ standing_then x old there (aim_of s) (ap (λ (o : Option Place). holds (is_standing s.history.rows (aim_of s)) o) (sym there) ∙ parts.1)

  reached_then : (nav : NavId) → is_reached s nav ≡ true → is_reached n nav ≡ true
  reached_then nav reached =
      both (all_of (is_placed n (aim_of n)) (way_to n nav) (λ x has. placed_then x (at.each x (ap (λ (l : List NavId). has_nav l x) (sym way) ∙ has)))) (ap (λ (o : Option Place). holds (λ (x : Place). not (list_any (is_lost_in n.places) x.above)) o) there ∙ ap not (lost_none n tab.standing (comes.g at.place).above))
    where
      at : IsReachedAt s nav
      at = reached_at s nav reached

      there : place_of n nav ≡ Some (comes.g at.place)
      there = still nav at.place at.placed

      way : way_to n nav ≡ nav ∷ at.place.above
      way = way_at n nav (comes.g at.place) there ∙ ap (λ (l : List NavId). nav ∷ l) (above_same at.place)

  pub stand_then : LoadsStand n
  stand_then =
      each_stands n (λ req nav its. reached_then nav (stand_reached s between.stands req nav (load_was req nav its)))

  pub live_then : LoadsLive n
  live_then = record { awake = stand_awake run ids hand n tab stand_then; loading = comes.loading }

  -- ---- who is awake, and who is above

  pub rows_then : AreAwakeWithRows n
  rows_then nav place doc there wakes =
      let w : WasThere comes.g s.places nav place = was nav place there in
      let nav_is : place.nav ≡ w.before.nav = ap (λ (p : Place). p.nav) (sym w.is) ∙ comes.arrives.nav w.before in
      ap (λ (h : History). has_row place.nav h.rows) comes.history
      ∙ ap (λ (x : NavId). has_row x s.history.rows) nav_is
      ∙ between.rows_ nav w.before doc w.found (sym (status_same w.before) ∙ ap (λ (p : Place). p.status) w.is ∙ wakes)

  awake_then : AwakeSince s [] n
  awake_then nav place doc out there wakes =
      let w : WasThere comes.g s.places nav place = was nav place there in
      record { place = w.before; placed = w.found; wakes = sym (status_same w.before) ∙ ap (λ (p : Place). p.status) w.is ∙ wakes }

  ways_then : KeepWays s.places n.places
  ways_then =
      subst (λ (l : List Place). KeepWays s.places l) (sym comes.places)
      (ways_mapped comes.g s.places (record { nav = comes.arrives.nav; above = above_same; given = λ p test any. ap (λ (l : List EntryId). list_any test l) (comes.arrives.ever p) ∙ any }))

  pub parents_then : ParentsShown n
  parents_then nav above place up there has over =
      let w : WasThere comes.g s.places nav place = was nav place there in
      let v : WasThere comes.g s.places above up = was above up over in
      let had : has_nav w.before.above above ≡ true = ap (λ (l : List NavId). has_nav l above) (sym (above_same w.before) ∙ ap (λ (p : Place). p.above) w.is) ∙ has in
      ap (λ (o : Option DocId). is_some o) (ap (λ (p : Place). p.last) (sym v.is) ∙ comes.arrives.last v.before)
      ∙ lasts.parents nav above w.before v.before w.found had v.found

  pub takers_then : TakersServe n
  takers_then nav place req there is =
      let w : WasThere comes.g s.places nav place = was nav place there in
      comes.serves req (lasts.takers nav w.before req w.found (sym (comes.arrives.taken w.before) ∙ ap (λ (p : Place). p.taken_by) w.is ∙ is))

  -- ---- how calm the tab is

  calm_idle : IsCalm s → IsCalm n
  calm_idle calm = calm_same s n comes.history sights (λ (nav : NavId). ⊥) calm

  pub calm_then : IsCalmAfter run n
  calm_then = by_run run refl lasts.calm
    where
      here_then : UnmovedAreHere s → UnmovedAreHere n
      here_then here nav place doc there wakes has unmoved =
          let w : WasThere comes.g s.places nav place = was nav place there in
          here_same s n comes.history place w.before (ap (λ (p : Place). p.nav) (sym w.is) ∙ comes.arrives.nav w.before) (ap (λ (p : Place). p.given) (sym w.is) ∙ given_is w.before)
          (here nav w.before doc w.found (sym (status_same w.before) ∙ ap (λ (p : Place). p.status) w.is ∙ wakes) (ap (λ (h : History). has_row nav h.rows) (sym comes.history) ∙ has) (sym (comes.moved nav) ∙ unmoved))

      by_run : (r : Option ReqId) → run ≡ r → IsCalmAfter r s → IsCalmAfter r n
      by_run None is calm = calm_idle calm
      by_run (Some req) is calm = (here_then calm.0, rooted_kept s n comes.history sights comes.states calm.1)

  yet_of : (r : Option ReqId) → IsCalmAfter r n → CalmUnless IsCalmYet r n
  yet_of None calm = calm_but n calm (λ (nav : NavId). has_row nav n.history.rows ≡ false)
  yet_of (Some req) calm = tt

  unmoved_of : (r : Option ReqId) → IsCalmAfter r n → UnmovedAreHere n
  unmoved_of None calm = calm_unmoved n calm
  unmoved_of (Some req) calm = calm.0

  rooted_of : (r : Option ReqId) → IsCalmAfter r n → AreRooted n
  rooted_of None calm = calm_rooted n calm
  rooted_of (Some req) calm = calm.1

  -- ---- who is visited in need

  needs_new : run ≡ None → NeedIsNew n
  needs_new is nav place there need =
      let calm : IsCalmAfter None n = subst (λ (r : Option ReqId). IsCalmAfter r n) is calm_then in
      let idle : aim_of n ≡ n.history.current = aim_is n run tab.asked goal goal_then ∙ ap (λ (r : Option ReqId). aim_in n.history r goal) is in
      calm_need n tab.standing idle tab.sound tab.hangs (calm_but n calm (λ (x : NavId). has_row x n.history.rows ≡ false)) nav place there need

  moves_then : (r : Option ReqId) → run ≡ r → IsCalmAfter r n → (cause : Why) → MovesVisited n (show_why r cause)
  moves_then None is calm cause nav place there need epoch =
      let zero_ : place.epoch.0 ≡ 0 = needs_new is nav place there need in
      absurd (omega (arith, zero_, epoch))
  moves_then (Some req) is calm cause nav place there need epoch =
      let it = tab.asked.runs req is in
      let may : MayServe n req = subst (λ (r : Option ReqId). MayCause n (show_why r whys.Start)) is (show_causes n run tab.asked whys.Start (λ r never. absurd cc)) req refl in
      run_moves n req it.q nav it.found it.traverses ((may.begun it.q it.found).traverses it.traverses) (tab.asked.passed req it.q it.found)

  -- ---- all of it, where no ongoing load was held back

  pub taking_then : (e : InEvent) → s ≡ seen_start e → AreUnheld e n → IsTaking e run blame n
  taking_then e same unheld =
      record {
        open_ = λ cause may. record {
          may = may;
          since = record {
            distinct = subst (λ (x : Seen). AreDistinct x.places) same (places_distinct s between.tab.sound between.tab.hangs);
            homed = (homes_log e.checking e.start (subst (λ (x : Seen). AreHomed x) same between.tab.homes)).homed;
            ways = subst (λ (x : Seen). KeepWays x.places n.places) same ways_then;
          };
          unwoken = λ nav place doc others at wakes. (let w : WasAwake s nav doc = awake_then nav place doc others at wakes in record { place = w.place; placed = ap (λ (x : Seen). place_of x nav) (sym same) ∙ w.placed; wakes = w.wakes });
          still = λ nav place doc at wakes. inl (record { place = comes.g place; placed = still nav place (ap (λ (x : Seen). place_of x nav) same ∙ at); wakes = status_same place ∙ wakes });
          moves = moves_then run refl calm_then cause;
          leavers = run_leavers n run tab.asked needs_new cause;
          were = comes.were;
          parents = parents_then;
          held = unheld;
          takers = takers_then;
        };
        loads = loads_of run;
        blamed = λ doc state stray. blamed_of doc state stray (comes.strays doc state stray);
        calm = yet_of run calm_then;
        unmoved = unmoved_of run calm_then;
        rooted = rooted_of run calm_then;
        live = live_then;
      }
    where
      -- nobody is awake on a document whose navigable has no entry
      blamed_of : (doc : DocId) (state : StateId) → IsStray n doc state → IsLeftStray n blame doc state ⊎ IsBlamed n blame doc state → IsBlamed n blame doc state
      blamed_of doc state stray (inr it) = it
      blamed_of doc state stray (inl it) =
          record {
            req = it.req;
            noted = it.noted;
            may = it.may;
            moves = λ nav place other under placed wakes at is. absurd (let never : true ≡ false = sym (rows_then nav place doc placed wakes) ∙ ap (λ (x : NavId). has_row x n.history.rows) (sym (own_document run ids hand n tab nav place doc stray.document placed wakes stray.found)) ∙ it.bare stray.document stray.found in cc);
            leaves = λ nav place placed wakes. absurd (let never : true ≡ false = sym (rows_then nav place doc placed wakes) ∙ ap (λ (x : NavId). has_row x n.history.rows) (sym (own_document run ids hand n tab nav place doc stray.document placed wakes stray.found)) ∙ it.bare stray.document stray.found in cc);
          }

      loads_of : (r : Option ReqId) → MayStand r n
      loads_of None = stand_bare n stand_then
      loads_of (Some req) = bare_move n (stand_bare n stand_then)
