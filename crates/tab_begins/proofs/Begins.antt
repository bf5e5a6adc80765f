-- A traversal has its turn after a pass: it begins, and a pass may follow; or it is refused, and all is as it was.
use Rattle.tab_facts.specs.FrameWhole.Tab.{AreAwakeWithRows}
use Rattle.seen_facts.specs.Hang.Members.{Has}
use Rattle.seen_facts.specs.Home.Homes.{document_in}
use Rattle.row_facts.specs.Left.Left.{LastWereShown, OwnersFollow, WasEverShown, WereShown}
use Rattle.seen_facts.specs.LoadEnds.Standing.{is_reached}
use Rattle.seen_facts.specs.Load.Loading.{Look, is_ongoing, look, look_of}
use Rattle.log_model.proofs.Refl.{nat_eq_refl}
use Rattle.log_model.specs.Equal.{holds}
use Rattle.log_model.specs.History.{has_nav, has_row, has_state}
use Rattle.log_model.specs.Orders.{ongoing_load}
use Rattle.log_model.specs.Places.{aim_of, all_stand, has_arrived, is_awake, is_given_target, is_lost_in, is_placed, is_shown, is_standing, way_of, way_to}
use Rattle.log_model.specs.Seen.{Asked, Document, Place, Seen, Status, asleep, awake, document_of, lost, place_in, place_of, request_in}
use Rattle.log_model.specs.declared.job.Why.{Why}
use Rattle.log_model.specs.declared.row.Row.{Row}
use Rattle.seen_facts.proofs.Mover.Stays.{KeepWays}
use Rattle.seen_facts.specs.Rest.Between.{IsOfLoad}
use Rattle.std.proofs.Common.{Bool, List, None, Option, Some, [], ap, false, inl, inr, not, refl, subst, sym, true, ℕ, ◌&&◌, ◌||◌, ◌∙◌, ◌∷◌, ◌≡◌, ◌⊎◌}
use Rattle.std.proofs.lemmas.Bool.{and_parts}
use Rattle.std.specs.List.{list_all, list_any}
use Rattle.std.specs.Option.{option_map_or}
use Rattle.std.specs.Prelude.{option_map}
use Rattle.tab_facts.proofs.Calm.Awakes.{lost_none}
use Rattle.tab_begins.proofs.Downs.{AllPlaced, IsInNeed, down}
use Rattle.tab_begins.proofs.Standings.{all_of, in_place}
use Rattle.tab_one_pass.proofs.PassedOn.{stand_reached}
pub use Rattle.tab_one_pass.proofs.PassedOn.{each_stands}
use Rattle.tab_one_pass.specs.Passing.{AreLeftStrays, AreUnheld, HasPassed, IsLeftStray, IsLoadOf, IsOpen, MayCause, MayServe, ParentsShown, StandOrMove, StillAwake, TakersServe}
pub use Rattle.tab_one_pass.specs.Passing.{IsBare, IsUnsettled}
use Rattle.tab_ids.specs.declared.DocId.{DocId}
use Rattle.tab_ids.specs.declared.NavId.{NavId}
use Rattle.tab_ids.specs.declared.ReqId.{ReqId}
use Rattle.tab_ids.specs.declared.StateId.{StateId}
pub use Rattle.tab_one_pass.proofs.Opens.{serve_on, takers_on}
pub use Rattle.tab_one_pass.proofs.Gives.{run_leaver, run_leavers, show_causes, still_left, still_on}
use Rattle.tab_one_pass.specs.PassedOn.{InPass, IsTab}
use Rattle.tab_one_pass.proofs.Stands.{IsReachedAt, reached_at}
pub use Rattle.tab_one_pass.proofs.Calms.{loaded_never}
pub use Rattle.tab_one_pass.proofs.Dropped.{of_load}
use Rattle.tab_applies.specs.PassedOn.{LeavesAlone}
use Rattle.seen_facts.proofs.Walk.Placed.{found_nav}
use Rattle.row_facts.proofs.WalkRows.Moved.{run_moves}
use Rattle.row_facts.proofs.WalkRows.Sinces.{places_since}
use Rattle.row_facts.specs.WalkRows.Since.{AwakeSince, MovesVisited}
use Rattle.log_model.specs.declared.job.Why.TheVariants as whys

-- who is reached is so, where places, entries and the aim are as they were
abbrev reached_by : List Row → List Place → ℕ → NavId → Bool
reached_by rows places step nav =
    list_all (λ (n : NavId). is_shown rows step n && holds (is_standing rows step) (place_in places n)) (option_map_or way_of (place_in places nav) (nav ∷ []))
    && holds (λ (place : Place). not (list_any (is_lost_in places) place.above)) (place_in places nav)

reached_rows : (s n : Seen) → n.places ≡ s.places → n.history.rows ≡ s.history.rows → aim_of n ≡ aim_of s → (nav : NavId) → is_reached s nav ≡ true → is_reached n nav ≡ true
reached_rows s n places rows aim nav is =
    ap (λ (l : List Row). reached_by l n.places (aim_of n) nav) rows ∙ ap (λ (l : List Place). reached_by s.history.rows l (aim_of n) nav) places ∙ ap (λ (k : ℕ). reached_by s.history.rows s.places k nav) aim ∙ is

-- places, documents and entries are as they were, and each ongoing load was one
module _ (p : InPass) (s n : Seen) (alone : LeavesAlone s n) (loads : (req : ReqId) (l : Look) → look_of n req ≡ Some l → is_ongoing l ≡ true → look_of s req ≡ Some l) (still : (req : ReqId) (l : Look) → look_of s req ≡ Some l → is_ongoing l ≡ true → look_of n req ≡ Some l) (passed : HasPassed p.event s) where
  place_same : (nav : NavId) → place_of n nav ≡ place_of s nav
  place_same nav = ap (λ (l : List Place). place_in l nav) alone.places

  own_has : (nav : NavId) (navs : List NavId) → has_nav (nav ∷ navs) nav ≡ true
  own_has nav navs = ap (λ (b : Bool). b || has_nav navs nav) (nat_eq_refl nav.0)

  pub load_was : (req : ReqId) (nav : NavId) → IsLoadOf n req nav → IsLoadOf s req nav
  load_was req nav its = record { look = its.look; at = loads req its.look its.at its.ongoing; ongoing = its.ongoing; loads_it = its.loads_it }

  pub rows_on : AreAwakeWithRows n
  rows_on nav place doc at wakes =
      ap (λ (l : List Row). has_row place.nav l) alone.rows_ ∙ passed.rows_ nav place doc (sym (place_same nav) ∙ at) wakes

  pub were_on : WereShown n
  were_on =
      record {
        lasts = subst (λ (l : List Place). LastWereShown l) (sym alone.places) passed.walked.were.lasts;
        kept = λ doc there. subst (λ (l : List Place). WasEverShown l doc) (sym alone.places) (passed.walked.were.kept doc (subst (λ (l : List DocId). Has l doc) alone.kept there));
        owned = subst (λ (l : List Place). OwnersFollow l) (sym alone.places) passed.walked.were.owned;
      }

  pub parents_on : ParentsShown n
  parents_on nav above place up placed has there =
      passed.walked.parents nav above place up (sym (place_same nav) ∙ placed) has (sym (place_same above) ∙ there)

  pub ways_on : KeepWays p.event.start.places n.places
  ways_on = subst (λ (l : List Place). KeepWays p.event.start.places l) (sym alone.places) passed.walked.since.ways

  pub held_on : AreUnheld p.event n
  held_on req nav its = passed.held req nav (load_was req nav its)

  pub takers_then : TakersServe n
  takers_then = takers_on s n alone.causes (λ nav. ap (λ (o : Option Place). option_map (λ (q : Place). q.taken_by) o) (place_same nav)) passed.takers

  -- a stray document was stray
  pub strays_on : (blame : List (StateId × ReqId)) → AreLeftStrays s blame → AreLeftStrays n blame
  strays_on blame left doc state stray = by_load (ongoing_load s state) refl
    where
      found : document_of s doc ≡ Some stray.document
      found = ap (λ (l : List Document). document_in l doc) (sym alone.documents) ∙ stray.found

      bare : has_state state s.history.rows ≡ false
      bare = ap (λ (l : List Row). has_state state l) (sym alone.rows_) ∙ stray.bare

      by_look : (its : IsOfLoad s stray.document) → (o : Option Asked) → request_in n.requests its.req ≡ o → option_map look o ≡ Some (look its.q) → ⊥
      by_look its None none same = let never : None ≡ Some (look its.q) = same in cc
      by_look its (Some r) there same =
          let one : look r ≡ look its.q = cc in
          loaded_never n state stray.unloaded its.req r stray.document.state there (ap is_ongoing one ∙ its.ongoing) (ap (λ (l : Look). l.state) one ∙ its.own) (ap (λ (x : StateId). x.0) stray.its_state)

      loaded : (q : Asked) → ongoing_load s state ≡ Some q → ⊥
      loaded q is =
          let its : IsOfLoad s stray.document = of_load s stray.document q (ap (λ (x : StateId). ongoing_load s x) stray.its_state ∙ is) in
          let on : look_of n its.req ≡ Some (look its.q) = still its.req (look its.q) (ap (option_map look) its.found) its.ongoing in
          by_look its (request_in n.requests its.req) refl on

      by_load : (o : Option Asked) → ongoing_load s state ≡ o → IsLeftStray n blame doc state
      by_load (Some q) is = absurd (loaded q is)
      by_load None is =
          let it : IsLeftStray s blame doc state = left doc state (record { document = stray.document; found = found; its_state = stray.its_state; ready = stray.ready; undiscarded = stray.undiscarded; bare = bare; unloaded = is }) in
          record {
            req = it.req;
            noted = it.noted;
            may = serve_on s n it.req alone.causes it.may;
            bare = λ d at. ap (λ (l : List Row). has_row d.nav l) alone.rows_ ∙ it.bare d (ap (λ (l : List Document). document_in l doc) (sym alone.documents) ∙ at);
          }

  -- ---- where the aim is as it was, it has passed still

  pub passed_on : aim_of n ≡ aim_of s → (all_stand n (aim_of n) ≡ true → all_stand s (aim_of s) ≡ true) → HasPassed p.event n
  passed_on aim stand =
      record {
        walked = record {
          since = record { distinct = passed.walked.since.distinct; homed = passed.walked.since.homed; ways = ways_on };
          unwoken = λ all. places_since p.event.start s [] (passed.walked.unwoken (stand all)) n alone.places;
          still = λ all. still_left p.event.start s n alone.places alone.documents (passed.walked.still (stand all));
          were = were_on;
          parents = parents_on;
          loads = each_stands n (λ req nav its. reached_rows s n alone.places alone.rows_ aim nav (stand_reached s passed.walked.loads req nav (load_was req nav its)));
        };
        held = held_on;
        takers = takers_then;
        rows_ = rows_on;
      }

  -- ---- where a traversal runs then

  module _ (tab : IsTab None p.loads p.hand s) (run : ReqId) (tab_n : IsTab (Some run) p.loads p.hand n) where
    -- the navigable of an ongoing load is awake
    record IsAwakeOn (place : Place) : Type 0 where
      doc : DocId
      is : place.status ≡ awake doc

    awake_on : (place : Place) → is_awake place ≡ true → IsAwakeOn place
    awake_on place wakes = by_status place.status refl wakes
      where
        by_status : (status : Status) → place.status ≡ status → is_awake (record place { status = status }) ≡ true → IsAwakeOn place
        by_status (awake doc) is h = record { doc = doc; is = is }
        by_status lost is h = absurd cc
        by_status asleep is h = absurd cc

    -- who is placed stood
    stood_at : (nav : NavId) (place : Place) → place_of s nav ≡ Some place → is_placed s (aim_of s) nav ≡ true → is_standing s.history.rows (aim_of s) place ≡ true
    stood_at nav place found placed =
        sym (ap (λ (o : Option Place). holds (is_standing s.history.rows (aim_of s)) o) found)
        ∙ (and_parts (is_shown s.history.rows (aim_of s) nav) (holds (is_standing s.history.rows (aim_of s)) (place_of s nav)) placed).1

    wakes_now : (nav : NavId) (its : IsReachedAt s nav) → IsAwakeOn its.place
    wakes_now nav its =
        let here = in_place s.history.rows (aim_of s) its.place (tab.standing nav its.place its.placed).unlost (stood_at nav its.place its.placed (its.each nav (own_has nav its.place.above))) in
        awake_on its.place (and_parts (is_awake its.place) (is_given_target s.history.rows (aim_of s) its.place) here).0

    -- so it has arrived, and so have all above it
    arrived : (nav : NavId) (its : IsReachedAt s nav) (x : NavId) (place : Place) → has_nav (nav ∷ its.place.above) x ≡ true → place_of n x ≡ Some place → has_arrived place ≡ true
    arrived nav its x place has found =
        (and_parts (is_given_target s.history.rows (aim_of s) place && not place.is_unmet) (has_arrived place) (stood_at x place (sym (place_same x) ∙ found) (its.each x has))).1

    way_is : (nav : NavId) (place : Place) → place_of n nav ≡ Some place → way_to n nav ≡ nav ∷ place.above
    way_is nav place found =
        ap (λ (o : Option Place). option_map_or way_of o (nav ∷ [])) found
        ∙ ap (λ (x : NavId). x ∷ place.above) (found_nav n.places nav place found)

    -- it stands at the new aim, or moves
    pub loads_move : StandOrMove n
    loads_move req nav its =
        by_way (down (Some run) p.loads p.hand n tab_n rows_on nav at_.place on.doc there on.is (arrived nav at_))
      where
        reached : is_reached s nav ≡ true
        reached = stand_reached s passed.walked.loads req nav (load_was req nav its)

        at_ : IsReachedAt s nav
        at_ = reached_at s nav reached

        on : IsAwakeOn at_.place
        on = wakes_now nav at_

        there : place_of n nav ≡ Some at_.place
        there = place_same nav ∙ at_.placed

        by_way : AllPlaced (Some run) p.loads p.hand n tab_n rows_on (nav ∷ at_.place.above) ⊎ IsInNeed (Some run) p.loads p.hand n tab_n rows_on (nav ∷ at_.place.above) → (is_reached n nav ≡ true) ⊎ (IsUnsettled n nav ⊎ IsBare n nav)
        by_way (inl all) =
            inl (rw (all_of (is_placed n (aim_of n)) (way_to n nav) (λ x has. all x (ap (λ (l : List NavId). has_nav l x) (sym (way_is nav at_.place there)) ∙ has))) (ap (λ (o : Option Place). holds (λ (x : Place). not (list_any (is_lost_in n.places) x.above)) o) there ∙ ap not (lost_none n tab_n.standing at_.place.above)))
        by_way (inr it) =
            inr (inl (record {
              place = at_.place;
              placed = there;
              mover = it.mover;
              on_way = ap (λ (x : NavId). has_nav (x ∷ at_.place.above) it.mover) (found_nav n.places nav at_.place there) ∙ it.on_way;
              own = it.own;
              there = it.there;
              need = it.need;
            }))

    -- whoever is visited then is moved by the traversal
    its : MayServe n run
    its = show_causes n (Some run) tab_n.asked whys.Start (λ r never. absurd cc) run refl

    -- where who is awake was so as the event began, and the other way round
    pub open_then : AwakeSince p.event.start [] s → StillAwake p.event.start s → (cause : Why) → MayCause n cause → IsOpen p.event (Some run) cause n
    open_then unwoken still_awake cause may =
        record {
          may = may;
          since = record { distinct = passed.walked.since.distinct; homed = passed.walked.since.homed; ways = ways_on };
          unwoken = places_since p.event.start s [] unwoken n alone.places;
          still = still_left p.event.start s n alone.places alone.documents still_awake;
          moves = moves_then;
          leavers = λ nav place at need epoch. run_leaver n run tab_n.asked nav;
          were = were_on;
          parents = parents_on;
          held = held_on;
          takers = takers_then;
        }
      where
        moves_then : MovesVisited n (whys.Req run)
        moves_then nav place at need epoch =
            let it = tab_n.asked.runs run refl in
            run_moves n run it.q nav it.found it.traverses ((its.begun it.q it.found).traverses it.traverses) (tab_n.asked.passed run it.q it.found)
