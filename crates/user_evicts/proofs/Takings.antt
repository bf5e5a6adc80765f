-- Documents were discarded on which nobody is awake, for an eviction: what documents made may be taken after that as before, so that a pass may follow.
use Rattle.log_model.specs.Equal.{holds}
use Rattle.seen_facts.specs.Asked.Asking.{ArePlain}
use Rattle.tab_facts.proofs.Calm.Sames.{here_same, places_calm, places_rooted, yet_same}
use Rattle.tab_facts.specs.Calm.Calm.{CalmUnless, IsCalmYet, UnmovedAreHere, NeedIsNew}
use Rattle.tab_facts.specs.Frame.Lasting.{wish}
use Rattle.row_facts.specs.Left.Left.{WereShown}
use Rattle.seen_facts.specs.Load.Loading.{look}
use Rattle.log_model.specs.History.{History, has_row, has_state}
use Rattle.log_model.specs.Orders.{ongoing_load}
use Rattle.log_model.specs.Places.{aim_of, is_moved, is_moved_in}
use Rattle.log_model.specs.Seen.{Asked, Document, Place, Seen, document_of, place_in, place_of, request_in}
use Rattle.log_model.specs.declared.job.Why.{Why}
use Rattle.seen_facts.proofs.Mover.Stays.{KeepWays}
use Rattle.seen_laws.specs.InEvent.{InEvent}
use Rattle.std.proofs.Common.{List, None, Option, Some, ap, arith, false, inl, inr, refl, subst, sym, true, ◌∙◌, ◌≡◌, ◌⊎◌, Bool}
use Rattle.std.specs.Prelude.{option_map}
use Rattle.seen_facts.specs.LoadEnds.Standing.{is_reached}
use Rattle.tab_drops.proofs.Turns.{reached_same}
use Rattle.tab_evicts.specs.Evicting.{StaysPlaced}
use Rattle.tab_ids.specs.declared.DocId.{DocId}
use Rattle.tab_ids.specs.declared.NavId.{NavId}
use Rattle.tab_ids.specs.declared.ReqId.{ReqId}
use Rattle.tab_ids.specs.declared.StateId.{StateId}
use Rattle.tab_stands.proofs.PassedOn.{IsBare, IsBegun, IsUnsettled, MayLeaveNav, causes_on, may_leave_same, new_of, run_leavers, serve_on, show_causes, still_on, takers_on, way_same}
use Rattle.tab_stands.specs.PassedOn.{IsBlamed, IsByItsOwn, IsLoadOf, IsOpen, IsStray, IsTaking, LoadsLive, LoadsMadeOwn, MayCause, MayServe, MayStand, MovedAreShown, ParentsShown, TakersServe, is_new_entry, show_why}
use Rattle.user_evicts.proofs.Lefts.{LeavesGone, read_gone}
use Rattle.row_facts.proofs.WalkRows.Moved.{run_moves}
use Rattle.row_facts.proofs.WalkRows.Walks.{visited_same}
use Rattle.row_facts.specs.WalkRows.Since.{MovesVisited}
use Rattle.seen_facts.specs.Each.Runs.{EachAsked}
use Rattle.log_model.specs.declared.job.Why.TheVariants as whys

module _ (e : InEvent) (run : Option ReqId) (blame : List (StateId × ReqId)) (s n : Seen) (at : IsTaking e run blame s) (plain : ArePlain run n) (stays : StaysPlaced s n) (left : LeavesGone s n) (were : WereShown n) where
  any_nav : NavId
  any_nav = record { 0 = 0 }

  pub history_same : n.history ≡ s.history
  history_same = (stays.leaves any_nav).history

  pub aim_still : aim_of n ≡ aim_of s
  aim_still = (stays.leaves any_nav).aim

  place_same : (nav : NavId) → place_of n nav ≡ place_of s nav
  place_same nav = ap (λ (l : List Place). place_in l nav) stays.places

  pub wishes_same : (req : ReqId) → option_map wish (request_in n.requests req) ≡ option_map wish (request_in s.requests req)
  wishes_same req = ap (λ (l : List Asked). option_map wish (request_in l req)) left.requests

  -- ---- what orders may be for, and whom requests have moved

  causes : (why : Why) → MayCause s why → MayCause n why
  causes =
      causes_on s n run plain wishes_same (λ this each. subst (λ (l : List Asked). EachAsked (IsBegun this) l) (sym left.requests) each)

  moved_same : (nav : NavId) → is_moved n nav ≡ is_moved s nav
  moved_same nav = ap (λ (asked : List Asked). is_moved_in asked nav) left.requests

  load_was : (req : ReqId) (nav : NavId) → IsLoadOf n req nav → IsLoadOf s req nav
  load_was req nav its =
      record { look = its.look; at = ap (λ (l : List Asked). option_map look (request_in l req)) (sym left.requests) ∙ its.at; ongoing = its.ongoing; loads_it = its.loads_it }

  -- ---- a pass may follow

  base : IsOpen e run whys.Start s
  base = at.open_ whys.Start (λ r never. absurd cc)

  parents : ParentsShown n
  parents nav above place up placed has there =
      base.parents nav above place up (sym (place_same nav) ∙ placed) has (sym (place_same above) ∙ there)

  takers : TakersServe n
  takers = takers_on s n causes (λ nav. ap (λ (o : Option Place). option_map (λ (x : Place). x.taken_by) o) (place_same nav)) base.takers

  -- what was discarded is so still
  gone_on : (doc : DocId) → holds (λ (d : Document). d.is_discarded) (document_of s doc) ≡ true → holds (λ (d : Document). d.is_discarded) (document_of n doc) ≡ true
  gone_on doc is = by_now (document_of n doc) refl
    where
      by_flag : (x : Document) → document_of n doc ≡ Some x → (b : Bool) → x.is_discarded ≡ b → holds (λ (d : Document). d.is_discarded) (document_of n doc) ≡ true
      by_flag x at true flag = ap (λ (o : Option Document). holds (λ (d : Document). d.is_discarded) o) at ∙ flag
      by_flag x at false flag =
          let never : true ≡ false = sym is ∙ ap (λ (o : Option Document). holds (λ (d : Document). d.is_discarded) o) (left.there doc x at flag) ∙ flag in
          absurd cc

      by_old : (o : Option Document) → document_of s doc ≡ o → document_of n doc ≡ None → holds (λ (d : Document). d.is_discarded) o ≡ true → ⊥
      by_old None at none h = cc
      by_old (Some d) at none h =
          let never : None ≡ Some d.nr = sym (ap (λ (o : Option Document). option_map (λ (x : Document). x.nr) o) none) ∙ read_gone (λ (x : Document). x.nr) (λ x. refl) s n left doc ∙ ap (λ (o : Option Document). option_map (λ (x : Document). x.nr) o) at in
          cc

      by_now : (o : Option Document) → document_of n doc ≡ o → holds (λ (d : Document). d.is_discarded) (document_of n doc) ≡ true
      by_now (Some x) at = by_flag x at x.is_discarded refl
      by_now None none = absurd (by_old (document_of s doc) refl none is)

  needs_new : run ≡ None → NeedIsNew n
  needs_new is nav place there need =
      let idle : IsOpen e None whys.Start s = subst (λ (r : Option ReqId). IsOpen e r whys.Start s) is base in
      new_of e s idle nav place (sym (place_same nav) ∙ there) (visited_same s n stays.places history_same aim_still place need)

  moves_then : (o : Option ReqId) → run ≡ o → (cause : Why) → MovesVisited n (show_why o cause)
  moves_then None is cause nav place there need epoch =
      let zero_ : place.epoch.0 ≡ 0 = needs_new is nav place there need in
      absurd (omega (arith, zero_, epoch))
  moves_then (Some req) is cause nav place there need epoch =
      let own = plain.runs req is in
      let may : MayServe n req = subst (λ (r : Option ReqId). MayCause n (show_why r whys.Start)) is (show_causes n run plain whys.Start (λ r never. absurd cc)) req refl in
      run_moves n req own.q nav own.found own.traverses ((may.begun own.q own.found).traverses own.traverses) (plain.passed req own.q own.found)

  opens : (cause : Why) → MayCause n cause → IsOpen e run cause n
  opens cause may =
      record {
        may = may;
        since = record { distinct = base.since.distinct; homed = base.since.homed; ways = subst (λ (l : List Place). KeepWays e.start.places l) (sym stays.places) base.since.ways };
        unwoken = λ nav place doc outside there wakes. base.unwoken nav place doc outside (sym (place_same nav) ∙ there) wakes;
        still = still_on e.start s n (λ nav doc was. record { place = was.place; placed = place_same nav ∙ was.placed; wakes = was.wakes }) gone_on base.still;
        moves = moves_then run refl cause;
        leavers = run_leavers n run plain needs_new cause;
        were = were;
        parents = parents;
        held = λ req nav its. base.held req nav (load_was req nav its);
        takers = takers;
      }

  -- ---- loads

  bare_on : (nav : NavId) → IsBare s nav → IsBare n nav
  bare_on nav is = ap (λ (h : History). has_row nav h.rows) history_same ∙ is

  unsettled_on : (nav : NavId) → IsUnsettled s nav → IsUnsettled n nav
  unsettled_on nav away =
      record {
        place = away.place;
        placed = place_same nav ∙ away.placed;
        mover = away.mover;
        on_way = away.on_way;
        own = away.own;
        there = place_same away.mover ∙ away.there;
        need = visited_same n s (sym stays.places) (sym history_same) (sym aim_still) away.own away.need;
      }

  stand : (r : Option ReqId) → MayStand r s → MayStand r n
  stand None so = λ req nav its. by_case nav (so req nav (load_was req nav its))
    where
      by_case : (nav : NavId) → (is_reached s nav ≡ true) ⊎ IsBare s nav → (is_reached n nav ≡ true) ⊎ IsBare n nav
      by_case nav (inl is) = inl (reached_same s n stays.places history_same aim_still nav is)
      by_case nav (inr is) = inr (bare_on nav is)
  stand (Some one) so = λ req nav its. by_case nav (so req nav (load_was req nav its))
    where
      by_case : (nav : NavId) → (is_reached s nav ≡ true) ⊎ (IsUnsettled s nav ⊎ IsBare s nav) → (is_reached n nav ≡ true) ⊎ (IsUnsettled n nav ⊎ IsBare n nav)
      by_case nav (inl is) = inl (reached_same s n stays.places history_same aim_still nav is)
      by_case nav (inr (inl is)) = inr (inl (unsettled_on nav is))
      by_case nav (inr (inr is)) = inr (inr (bare_on nav is))

  live : LoadsLive n
  live =
      record {
        awake = λ req nav its. (let up = at.live.awake req nav (load_was req nav its) in (up.0, record { place = up.1.place; placed = place_same nav ∙ up.1.placed; wakes = up.1.wakes }));
        loading = stays.loading at.live.loading;
      }

  -- ---- stray documents

  loaded_same : (state : StateId) → ongoing_load n state ≡ ongoing_load s state
  loaded_same state = ap (λ (asked : List Asked). let x : Seen = record s { requests = asked } in ongoing_load x state) left.requests

  blamed : (doc : DocId) (state : StateId) → IsStray n doc state → IsBlamed n blame doc state
  blamed doc state stray =
      record { req = it.req; noted = it.noted; may = serve_on s n it.req causes it.may; moves = λ nav place other under placed wakes there is. left.moved (whys.Req it.req) other (it.moves nav place other under (sym (place_same nav) ∙ placed) wakes (sym (place_same other) ∙ there) is); leaves = λ nav place placed wakes. leave_on nav (it.leaves nav place (sym (place_same nav) ∙ placed) wakes) }
    where
      it : IsBlamed s blame doc state
      it =
          at.blamed doc state (record {
            document = stray.document;
            found = left.there doc stray.document stray.found stray.undiscarded;
            its_state = stray.its_state;
            ready = stray.ready;
            undiscarded = stray.undiscarded;
            bare = ap (λ (h : History). has_state state h.rows) (sym history_same) ∙ stray.bare;
            unloaded = sym (loaded_same state) ∙ stray.unloaded;
          })

      leave_on : (nav : NavId) → MayLeaveNav s it.req nav → MayLeaveNav n it.req nav
      leave_on nav =
          may_leave_same s n it.req nav (serve_on s n it.req causes it.may) (ap (λ (asked : List Asked). request_in asked it.req) left.requests) (way_same s n nav (ap (option_map (λ (x : Place). x.above)) (place_same nav)))

  -- ---- where navigables are

  calm : (r : Option ReqId) → CalmUnless IsCalmYet r s → CalmUnless IsCalmYet r n
  calm None so = yet_same s n history_same (places_calm s n history_same stays.places (λ (nav : NavId). has_row nav s.history.rows ≡ false) so)
  calm (Some one) so = tt

  unmoved : UnmovedAreHere n
  unmoved nav place doc there wakes has still =
      here_same s n history_same place place refl refl (at.unmoved nav place doc (sym (place_same nav) ∙ there) wakes (ap (λ (h : History). has_row nav h.rows) (sym history_same) ∙ has) (sym (moved_same nav) ∙ still))

  -- ---- all of it

  pub gone_taking : IsTaking e run blame n
  gone_taking =
      record {
        open_ = opens;
        loads = stand run at.loads;
        blamed = blamed;
        calm = calm run at.calm;
        unmoved = unmoved;
        rooted = places_rooted s n history_same stays.places (λ doc. read_gone (λ (d : Document). d.state) (λ d. refl) s n left doc) at.rooted;
        live = live;
      }

-- who is awake and was moved by the traversal that runs was shown a document by it still
pub gone_moved : (s n : Seen) → StaysPlaced s n → LeavesGone s n → (run : Option ReqId) → MovedAreShown run s → MovedAreShown run n
gone_moved s n stays left run shown req q nav place doc is found placed wakes has =
    shown req q nav place doc is (ap (λ (l : List Asked). request_in l req) (sym left.requests) ∙ found) (ap (λ (l : List Place). place_in l nav) (sym stays.places) ∙ placed) wakes has

-- what was made of each load is by a document of its navigable still
pub gone_theirs : (s n : Seen) → LeavesGone s n → LoadsMadeOwn s → LoadsMadeOwn n
gone_theirs s n left theirs req q made found load makes =
    (by_found (document_of n made.doc) refl, its.1)
  where
    its : IsByItsOwn s q made × (is_new_entry made.what ≡ true)
    its = theirs req q made (ap (λ (l : List Asked). request_in l req) (sym left.requests) ∙ found) load makes

    navs : option_map (λ (d : Document). d.nav) (document_of n made.doc) ≡ Some its.0.d.nav
    navs = read_gone (λ (d : Document). d.nav) (λ d. refl) s n left made.doc ∙ ap (λ (o : Option Document). option_map (λ (d : Document). d.nav) o) its.0.found

    by_found : (o : Option Document) → document_of n made.doc ≡ o → IsByItsOwn n q made
    by_found None none = absurd (let never : None ≡ Some its.0.d.nav = sym (ap (λ (o : Option Document). option_map (λ (d : Document). d.nav) o) none) ∙ navs in cc)
    by_found (Some d) there =
        let both : Some d.nav ≡ Some its.0.d.nav = sym (ap (λ (o : Option Document). option_map (λ (x : Document). x.nav) o) there) ∙ navs in
        let same : d.nav ≡ its.0.d.nav = cc in
        record { d = d; found = there; nav_is = its.0.nav_is ∙ ap (λ (x : NavId). let o : Option NavId = Some x in o) (sym same) }
