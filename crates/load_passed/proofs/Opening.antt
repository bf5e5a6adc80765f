-- What a pass asks is so still once the document of a load that has passed its check is being made, whatever orders are for.
use Rattle.leave_facts.specs.Leaving.{IsFromAbove, IsLeaver, leaves_nav}
use Rattle.load_passed.proofs.Begun as begun
use Rattle.load_passed.proofs.Follows as follows
use Rattle.load_passed.proofs.Kept as kept
use Rattle.load_passed.proofs.Sent as sent
use Rattle.load_passed.proofs.Sent.{order_of}
use Rattle.load_passed.proofs.Settled as settled
use Rattle.load_passed.specs.Passing.{InLoadPass, IsToMake}
use Rattle.log_model.specs.AfterDocuments.{new_document}
use Rattle.log_model.specs.History.{History, has_nav, has_row}
use Rattle.log_model.specs.Orders.{is_usable}
use Rattle.log_model.specs.Places.{aim_of, is_traversal, is_under_way, way_to}
use Rattle.log_model.specs.Seen.{Asked, Document, Place, Seen, document_of, place_of, request_of}
use Rattle.log_model.specs.declared.job.Job.{Job}
use Rattle.log_model.specs.declared.job.Task.TheVariants as tasks
use Rattle.log_model.specs.declared.job.Why.TheVariants as whys
use Rattle.log_model.specs.declared.job.Why.{Why}
use Rattle.log_model.specs.declared.request.Request.{Request}
use Rattle.log_model.specs.declared.row_kind.RowKind.TheVariants as rows
use Rattle.log_model.specs.declared.row_kind.RowKind.{RowKind}
use Rattle.row_facts.proofs.WalkRows.Sinces.{places_since}
use Rattle.row_facts.proofs.WalkRows.Walks.{visited_same}
use Rattle.row_facts.specs.WalkRows.Since.{IsVisitedInNeed, MovesVisited}
use Rattle.seen_facts.proofs.Coord.Unread.{next}
use Rattle.seen_facts.proofs.Load.Rows.{req_same}
use Rattle.seen_facts.proofs.Mover.Stays.{KeepWays}
use Rattle.seen_facts.specs.LoadEnds.Standing.{is_reached}
use Rattle.seen_laws.specs.InEvent.{now_of}
use Rattle.std.proofs.Common.{Bool, List, None, Option, Some, [], ap, false, inl, inr, refl, subst, sym, true, ◌&&◌, ◌+◌, ◌==◌, ◌∙◌, ◌∷◌, ◌≡◌, ◌⊎◌}
use Rattle.std.proofs.lemmas.Bool.{and_parts}
use Rattle.std.specs.Prelude.{is_none, option_map}
use Rattle.tab_doors.specs.Orders.{next_order}
use Rattle.tab_doors.specs.Working.{IsAtWork, KeepsStore}
use Rattle.tab_doors.specs.declared.tables.Tables.{Tables}
use Rattle.tab_facts.proofs.Calm.Sames.{IsUsableAt, around_kept, sights_same, yet_kept}
use Rattle.tab_ids.specs.declared.DocId.{DocId}
use Rattle.tab_ids.specs.declared.NavId.{NavId}
use Rattle.tab_ids.specs.declared.ProcId.{ProcId}
use Rattle.tab_ids.specs.declared.ReqId.{ReqId}
use Rattle.tab_ids.specs.declared.StateId.{StateId}
use Rattle.tab_moves.specs.Making.{home_in}
use Rattle.tab_one_pass.specs.Passing.{IsOpen}
use Rattle.tab_one_pass.specs.Passing.{LeavesVisited}
use Rattle.tab_settles.specs.Settling.{FreesVisited}
use Rattle.tab_settles.proofs.Lates.{KeepsStep, only_step, step_then}
use Rattle.tab_settles.specs.PassedOn.{IsLoadOf as LoadOf, MayStand, StandOrMove, show_why}
use Rattle.tab_settles.specs.Settling.{IsAppliedFor, IsCalmBefore}
use Rattle.tab_stands.proofs.PassedOn.{IsBare, IsUnsettled, StandOrBare, still_on, way_same}

module _ (l : InLoadPass) (u : Tables) (it : IsToMake l u) (proc : ProcId) (home : home_in l.event.header u l.nav l.address ≡ Some proc) (y : Tables) (last : List RowKind) (work_y : IsAtWork l.event last y) (last_is : last ≡ rows.Sent (order_of l u proc) ∷ []) (keeps_y : KeepsStore u y) where
  abbrev s : Seen
  s = l.before

  abbrev m : Seen
  m = now_of l.event []

  abbrev order : Job
  order =
      next_order (now_of l.event []).jobs proc (record { 0 = u.documents + 1 }) (whys.Req l.req) (tasks.Populate l.nav l.state l.address false)

  abbrev fin : Seen
  fin = next (now_of l.event []) l.event.event l.event.actor (rows.Sent order)

  abbrev new : Document
  new = new_document (now_of l.event []) order l.nav l.state

  is_fin : now_of l.event last ≡ fin
  is_fin = sent.is_fin l u it proc home y last work_y last_is keeps_y

  places_same : fin.places ≡ s.places
  places_same = kept.places_same l u it proc home y last work_y last_is keeps_y

  history_same : fin.history ≡ s.history
  history_same = ap (λ (x : Seen). x.history) it.now

  aim_same : aim_of fin ≡ aim_of s
  aim_same = kept.aim_fin l u it proc home y last work_y last_is keeps_y

  place_on : (nav : NavId) → place_of fin nav ≡ place_of s nav
  place_on = kept.place_on l u it proc home y last work_y last_is keeps_y

  ways : (nav : NavId) → way_to fin nav ≡ way_to s nav
  ways nav = way_same s fin nav (ap (option_map (λ (x : Place). x.above)) (place_on nav))

  visited_back : (place : Place) → IsVisitedInNeed fin place → IsVisitedInNeed s place
  visited_back = visited_same s fin places_same history_same aim_same

  visited_on : (place : Place) → IsVisitedInNeed s place → IsVisitedInNeed fin place
  visited_on = visited_same fin s (sym places_same) (sym history_same) (sym aim_same)

  -- ---- who is visited in need

  moves_fin : (why : Why) → MovesVisited s why → MovesVisited fin why
  moves_fin why so nav place there need epoch =
      (kept.most l u it proc home y last work_y last_is keeps_y).moved why nav (so nav place (sym (place_on nav) ∙ there) (visited_back place need) epoch)

  leaver_fin : (why : Why) (nav : NavId) → IsLeaver s why nav → IsLeaver fin why nav
  leaver_fin why nav by = by_own (by.req.0 == l.req.0) refl
    where
      above : (x y_ : Asked) → y_.what ≡ x.what → y_.is_started ≡ x.is_started → y_.ending ≡ x.ending → IsFromAbove s x nav → IsFromAbove fin y_ nav
      above x y_ what started ended its =
          record {
            started = started ∙ its.started;
            ended = ap is_none ended ∙ its.ended;
            at = its.at;
            leaves = ap (λ (w : Request). leaves_nav w) what ∙ its.leaves;
            above = ap (λ (navs : List NavId). has_nav navs its.at) (ways nav) ∙ its.above;
          }

      old : ((is_traversal by.q.what && is_under_way by.q) ≡ true) ⊎ IsFromAbove s by.q nav → ((is_traversal by.q.what && is_under_way by.q) ≡ true) ⊎ IsFromAbove fin by.q nav
      old (inl goes) = inl goes
      old (inr its) = inr (above by.q by.q refl refl refl its)

      -- the load itself hadn't begun
      never : ((is_traversal by.q.what && is_under_way by.q) ≡ true) ⊎ IsFromAbove s by.q nav → by.q ≡ it.p → IsLeaver fin why nav
      never (inl goes) same =
          let off : is_traversal it.p.what ≡ false = ap is_traversal it.unbegun.what in
          let on : is_traversal it.p.what ≡ true = ap (λ (x : Asked). is_traversal x.what) (sym same) ∙ (and_parts (is_traversal by.q.what) (is_under_way by.q) goes).0 in
          let no : true ≡ false = sym on ∙ off in
          absurd cc
      never (inr its) same =
          let no : true ≡ false = sym its.started ∙ ap (λ (x : Asked). x.is_started) same ∙ it.unbegun.unstarted in
          absurd cc

      by_own : (b : Bool) → (by.req.0 == l.req.0) ≡ b → IsLeaver fin why nav
      by_own false apart =
          record { req = by.req; q = by.q; why = by.why; found = kept.other_same l u it proc home y last work_y last_is keeps_y by.req apart ∙ by.found; leaves = old by.leaves }
      by_own true is =
          let two : Some by.q ≡ Some it.p = sym by.found ∙ ap (λ (k : ReqId). request_of s k) (req_same by.req l.req is) ∙ it.unbegun.there in
          let one : by.q ≡ it.p = cc in
          never by.leaves one

  leavers_fin : (why : Why) → LeavesVisited s why → LeavesVisited fin why
  leavers_fin why so nav place there need epoch =
      leaver_fin why nav (so nav place (sym (place_on nav) ∙ there) (visited_back place need) epoch)

  pub frees_fin : FreesVisited l.event l.before → FreesVisited l.event (next (now_of l.event []) l.event.event l.event.actor (rows.Sent (order_of l u proc)))
  frees_fin frees nav place there need epoch =
      frees nav place (sym (place_on nav) ∙ there) (visited_back place need) epoch

  -- ---- what goes on until the walk

  pub open_fin : (run : Option ReqId) (cause : Why) → IsOpen l.event run cause l.before → IsOpen l.event run cause (next (now_of l.event []) l.event.event l.event.actor (rows.Sent (order_of l u proc)))
  open_fin run cause so =
      record {
        may = kept.causes_fin l u it proc home y last work_y last_is keeps_y cause so.may;
        since = record { distinct = so.since.distinct; homed = so.since.homed; ways = subst (λ (p : List Place). KeepWays l.event.start.places p) (sym places_same) so.since.ways };
        unwoken = places_since l.event.start s [] so.unwoken fin places_same;
        still = still_on l.event.start s fin (λ nav doc was. record { place = was.place; placed = place_on nav ∙ was.placed; wakes = was.wakes }) (settled.gone_on l u it proc home y last work_y last_is keeps_y) so.still;
        moves = moves_fin (show_why run cause) so.moves;
        leavers = leavers_fin (show_why run cause) so.leavers;
        were = settled.were_fin l u it proc home y last work_y last_is keeps_y so.were;
        parents = settled.parents_fin l u it proc home y last work_y last_is keeps_y so.parents;
        held = settled.held_fin l u it proc home y last work_y last_is keeps_y so.held;
        takers = settled.takers_fin l u it proc home y last work_y last_is keeps_y so.takers;
      }

  -- ---- where ongoing loads are

  bare_on : (nav : NavId) → IsBare s nav → IsBare fin nav
  bare_on nav is = ap (λ (h : History). has_row nav h.rows) history_same ∙ is

  unsettled_on : (nav : NavId) → IsUnsettled s nav → IsUnsettled fin nav
  unsettled_on nav away =
      record {
        place = away.place;
        placed = place_on nav ∙ away.placed;
        mover = away.mover;
        on_way = away.on_way;
        own = away.own;
        there = place_on away.mover ∙ away.there;
        need = visited_on away.own away.need;
      }

  own_reached : (nav : NavId) → l.nav ≡ nav → is_reached fin nav ≡ true
  own_reached nav is =
      ap (λ (x : NavId). is_reached fin x) (sym is) ∙ settled.reached_on l u it proc home y last work_y last_is keeps_y l.nav it.unbegun.reached

  stand_bare : StandOrBare s → (r : ReqId) (nav : NavId) → LoadOf s r nav ⊎ ((r ≡ l.req) × (l.nav ≡ nav)) → (is_reached fin nav ≡ true) ⊎ IsBare fin nav
  stand_bare so r nav (inr is) = inl (own_reached nav is.1)
  stand_bare so r nav (inl old) = by_case (so r nav old)
    where
      by_case : (is_reached s nav ≡ true) ⊎ IsBare s nav → (is_reached fin nav ≡ true) ⊎ IsBare fin nav
      by_case (inl is) = inl (settled.reached_on l u it proc home y last work_y last_is keeps_y nav is)
      by_case (inr is) = inr (bare_on nav is)

  stand_move : StandOrMove s → (r : ReqId) (nav : NavId) → LoadOf s r nav ⊎ ((r ≡ l.req) × (l.nav ≡ nav)) → (is_reached fin nav ≡ true) ⊎ (IsUnsettled fin nav ⊎ IsBare fin nav)
  stand_move so r nav (inr is) = inl (own_reached nav is.1)
  stand_move so r nav (inl old) = by_case (so r nav old)
    where
      by_case : (is_reached s nav ≡ true) ⊎ (IsUnsettled s nav ⊎ IsBare s nav) → (is_reached fin nav ≡ true) ⊎ (IsUnsettled fin nav ⊎ IsBare fin nav)
      by_case (inl is) = inl (settled.reached_on l u it proc home y last work_y last_is keeps_y nav is)
      by_case (inr (inl is)) = inr (inl (unsettled_on nav is))
      by_case (inr (inr is)) = inr (inr (bare_on nav is))

  pub may_stand_fin : (run : Option ReqId) → MayStand run l.before → MayStand run (next (now_of l.event []) l.event.event l.event.actor (rows.Sent (order_of l u proc)))
  may_stand_fin None so = λ r nav its. stand_bare so r nav (kept.old_or_own l u it proc home y last work_y last_is keeps_y r nav its)
  may_stand_fin (Some one) so = λ r nav its. stand_move so r nav (kept.old_or_own l u it proc home y last work_y last_is keeps_y r nav its)

  -- ---- how calm the tab is

  step : KeepsStep s (now_of l.event last)
  step =
      step_then s m (now_of l.event last)
      (subst (λ (x : Seen). KeepsStep s x) (sym it.now) (begun.steps_on l it.loads s it.t it.p it.unbegun it.q it.starts it.state_is it.replaces))
      (only_step l.event [] last (sent.passing_fin l u it proc home y last work_y last_is keeps_y).work.goes (record { more = last; is = refl; each = λ kind has. (follows.quiet l u it proc home y last work_y last_is keeps_y kind has).1 }))

  applied_fin : (cause : Why) (at : NavId) → IsAppliedFor cause s at → IsAppliedFor cause fin at
  applied_fin cause at by =
      subst (λ (x : Seen). IsAppliedFor cause x at) is_fin (record {
        req = by.req;
        for_ = by.for_;
        last = record {
          mover = mover.0;
          found = mover.1;
          change = by.last.change;
          changed = mover.2;
          its = by.last.its;
          last = step.last ∙ by.last.last;
          unstood = step.unstood by.last.unstood;
        };
      })
    where
      mover : (q : Asked) × (request_of (now_of l.event last) by.req ≡ Some q) × (q.change ≡ Some by.last.change)
      mover = step.changes by.req by.last.mover by.last.change by.last.found by.last.changed

  usable : (doc : DocId) (d : Document) (state : StateId) → document_of s doc ≡ Some d → is_usable d state ≡ true → IsUsableAt fin doc state
  usable doc d state found is =
      record { d = d; found = kept.found_more l u it proc home y last work_y last_is keeps_y doc d found; usable = is }

  pub calm_before_fin : (run : Option ReqId) (cause : Why) → IsCalmBefore run cause l.before → IsCalmBefore run cause (next (now_of l.event []) l.event.event l.event.actor (rows.Sent (order_of l u proc)))
  calm_before_fin (Some run) cause calm = settled.calm_fin l u it proc home y last work_y last_is keeps_y (Some run) calm
  calm_before_fin None cause (inl yet) = inl (yet_kept s fin history_same (sights_same s fin places_same) yet)
  calm_before_fin None cause (inr around) =
      inr (around.0, (around_kept s fin history_same (sights_same s fin places_same) usable around.0 around.1.0, applied_fin cause around.0 around.1.1))
