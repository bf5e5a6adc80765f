-- Questions are sent, and a document state is numbered: in the log without questions that changes numbers alone, and that no order was just finished. What holds before a pass holds still.
use Rattle.log_model.specs.Equal.{holds}
use Rattle.log_model.specs.Places.{is_traversal, is_under_way}
use Rattle.log_model.specs.Seen.{Document, Place, Seen, document_of}
use Rattle.log_model.specs.declared.job.Why.TheVariants as whys
use Rattle.log_model.specs.declared.job.Why.{Why}
use Rattle.leave_facts.specs.Leaving.{IsFromAbove, IsLeaver}
use Rattle.log_model.specs.declared.row_kind.RowKind.{RowKind}
use Rattle.move_queue.specs.declared.queue_step.QueueStep.{QueueStep}
use Rattle.row_facts.specs.Left.Left.{WereShown}
use Rattle.row_facts.specs.WalkRows.Since.{IsVisitedInNeed, WasAwake}
use Rattle.seen_facts.specs.LoadEnds.Standing.{is_reached}
use Rattle.seen_facts.specs.Mover.Movers.{IsMovedBy}
use Rattle.seen_laws.specs.InEvent.{InEvent, cut}
use Rattle.std.proofs.Common.{Bool, List, None, Option, Some, [], arith, inl, inr, refl, true, ℕ, ◌&&◌, ◌+◌, ◌≡◌, ◌≤◌, ◌⊎◌}
use Rattle.tab_drops.specs.Dropping.{IsBare, IsUnsettled}
use Rattle.tab_facts.proofs.Calm.Sames.{calm_same, here_same, rooted_kept}
use Rattle.tab_facts.specs.Last.Lasting.{AreLasting}
use Rattle.tab_facts.specs.TabGoing.Going.{AreCounted, AreHeldUp, AreSteps, IsGoing}
use Rattle.tab_ids.specs.declared.DocId.{DocId}
use Rattle.tab_ids.specs.declared.NavId.{NavId}
use Rattle.tab_ids.specs.declared.ReqId.{ReqId}
use Rattle.tab_ids.specs.declared.StateId.{StateId}
use Rattle.tab_one_pass.proofs.Lives.{live_then}
use Rattle.tab_settles.proofs.Lates.{off_still}
use Rattle.tab_settles.specs.Offs.{LateKnown}
use Rattle.tab_settles.specs.PassedOn.{AreBlamed, HaveJoined, IsOpen, LoadsLive, LoadsMadeOwn, MayServe, MayStand, show_why}
use Rattle.tab_settles.specs.Settling.{IsCalmBefore}
use Rattle.tab_stands.specs.PassedOn.{HasQueue, IsLoadOf}
use Rattle.tab_sweeps.specs.Sweeping.{IsBlamed, IsOverNav, MayLeaveNav, NeverBegins}
use Rattle.unasked.proofs.Whole.{silent}
use Rattle.unasked_tab.proofs.Silent.{silent_tab}

module _ (s : Seen) (event jobs states : ℕ) where
  -- the log then
  abbrev pub n : Seen
  n = silent s event jobs states

  -- ---- what goes on from row to row

  lasting_stays : AreLasting s → AreLasting n
  lasting_stays are =
      record {
        shown = are.shown;
        made = are.made;
        poked = are.poked;
        taken = are.taken;
        populates = are.populates;
        moves = record { unmoved = are.moves.unmoved; there = are.moves.there; goes = are.moves.goes };
      }

  counted_stays : s.jobs ≤ jobs → AreCounted s → AreCounted n
  counted_stays more are =
      record {
        entries = are.entries;
        epochs = λ nav place at. (let low : place.epoch.0 ≤ s.jobs + 1 = are.epochs nav place at in omega (arith, low, more));
      }

  steps_stay : AreSteps s → AreSteps n
  steps_stay are = record { rows_ = are.rows_; current = are.current }

  held_stay : (run : Option ReqId) → AreHeldUp run s → AreHeldUp run n
  held_stay None held = tt
  held_stay (Some run) held = held

  pub going_stays : s.jobs ≤ jobs → s.states ≤ states → (run : Option ReqId) (loads : List ReqId) → IsGoing run loads [] s → IsGoing run loads [] (silent s event jobs states)
  going_stays more above run loads going =
      record {
        tab = silent_tab s event jobs states above run loads [] going.tab;
        lasting = lasting_stays going.lasting;
        counted = counted_stays more going.counted;
        steps = steps_stay going.steps;
        held = held_stay run going.held;
        room = going.room;
      }

  were_stay : WereShown s → WereShown n
  were_stay were = record { lasts = were.lasts; kept = were.kept; owned = were.owned }

  -- ---- what orders are for

  serves : (req : ReqId) → MayServe s req → MayServe n req
  serves req may = record { goes = may.goes; begun = may.begun }

  pub need_back : (place : Place) → IsVisitedInNeed (silent s event jobs states) place → IsVisitedInNeed s place
  need_back place need = record { shown = need.shown; reached = need.reached; needs = need.needs }

  moved_on : (why : Why) (nav : NavId) → IsMovedBy s why nav → IsMovedBy n why nav
  moved_on why nav by = record { req = by.req; q = by.q; why = by.why; there = by.there; moves = by.moves }

  leaves_on : (why : Why) (nav : NavId) → IsLeaver s why nav → IsLeaver n why nav
  leaves_on why nav by =
      record { req = by.req; q = by.q; why = by.why; found = by.found; leaves = by_case by.leaves }
    where
      by_case : ((is_traversal by.q.what && is_under_way by.q) ≡ true) ⊎ IsFromAbove s by.q nav → ((is_traversal by.q.what && is_under_way by.q) ≡ true) ⊎ IsFromAbove n by.q nav
      by_case (inl goes) = inl goes
      by_case (inr from) = inr (record { started = from.started; ended = from.ended; at = from.at; leaves = from.leaves; above = from.above })

  load_back : (req : ReqId) (nav : NavId) → IsLoadOf n req nav → IsLoadOf s req nav
  load_back req nav its = record { look = its.look; at = its.at; ongoing = its.ongoing; loads_it = its.loads_it }

  still_on : (nav : NavId) (doc : DocId) → WasAwake s nav doc → WasAwake n nav doc
  still_on nav doc was = record { place = was.place; placed = was.placed; wakes = was.wakes }

  pub open_stays : (e : InEvent) (rows_ : List RowKind) (checking : ReqId → Bool) (due : Seen → Bool) (run : Option ReqId) (cause : Why) → IsOpen e run cause s → IsOpen (cut e rows_ checking due) run cause (silent s event jobs states)
  open_stays e rows_ checking due run cause is =
      record {
        may = λ req why. serves req (is.may req why);
        since = record { distinct = is.since.distinct; homed = is.since.homed; ways = is.since.ways };
        unwoken = is.unwoken;
        still = λ nav place doc at wakes. by_case nav doc (is.still nav place doc at wakes);
        moves = λ nav place at need old. moved_on (show_why run cause) nav (is.moves nav place at (need_back place need) old);
        leavers = λ nav place at need old. leaves_on (show_why run cause) nav (is.leavers nav place at (need_back place need) old);
        were = were_stay is.were;
        parents = is.parents;
        held = λ req nav its. is.held req nav (load_back req nav its);
        takers = λ nav place req at by. serves req (is.takers nav place req at by);
      }
    where
      by_case : (nav : NavId) (doc : DocId) → WasAwake s nav doc ⊎ (holds (λ (d : Document). d.is_discarded) (document_of s doc) ≡ true) → WasAwake n nav doc ⊎ (holds (λ (d : Document). d.is_discarded) (document_of s doc) ≡ true)
      by_case nav doc (inl was) = inl (still_on nav doc was)
      by_case nav doc (inr gone) = inr gone

  pub stand_stays : (run : Option ReqId) → MayStand run s → MayStand run (silent s event jobs states)
  stand_stays None stand = λ req nav its. stand req nav (load_back req nav its)
  stand_stays (Some run) stand =
      λ req nav its. by_case nav (stand req nav (load_back req nav its))
    where
      by_case : (nav : NavId) → (is_reached s nav ≡ true) ⊎ (IsUnsettled s nav ⊎ IsBare s nav) → (is_reached n nav ≡ true) ⊎ (IsUnsettled n nav ⊎ IsBare n nav)
      by_case nav (inl reached) = inl reached
      by_case nav (inr (inl un)) = inr (inl (record { place = un.place; placed = un.placed; mover = un.mover; on_way = un.on_way; own = un.own; there = un.there; need = record { shown = un.need.shown; reached = un.need.reached; needs = un.need.needs } }))
      by_case nav (inr (inr bare)) = inr (inr bare)

  pub blamed_stay : (blame : List (StateId × ReqId)) → AreBlamed s blame → AreBlamed (silent s event jobs states) blame
  blamed_stay blame are doc state stray =
      record {
        req = it.req;
        noted = it.noted;
        may = serves it.req it.may;
        moves = λ nav place other under at wakes there how. moved_on (whys.Req it.req) other (it.moves nav place other under at wakes there how);
        leaves = λ nav place at wakes. left nav (it.leaves nav place at wakes);
      }
    where
      it : IsBlamed s blame doc state
      it =
          are doc state (record { document = stray.document; found = stray.found; its_state = stray.its_state; ready = stray.ready; undiscarded = stray.undiscarded; bare = stray.bare; unloaded = stray.unloaded })

      left : (nav : NavId) → MayLeaveNav s it.req nav → MayLeaveNav n it.req nav
      left nav may = record { q = may.q; found = may.found; how = by_case may.how }
        where
          by_case : NeverBegins may.q ⊎ IsOverNav s may.q nav → NeverBegins may.q ⊎ IsOverNav n may.q nav
          by_case (inl never) = inl never
          by_case (inr over) = inr (record { at = over.at; leaves = over.leaves; above = over.above })

  -- ---- how calm the tab is

  pub calm_stays : (run : Option ReqId) → IsCalmBefore run whys.Start s → IsCalmBefore run whys.Start (silent s event jobs states)
  calm_stays None (inl calm) = inl (calm_same s n refl (λ nav. refl) _ calm)
  calm_stays None (inr around) = absurd (let never : whys.Start ≡ whys.Req _ = around.1.1.for_ in cc)
  calm_stays (Some run) is =
      ((λ nav place doc there wakes has unmoved. here_same s n refl place place refl refl (is.0 nav place doc there wakes has unmoved)), rooted_kept s n refl (λ nav. refl) (λ doc. refl) is.1)

  pub late_stays : (run : Option ReqId) → LateKnown run s → LateKnown run (silent s event jobs states)
  late_stays None known =
      λ nav place doc late shown. off_still s n nav place place (record {
        changes = λ req q change found changed. (q, found, changed);
        last = refl;
        unstood = λ none. none;
      }) late.placed late.placed refl refl (known nav place doc (record { placed = late.placed; wakes = late.wakes; untold = late.untold; old = late.old }) shown)
  late_stays (Some run) known = tt

  pub live_stays : LoadsLive s → LoadsLive (silent s event jobs states)
  live_stays live =
      live_then s n (λ req l at on. at) (λ x doc was. record { place = was.place; placed = was.placed; wakes = was.wakes }) (λ state is one. record { doc = one.doc; d = one.d; found = one.found; of_state = one.of_state; there = one.there }) live

  pub made_stays : LoadsMadeOwn s → LoadsMadeOwn (silent s event jobs states)
  made_stays made req q made_ found load is =
      let its = made req q made_ found load is in
      (record { d = its.0.d; found = its.0.found; nav_is = its.0.nav_is }, its.1)

  -- ---- the queue

  joined : (run : Option ReqId) (steps : List QueueStep) → HaveJoined s run steps → HaveJoined n run steps
  joined None steps have = have
  joined (Some req) steps have = record { rest = have.rest; joined = have.joined; steps_ = have.steps_ }

  pub queue_stays : (run : Option ReqId) (waiting : List QueueStep) → HasQueue s run waiting → HasQueue (silent s event jobs states) run waiting
  queue_stays run waiting queued =
      record { traversals = joined run _ queued.traversals; ready = queued.ready; steps = queued.steps }
