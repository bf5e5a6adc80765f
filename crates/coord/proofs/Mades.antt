-- A document made something: a traversal that has joined the queue, or a change that is held back or was taken; and the tab may be brought to rest.
use Rattle.tab_doors.specs.Working.{StartsPlain}
use Rattle.tab_doors.proofs.Works.{none_steps}
use Rattle.tab_stands.proofs.Logged.{own_read}
use Rattle.coord.proofs.Asides.{delivered_aside, seen_delivery, seen_room, seen_stands, off}
use Rattle.coord.proofs.Causes.{for_none}
use Rattle.coord.proofs.Dones.{keep_now, to_settle}
use Rattle.coord.proofs.Loads.{ended_put}
use Rattle.coord.specs.Delivering.{InDelivery, IsMade}
use Rattle.coord.specs.Standing.{IsOpenIn, IsToSettle, MoveNobody}
use Rattle.coord.specs.declared.coordinator.Coordinator.{Coordinator}
use Rattle.seen_facts.proofs.Desk.Stays.{NoDeath}
use Rattle.seen_facts.specs.Desk.Own.{IsItsOwn}
use Rattle.seen_facts.specs.Hang.Members.{Has}
use Rattle.log_model.specs.AfterRequests.{changes_history, is_held_back}
use Rattle.log_model.specs.declared.made.Made.{Made}
use Rattle.log_model.specs.declared.made.Report.{Report}
use Rattle.log_model.specs.declared.made.What.{What}
use Rattle.log_model.specs.declared.row_kind.RowKind.{RowKind}
use Rattle.move_queue.specs.Queue.{Queue}
use Rattle.move_queue.specs.declared.queue_step.QueueStep.TheVariants.{Traverse}
use Rattle.seen_laws.specs.InEvent.{InEvent, log_of, now_of}
use Rattle.slot_facts.specs.Slots.{AreSlots}
use Rattle.std.proofs.Common.{List, Option, Some, [], false, subst, sym, true, ℕ, ℤ, ◌++◌, ◌∙◌, ◌∷◌, ◌≡◌}
use Rattle.sync_core.specs.declared.judging.Judged.{Judged}
use Rattle.sync_core.specs.declared.judging.Judged.TheVariants as verdicts
use Rattle.tab_doors.specs.declared.tables.Tables.{Tables}
use Rattle.tab_ids.specs.declared.Death.{Death}
use Rattle.tab_ids.specs.declared.DocId.{DocId}
use Rattle.tab_ids.specs.declared.ReqId.{ReqId}
use Rattle.tab_ids.specs.declared.StateId.{StateId}
use Rattle.tab_loads.specs.Loading.{pass_of}
use Rattle.tab_stands.proofs.Hands.{hand_begun, joined_begun, parked_begun}
use Rattle.tab_stands.proofs.Mades.{held_takes, of_own, went_takes}
use Rattle.tab_stands.proofs.Parks.{has_node, judged_free, parks_held}
use Rattle.tab_stands.proofs.PassedOn.{put_makes, put_sound, taken_moves, put_slots}
use Rattle.tab_stands.proofs.Reports.{told_fine}
use Rattle.tab_stands.proofs.Taken.{taken_ready, taken_up}
use Rattle.tab_stands.proofs.Taking.{changes_no_go, hand_to_take}
use Rattle.tab_stands.specs.PassedOn.{HasNode, HasPut, HasTaken, IsReady, IsToTake, MakesServe, OrdersAreSound, judged_in}
use Rattle.tab_stands.specs.Delivering.{IsDelivery, IsSeenDelivery}
use Rattle.tab_stands.specs.Standing.{HasBegun, HasLogged, HasRoomFor, IsOwnRead, StandsFor, none_in_check, seen_start}
use Rattle.log_model.specs.declared.job.Why.TheVariants as whys
use Rattle.log_model.specs.declared.made.Report.TheVariants as reports
use Rattle.log_model.specs.declared.made.What.TheVariants as whats
use Rattle.coord.proofs.Fragments.{delivered_found, delivered_logged, delivered_telling, put_found, put_telling}
use Rattle.tab_facts.specs.Running.Running.{AreFoundRunning}
use Rattle.tab_facts.specs.Running.Telling.{AreTelling}

module _ (d : InDelivery) (c : Coordinator) (made : Made) (its : IsMade d c made) where
  abbrev e : InEvent
  e = d.event

  abbrev stands : StandsFor none_in_check (seen_start e) c.tables c.queue c.blame.entries
  stands = seen_stands e c its.open_

  aside : IsOwnRead e
  aside = own_read e (delivered_aside e c its.open_ d.proc d.report its.delivery)

  plain : StartsPlain e
  plain = (delivered_aside e c its.open_ d.proc d.report its.delivery).plain

  heard : IsSeenDelivery e d.proc d.report
  heard = seen_delivery e c its.open_ d.proc d.report its.delivery

  logged : HasLogged e c.tables.checks c.tables.asking
  logged = delivered_logged e d.proc d.report its.delivery c its.open_

  room : HasRoomFor (seen_start e)
  room = seen_room e c its.open_

  -- what is so of fragment orders, and of reports of them
  found_now : AreFoundRunning (now_of e [])
  found_now = delivered_found e d.proc d.report its.delivery c its.open_

  telling_now : AreTelling (now_of e [])
  telling_now = delivered_telling e d.proc d.report its.delivery c its.open_

  -- ---- a traversal

  pub joined_settles : (delta : ℤ) → made.what ≡ whats.Go delta → (left : Queue) → left ≡ record c.queue { waiting = c.queue.waiting ++ Traverse made.req delta ∷ [] } → IsToSettle d.event [] (record c { queue = left }) whys.Start
  joined_settles delta goes left pushed =
      to_settle e (record c { queue = left }) its.open_.header its.open_.unchecked its.open_.unwanted plain logged.lasts.known (joined_begun e d.proc d.report made heard its.tells c.tables c.queue c.blame.entries stands aside delta goes logged room (keep_now e c its.open_) left pushed) whys.Start (for_none (now_of e []))
      (went_takes e d.proc d.report made heard its.tells c.tables c.queue c.blame.entries stands aside delta goes) found_now telling_now its.slots

  -- ---- a change

  pub node_there : HasNode c.tables made
  node_there =
      has_node e d.proc d.report made heard its.tells c.tables c.queue c.blame.entries stands aside

  module _ (changes : changes_history made.what ≡ true) where
    -- it waits for the traversal that runs
    module _ (waits : judged_in c.tables made ≡ Some verdicts.Park) where
      held : is_held_back (seen_start e) made ≡ true
      held =
          parks_held e d.proc d.report made heard its.tells c.tables c.queue c.blame.entries stands aside changes waits

      pub parked_settles : (left : Queue) → left ≡ record c.queue { parked = c.queue.parked ++ made ∷ [] } → IsToSettle d.event [] (record c { queue = left }) whys.Start
      parked_settles left parked =
          to_settle e (record c { queue = left }) its.open_.header its.open_.unchecked its.open_.unwanted plain logged.lasts.known (parked_begun e d.proc d.report made heard its.tells c.tables c.queue c.blame.entries stands aside (changes_no_go made.what changes) held logged room (keep_now e c its.open_) left parked) whys.Start (for_none (now_of e []))
          (held_takes e d.proc d.report made heard its.tells c.tables c.queue c.blame.entries stands aside held) found_now telling_now its.slots

    -- it doesn't
    module _ (verdict : Judged) (judged : judged_in c.tables made ≡ Some verdict) (apart : verdict ≡ verdicts.Park → ⊥) where
      free : is_held_back (seen_start e) made ≡ false
      free =
          judged_free e d.proc d.report made heard its.tells c.tables c.queue c.blame.entries stands aside verdict judged apart

      pub to_take : IsToTake (record { event = d.event; loads = []; hand = made ∷ [] }) [] c.tables c.blame.entries made
      to_take =
          hand_to_take e d.proc d.report made heard its.tells c.tables c.queue c.blame.entries stands aside changes free logged room (keep_now e c its.open_)

      begun : HasBegun (record { event = d.event; loads = []; hand = made ∷ [] }) c.tables c.queue c.blame.entries
      begun =
          hand_begun e d.proc d.report made heard its.tells c.tables c.queue c.blame.entries stands aside (changes_no_go made.what changes) free logged room (keep_now e c its.open_)

      module _ (out : List RowKind) (u : Tables) (noted : List (StateId × ReqId)) (taken : HasTaken (record { event = d.event; loads = []; hand = made ∷ [] }) c.tables made [] out u noted) where
        put : HasPut d.event [] out
        put = ended_put e out made taken.ended

        taken_makes : MakesServe (now_of d.event out)
        taken_makes =
            put_makes e u.running [] out taken.passing.work.goes taken.passing.going.tab.asked put begun.makes

        taken_sound : OrdersAreSound (now_of d.event out)
        taken_sound = put_sound e [] out taken.passing.work.goes put begun.sound

        taken_found : AreFoundRunning (now_of d.event out)
        taken_found =
            put_found e [] out taken.passing.work.goes put taken.passing.going.tab.whose.numbered begun.passing.going.tab.desks found_now

        taken_telling : AreTelling (now_of d.event out)
        taken_telling = put_telling e [] out taken.passing.work.goes put telling_now

        taken_unmoved : MoveNobody (now_of d.event out) out
        taken_unmoved = taken_moves e out taken.passing.work.goes (made ∷ []) made to_take.taking taken.ended

        pub taken_settles : (after : Coordinator) → after.header ≡ c.header → after.tables ≡ u → after.queue ≡ c.queue → after.blame.entries ≡ noted → after.slots.entries ≡ c.slots.entries → IsToSettle d.event out after (whys.Req made.req)
        taken_settles after header tables queue blame slots =
            record {
              header = header ∙ its.open_.header;
              unchecked = its.open_.unchecked;
              unwanted = its.open_.unwanted;
              starts = plain;
              ready =
                  subst (λ (l : List (StateId × ReqId)). IsReady (pass_of d.event []) out after.tables after.queue l (whys.Req made.req)) (sym blame)
                  (subst (λ (q : Queue). IsReady (pass_of d.event []) out after.tables q noted (whys.Req made.req)) (sym queue)
                  (subst (λ (t : Tables). IsReady (pass_of d.event []) out t c.queue noted (whys.Req made.req)) (sym tables)
                  (taken_ready e d.proc d.report made heard its.tells c.tables c.queue c.blame.entries stands aside changes free logged room (keep_now e c its.open_) out u noted taken (λ held. none_steps e.checking (off e c its.open_) (log_of e [])))));
              makes = taken_makes;
              sound = taken_sound;
              coord = λ row has. put.each row (subst (λ (l : List RowKind). Has l row) put.is has);
              unmoved = taken_unmoved;
              shows = begun.shows;
              known = logged.lasts.known;
              taken = taken_up e d.proc d.report made heard its.tells c.tables c.queue c.blame.entries stands aside changes free logged room (keep_now e c its.open_) out u noted taken;
              found = taken_found;
              telling = taken_telling;
              slots = subst (λ (l : List (DocId × ℕ)). AreSlots (log_of e out) l) (sym slots) (put_slots e c.slots.entries [] out put its.slots);
            }

-- no document reports an edit
pub no_edit : (d : InDelivery) (c : Coordinator) (made : Made) → IsMade d c made → made.what ≡ whats.Edit → ⊥
no_edit d c made its is = subst (λ (w : What). IsItsOwn made.doc w) is (of_own d.event d.proc d.report made (heard d c made its) its.tells c.tables c.queue c.blame.entries (stands d c made its) (aside d c made its)).own.own

-- no report tells of a death
pub no_death : (d : InDelivery) (c : Coordinator) (death : Death) → IsDelivery d.event d.proc (reports.Died death) → IsOpenIn d.event c → ⊥
no_death d c death delivery open_ =
    subst (λ (o : Option Report). NoDeath o) seen.first (told_fine d.event d.proc delivery.by_coord delivery.own c.tables c.queue c.blame.entries (seen_stands d.event c open_) (own_read d.event (delivered_aside d.event c open_ d.proc (reports.Died death) delivery)) (reports.Died death) seen.first)
  where
    seen : IsSeenDelivery d.event d.proc (reports.Died death)
    seen = seen_delivery d.event c open_ d.proc (reports.Died death) delivery
