-- A poke is accepted by the document that it reaches, or refused at once: the coordinator has acted, which does nothing itself.
use Rattle.tab_stands.proofs.PassedOn.{rows_slots}
use Rattle.tab_doors.proofs.Uncut.{uncut_pass}
use Rattle.log_model.specs.Seen.{Seen}
use Rattle.coord.proofs.Fragments.{accepted_log}
use Rattle.tab_stands.proofs.Logged.{once_of, own_read, refused_lasts}
use Rattle.tab_stands.specs.Offs.{AreShownOnce}
use Rattle.load_doors.proofs.Starts.{next_start}
use Rattle.tab_stands.specs.Standing.{LastsInLog}
use Rattle.unasked.proofs.Nows.{refused_goes}
use Rattle.coord.proofs.Asides.{IsPlain, accepted_aside, accepted_plain, one_goes, plain_more, seen_room, seen_stands, start_plain, off}
use Rattle.coord.specs.Standing.{HasActed, IsOpenTo}
use Rattle.coord.specs.declared.coordinator.Coordinator.{Coordinator}
use Rattle.coord.proofs.Idle.{alone_acts, found_now, idle_acts, telling_now}
use Rattle.coord.proofs.Slots.{own_slots}
use Rattle.seen_facts.specs.Hang.Members.{Has}
use Rattle.log_model.specs.Causes.{denial_of_poke}
use Rattle.log_model.specs.declared.outcome.Denial.{Denial}
use Rattle.log_model.specs.declared.action.Action.{Action}
use Rattle.log_model.specs.declared.row_kind.RowKind.{RowKind}
use Rattle.tab_facts.specs.Order.Orders.{IsOfCoord}
use Rattle.tab_facts.proofs.Running.Over.{running_over}
use Rattle.tab_facts.proofs.Running.Tells.{telling_over}
use Rattle.seen_laws.specs.InEvent.{EachGoes, InEvent, log_of, now_of}
use Rattle.std.proofs.Common.{None, Some, [], inl, inr, length, subst, ◌+◌, ◌∷◌, ◌≡◌, sym, refl, false}
use Rattle.tab_ids.specs.declared.DocId.{DocId}
use Rattle.tab_ids.specs.declared.NavId.{NavId}
use Rattle.tab_ids.specs.declared.ReqId.{ReqId}
use Rattle.tab_stands.proofs.Pokes as pokes
use Rattle.tab_stands.proofs.Refusals as refusals
use Rattle.tab_stands.proofs.Denied as denied
use Rattle.tab_stands.specs.Standing as tab
use Rattle.log_model.specs.Equal.{has_req}
use Rattle.tab_stands.specs.Poking.{ReachesOne}
use Rattle.log_model.specs.declared.request.Request.TheVariants as requests
use Rattle.log_model.specs.declared.row_kind.Actor.TheVariants as actors
use Rattle.log_model.specs.declared.row_kind.RowKind.TheVariants as rows

module _ (e : InEvent) (c : Coordinator) (open_ : IsOpenTo e c) (req : ReqId) (nav : NavId) (action : Action) (by_user : e.actor ≡ actors.Ui) (nr : req.0 ≡ length e.start.requests + 1) where
  pub poke_acts : (reached : DocId) → ReachesOne e.start nav reached → e.own ≡ rows.Accepted req (Some reached) (requests.Poke nav action) → HasActed e [] c
  poke_acts reached its own =
      alone_acts e c open_ (rows.Accepted req (Some reached) (requests.Poke nav action)) own at tt tt
      (own_slots e c.slots.entries open_.in_.uncut (rows.Accepted req (Some reached) (requests.Poke nav action)) own tt open_.slots)
      (record {
        stands = subst (λ (x : Seen). tab.StandsFor tab.none_in_check x c.tables c.queue c.blame.entries) (sym at.same) (pokes.poke_stands e c.tables c.queue c.blame.entries (seen_stands e c open_.in_) (own_read e (accepted_aside e c open_.in_ req (Some reached) (requests.Poke nav action) own)) (seen_room e c open_.in_) req nav action reached by_user own (next_start e req.0 nr) (subst (λ (x : Seen). ReachesOne x nav reached) (sym (start_plain e c open_.in_)) its) once);
        lasts = lasts;
        passes = uncut_pass e [] [] open_.in_.uncut (pokes.poke_pass e req nav action reached by_user own nr its);
      })
    where
      at : IsPlain e []
      at = accepted_plain e c open_.in_ req (Some reached) (requests.Poke nav action) own

      lasts : LastsInLog e.checking c.tables.asking (log_of e [])
      lasts = accepted_log e c open_.in_ req (Some reached) (requests.Poke nav action) own nr

      once : AreShownOnce (now_of e []).places
      once = subst (λ (x : Seen). AreShownOnce x.places) at.same (once_of lasts.shows)

  -- it reaches no document
  pub poke_refused_acts : (reason : Denial) → denial_of_poke e.start nav ≡ Some reason → e.event ≡ e.start.events → e.own ≡ rows.Accepted req None (requests.Poke nav action) → HasActed e (rows.Refused req reason ∷ []) c
  poke_refused_acts reason denied_ event own =
      idle_acts e c open_ (rows.Refused req reason ∷ []) (tt, tt)
      (record {
        stands = subst (λ (x : Seen). tab.StandsFor tab.none_in_check x c.tables c.queue c.blame.entries) (sym at.same) (refusals.poke_refused_stands e req by_user reason nav action own c.tables c.queue c.blame.entries (seen_stands e c open_.in_) (own_read e (accepted_aside e c open_.in_ req None (requests.Poke nav action) own)) (seen_room e c open_.in_) (next_start e req.0 nr) once (subst (λ (x : Seen). denial_of_poke x nav ≡ Some reason) (sym (start_plain e c open_.in_)) denied_));
        lasts = lasts;
        passes = uncut_pass e (rows.Refused req reason ∷ []) [] open_.in_.uncut (refusals.poke_refused_pass e req by_user reason nav action own nr event denied_ unparked);
      })
      at
      (running_over e (rows.Refused req reason ∷ []) [] (tt, tt) goes (found_now e c open_ (rows.Accepted req None (requests.Poke nav action)) own accepted tt))
      (telling_over e (rows.Refused req reason ∷ []) [] goes of_coord (telling_now e c open_ (rows.Accepted req None (requests.Poke nav action)) own accepted tt))
      (rows_slots e c.slots.entries (rows.Refused req reason ∷ []) [] of_coord (own_slots e c.slots.entries open_.in_.uncut (rows.Accepted req None (requests.Poke nav action)) own tt open_.slots))
    where
      accepted : IsPlain e []
      accepted = accepted_plain e c open_.in_ req None (requests.Poke nav action) own

      at : IsPlain e (rows.Refused req reason ∷ [])
      at = plain_more e c open_.in_ [] (rows.Refused req reason) (refused_goes e [] req reason).read accepted

      lasts : LastsInLog e.checking c.tables.asking (log_of e (rows.Refused req reason ∷ []))
      lasts = refused_lasts e req reason (off e c open_.in_ req) (accepted_log e c open_.in_ req None (requests.Poke nav action) own nr)

      once : AreShownOnce (now_of e (rows.Refused req reason ∷ [])).places
      once = subst (λ (x : Seen). AreShownOnce x.places) at.same (once_of lasts.shows)

      unparked : has_req e.start.parked req ≡ false
      unparked =
          subst (λ (x : Seen). has_req x.parked req ≡ false) (start_plain e c open_.in_)
          (denied.unparked e c.tables c.queue c.blame.entries (seen_stands e c open_.in_) (own_read e (accepted_aside e c open_.in_ req None (requests.Poke nav action) own)) (seen_room e c open_.in_) req (requests.Poke nav action) by_user own (next_start e req.0 nr) reason refl)

      goes : EachGoes e [] (rows.Refused req reason ∷ [])
      goes = one_goes e (rows.Refused req reason) (refused_goes e [] req reason)

      of_coord : (row : RowKind) → Has (rows.Refused req reason ∷ []) row → IsOfCoord row
      of_coord row (inl is) = subst (λ (r : RowKind). IsOfCoord r) is tt
      of_coord row (inr never) = absurd never
