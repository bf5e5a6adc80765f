-- A traversal was accepted: it has joined the queue, and the tab may be brought to rest.
use Rattle.tab_doors.proofs.Uncut.{uncut_pass}
use Rattle.seen_laws.proofs.Processes.{go_passes}
use Rattle.log_model.specs.declared.row_kind.LogRow.{LogRow}
use Rattle.seen_laws.specs.Blocks.{EachPass}
use Rattle.tab_stands.proofs.Logged.{with_lawful}
use Rattle.load_doors.proofs.Starts.{next_start}
use Rattle.tab_stands.specs.Standing.{HasLogged, StartsUnasked}
use Rattle.coord.proofs.Asides.{accepted_aside, seen_room, seen_stands}
use Rattle.coord.specs.Standing.{IsAsk, IsOpenTo, IsToSettle}
use Rattle.coord.specs.declared.ask.Ask.TheVariants as asks
use Rattle.coord.specs.declared.coordinator.Coordinator.{Coordinator}
use Rattle.coord.proofs.Dones.{keep_now, to_settle}
use Rattle.coord.proofs.Causes.{for_none}
use Rattle.coord.proofs.Slots.{own_slots}
use Rattle.move_queue.specs.Queue.{Queue}
use Rattle.move_queue.specs.declared.queue_step.QueueStep.TheVariants.{Traverse}
use Rattle.seen_laws.specs.InEvent.{AreLegal, InEvent, now_of, start_of}
use Rattle.std.proofs.Common.{None, [], ℤ, ◌++◌, ◌∷◌, ◌≡◌, subst, sym}
use Rattle.tab_ids.specs.declared.ReqId.{ReqId}
use Rattle.tab_stands.proofs.Accepting.{accepted_row, takes_none}
use Rattle.tab_stands.proofs.Goes.{go_begun}
use Rattle.log_model.specs.declared.job.Why.TheVariants as whys
use Rattle.log_model.specs.declared.request.Request.TheVariants as requests
use Rattle.log_model.specs.declared.row_kind.RowKind.TheVariants as rows
use Rattle.coord.proofs.Fragments.{accepted_found, accepted_log, accepted_logged, accepted_telling}

module _ (e : InEvent) (c : Coordinator) (open_ : IsOpenTo e c) (req : ReqId) (delta : ℤ) (asked : IsAsk e req (asks.Go delta)) where
  aside : StartsUnasked e
  aside = accepted_aside e c open_.in_ req None (requests.Go delta) asked.own

  legal : AreLegal e []
  unfolding AreLegal
  legal later rest =
      uncut_pass e [] later open_.in_.uncut (subst (λ (row : LogRow). EachPass (start_of e) (row ∷ []) later) (sym (accepted_row e req None (requests.Go delta) asked.by_user asked.own)) (go_passes e.header e.start e.event req delta later asked.next, tt))

  -- what is known of the log once it was accepted
  logged : HasLogged e c.tables.checks c.tables.asking
  logged =
      with_lawful e c.tables.checks (accepted_logged e c open_.in_ req None (requests.Go delta) asked.own asked.next) (accepted_log e c open_.in_ req None (requests.Go delta) asked.own asked.next) legal

  pub go_settles : (left : Queue) → left ≡ record c.queue { waiting = c.queue.waiting ++ Traverse req delta ∷ [] } → IsToSettle e [] (record c { queue = left }) whys.Start
  go_settles left pushed =
      to_settle e (record c { queue = left }) open_.in_.header open_.in_.unchecked open_.in_.unwanted aside.plain logged.lasts.known (go_begun e c.tables c.queue c.blame.entries (seen_stands e c open_.in_) logged (seen_room e c open_.in_) (keep_now e c open_.in_) req delta asked.by_user asked.own (next_start e req.0 asked.next) left pushed) whys.Start (for_none (now_of e []))
      (takes_none e req None (requests.Go delta) asked.by_user asked.own (next_start e req.0 asked.next) logged.logged.read)
      (accepted_found e c open_.in_ req None (requests.Go delta) asked.own)
      (accepted_telling e c open_.in_ req None (requests.Go delta) asked.own)
      (own_slots e c.slots.entries open_.in_.uncut (rows.Accepted req None (requests.Go delta)) asked.own tt open_.slots)
